-- The run over the operations of an entry that looks at their marks.
use Rattle.std.specs.Prelude.{Some, None}
use mathlib.Core.Path.{◌≡◌, refl, sym, ◌∙◌}
use mathlib.Core.Bool.{true, false, ◌&&◌}
use mathlib.Core.List.{List, [], ◌∷◌}
use Prim.Native.Nat.{ℕ, zero, suc, ◌+◌, ◌-◌, ◌≤◌, ◌<◌}
use native.Mathlib.Omega.{arith}
use lib.ListN.{length, get_or, drop, drop_of_length-le}
use lib.Seq.{drop-cons}
use Rattle.format.specs.Rows.{read_operation}
use Rattle.format.specs.declared.Row.{Row}
use Rattle.format.specs.declared.Operation.{Operation}
use Rattle.format.specs.declared.Operation.TheVariants.{Nop, Step, Does}
use Rattle.format.specs.Shortest.{operation_short, behind, while_read, run_short_f, run_short}
use Rattle.format.proofs.Choice.{if-le, if-gt}
use Rattle.operations.specs.declared.fields.Position.{Position}
use Rattle.operations.specs.Positions.{operation_at, from}
use Rattle.operations.proofs.PositionLaws.{past_mark}
use Rattle.operations.proofs.OperationLaws.{operation_ahead, operation_rest, operation_past, operation_none}

-- what is left of it, with fuel that is enough
pub record Left (s : List ℕ) (word p : ℕ) (at : Position) (loc : ℕ) : Type 0 where
  pub near : loc ≤ p
  pub marked : at.shortest ≡ true
  fuel : ℕ
  enough : length s ≤ fuel + at.at
  rest : run_short word p s ≡ run_short_f word p fuel loc (drop at.at s)

pub start : (s : List ℕ) (word p : ℕ) → Left s word p (from 0) 0
unfolding run_short
start s word p = record { near = omega arith; marked = refl; fuel = length s; enough = omega arith; rest = refl }

module _ {s : List ℕ} {word p : ℕ} {at : Position} {loc : ℕ} (i : Left s word p at loc) where
  ended_by : (f : ℕ) → run_short_f word p f loc [] ≡ true
  unfolding run_short_f
  ended_by zero = refl
  ended_by (suc f) = refl

  pub ended : length s ≤ at.at → true ≡ run_short word p s
  ended h = sym (i.rest ∙ rw (drop_of_length-le s h) (ended_by i.fuel))

  module _ (h : at.at < length s) where
    opens : (f : ℕ) → 0 < f → run_short_f word p f loc (drop at.at s)
        ≡ while_read (read_operation word (drop at.at s)) λ op r. operation_short (drop at.at s) && behind p op loc λ loc'. run_short_f word p (f - 1) loc' r
    unfolding run_short_f
    opens zero l = absurd (omega arith)
    opens (suc f) l =
        let e : drop at.at s ≡ get_or s at.at 0 ∷ drop (suc at.at) s = drop-cons s at.at 0 h in
        let g : suc f - 1 ≡ f = omega arith in
        rw (g, e)

    opened : run_short word p s
        ≡ while_read (read_operation word (drop at.at s)) λ op r. operation_short (drop at.at s) && behind p op loc λ loc'. run_short_f word p (i.fuel - 1) loc' r
    opened = i.rest ∙ opens i.fuel (omega (arith, i.enough))

    pub unread : operation_at word s at ≡ None → false ≡ run_short word p s
    unfolding while_read
    unread e = sym (opened ∙ rw (operation_none word s at e))

    module _ {op : Operation} {next : Position} (e : operation_at word s at ≡ Some (op, next)) where
      -- the mark of the operation is that of the position past it
      mark : operation_short (drop at.at s) ≡ next.shortest
      mark = sym (past_mark (operation_past word s at e) ∙ rw i.marked)

      pub long_operand : next.shortest ≡ false → false ≡ run_short word p s
      unfolding while_read
      long_operand f = sym (opened ∙ rw (operation_rest word s at e, mark, f))

      module _ (f : next.shortest ≡ true) where
        behind_it : run_short word p s ≡ behind p op loc λ loc'. run_short_f word p (i.fuel - 1) loc' (drop next.at s)
        unfolding while_read
        behind_it = opened ∙ rw (operation_rest word s at e, mark, f)

        enough_behind : length s ≤ i.fuel - 1 + next.at
        enough_behind = omega (arith, i.enough, operation_ahead word s at e)

        pub far_step : {n : ℕ} → op ≡ Step n → p - loc < n → true ≡ run_short word p s
        unfolding behind
        far_step {n} o l =
            let g : p < loc + n = omega (arith, i.near) in
            sym (behind_it ∙ rw o (if-gt (loc + n) p (run_short_f word p (i.fuel - 1) (loc + n) (drop next.at s)) true g))

        pub near_step : {n : ℕ} → op ≡ Step n → n ≤ p - loc → Left s word p next (loc + n)
        unfolding behind
        near_step {n} o l =
            let g : loc + n ≤ p = omega (arith, i.near) in
            record {
              near = g;
              marked = f;
              fuel = i.fuel - 1;
              enough = enough_behind;
              rest = behind_it ∙ rw o (if-le (loc + n) p (run_short_f word p (i.fuel - 1) (loc + n) (drop next.at s)) true g);
            }

        pub pad_passed : op ≡ Nop → Left s word p next loc
        unfolding behind
        pad_passed o = record { near = i.near; marked = f; fuel = i.fuel - 1; enough = enough_behind; rest = behind_it ∙ rw o }

        pub row_passed : {r : Row} → op ≡ Does r → Left s word p next loc
        unfolding behind
        row_passed o = record { near = i.near; marked = f; fuel = i.fuel - 1; enough = enough_behind; rest = behind_it ∙ rw o }

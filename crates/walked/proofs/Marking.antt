-- The registers that operations name, marked one operation after the other.
use mathlib.Core.Path.{◌≡◌, refl, sym, ap, ◌∙◌}
use Prim.Native.Nat.{ℕ, ◌-◌, ◌<◌, ◌≤◌}
use native.Mathlib.Omega.{arith}
use mathlib.Core.Bool.{Bool, true, false}
use mathlib.Core.Option.{none}
use mathlib.Core.List.{List}
use lib.Dec.{eqb}
use lib.ListN.{length, get_or, set, drop, drop_of_length-le}
use lib.Seq.{get_or-set_same, get_or-set_other}
use borrow.Author.Tests.{eqb-true, eqb-false}
use Rattle.std.specs.Prelude.{Some, None}
use Rattle.format.specs.declared.Operation.{Operation}
use Rattle.operations.specs.declared.fields.Position.{Position}
use Rattle.format.specs.Rows.{read_operation}
use Rattle.operations.specs.Positions.{operation_at, from}
use Rattle.operations.proofs.OperationLaws.{operation_ahead, operation_rest, operation_none}
use Rattle.reader.specs.Finds.{found}
use Rattle.reader.specs.declared.location.Located.{Located}
use Rattle.walked.specs.Named.{operation_names, Unnamed, ends, more, Marked, MarkedAll, MarksIn}

set_by : (m : List Bool) (reg q : ℕ) (b : Bool) → eqb q reg ≡ b → reg < length m → get_or (set m reg true) q false ≡ false → (get_or m q false ≡ false) × (b ≡ false)
set_by m reg q true e h d =
    let s : q ≡ reg = eqb-true q reg e in
    let t : get_or (set m reg true) q false ≡ true = ap (λ (i : ℕ). get_or (set m reg true) i false) s ∙ get_or-set_same m reg true false h in
    let z : ◌≡◌ {A = ℕ} 0 1 = cc in
    absurd (omega arith)
set_by m reg q false e h d = (sym (get_or-set_other m reg q true false (eqb-false q reg e)) ∙ d, refl)

pub mark_set : (m : List Bool) (reg : ℕ) → reg < length m → Marked m (set m reg true) (λ q. eqb q reg)
mark_set m reg h = λ q b e. set_by m reg q (eqb q reg) refl h e

-- ---- the loop: where a register is not marked and what is left does not name it, nothing does

pub record Marking (word : ℕ) (ops : List ℕ) (m₀ m : List Bool) (at : Position) : Type 0 where
  pub rest : (q : ℕ) → q < 128 → get_or m q false ≡ false → (get_or m₀ q false ≡ false) × (Unnamed word q (drop at.at ops) → Unnamed word q ops)

pub mark_start : (word : ℕ) (ops : List ℕ) (m : List Bool) → Marking word ops m m (from 0)
mark_start word ops m = record { rest = λ q b e. (e, λ u. u) }

module _ {word : ℕ} {ops : List ℕ} {m₀ m : List Bool} {at : Position} (k : Marking word ops m₀ m at) where
  finished : read_operation word (drop at.at ops) ≡ none → MarkedAll m₀ m word ops
  finished d = λ q b e. let r = k.rest q b e in (r.0, r.1 (ends d))

  pub mark_bad : operation_at word ops at ≡ None → MarkedAll m₀ m word ops
  mark_bad e = finished (operation_none word ops at e)

  pub mark_ended : length ops ≤ at.at → MarkedAll m₀ m word ops
  unfolding read_operation
  mark_ended h = finished (rw (drop_of_length-le ops h))

  module _ {op : Operation} {next : Position} (e : operation_at word ops at ≡ Some (op, next)) where
    pub mark_shorter : at.at < length ops → length ops - next.at < length ops - at.at
    mark_shorter h = omega (arith, operation_ahead word ops at e)

    pub mark_turn : {m' : List Bool} → Marked m m' (λ q. operation_names q op) → Marking word ops m₀ m' next
    mark_turn h =
        record {
          rest = λ q b d.
              let x = h q b d in
              let r = k.rest q b x.0 in
              (r.0, λ u. r.1 (more op (drop next.at ops) (operation_rest word ops at e) x.1 u));
        }

pub both_marked : (s : List ℕ) (l : Located) (m₀ m r : List Bool) → MarkedAll m₀ m l.word (found s l).header.operations → MarkedAll m r l.word (found s l).found.operations → MarksIn s l r
both_marked s l m₀ m r a b = λ q h e. let x = b q h e in let y = a q h x.0 in (y.1, x.1)

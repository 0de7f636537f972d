-- The run of the operations of one entry: at each operation, what is left of the entry decides.
use Rattle.std.specs.Prelude.{Some, None}
use Rattle.std.specs.Option.{is_some}
use mathlib.Core.Path.{◌≡◌, refl, sym, ap, ◌∙◌}
use Prim.Native.Nat.{ℕ, zero, suc, ◌+◌, ◌-◌, ◌≤◌, ◌<◌}
use native.Mathlib.Omega.{arith}
use native.Mathlib.Nat.{le_refl}
use mathlib.Core.Bool.{Bool, true, false, not, not-not}
use mathlib.Core.Option.{none, some}
use mathlib.Core.List.{List, [], ◌∷◌}
use lib.ListN.{length, drop, length-drop, drop_of_length-le}
use Rattle.format.specs.Prelude.{pick, Read, Result, good, bad, onward}
use Rattle.format.specs.declared.Row.{Row}
use Rattle.format.specs.declared.Rule.{Rule}
use Rattle.format.specs.declared.Operation.{Operation}
use Rattle.format.specs.declared.Operation.TheVariants.{Nop, Step, Does}
use Rattle.operations.specs.declared.fields.Position.{Position}
use Rattle.format.specs.Coded.{Reading}
use Rattle.std.specs.Prelude.{Err}
use Rattle.format.specs.Rows.{read_operation}
use Rattle.operations.specs.Positions.{operation_at}
use Rattle.format.specs.Rules.{State, act, answer}
use Rattle.format.specs.Reader.{perform, when_read, run_f}
use Rattle.format.proofs.Choice.{if-le, if-gt}
use Rattle.format.proofs.Onward.{onward_ext}
use Rattle.operations.proofs.PositionLaws.{Takes, nothing, taken}
use Rattle.operations.proofs.OperationLaws.{takes_operation, operation_ahead, operation_rest, operation_none}
use Rattle.reader.specs.declared.state.State as code
use Rattle.std.specs.Prelude as std
use Rattle.reader.specs.OneRegister as one
use Rattle.reader.specs.States.{run_of}
use Rattle.reader.proofs.Seen.{SeenAs, answered, seen_row}
use Rattle.reader.proofs.Seen as seen
use Rattle.reader.proofs.Acting.{Done, padded, acted, Refused, header_step, row_refused, done, refused, handed}

-- the header's operations are those that have no initial rule
pub none_where : (header : Bool) (r : Rule) {o : std.Option Rule} → one.initial_of header r ≡ o → {b : Bool} → is_some o ≡ not b → header ≡ b
unfolding one.initial_of
none_where header r {o} e {b} f = by header e ∙ ap not f ∙ not-not b
  where
    by : (h : Bool) → one.initial_of h r ≡ o → h ≡ not (is_some o)
    by true e = rw (← e)
    by false e = rw (← e)

module _ (header : Bool) (word p : ℕ) (initial : ℕ → Rule) where
  -- the run of what is left, with its length as fuel
  abbrev pub running : ℕ → State → List ℕ → Result State
  running loc t bs = run_f header word p initial (length bs) loc t bs

  -- ---- fuel: any that is no less than the length is as good

  perform_ext : (op : Operation) (loc : ℕ) (t : State) (k l : ℕ → State → Result State) → ((m : ℕ) (u : State) → k m u ≡ l m u)
      → perform header p initial op loc t k ≡ perform header p initial op loc t l
  unfolding perform
  perform_ext Nop loc t k l h = h loc t
  perform_ext (Step n) loc t k l h = rw (h (loc + n) t)
  perform_ext (Does row) loc t k l h = onward_ext (act header initial row t) (k loc) (l loc) (h loc)

  read_ext : {bs : List ℕ} {r : Read Operation} → Takes 1 21 bs r → (k l : Operation → List ℕ → Result State)
      → ((op : Operation) (n : ℕ) → 1 ≤ n → k op (drop n bs) ≡ l op (drop n bs)) → when_read r k ≡ when_read r l
  unfolding when_read
  read_ext nothing k l h = refl
  read_ext (taken n v low high m) k l h = h v n low

  fuel : (f g loc : ℕ) (t : State) (bs : List ℕ) → length bs ≤ f → length bs ≤ g
      → run_f header word p initial f loc t bs ≡ run_f header word p initial g loc t bs
  unfolding run_f
  fuel zero zero loc t bs a b = refl
  fuel zero (suc g) loc t [] a b = refl
  fuel zero (suc g) loc t (x ∷ bs) a b = absurd (omega arith)
  fuel (suc f) zero loc t [] a b = refl
  fuel (suc f) zero loc t (x ∷ bs) a b = absurd (omega arith)
  fuel (suc f) (suc g) loc t [] a b = refl
  fuel (suc f) (suc g) loc t (x ∷ bs) a b =
      read_ext (takes_operation word (x ∷ bs)) _ _ λ op n low.
      perform_ext op loc t _ _ λ m u. fuel f g m u (drop n (x ∷ bs)) (omega (arith, length-drop n (x ∷ bs))) (omega (arith, length-drop n (x ∷ bs)))

  -- ---- one operation

  reading : (bs r : List ℕ) (op : Operation) (loc : ℕ) (t : State) → read_operation word bs ≡ some (op, r) → length r < length bs
      → running loc t bs ≡ perform header p initial op loc t λ m u. running m u r
  unfolding run_f when_read
  reading [] r op loc t e l = absurd (omega arith)
  reading (b ∷ bs) r op loc t e l = rw e (perform_ext op loc t _ _ λ m u. fuel (length bs) (length r) m u r (omega arith) (le_refl _))

  unread : (bs : List ℕ) (loc : ℕ) (t : State) → read_operation word bs ≡ none → 0 < length bs → running loc t bs ≡ bad 66
  unfolding run_f when_read
  unread [] loc t e l = absurd (omega arith)
  unread (b ∷ bs) loc t e l = rw e

-- ---- the loop: `whole` is what the run of what is left, and then `k`, answers; `all` are the rules of all registers, of which the code keeps register q's

pub record Inside (whole : Reading) (header : Bool) (word p q : ℕ) (initial : std.Option Rule) (ops : List ℕ) (k : State → Result State) (at : Position) (loc : ℕ) (state : code.State) : Type 0 where
  pub near : loc ≤ p
  pub first : ℕ → Rule
  pub first_is : one.initial_of header (first q) ≡ initial
  pub all : State
  pub seen : one.at q all ≡ run_of state
  pub rest : whole ≡ answer q (onward (running header word p first loc all (drop at.at ops)) k)

module _ {whole : Reading} {header : Bool} {word p q : ℕ} {initial : std.Option Rule} {ops : List ℕ} {k : State → Result State} {at : Position} {loc : ℕ} {state : code.State}
    (i : Inside whole header word p q initial ops k at loc state) where
  -- a header's operations have no initial rule, a record's have one
  which : {b : Bool} → is_some initial ≡ not b → header ≡ b
  which e = none_where header (i.first q) i.first_is e

  -- 66: an operation that cannot be read
  pub bad_operation : at.at < length ops → operation_at word ops at ≡ None → Err 66 ≡ whole
  unfolding onward answer
  bad_operation h e =
      sym (i.rest ∙ rw (unread header word p i.first (drop at.at ops) loc i.all (operation_none word ops at e) (omega (arith, length-drop at.at ops))))

  -- past the last operation
  pub all_done : length ops ≤ at.at → whole ≡ answer q (k i.all)
  unfolding run_f onward
  all_done h = i.rest ∙ rw (drop_of_length-le ops h)

  module _ {op : Operation} {next : Position} (e : operation_at word ops at ≡ Some (op, next)) where
    opened : whole ≡ answer q (onward (perform header p i.first op loc i.all λ m u. running header word p i.first m u (drop next.at ops)) k)
    opened =
        i.rest
        ∙ rw
        (reading header word p i.first (drop at.at ops) (drop next.at ops) op loc i.all (operation_rest word ops at e)
        (omega (arith, length-drop at.at ops, length-drop next.at ops, operation_ahead word ops at e)))

    padding : op ≡ Nop → Inside whole header word p q initial ops k next loc state
    unfolding perform
    padding o =
        record { near = i.near; first = i.first; first_is = i.first_is; all = i.all; seen = i.seen; rest = rw o at opened }

    -- 66: a step in a header
    module _ {n : ℕ} (o : op ≡ Step n) where
      bad_step : header ≡ true → Err 66 ≡ whole
      unfolding perform pick onward answer
      bad_step h = sym (rw (o, h) at opened)

      -- a step that would pass p, and one that does not
      far_step : header ≡ false → p - loc < n → whole ≡ answer q (k i.all)
      unfolding perform pick onward
      far_step h l =
          let g : p < loc + n = omega (arith, i.near) in
          opened ∙ rw (o, h, if-gt (loc + n) p (running false word p i.first (loc + n) i.all (drop next.at ops)) (good i.all) g)

      near_step : header ≡ false → n ≤ p - loc → Inside whole header word p q initial ops k next (loc + n) state
      unfolding perform pick
      near_step h l =
          let g : loc + n ≤ p = omega (arith, i.near) in
          record {
            near = g;
            first = i.first;
            first_is = i.first_is;
            all = i.all;
            seen = i.seen;
            rest = opened ∙ rw (o, h, if-le (loc + n) p (running false word p i.first (loc + n) i.all (drop next.at ops)) (good i.all) g);
          }

    module _ {row : Row} (o : op ≡ Does row) where
      -- what the row does to the rules of all registers
      row_seen : SeenAs q (act header i.first row i.all) (one.act q initial row (run_of state))
      row_seen = rw (← i.first_is, ← i.seen) (seen_row header q i.first i.all row)

      bad_row : {n : ℕ} → one.act q initial row (run_of state) ≡ bad n → Err n ≡ whole
      unfolding perform onward answer
      bad_row {n} a = by row_seen
        where
          by : SeenAs q (act header i.first row i.all) (one.act q initial row (run_of state)) → Err n ≡ whole
          by (answered s x y) = let w = sym a ∙ y in let z : ◌≡◌ {A = ℕ} 0 1 = cc in absurd (omega arith)
          by (seen.refused m x y) = let w = sym a ∙ y in let z : m ≡ n = cc in sym (opened ∙ rw (o, x, z))

      good_row : {after : code.State} → one.act q initial row (run_of state) ≡ good (run_of after)
          → Inside whole header word p q initial ops k next loc after
      unfolding perform onward
      good_row {after} a = by row_seen
        where
          by : SeenAs q (act header i.first row i.all) (one.act q initial row (run_of state)) → Inside whole header word p q initial ops k next loc after
          by (answered s x y) =
              let w = sym a ∙ y in
              record { near = i.near; first = i.first; first_is = i.first_is; all = s; seen = cc; rest = opened ∙ rw (o, x) }
          by (seen.refused n x y) = let w = sym a ∙ y in let z : ◌≡◌ {A = ℕ} 0 1 = cc in absurd (omega arith)

  -- ---- by what `perform` says of an operation

  moved : {next : Position} {loc' : ℕ} {after : code.State} → run_of after ≡ run_of state → Inside whole header word p q initial ops k next loc' state
      → Inside whole header word p q initial ops k next loc' after
  moved r n =
      record { near = n.near; first = n.first; first_is = n.first_is; all = n.all; seen = n.seen ∙ sym r; rest = n.rest }

  module _ {op : Operation} {next : Position} (e : operation_at word ops at ≡ Some (op, next)) where
    pub goes_on : {after : code.State} → one.perform q initial op (run_of state) ≡ good (None, run_of after)
        → Inside whole header word p q initial ops k next loc after
    goes_on {after} h = by (done q initial (run_of state) op h)
      where
        by : Done q initial (run_of state) op (run_of after) → Inside whole header word p q initial ops k next loc after
        by (padded o r) = moved r (padding e o)
        by (acted row o a) = good_row e o a

    pub refuses : {n : ℕ} → one.perform q initial op (run_of state) ≡ bad n → Err n ≡ whole
    refuses {n} h = by (refused q initial (run_of state) op h)
      where
        by : Refused q initial (run_of state) op n → Err n ≡ whole
        by (header_step d o r z) = rw z (bad_step e o (which (ap is_some r)))
        by (row_refused row o a) = bad_row e o a

    module _ {n : ℕ} (after : code.State) (h : one.perform q initial op (run_of state) ≡ good (Some n, run_of after)) where
      step : (op ≡ Step n) × (is_some initial ≡ true) × (run_of after ≡ run_of state)
      step = handed q initial (run_of state) op h

      pub in_record : header ≡ false
      in_record = which step.1

      pub still_seen : one.at q i.all ≡ run_of after
      still_seen = i.seen ∙ sym step.2

      pub stops : p - loc < n → whole ≡ answer q (k i.all)
      stops l = far_step e step.0 in_record l

      pub steps_on : n ≤ p - loc → Inside whole header word p q initial ops k next (loc + n) after
      steps_on l = moved step.2 (near_step e step.0 in_record l)

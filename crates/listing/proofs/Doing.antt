-- The run that lists, operation by operation: what is left of the entry gives the lines that are left.
use Rattle.std.specs.Prelude.{Some, None}
use Rattle.std.specs.Prelude as std
use mathlib.Core.Path.{◌≡◌, refl, sym, ap, ◌∙◌}
use Prim.Native.Nat.{ℕ, zero, suc, ◌+◌, ◌-◌, ◌*◌, ◌≤◌, ◌<◌}
use native.Mathlib.Omega.{arith}
use native.Mathlib.Nat.{le_refl}
use mathlib.Core.Bool.{Bool, true, false, not}
use mathlib.Core.Option.{none, some}
use mathlib.Core.List.{List, [], ◌∷◌}
use lib.ListN.{length, drop, length-drop, drop_of_length-le}
use Rattle.format.specs.Prelude.{pick, Read, Result, good, bad}
use Rattle.format.specs.declared.Row.{Row}
use Rattle.format.specs.declared.Rule.{Rule}
use Rattle.format.specs.declared.Operation.{Operation}
use Rattle.format.specs.declared.Operation.TheVariants.{Nop, Step, Does}
use Rattle.operations.specs.declared.fields.Position.{Position}
use Rattle.format.specs.Rows.{read_operation}
use Rattle.format.specs.Rules.{State, act, rules_for}
use Rattle.operations.specs.Positions.{operation_at}
use Rattle.format.proofs.Choice.{if-le, if-gt, if-eq, if-ne}
use Rattle.operations.proofs.PositionLaws.{Takes, nothing, taken}
use Rattle.operations.proofs.OperationLaws.{takes_operation, operation_ahead, operation_rest, operation_none}
use Rattle.format.proofs.Wrote.{Wrote}
use Rattle.reader.specs.OneRegister as one
use Rattle.reader.specs.States.{run_of}
use Rattle.reader.specs.declared.state.State as code
use Rattle.std.specs.Option.{is_some}
use Rattle.reader.proofs.Operations.{none_where}
use Rattle.reader.proofs.Seen.{SeenAs, answered, seen_row}
use Rattle.reader.proofs.Seen as seen
use Rattle.reader.proofs.Acting.{Done, padded, acted, Refused, header_step, row_refused, done, refused, handed}
use Rattle.listing.specs.Lines.{Lines, line, last, ended, highest, when_read, when_acted, stepping, doing, lines_f, line_numbers}
use Rattle.listing.proofs.StoredLines.{LinesStored, stored_line, line_length}

acted_ext : (at : ℕ) (r : Result State) (k l : State → Lines) → ((u : State) → k u ≡ l u) → when_acted at r k ≡ when_acted at r l
unfolding when_acted
acted_ext at (good u) k l h = h u
acted_ext at (bad n) k l h = refl

module _ (header : Bool) (word : ℕ) (initial : ℕ → Rule) (k : ℕ → State → Lines) where
  -- the lines of what is left, with its length as fuel
  abbrev pub listing : ℕ → State → List ℕ → Lines
  listing at t bs = lines_f header word initial k (length bs) at t bs

  doing_ext : (op : Operation) (at : ℕ) (t : State) (f g : ℕ → State → Lines) → ((m : ℕ) (u : State) → f m u ≡ g m u)
      → doing header initial op at t f ≡ doing header initial op at t g
  unfolding doing stepping
  doing_ext Nop at t f g h = h at t
  doing_ext (Step n) at t f g h = rw (h at t, h (at + n) t)
  doing_ext (Does row) at t f g h = acted_ext at (act header initial row t) (f at) (g at) (h at)

  read_ext : (at : ℕ) {bs : List ℕ} {r : Read Operation} → Takes 1 21 bs r → (f g : Operation → List ℕ → Lines)
      → ((op : Operation) (n : ℕ) → 1 ≤ n → f op (drop n bs) ≡ g op (drop n bs)) → when_read at r f ≡ when_read at r g
  unfolding when_read
  read_ext at nothing f g h = refl
  read_ext at (taken n v low high m) f g h = h v n low

  -- any fuel that is no less than the length is as good
  fuel : (f g at : ℕ) (t : State) (bs : List ℕ) → length bs ≤ f → length bs ≤ g
      → lines_f header word initial k f at t bs ≡ lines_f header word initial k g at t bs
  unfolding lines_f
  fuel zero zero at t bs a b = refl
  fuel zero (suc g) at t [] a b = refl
  fuel zero (suc g) at t (x ∷ bs) a b = absurd (omega arith)
  fuel (suc f) zero at t [] a b = refl
  fuel (suc f) zero at t (x ∷ bs) a b = absurd (omega arith)
  fuel (suc f) (suc g) at t [] a b = refl
  fuel (suc f) (suc g) at t (x ∷ bs) a b =
      read_ext at (takes_operation word (x ∷ bs)) _ _ λ op n low.
      doing_ext op at t _ _ λ m u. fuel f g m u (drop n (x ∷ bs)) (omega (arith, length-drop n (x ∷ bs))) (omega (arith, length-drop n (x ∷ bs)))

  reading : (bs r : List ℕ) (op : Operation) (at : ℕ) (t : State) → read_operation word bs ≡ some (op, r) → length r < length bs
      → listing at t bs ≡ doing header initial op at t λ m u. listing m u r
  unfolding lines_f when_read
  reading [] r op at t e l = absurd (omega arith)
  reading (b ∷ bs) r op at t e l = rw e (doing_ext op at t _ _ λ m u. fuel (length bs) (length r) m u r (omega arith) (le_refl _))

  unread : (bs : List ℕ) (at : ℕ) (t : State) → read_operation word bs ≡ none → 0 < length bs → listing at t bs ≡ ended at 66
  unfolding lines_f when_read
  unread [] at t e l = absurd (omega arith)
  unread (b ∷ bs) at t e l = rw e

-- ---- the loop: `more` is the number of bytes of the record's operations, `all` are the rules of all registers, of which the code keeps register q's

less_room : (header : Bool) (more a b : ℕ) → a ≤ b → pick header more a ≤ pick header more b
unfolding pick
less_room true more a b h = le_refl _
less_room false more a b h = h

pub record Inside (whole : Lines) (header : Bool) (word q : ℕ) (initial : std.Option Rule) (ops : List ℕ) (k : ℕ → State → Lines) (more : ℕ) (old out : List ℕ) (state : code.State) (i loc : ℕ) (at : Position) : Type 0 where
  pub near : loc ≤ highest
  pub first : ℕ → Rule
  pub first_is : one.initial_of header (first q) ≡ initial
  pub all : State
  pub seen : one.at q all ≡ run_of state
  pub lines : LinesStored q whole (listing header word first k loc all (drop at.at ops)) old out i
  pub room : i + 7 * (pick header more (length ops - at.at) + 1) ≤ length out

module _ {whole : Lines} {header : Bool} {word q : ℕ} {initial : std.Option Rule} {ops : List ℕ} {k : ℕ → State → Lines} {more : ℕ} {old out : List ℕ} {state : code.State} {i loc : ℕ} {at : Position}
    (n : Inside whole header word q initial ops k more old out state i loc at) where
  -- the rules that hold are those that the code keeps
  rules_kept : rules_for q n.all.current ≡ state.rules
  unfolding one.at run_of
  rules_kept = ap (λ (r : one.Run). r.current) n.seen

  -- a header's operations have no initial rule, a record's have one
  which : {b : Bool} → is_some initial ≡ not b → header ≡ b
  which e = none_where header (n.first q) n.first_is e

  -- 66: an operation that cannot be read
  pub bad_operation : at.at < length ops → operation_at word ops at ≡ None → LinesStored q whole (ended loc 66) old out i
  bad_operation h e =
      rw (unread header word n.first k (drop at.at ops) loc n.all (operation_none word ops at e) (omega (arith, length-drop at.at ops))) at n.lines

  -- past the last operation
  pub all_done : length ops ≤ at.at → LinesStored q whole (k loc n.all) old out i
  unfolding lines_f
  all_done h = rw (drop_of_length-le ops h) at n.lines

  module _ {op : Operation} {next : Position} (e : operation_at word ops at ≡ Some (op, next)) where
    opened : LinesStored q whole (doing header n.first op loc n.all λ m u. listing header word n.first k m u (drop next.at ops)) old out i
    opened =
        rw
        (reading header word n.first k (drop at.at ops) (drop next.at ops) op loc n.all (operation_rest word ops at e)
        (omega (arith, length-drop at.at ops, length-drop next.at ops, operation_ahead word ops at e)))
        at
        n.lines

    -- less is left
    shorter : length ops - next.at < length ops - at.at
    shorter = omega (arith, operation_ahead word ops at e)

    room_left : i + 7 * (pick header more (length ops - next.at) + 1) ≤ length out
    room_left = omega (arith, n.room, less_room header more (length ops - next.at) (length ops - at.at) (omega (arith, shorter)))

    padding : op ≡ Nop → Inside whole header word q initial ops k more old out state i loc next
    unfolding doing
    padding o =
        record { near = n.near; first = n.first; first_is = n.first_is; all = n.all; seen = n.seen; lines = rw o at opened; room = room_left }

    module _ {d : ℕ} (o : op ≡ Step d) where
      -- 66: a step in a header
      bad_step : header ≡ true → LinesStored q whole (ended loc 66) old out i
      unfolding doing stepping pick
      bad_step h = rw (o, h) at opened

      module _ (h : header ≡ false) where
        stepped : LinesStored q whole (stepping false d loc n.all λ m u. listing header word n.first k m u (drop next.at ops)) old out i
        unfolding doing
        stepped = rw (ap (λ (b : Bool). stepping b d loc n.all λ m u. listing header word n.first k m u (drop next.at ops)) (sym h)) (rw o at opened)

        no_step : d ≡ 0 → Inside whole header word q initial ops k more old out state i loc next
        unfolding stepping pick
        no_step z =
            record {
              near = n.near;
              first = n.first;
              first_is = n.first_is;
              all = n.all;
              seen = n.seen;
              lines = rw (if-eq d 0 (listing header word n.first k loc n.all (drop next.at ops)) _ z) at stepped;
              room = room_left;
            }

        module _ (z : d ≡ 0 → ⊥) where
          -- a step past every offset
          far_step : highest - loc < d → LinesStored q whole (last loc n.all) old out i
          unfolding stepping pick
          far_step l =
              let g : highest < loc + d = omega (arith, n.near) in
              rw (if-ne d 0 (listing header word n.first k loc n.all (drop next.at ops)) _ z, if-gt (loc + d) highest _ (last loc n.all) g) at stepped

          near_line : d ≤ highest - loc → LinesStored q whole (line loc n.all (listing header word n.first k (loc + d) n.all (drop next.at ops))) old out i
          unfolding stepping pick
          near_line l =
              let g : loc + d ≤ highest = omega (arith, n.near) in
              rw (if-ne d 0 (listing header word n.first k loc n.all (drop next.at ops)) _ z, if-le (loc + d) highest _ (last loc n.all) g) at stepped

          room_behind : {out' : List ℕ} {j : ℕ} → Wrote out out' i j (line_numbers loc state.rules) → length out' ≡ length out
              → j + 7 * (pick header more (length ops - next.at) + 1) ≤ length out'
          unfolding pick
          room_behind w g =
              let a : i + 7 * (length ops - at.at + 1) ≤ length out = rw h at n.room in rw h (omega (arith, a, g, w.past, line_length loc state.rules, shorter))

          near_step : d ≤ highest - loc → {out' : List ℕ} {j : ℕ} → Wrote out out' i j (line_numbers loc state.rules) → length out' ≡ length out
              → Inside whole header word q initial ops k more old out' state j (loc + d) next
          near_step l w g =
              record {
                near = omega (arith, n.near);
                first = n.first;
                first_is = n.first_is;
                all = n.all;
                seen = n.seen;
                lines = stored_line (near_line l) (rw rules_kept w);
                room = room_behind w g;
              }

    module _ {row : Row} (o : op ≡ Does row) where
      row_seen : SeenAs q (act header n.first row n.all) (one.act q initial row (run_of state))
      row_seen = rw (← n.first_is, ← n.seen) (seen_row header q n.first n.all row)

      bad_row : {m : ℕ} → one.act q initial row (run_of state) ≡ bad m → LinesStored q whole (ended loc m) old out i
      unfolding doing when_acted
      bad_row {m} a = by row_seen
        where
          by : SeenAs q (act header n.first row n.all) (one.act q initial row (run_of state)) → LinesStored q whole (ended loc m) old out i
          by (answered s x y) = let w = sym a ∙ y in let z : ◌≡◌ {A = ℕ} 0 1 = cc in absurd (omega arith)
          by (seen.refused l x y) = let w = sym a ∙ y in let z : l ≡ m = cc in rw (← z) (rw (o, x) at opened)

      good_row : {after : code.State} → one.act q initial row (run_of state) ≡ good (run_of after)
          → Inside whole header word q initial ops k more old out after i loc next
      unfolding doing when_acted
      good_row {after} a = by row_seen
        where
          by : SeenAs q (act header n.first row n.all) (one.act q initial row (run_of state))
              → Inside whole header word q initial ops k more old out after i loc next
          by (answered s x y) =
              let w = sym a ∙ y in
              record {
                near = n.near;
                first = n.first;
                first_is = n.first_is;
                all = s;
                seen = cc;
                lines = rw (o, x) at opened;
                room = room_left;
              }
          by (seen.refused l x y) = let w = sym a ∙ y in let z : ◌≡◌ {A = ℕ} 0 1 = cc in absurd (omega arith)

  -- ---- by what `perform` says of an operation

  pub moved : {next : Position} {out' : List ℕ} {j loc' : ℕ} {after : code.State} → run_of after ≡ run_of state
      → Inside whole header word q initial ops k more old out' state j loc' next → Inside whole header word q initial ops k more old out' after j loc' next
  moved r m =
      record { near = m.near; first = m.first; first_is = m.first_is; all = m.all; seen = m.seen ∙ sym r; lines = m.lines; room = m.room }

  module _ {op : Operation} {next : Position} (e : operation_at word ops at ≡ Some (op, next)) where
    pub goes_on : {after : code.State} → one.perform q initial op (run_of state) ≡ good (None, run_of after)
        → Inside whole header word q initial ops k more old out after i loc next
    goes_on {after} h = by (done q initial (run_of state) op h)
      where
        by : Done q initial (run_of state) op (run_of after) → Inside whole header word q initial ops k more old out after i loc next
        by (padded o r) = moved r (padding e o)
        by (acted row o a) = good_row e o a

    pub refused_by : {m : ℕ} → one.perform q initial op (run_of state) ≡ bad m → LinesStored q whole (ended loc m) old out i
    refused_by {m} h = by (refused q initial (run_of state) op h)
      where
        by : Refused q initial (run_of state) op m → LinesStored q whole (ended loc m) old out i
        by (header_step d o r z) = rw z (bad_step e o (which (ap is_some r)))
        by (row_refused row o a) = bad_row e o a

    module _ {d : ℕ} (after : code.State) (h : one.perform q initial op (run_of state) ≡ good (Some d, run_of after)) where
      step : (op ≡ Step d) × (is_some initial ≡ true) × (run_of after ≡ run_of state)
      step = handed q initial (run_of state) op h

      pub in_record : header ≡ false
      in_record = which step.1

      -- the state is what it was
      pub stays : Inside whole header word q initial ops k more old out after i loc at
      stays = moved step.2 n

      pub stands : d ≡ 0 → Inside whole header word q initial ops k more old out after i loc next
      stands z = moved step.2 (no_step e step.0 in_record z)

      module _ (z : d ≡ 0 → ⊥) where
        pub stops : highest - loc < d → LinesStored q whole (last loc stays.all) old out i
        unfolding stays moved
        stops l = far_step e step.0 in_record z l

        rules_same : after.rules ≡ state.rules
        unfolding run_of
        rules_same = ap (λ (r : one.Run). r.current) step.2

        pub steps_on : d ≤ highest - loc → {out' : List ℕ} {j : ℕ} → Wrote out out' i j (line_numbers loc after.rules) → length out' ≡ length out
            → Inside whole header word q initial ops k more old out' after j (loc + d) next
        steps_on l w g = moved step.2 (near_step e step.0 in_record z l (rw (← rules_same) w) g)

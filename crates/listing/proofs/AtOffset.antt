-- The lines are what the reader answers: at every offset below the function's length, the rules of the last line at or before it, or the question
-- that ended the lines at or before it.
use mathlib.Core.Path.{◌≡◌, refl, sym, ap, ◌∙◌}
use Prim.Native.Nat.{ℕ, zero, suc, ◌+◌, ◌-◌, ◌*◌, ◌≤◌, ◌<◌}
use native.Mathlib.Omega.{arith}
use native.Mathlib.Nat.{add-zero}
use mathlib.Core.Bool.{Bool, true, false}
use mathlib.Core.Option.{none, some}
use mathlib.Core.List.{List, [], ◌∷◌}
use lib.ListN.{length}
use lib.Dec.{leb, eqb, leb→le}
use Rattle.format.specs.Prelude.{pick, Read, Result, good, bad, onward}
use Rattle.format.specs.declared.Rule.{Rule}
use Rattle.format.specs.declared.Operation.{Operation}
use Rattle.format.specs.declared.Operation.TheVariants.{Nop, Step, Does}
use Rattle.format.specs.Rows.{read_operation}
use Rattle.format.specs.Rules.{State, blank, act, answer}
use Rattle.format.specs.Reader as reader
use Rattle.format.specs.Reader.{perform, run_f, run, run_to}
use Rattle.format.proofs.Choice.{if-le, if-gt, if-eq, if-ne, either}
use Rattle.format.proofs.Onward.{onward_ext}
use Rattle.reader.specs.Spans.{part}
use Rattle.reader.specs.Finds.{in_section, rules_from}
use Rattle.reads.specs.declared.Located.{Located}
use Rattle.reads.specs.Places.{reader_places, rules_of}
use Rattle.listing.proofs.Asking.{lines_at}
use Rattle.listing.specs.Lines.{Lines, line, last, ended, highest, when_read, when_acted, stepping, doing, lines_f, record_lines, lines_of, along}

-- where lines start
unfoldable pub start : Lines → ℕ
start (line at s rest) = at
start (last at s) = at
start (ended at n) = at

-- what holds at p
unfoldable pub holding : (p : ℕ) → Lines → Result State
holding p (line at s rest) = pick (leb (start rest) p) (holding p rest) (good s)
holding p (last at s) = good s
holding p (ended at n) = bad n

actions : (r : Result State) (at : ℕ) (k : State → Lines) (l : State → Result State) (p : ℕ) → ((t : State) → holding p (k t) ≡ l t)
    → holding p (when_acted at r k) ≡ onward r l
unfolding when_acted onward holding
actions (good t) at k l p h = h t
actions (bad n) at k l p h = refl

-- ---- a record

module _ (word : ℕ) (initial : ℕ → Rule) where
  abbrev lines : ℕ → ℕ → State → List ℕ → Lines
  lines f at s bs = lines_f false word initial last f at s bs

  step_starts : (b c : Bool) (at : ℕ) (s : State) (x y : Lines) → start x ≡ at → start (pick b x (pick c (line at s y) (last at s))) ≡ at
  unfolding pick start
  step_starts true c at s x y e = e
  step_starts false true at s x y e = refl
  step_starts false false at s x y e = refl

  act_starts : (at : ℕ) (r : Result State) (k : State → Lines) → ((t : State) → start (k t) ≡ at) → start (when_acted at r k) ≡ at
  unfolding when_acted start
  act_starts at (good t) k h = h t
  act_starts at (bad n) k h = refl

  read_starts : (at : ℕ) (r : Read Operation) (k : Operation → List ℕ → Lines) → ((op : Operation) (bs : List ℕ) → start (k op bs) ≡ at) → start (when_read at r k) ≡ at
  unfolding when_read start
  read_starts at none k h = refl
  read_starts at (some x) k h = h x.0 x.1

  op_starts : (f at : ℕ) (s : State) → ((m : ℕ) (t : State) (r : List ℕ) → start (lines f m t r) ≡ m) → (op : Operation) (r : List ℕ)
      → start (doing false initial op at s λ m t. lines f m t r) ≡ at
  unfolding doing stepping pick
  op_starts f at s h Nop r = h at s r
  op_starts f at s h (Step n) r = step_starts (eqb n 0) (leb (at + n) highest) at s (lines f at s r) (lines f (at + n) s r) (h at s r)
  op_starts f at s h (Does row) r = act_starts at (act false initial row s) (λ t. lines f at t r) (λ t. h at t r)

  starts : (f at : ℕ) (s : State) (bs : List ℕ) → start (lines f at s bs) ≡ at
  unfolding lines_f start
  starts zero at s bs = refl
  starts (suc f) at s [] = refl
  starts (suc f) at s (b ∷ bs) =
      read_starts at (read_operation word (b ∷ bs)) (λ op r. doing false initial op at s λ m t. lines f m t r) (op_starts f at s (λ m t r. starts f m t r))

  module _ (p : ℕ) (low : p ≤ highest) where
    -- a step: past p the rules stay, and what follows starts behind it
    step_holds : (n at : ℕ) (s : State) (more : ℕ → State → Lines) (go : ℕ → State → Result State) → at ≤ p
        → ((m : ℕ) (t : State) → start (more m t) ≡ m) → ((m : ℕ) (t : State) → m ≤ p → holding p (more m t) ≡ go m t)
        → holding p (stepping false n at s more) ≡ pick (leb (at + n) p) (go (at + n) s) (good s)
    unfolding stepping holding pick
    step_holds n at s more go h begins holds =
        either n 0
        (λ z.
        let e : n ≡ 0 = omega arith in
        ap (holding p) (none_passed e) ∙ holds at s h ∙ sym (if-le (at + n) p (go (at + n) s) (good s) (omega arith) ∙ rw (e, add-zero)))
        (λ z.
        either (at + n) highest
        (λ c.
        ap (holding p) (one_line (λ e. omega arith) c) ∙ either (at + n) p
        (λ d. rw (begins (at + n) s, if-le (at + n) p (holding p (more (at + n) s)) (good s) d, if-le (at + n) p (go (at + n) s) (good s) d) (holds (at + n) s d))
        (λ d. rw (begins (at + n) s, if-gt (at + n) p (holding p (more (at + n) s)) (good s) d, if-gt (at + n) p (go (at + n) s) (good s) d) refl))
        (λ c. ap (holding p) (last_line (λ e. omega arith) c) ∙ sym (if-gt (at + n) p (go (at + n) s) (good s) (omega arith))))
      where
        none_passed : n ≡ 0 → stepping false n at s more ≡ more at s
        none_passed e = if-eq n 0 (more at s) _ e

        one_line : (n ≡ 0 → ⊥) → at + n ≤ highest → stepping false n at s more ≡ line at s (more (at + n) s)
        one_line e c = if-ne n 0 (more at s) _ e ∙ if-le (at + n) highest (line at s (more (at + n) s)) (last at s) c

        last_line : (n ≡ 0 → ⊥) → highest < at + n → stepping false n at s more ≡ last at s
        last_line e c = if-ne n 0 (more at s) _ e ∙ if-gt (at + n) highest (line at s (more (at + n) s)) (last at s) c

    op_holds : (f at : ℕ) (s : State) → at ≤ p
        → ((m : ℕ) (t : State) (r : List ℕ) → m ≤ p → holding p (lines f m t r) ≡ run_f false word p initial f m t r) → (op : Operation) (r : List ℕ)
        → holding p (doing false initial op at s λ m t. lines f m t r) ≡ perform false p initial op at s λ m t. run_f false word p initial f m t r
    unfolding doing perform pick
    op_holds f at s h ih Nop r = ih at s r h
    op_holds f at s h ih (Step n) r =
        step_holds n at s (λ m t. lines f m t r) (λ m t. run_f false word p initial f m t r) h (λ m t. starts f m t r) (λ m t g. ih m t r g)
    op_holds f at s h ih (Does row) r =
        actions (act false initial row s) at (λ t. lines f at t r) (λ t. run_f false word p initial f at t r) p (λ t. ih at t r h)

    read_holds : (at : ℕ) (r : Read Operation) (k : Operation → List ℕ → Lines) (l : Operation → List ℕ → Result State)
        → ((op : Operation) (bs : List ℕ) → holding p (k op bs) ≡ l op bs) → holding p (when_read at r k) ≡ reader.when_read r l
    unfolding when_read reader.when_read holding
    read_holds at none k l h = refl
    read_holds at (some x) k l h = h x.0 x.1

    holds : (f at : ℕ) (s : State) (bs : List ℕ) → at ≤ p → holding p (lines f at s bs) ≡ run_f false word p initial f at s bs
    unfolding lines_f holding run_f
    holds zero at s bs h = refl
    holds (suc f) at s [] h = refl
    holds (suc f) at s (b ∷ bs) h =
        read_holds at (read_operation word (b ∷ bs)) (λ op r. doing false initial op at s λ m t. lines f m t r)
        (λ op r. perform false p initial op at s λ m t. run_f false word p initial f m t r)
        (op_holds f at s h (λ m t r g. holds f m t r g))

-- ---- a header

module _ (word p : ℕ) (initial : ℕ → Rule) (k : ℕ → State → Lines) (at : ℕ) where
  abbrev then : Result State → Result State
  then x = onward x λ t. holding p (k at t)

  act_headed : (r : Result State) (f : State → Lines) (g : State → Result State) → ((t : State) → holding p (f t) ≡ then (g t))
      → holding p (when_acted at r f) ≡ then (onward r g)
  unfolding when_acted onward holding
  act_headed (good t) f g h = h t
  act_headed (bad n) f g h = refl

  read_headed : (r : Read Operation) (f : Operation → List ℕ → Lines) (g : Operation → List ℕ → Result State)
      → ((op : Operation) (bs : List ℕ) → holding p (f op bs) ≡ then (g op bs)) → holding p (when_read at r f) ≡ then (reader.when_read r g)
  unfolding when_read reader.when_read onward holding
  read_headed none f g h = refl
  read_headed (some x) f g h = h x.0 x.1

  op_headed : (f : ℕ) (s : State)
      → ((t : State) (r : List ℕ) → holding p (lines_f true word initial k f at t r) ≡ then (run_f true word p initial f at t r)) → (op : Operation) (r : List ℕ)
      → holding p (doing true initial op at s λ m t. lines_f true word initial k f m t r) ≡ then (perform true p initial op at s λ m t. run_f true word p initial f m t r)
  unfolding doing stepping perform pick onward holding
  op_headed f s h Nop r = h s r
  op_headed f s h (Step n) r = refl
  op_headed f s h (Does row) r =
      act_headed (act true initial row s) (λ t. lines_f true word initial k f at t r) (λ t. run_f true word p initial f at t r) (λ t. h t r)

  headed : (f : ℕ) (s : State) (bs : List ℕ) → holding p (lines_f true word initial k f at s bs) ≡ then (run_f true word p initial f at s bs)
  unfolding lines_f run_f onward
  headed zero s bs = refl
  headed (suc f) s [] = refl
  headed (suc f) s (b ∷ bs) =
      read_headed (read_operation word (b ∷ bs)) (λ op r. doing true initial op at s λ m t. lines_f true word initial k f m t r)
      (λ op r. perform true p initial op at s λ m t. run_f true word p initial f m t r)
      (op_headed f s (λ t r. headed f t r))

module _ (word : ℕ) (initial : ℕ → Rule) (k : ℕ → State → Lines) (begins : (at : ℕ) (s : State) → start (k at s) ≡ at) where
  first_op_starts : (f at : ℕ) (s : State) → ((t : State) (r : List ℕ) → start (lines_f true word initial k f at t r) ≡ at) → (op : Operation) (r : List ℕ)
      → start (doing true initial op at s λ m t. lines_f true word initial k f m t r) ≡ at
  unfolding doing stepping pick start
  first_op_starts f at s h Nop r = h s r
  first_op_starts f at s h (Step n) r = refl
  first_op_starts f at s h (Does row) r = act_starts word initial at (act true initial row s) (λ t. lines_f true word initial k f at t r) (λ t. h t r)

  header_starts : (f at : ℕ) (s : State) (bs : List ℕ) → start (lines_f true word initial k f at s bs) ≡ at
  unfolding lines_f
  header_starts zero at s bs = begins at s
  header_starts (suc f) at s [] = begins at s
  header_starts (suc f) at s (b ∷ bs) =
      read_starts word initial at (read_operation word (b ∷ bs)) (λ op r. doing true initial op at s λ m t. lines_f true word initial k f m t r)
      (first_op_starts f at s (λ t r. header_starts f at t r))

-- ---- the whole

-- the first line starts at 0
pub lines_start : (word : ℕ) (h r : List ℕ) → start (lines_of word h r) ≡ 0
unfolding lines_of record_lines
lines_start word h r =
    header_starts word blank.current.rules (record_lines word r) (λ at s. starts word s.current.rules (length r) at s r) (length h) 0 blank h

-- at every offset the lines hold what the reader's run gives there
pub run_holds : (word p : ℕ) (h r : List ℕ) → p ≤ highest
    → holding p (lines_of word h r) ≡ onward (run true word p blank.current.rules blank h) λ t. run false word p t.current.rules t r
unfolding lines_of record_lines run
run_holds word p h r low =
    headed word p blank.current.rules (record_lines word r) 0 (length h) blank h
    ∙ onward_ext (run_f true word p blank.current.rules (length h) 0 blank h) _ _ λ t. holds word t.current.rules p low (length r) 0 t r (omega arith)

right : {A : Type 0} (b : Bool) (x : Result A) (n : ℕ) (a : A) → pick b x (bad n) ≡ good a → (b ≡ true) × (x ≡ good a)
unfolding pick
right true x n a e = (refl, e)
right false x n a e = let z : ◌≡◌ {A = ℕ} 0 1 = cc in absurd (omega arith)

-- the lines of an accepted listing, and that the room is enough
pub along_is : (s : List ℕ) (l : Located) (room : ℕ) (ls : Lines) → along s l room ≡ good ls → (lines_at s l ≡ ls) × (7 * (l.record_end - l.record + 1) ≤ room)
unfolding along
along_is s l room ls e =
    let a = right (eqb l.number 0) _ l.number ls e in
    let b = right (in_section s (reader_places l)) _ 64 ls a.1 in
    let c = right (leb (7 * (l.record_end - l.record + 1)) room) (good (lines_at s l)) 54 ls b.1 in
    let d : lines_at s l ≡ ls = cc in
    (d, leb→le (7 * (l.record_end - l.record + 1)) room (rw c.0 tt))

-- what is listed is what unwind_rules_at answers, at every offset below the function's length
pub along_reads : (s : List ℕ) (l : Located) (room : ℕ) (ls : Lines) (q p : ℕ) → along s l room ≡ good ls → p < l.length → p ≤ highest
    → rules_of s l q p ≡ answer q (holding p ls)
unfolding along rules_of rules_from run_to reader_places pick
along_reads s l room ls q p e h low =
    let a = right (eqb l.number 0) _ l.number ls e in
    let b = right (in_section s (reader_places l)) _ 64 ls a.1 in
    let c = right (leb (7 * (l.record_end - l.record + 1)) room) (good (lines_at s l)) 54 ls b.1 in
    let d : lines_at s l ≡ ls = cc in
    rw (a.0, b.0, ← d, run_holds l.word p (part s l.header l.header_end) (part s l.record l.record_end) low)
    (ap (answer q) (if-le (suc p) l.length _ (bad 65) h))

-- The run of two entries, the header and then the record: between them, what is left to run decides.
use mathlib.Core.Path.{◌≡◌, refl, sym, ap, ◌∙◌}
use Prim.Native.Nat.{ℕ, zero, suc, ◌+◌, ◌≤◌, ◌<◌}
use native.Mathlib.Omega.{arith}
use mathlib.Core.Bool.{true, false}
use mathlib.Core.List.{List}
use lib.ListN.{length, get_or}
use lib.Dec.{T, eqb}
use Rattle.format.specs.Prelude.{pick, Result, good, bad, onward}
use Rattle.format.specs.Coded.{Reading}
use Rattle.std.specs.Prelude.{Ok, Some, None}
use Rattle.format.specs.Rules.{State, blank, rules_for, seen, answer}
use Rattle.format.specs.Reader.{run}
use Rattle.format.specs.declared.Rule.{Rule}
use Rattle.std.specs.Prelude as std
use Rattle.reader.specs.declared.state.State as code
use Rattle.reader.specs.OneRegister as one
use Rattle.reader.specs.Spans.{part}
use Rattle.reader.specs.Finds.{spans_of, found, run_both, in_section}
use Rattle.reader.specs.declared.location.Located.{Located}
use Rattle.reader.specs.declared.section.Span.{Span}
use Rattle.reader.specs.States.{run_of}
use Rattle.reader.proofs.Operations.{Inside}
use Rattle.reader.proofs.Asked.{places}

-- the run of what is left when i entries are done, of the header h and the record r
unfoldable pub remaining : (word p : ℕ) (h r : List ℕ) → ℕ → State → Result State
remaining word p h r zero t = onward (run true word p t.current.rules t h) λ u. run false word p u.current.rules u r
remaining word p h r (suc zero) t = run false word p t.current.rules t r
remaining word p h r (suc (suc n)) t = good t

onward_good : {A : Type 0} (a : Result A) → onward a good ≡ a
unfolding onward
onward_good (good a) = refl
onward_good (bad n) = refl

module _ (word p : ℕ) (h r : List ℕ) (t : State) where
  one_entry : (i : ℕ) → i < 2
      → remaining word p h r i t ≡ onward (run (eqb i 0) word p t.current.rules t (pick (eqb i 0) h r)) (remaining word p h r (i + 1))
  unfolding remaining pick
  one_entry zero a = refl
  one_entry (suc zero) a = sym (onward_good (run false word p t.current.rules t r))
  one_entry (suc (suc n)) a = absurd (omega arith)

  all_run : (i : ℕ) → 2 ≤ i → remaining word p h r i t ≡ good t
  unfolding remaining
  all_run zero a = absurd (omega arith)
  all_run (suc zero) a = absurd (omega arith)
  all_run (suc (suc n)) a = refl

module _ (s : List ℕ) (l : Located) (d : Span) {spans : List Span} (e : spans ≡ spans_of l) where
  -- the operations lie in the section
  pub lies : T (in_section s l) → (i : ℕ) → i < 2 → ((get_or spans i d).at ≤ (get_or spans i d).end) × ((get_or spans i d).end ≤ length s)
  unfolding spans_of
  lies t i a = rw e (by i a)
    where
      by : (i : ℕ) → i < 2 → ((get_or (spans_of l) i d).at ≤ (get_or (spans_of l) i d).end) × ((get_or (spans_of l) i d).end ≤ length s)
      by zero a = ((places s l t).1, (places s l t).2)
      by (suc zero) a = ((places s l t).3, (places s l t).4)
      by (suc (suc n)) a = absurd (omega arith)

  -- and are these bytes of it
  pub operations_are : (i : ℕ) → i < 2
      → part s (get_or spans i d).at (get_or spans i d).end ≡ pick (eqb i 0) (found s l).header.operations (found s l).found.operations
  unfolding spans_of pick
  operations_are i a = rw e (by i a)
    where
      by : (i : ℕ) → i < 2
          → part s (get_or (spans_of l) i d).at (get_or (spans_of l) i d).end ≡ pick (eqb i 0) (found s l).header.operations (found s l).found.operations
      by zero a = refl
      by (suc zero) a = refl
      by (suc (suc n)) a = absurd (omega arith)

abbrev pub left : (s : List ℕ) (l : Located) (word p i : ℕ) → State → Result State
left s l word p i = remaining word p (found s l).header.operations (found s l).found.operations i

pub later : (i : ℕ) → i < 2 → (r : Rule) → i + 1 < 2 → Some r ≡ one.initial_of (eqb (i + 1) 0) r
unfolding one.initial_of
later zero a r b = refl
later (suc n) a r b = absurd (omega arith)

pub none_left : {A : Type 0} (i : ℕ) → eqb i 0 ≡ false → i + 1 < 2 → A
none_left zero e b = let z : ◌≡◌ {A = ℕ} 0 1 = cc in absurd (omega arith)
none_left (suc n) e b = absurd (omega arith)

-- between two entries: i are done; `all` are the rules of all registers
pub record Between (whole : Reading) (p q : ℕ) (s : List ℕ) (l : Located) (i : ℕ) (initial : std.Option Rule) (state : code.State) : Type 0 where
  pub given : i < 2 → initial ≡ one.initial_of (eqb i 0) state.rules.rule
  pub all : State
  pub seen : one.at q all ≡ run_of state
  pub rest : whole ≡ answer q (left s l l.word p i all)

-- all that is to do
abbrev pub both : (p q : ℕ) (s : List ℕ) → Located → Reading
both p q s l = answer q (run_both l.word p (found s l))

module _ {p q : ℕ} {s : List ℕ} {l : Located} where
  pub begin : {state : code.State} → run_of state ≡ one.start → Between (both p q s l) p q s l 0 None state
  unfolding remaining blank rules_for one.start one.at one.initial_of
  begin e = record { given = λ h. refl; all = blank; seen = sym e; rest = refl }

  module _ {whole : Reading} {i : ℕ} {initial : std.Option Rule} {state : code.State} (b : Between whole p q s l i initial state) where
    pub enter : i < 2 → (d : Span) → {spans : List Span} → spans ≡ spans_of l
        → Inside whole (eqb i 0) l.word p q initial (part s (get_or spans i d).at (get_or spans i d).end) (left s l l.word p (i + 1)) (record { at = 0; shortest = true }) 0 state
    unfolding run run_of rules_for one.at
    enter h d e =
        record {
          near = omega arith;
          first = b.all.current.rules;
          first_is = ap (λ (r : one.Run). one.initial_of (eqb i 0) r.current.rule) b.seen ∙ sym (b.given h);
          all = b.all;
          seen = b.seen;
          rest = b.rest ∙ rw (operations_are s l d e i h, one_entry l.word p (found s l).header.operations (found s l).found.operations b.all i h);
        }

    -- an entry is done: the header, after which the rule that it leaves is the initial one, or the record
    pub again : {after : code.State} → i < 2 → (all : State) → one.at q all ≡ run_of after → whole ≡ answer q (left s l l.word p (i + 1) all)
        → Between whole p q s l (i + 1) (Some after.rules.rule) after
    unfolding one.initial_of
    again {after} h all e f = record { given = later i h after.rules.rule; all = all; seen = e; rest = f }

    pub cut : {after : code.State} {old : std.Option Rule} → i < 2 → eqb i 0 ≡ false → (all : State) → one.at q all ≡ run_of after
        → whole ≡ answer q (left s l l.word p (i + 1) all) → Between whole p q s l (i + 1) old after
    cut h n all e f = record { given = none_left i n; all = all; seen = e; rest = f }

  pub ended : {whole : Reading} {i : ℕ} {initial : std.Option Rule} {state : code.State} → Between whole p q s l i initial state → 2 ≤ i → Ok state.rules ≡ whole
  unfolding answer seen run_of one.at
  ended b e = sym (b.rest ∙ rw (all_run l.word p (found s l).header.operations (found s l).found.operations b.all _ e) (ap (λ (r : one.Run). Ok r.current) b.seen))

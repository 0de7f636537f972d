-- The run over two entries, the header and then the record: between them, what is left gives the lines that are left.
use mathlib.Core.Path.{◌≡◌, refl, sym, ap, ◌∙◌}
use Prim.Native.Nat.{ℕ, zero, suc, ◌+◌, ◌-◌, ◌*◌, ◌/◌, ◌≤◌, ◌<◌}
use native.Mathlib.Omega.{arith}
use mathlib.Core.Bool.{true, false}
use mathlib.Core.List.{List}
use lib.ListN.{length, get_or, length-take}
use lib.Dec.{eqb}
use Rattle.format.specs.Prelude.{pick, good}
use Rattle.format.specs.declared.Rule.{Rule}
use Rattle.format.specs.Rules.{State, blank, rules_for}
use Rattle.format.proofs.Wrote.{Wrote}
use Rattle.operations.specs.declared.fields.Position.{Position}
use Rattle.reader.specs.OneRegister as one
use Rattle.reader.specs.Spans.{part}
use Rattle.reader.specs.Finds.{spans_of}
use Rattle.reader.specs.declared.location.Located.{Located}
use Rattle.reader.specs.declared.section.Span.{Span}
use Rattle.reader.proofs.Both.{operations_are, later, none_left}
use Rattle.std.specs.Prelude.{Some, None}
use Rattle.std.specs.Prelude as std
use Rattle.reader.specs.States.{run_of}
use Rattle.reader.specs.declared.state.State as code
use Rattle.listing.specs.Lines.{Lines, last, ended, highest, lines_f, record_lines, lines_of, line_numbers, Lists}
use Rattle.listing.proofs.StoredLines.{LinesStored, stored_none, stored_since, stored_joined, stored_last, stored_ended}
use Rattle.listing.proofs.Doing.{Inside}

-- the lines of what is left when some entries are done, of the header h and the record r
unfoldable pub remaining : (word : ℕ) (h r : List ℕ) → (done : ℕ) → ℕ → State → Lines
remaining word h r zero at t = lines_f true word t.current.rules (record_lines word r) (length h) at t h
remaining word h r (suc zero) at t = record_lines word r at t
remaining word h r (suc (suc n)) at t = last at t

-- the bytes that may still give lines, of m
unfoldable pub bytes : (done m : ℕ) → ℕ
bytes zero m = m
bytes (suc zero) m = m
bytes (suc (suc n)) m = 0

module _ (word : ℕ) (h r : List ℕ) (at : ℕ) (t : State) where
  one_entry : (done : ℕ) → done < 2
      → remaining word h r done at t
      ≡ lines_f (eqb done 0) word t.current.rules (remaining word h r (done + 1)) (length (pick (eqb done 0) h r)) at t (pick (eqb done 0) h r)
  unfolding remaining record_lines pick
  one_entry zero a = refl
  one_entry (suc zero) a = refl
  one_entry (suc (suc n)) a = absurd (omega arith)

  -- behind the record there is nothing
  behind : (done : ℕ) → done < 2 → eqb done 0 ≡ false → last at t ≡ remaining word h r (done + 1) at t
  unfolding remaining
  behind zero a e = let z : ◌≡◌ {A = ℕ} 0 1 = cc in absurd (omega arith)
  behind (suc zero) a e = refl
  behind (suc (suc n)) a e = absurd (omega arith)

  all_run : (done : ℕ) → 2 ≤ done → remaining word h r done at t ≡ last at t
  unfolding remaining
  all_run zero a = absurd (omega arith)
  all_run (suc zero) a = absurd (omega arith)
  all_run (suc (suc n)) a = refl

part_short : (s : List ℕ) (u v : ℕ) → length (part s u v) ≤ v - u
part_short s u v = simp length-take (omega arith)

enter_room : (done : ℕ) (s x : List ℕ) (u v : ℕ) → done < 2
    → pick (eqb done 0) (v - u) (length (pick (eqb done 0) x (part s u v)) - 0) ≤ bytes done (v - u)
unfolding pick bytes
enter_room zero s x u v a = omega arith
enter_room (suc zero) s x u v a = omega (arith, part_short s u v)
enter_room (suc (suc n)) s x u v a = absurd (omega arith)

leave_room : (done m l : ℕ) → done < 2 → bytes (done + 1) m ≤ pick (eqb done 0) m l
unfolding pick bytes
leave_room zero m l a = omega arith
leave_room (suc zero) m l a = omega arith
leave_room (suc (suc n)) m l a = absurd (omega arith)

abbrev pub left : (s : List ℕ) → Located → (done : ℕ) → ℕ → State → Lines
left s l done = remaining l.word (part s l.header l.header_end) (part s l.«record» l.record_end) done

abbrev pub all_lines : (s : List ℕ) → Located → Lines
all_lines s l = lines_of l.word (part s l.header l.header_end) (part s l.«record» l.record_end)

abbrev pub more_in : Located → ℕ
more_in l = l.record_end - l.«record»

-- between two entries; `all` are the rules of all registers
pub record Between (whole : Lines) (q : ℕ) (s : List ℕ) (l : Located) (old out : List ℕ) (initial : std.Option Rule) (state : code.State) (i loc done : ℕ) : Type 0 where
  pub given : done < 2 → initial ≡ one.initial_of (eqb done 0) state.rules.rule
  pub near : loc ≤ highest
  pub all : State
  pub seen : one.at q all ≡ run_of state
  pub lines : LinesStored q whole (left s l done loc all) old out i
  pub room : i + 7 * (bytes done (more_in l) + 1) ≤ length out

module _ {q : ℕ} {s : List ℕ} {l : Located} {old : List ℕ} where
  pub begin : {state : code.State} → run_of state ≡ one.start → 7 * (more_in l + 1) ≤ length old
      → Between (all_lines s l) q s l old old None state 0 0 0
  unfolding remaining lines_of bytes blank rules_for one.start one.at one.initial_of
  begin e m =
      record {
        given = λ h. refl;
        near = omega arith;
        all = blank;
        seen = sym e;
        lines = stored_none q (all_lines s l) old;
        room = omega (arith, m);
      }

  module _ {whole : Lines} {out : List ℕ} {initial : std.Option Rule} {state : code.State} {i loc done : ℕ} (b : Between whole q s l old out initial state i loc done) where
    pub enter : done < 2 → (d : Span) → {spans : List Span} → spans ≡ spans_of l
        → Inside whole (eqb done 0) l.word q initial (part s (get_or spans done d).at (get_or spans done d).end) (left s l (done + 1)) (more_in l) out out state i loc (record { at = 0; shortest = true })
    unfolding run_of rules_for one.at
    enter h d {spans} e =
        let p : part s (get_or spans done d).at (get_or spans done d).end ≡ pick (eqb done 0) (part s l.header l.header_end) (part s l.«record» l.record_end) =
        operations_are s l d e done h in
        record {
          near = b.near;
          first = b.all.current.rules;
          first_is = ap (λ (r : one.Run). one.initial_of (eqb done 0) r.current.rule) b.seen ∙ sym (b.given h);
          all = b.all;
          seen = b.seen;
          lines = stored_since {old = old} (rw p (rw (one_entry l.word (part s l.header l.header_end) (part s l.«record» l.record_end) loc b.all done h) at b.lines));
          room = rw p (omega (arith, b.room, enter_room done s (part s l.header l.header_end) l.«record» l.record_end h));
        }

    module _ {ops out' : List ℕ} {after : code.State} {j loc' : ℕ} {at : Position}
        (n : Inside whole (eqb done 0) l.word q initial ops (left s l (done + 1)) (more_in l) out out' after j loc' at) (c : done < 2) where
      on : {r : std.Option Rule} → (done + 1 < 2 → r ≡ one.initial_of (eqb (done + 1) 0) after.rules.rule)
          → LinesStored q whole (left s l (done + 1) loc' n.all) out out' j → Between whole q s l old out' r after j loc' (done + 1)
      on g t =
          record {
            given = g;
            near = n.near;
            all = n.all;
            seen = n.seen;
            lines = stored_joined b.lines t;
            room = omega (arith, n.room, leave_room done (more_in l) (length ops - at.at) c);
          }

      -- an entry is done: the header, after which the rule that it leaves is the initial one, or the record
      pub again : LinesStored q whole (left s l (done + 1) loc' n.all) out out' j → Between whole q s l old out' (Some after.rules.rule) after j loc' (done + 1)
      again t = on (later done c after.rules.rule) t

      -- a step past every offset ends the record
      pub cut : {r : std.Option Rule} → eqb done 0 ≡ false → LinesStored q whole (last loc' n.all) out out' j → Between whole q s l old out' r after j loc' (done + 1)
      cut f t = on (none_left done f) (rw (← behind l.word (part s l.header l.header_end) (part s l.«record» l.record_end) loc' n.all done c f) t)

    -- a question ends the run inside of an entry
    pub refuses : {out' : List ℕ} {j at m : ℕ} → LinesStored q whole (ended at m) out out' j → Lists q (good whole) (record { number = 0; lines = j / 7; ending = m; from = at }) old out'
    refuses t = stored_ended (stored_joined b.lines t)

    pub ended_all : 2 ≤ done → {out' : List ℕ} {j : ℕ} → Wrote out out' i j (line_numbers loc state.rules) → Lists q (good whole) (record { number = 0; lines = j / 7; ending = 0; from = 0 }) old out'
    unfolding one.at run_of
    ended_all e w = stored_last (rw (all_run l.word (part s l.header l.header_end) (part s l.«record» l.record_end) loc b.all done e) at b.lines) (rw (ap (λ (r : one.Run). r.current) b.seen) w)

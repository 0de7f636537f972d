-- What the pass over a section keeps of the entries behind it, and the test of a record by the entry that stands there.
use Rattle.std.specs.Prelude.{Bool, true, false, ◌&&◌, List, ℕ, zero, suc, ◌/◌, leb, ltb, eqb, length, get_or, set}
use Rattle.std.proofs.Math.Option.{Option, none, some}
use Rattle.format.specs.Prelude.{pick, after, Result, onward, or_else}
use Rattle.format.specs.Rules.{State, answer}
use Rattle.format.specs.Reader.{Entry, entries, distance_back, header_at, parsed, run_to}
use Rattle.reader.specs.Spans.{listed, Ahead}
use Rattle.section_check.specs.Check.{length_of, answers}

-- ---- marks: where entries of the section start, one for each stretch of `step` bytes

-- from each mark on a header is found that stands there or further on
abbrev pub Marks : List ℕ → List ℕ → Type 0
Marks s marks = (i : ℕ) → Ahead s (get_or marks i 0)

-- the first entry of a stretch is its mark; 0 where none was passed yet
unfoldable pub marked : (step at : ℕ) → List ℕ → List ℕ
marked step at marks = pick (ltb (at / step) (length marks) && eqb (get_or marks (at / step) 0) 0) (set marks (at / step) at) marks

-- where the search for a place starts: the mark of its stretch where that is not past it
unfoldable pub mark_before : (step place : ℕ) → List ℕ → ℕ
mark_before step place marks = pick (leb (get_or marks (place / step) 0) place) (get_or marks (place / step) 0) 0

-- ---- a record by its entry

-- 63 to 69 of the record that is entry e
unfoldable pub read_in : List ℕ → (word : ℕ) → Entry → (p : ℕ) → Result State
read_in s word e p =
    onward (or_else (after (distance_back e) λ place. header_at false place e.at (listed (entries s))) 63) λ h.
    onward (parsed false word h e) (run_to word p)

unfoldable pub answers_in : List ℕ → (word : ℕ) → Entry → (p : ℕ) → Bool
answers_in s word e p = answers (answer 0 (read_in s word e p))

unfoldable pub last_in : List ℕ → (word : ℕ) → Entry → Option ℕ → Bool
last_in s word e none = false
last_in s word e (some zero) = true
last_in s word e (some (suc p)) = answers_in s word e p

unfoldable pub passes_in : List ℕ → (word : ℕ) → Entry → Bool
passes_in s word e = last_in s word e (length_of e)

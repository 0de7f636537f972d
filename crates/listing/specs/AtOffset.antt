-- What stored lines say at an offset (DWARF 5, 6.4.1: the row of a table that holds at a location).
use Rattle.std.specs.Prelude.{◌≡◌, ℕ, zero, suc, ◌^◌, ◌<◌, Bool, ◌||◌, List, [], ◌∷◌, get_or, take, drop, leb, ltb, eqb, Err}
use Rattle.format.specs.Prelude.{pick}
use Rattle.format.specs.Answers.{reading_numbers}
use Rattle.reads.specs.declared.Located.{Located}
use Rattle.reads.specs.Places.{rules_of}
use Rattle.listing.specs.Lines.{line_stride}
use Rattle.listing.specs.declared.Listed.{Listed}

-- behind the lines: the question that ended them, from its offset on; else what the last line says
unfoldable pub says_behind : (p : ℕ) → Listed → (before : List ℕ) → List ℕ
says_behind p r before = pick (eqb r.ending 0 || ltb p r.from) before (reading_numbers (Err r.ending))

-- n lines, and what the line in front of them says: the last line that starts at p or before it, behind its offset
unfoldable pub says_from : (p : ℕ) → Listed → (n : ℕ) → (before lines : List ℕ) → List ℕ
says_from p r zero before lines = says_behind p r before
says_from p r (suc n) before lines =
    pick (leb (get_or lines 0 0) p) (says_from p r n (0 ∷ take 6 (drop 1 lines)) (drop line_stride lines)) before

-- the numbers of a reading without a mark, at offset p
unfoldable pub says : (p : ℕ) → Listed → (lines : List ℕ) → List ℕ
says p r lines = says_from p r r.lines [] lines

-- Where the lines were listed they say at every offset below the function's length what unwind_rules_at answers: the
-- rules of register q, or the question that ended the lines.
abbrev pub Says : (section : List ℕ) → Located → (q : ℕ) → Listed → (lines : List ℕ) → Type 0
Says section l q r lines =
    r.number ≡ 0 → (p : ℕ) → p < l.length → p < 2 ^ 64 → says p r lines ≡ reading_numbers (rules_of section l q p)

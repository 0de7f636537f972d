-- The questions of the export, one by one.
use mathlib.Core.Path.{◌≡◌, refl, ◌∙◌}
use Prim.Native.Nat.{ℕ, ◌+◌, ◌-◌, ◌*◌, ◌/◌, ◌≤◌, ◌<◌}
use native.Mathlib.Omega.{arith}
use mathlib.Core.Bool.{true, false}
use mathlib.Core.List.{List}
use lib.ListN.{length}
use lib.Dec.{T, leb}
use Rattle.format.specs.Prelude.{pick, good, bad}
use Rattle.format.proofs.Choice.{if-le, if-gt, if-eq, if-ne, when_true, when_false}
use Rattle.reader.specs.Spans.{part}
use Rattle.reader.specs.Finds.{in_section}
use Rattle.reader.proofs.Asked.{fits}
use Rattle.reads.specs.declared.Located.{Located}
use Rattle.reads.specs.Places.{reader_places}
use Rattle.listing.specs.declared.Listed.{Listed}
use Rattle.listing.specs.Lines.{Lines, lines_of, along, listed_as, list_after, Lists}

-- the lines of the places that l has
abbrev pub lines_at : List ℕ → Located → Lines
lines_at s l = lines_of l.word (part s l.header l.header_end) (part s l.record l.record_end)

module _ (s : List ℕ) (l : Located) (q : ℕ) (old : List ℕ) where
  -- a refusal leaves the list as it is
  no : {n : ℕ} → along s l (length old) ≡ bad n → Lists q (along s l (length old)) (record { number = n; lines = 0; ending = 0; from = 0 }) old old
  unfolding listed_as list_after
  no e = record { answered = rw e refl; stored = rw e refl }

  pub unlocated : (l.number ≡ 0 → ⊥) → Lists q (along s l (length old)) (record { number = l.number; lines = 0; ending = 0; from = 0 }) old old
  unfolding along
  unlocated h = no (if-ne l.number 0 _ (bad l.number) h)

  module _ (z : l.number ≡ 0) where
    -- 64
    pub outside : in_section s (reader_places l) ≡ false → Lists q (along s l (length old)) (record { number = 64; lines = 0; ending = 0; from = 0 }) old old
    unfolding along
    outside e = no (if-eq l.number 0 _ (bad l.number) z ∙ when_false (in_section s (reader_places l)) _ (bad 64) e)

    module _ (e : in_section s (reader_places l) ≡ true) where
      room_asked : along s l (length old) ≡ pick (leb (7 * (l.record_end - l.record + 1)) (length old)) (good (lines_at s l)) (bad 54)
      unfolding along
      room_asked =
          if-eq l.number 0
          (pick (in_section s (reader_places l)) (pick (leb (7 * (l.record_end - l.record + 1)) (length old)) (good (lines_at s l)) (bad 54)) (bad 64))
          (bad l.number) z
          ∙ when_true (in_section s (reader_places l)) (pick (leb (7 * (l.record_end - l.record + 1)) (length old)) (good (lines_at s l)) (bad 54)) (bad 64) e

      -- 54
      pub short : length old / 7 ≤ l.record_end - l.record → Lists q (along s l (length old)) (record { number = 54; lines = 0; ending = 0; from = 0 }) old old
      short h = no (room_asked ∙ if-gt (7 * (l.record_end - l.record + 1)) (length old) (good (lines_at s l)) (bad 54) (omega arith))

      pub asked : l.record_end - l.record < length old / 7
          → T (in_section s (reader_places l)) × (7 * (l.record_end - l.record + 1) ≤ length old)
      asked h = (rw e tt, omega arith)

      pub listed : l.record_end - l.record < length old / 7 → {r : Listed} {new : List ℕ} → Lists q (good (lines_at s l)) r old new
          → Lists q (along s l (length old)) r old new
      listed h x = rw (room_asked ∙ if-le (7 * (l.record_end - l.record + 1)) (length old) (good (lines_at s l)) (bad 54) (omega arith)) x

    pub in_order : in_section s (reader_places l) ≡ true → l.record ≤ l.record_end
    unfolding reader_places
    in_order e = (fits s (reader_places l) e).3

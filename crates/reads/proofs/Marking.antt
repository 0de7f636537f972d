-- The marks of a section while a pass goes over its entries: each is where an entry starts that was passed.
use Rattle.std.proofs.Common.{◌≡◌, ℕ, T, List, replicate}
use Rattle.format.specs.Questions.{is_some}
use Rattle.format.specs.Reader.{entries}
use Rattle.reader.specs.Spans.{Ends}
use Rattle.reader.specs.Spans.{Ahead}
use Rattle.reader.proofs.Seeking.{first_ahead}
use Rattle.section_check.specs.Places.{Marks, marked}
use Rattle.section_check.proofs.Pass.{no_marks, marked_ahead, ahead_on}

pub record Marking (s marks : List ℕ) (at : ℕ) : Type 0 where
  pub ahead : Ahead s at
  pub marks_ahead : Marks s marks

pub marking : (s : List ℕ) → T (is_some (entries s)) → Marking s (replicate 1024 0) 0
marking s t = record { ahead = first_ahead s t; marks_ahead = no_marks s 1024 t }

module _ {s marks : List ℕ} {at : ℕ} (m : Marking s marks at) where
  pub marks_on : (step : ℕ) {now : List ℕ} → now ≡ marked step at marks → Marks s now
  marks_on step e = rw e (marked_ahead s marks step at m.ahead m.marks_ahead)

  pub marking_on : {end : ℕ} → Ends s at end → (step : ℕ) {now : List ℕ} → now ≡ marked step at marks → Marking s now end
  marking_on f step e = record { ahead = ahead_on m.ahead f; marks_ahead = marks_on step e }

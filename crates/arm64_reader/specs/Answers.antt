-- The answer and the lent lists of a reader, by what it found.
use Rattle.std.specs.Prelude.{◌≡◌, List, ℕ, ◌+◌, Bool, ◌&&◌, leb}
use Rattle.std.specs.Prelude as code
use Rattle.std.proofs.Math.Option.{Option}
use Rattle.format.specs.Prelude.{Result, good, bad, onward, or_else}
use Rattle.format.specs.declared.question.Question.{Question}
use Rattle.format.specs.Coded.{result_of, numbered}
use Rattle.format.specs.Lists.{count}
use Rattle.arm64.specs.declared.Arm64Reading.{Arm64Reading}
use Rattle.arm64.specs.Lists.{epilogue_stride, code_stride}
use Rattle.arm64_records.specs.declared.Output.{Output}
use Rattle.arm64_records.specs.Lent.{SameLists}
use Rattle.arm64.specs.Reader.{Unwound, fits_in, reading_of, epilogues_after, codes_after}

-- the reading where n codes of the prologue were found, and epilogues of m codes
abbrev pub reading_with : (length n epilogues m : ℕ) → Arm64Reading
reading_with length n epilogues m = record { number = 0; length = length; prologue = n; epilogues = epilogues; codes = n + m }

-- the lent lists hold that many epilogues and codes
unfoldable pub roomy : (es cs : List ℕ) → (epilogues codes : ℕ) → Bool
roomy es cs epilogues codes = leb epilogues (count epilogue_stride es) && leb codes (count code_stride cs)

-- the reading, or the question's number
unfoldable pub answer_of : Result Unwound → Result Arm64Reading
answer_of (bad n) = bad n
answer_of (good u) = good (reading_of (good u))

pub record Answered (u : Result Unwound) (r : code.Result Arm64Reading Question) (es es' cs cs' : List ℕ) : Type 0 where
  pub reading : numbered r ≡ result_of (answer_of u)
  pub epilogues : es' ≡ epilogues_after es u
  pub codes : cs' ≡ codes_after cs u

-- what was found, or 77; then 54
unfoldable pub found : Option Unwound → (es cs : List ℕ) → Result Unwound
found x es cs = onward (or_else x 77) (fits_in es cs)

-- ---- of the lists as they are lent

abbrev pub room_of : Output → (epilogues codes : ℕ) → Bool
room_of to epilogues codes = roomy to.epilogues.now to.codes.now epilogues codes

abbrev pub found_in : Option Unwound → Output → Result Unwound
found_in x to = found x to.epilogues.now to.codes.now

abbrev pub AnsweredIn : Result Unwound → code.Result Arm64Reading Question → (old new : Output) → Type 0
AnsweredIn u r old new = Answered u r old.epilogues.now new.epilogues.now old.codes.now new.codes.now × SameLists old new

-- The writer and then the reader on function k of its table, and the reader on both forms of one function.
use Rattle.std.specs.Prelude.{◌≡◌, ℕ, ◌*◌, ◌%◌, ◌≤◌, ◌<◌, Bool, true, false, List, length, get_or, ltb, eqb}
use Rattle.std.specs.Prelude.{Some, None, Ok, Err}
use Rattle.std.specs.Prelude as code
use Rattle.std.proofs.Math.Option.{Option, none, some}
use Rattle.format.specs.Prelude.{pick, Result, good}
use Rattle.format.specs.declared.Counts.{Counts}
use Rattle.format.specs.Coded.{Outcome}
use Rattle.format.specs.Lists.{count}
use Rattle.format.specs.Writer.{Written}
use Rattle.format.specs.Questions.{Answer, accepted}
use Rattle.arm64.specs.declared.Arm64Reading.{Arm64Reading}
use Rattle.arm64.specs.Lists.{Function, function_stride, epilogue_stride, code_stride, numbered_function}
use Rattle.arm64.specs.Packing.{candidate, packed_word}
use Rattle.arm64.specs.Reader.{Unwound, all_codes, read_arm64, reading_of, epilogues_after, codes_after}
use Rattle.arm64.specs.Writer.{instructions, prologue_run, is_packed, record_bytes, no_record, function_asks}
use Rattle.arm64_back.specs.Back.{SameUnwound, ReadBack, EntryWord, given, second_word, whole_codes, BytesAt}

-- ---- what a reader does: its answer, and what its lent lists hold at exit

pub record Answers (r : Result Unwound) (a : Arm64Reading) (es es' cs cs' : List ℕ) : Type 0 where
  pub reading : a ≡ reading_of r
  pub epilogues : es' ≡ epilogues_after es r
  pub codes : cs' ≡ codes_after cs r

-- of a row that may not be there: no answer, and the lists as they were
unfoldable pub reading_in : Option (Result Unwound) → code.Option Arm64Reading
reading_in none = None
reading_in (some r) = Some (reading_of r)

unfoldable pub epilogues_left : List ℕ → Option (Result Unwound) → List ℕ
epilogues_left es none = es
epilogues_left es (some r) = epilogues_after es r

unfoldable pub codes_left : List ℕ → Option (Result Unwound) → List ℕ
codes_left cs none = cs
codes_left cs (some r) = codes_after cs r

pub record RowRead (x : Option (Result Unwound)) (a : code.Option Arm64Reading) (es es' cs cs' : List ℕ) : Type 0 where
  pub reading : a ≡ reading_in x
  pub epilogues : es' ≡ epilogues_left es x
  pub codes : cs' ≡ codes_left cs x

-- the lent lists hold as many epilogues and codes as a function has
pub record Roomy (f : Function) (es cs : List ℕ) : Type 0 where
  pub epilogues : length f.epilogues ≤ count epilogue_stride es
  pub codes : length (all_codes (given f)) ≤ count code_stride cs

-- ---- a function of a table that was written

-- a row was written for function k
unfoldable pub has_row : Outcome → (k : ℕ) → Bool
has_row (Ok (Some c)) k = ltb k c.places
has_row (Ok None) k = false
has_row (Err r) k = false

-- the second word of its row in the finished file: as it was written where the function is packed, else what
-- a linker puts there
unfoldable pub finished_word : (markers bytes : List ℕ) → (k placed : ℕ) → ℕ
finished_word markers bytes k placed = pick (eqb (get_or markers k 0) no_record) (second_word bytes k) placed

-- the reader by that word, and the record at the function's marker
unfoldable pub row_read : Outcome → (markers bytes info : List ℕ) → (k placed : ℕ) → (es cs : List ℕ) → Option (Result Unwound)
row_read o markers bytes info k placed es cs =
    pick (has_row o k) (some (read_arm64 (finished_word markers bytes k placed) info (get_or markers k 0) es cs)) none

-- What a reader answers of the buffers that were lent to the writer, by function k's row in `bytes` as it may
-- stand in the finished file: where the list was accepted, and the reader's lists have room for as many
-- epilogues and codes as were given, the function as it was given.
abbrev pub BuffersBack : (fs es cs : List ℕ) → Answer → (k : ℕ) → (bytes : List ℕ) → (word : ℕ)
    → (es' cs' : List ℕ) → Result Unwound → Type 0
BuffersBack fs es cs a k bytes word es' cs' r =
    (w : Written) → a ≡ accepted w → k < count function_stride fs
    → EntryWord (numbered_function fs es cs k) bytes k word
    → Roomy (numbered_function fs es cs k) es' cs' → ReadBack (given (numbered_function fs es cs k)) r

-- an answer that says the same as what was given
pub record GivenBack (f : Function) (a : code.Option Arm64Reading) (es es' cs cs' : List ℕ) : Type 0 where
  pub unwound : Unwound
  pub read : RowRead (some (good unwound)) a es es' cs cs'
  pub same : SameUnwound unwound (given f)

-- Where the list was accepted, what a linker puts in the row of a function with a record is whole words, and
-- the reader's lists have room, function k is read as it was given.
abbrev pub FunctionBack : (fs es cs : List ℕ) → Outcome → (k placed : ℕ) → code.Option Arm64Reading → (ds ds' bs bs' : List ℕ) → Type 0
FunctionBack fs es cs o k placed a ds ds' bs bs' =
    (c : Counts) → o ≡ Ok (Some c) → k < count function_stride fs → (is_packed (numbered_function fs es cs k) ≡ false → placed % 4 ≡ 0)
    → Roomy (numbered_function fs es cs k) ds bs
    → GivenBack (numbered_function fs es cs k) a ds ds' bs bs'

-- ---- both forms of one function

-- two answers that say the same
pub record SameAnswers (a b : Arm64Reading) (es es' cs cs' ds ds' bs bs' : List ℕ) : Type 0 where
  pub first : Unwound
  pub second : Unwound
  pub one : Answers (good first) a es es' cs cs'
  pub other : Answers (good second) b ds ds' bs bs'
  pub same : SameUnwound first second

-- a function of which every question is answered by yes, with its packed word, and its full record at a place
pub record BothOf (f : Function) (word : ℕ) (record-bytes : List ℕ) (place : ℕ) : Type 0 where
  pub whole : whole_codes f ≡ true
  pub asked : function_asks 0 f ≡ none
  pub is_packed_one : is_packed f ≡ true
  pub word_is : word ≡ packed_word (candidate (instructions f.size) (prologue_run f))
  pub record_is : BytesAt record-bytes place (record_bytes f)

-- A packed word means what the full record of the same function means, wherever that stands.
abbrev pub PackedAsFull : (word : ℕ) → (record-bytes : List ℕ) → (place : ℕ) → Arm64Reading → (es es' cs cs' : List ℕ) → Arm64Reading
    → (ds ds' bs bs' : List ℕ) → Type 0
PackedAsFull word record-bytes place a es es' cs cs' b ds ds' bs bs' =
    (f : Function) → BothOf f word record-bytes place → Roomy f es cs → Roomy f ds bs → SameAnswers a b es es' cs cs' ds ds' bs bs'

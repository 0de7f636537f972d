-- The fields of a header and of a record by positions: what was read, and where the rest stands.
use Rattle.std.specs.Prelude.{◌≡◌, ℕ, ◌≤◌, Bool, true, false, ◌&&◌, List, [], ◌∷◌, length, drop, eqb, Some, None, Ok, Err}
use Rattle.std.specs.Prelude as code
use Rattle.std.proofs.Math.Option.{Option, none, some}
use Rattle.format.specs.Prelude.{pick, Read, next}
use Rattle.format.specs.Numbers.{number_of}
use Rattle.format.specs.declared.question.Question.{Question}
use Rattle.format.specs.Leb.{read_uleb, read_sleb}
use Rattle.format.specs.Rows.{read_register, same_offset}
use Rattle.format.specs.Headers.{data_factor}
use Rattle.format.specs.Reader.{Letters, Spelling, spelled, HeaderFields, require, header_tail, RecordFields}
use Rattle.format.specs.Shortest.{unsigned as unsignedNumber, numbers_short}
use Rattle.operations.specs.declared.fields.Position.{Position}
use Rattle.reader.specs.Spans.{part}
use Rattle.reader.specs.declared.fields.Augmentation.{Augmentation}
use Rattle.reader.specs.declared.fields.Header.{Header}
use Rattle.reader.specs.declared.fields.Record.{Record}

-- a value, and at position q, with the mark b, the rest
pub record Rests {A : Type 0} (s : List ℕ) (b : Bool) (v : A) (q : Position) (x : Read A) : Type 0 where
  pub inside : q.at ≤ length s
  pub read : x ≡ some (v, drop q.at s)
  pub mark : q.shortest ≡ b

-- ---- the augmentation string

-- what the code's struct says
abbrev pub letters_of : Augmentation → Letters
letters_of p = record { personality = p.personality; lsda = p.lsda; signal = p.signal }

-- a string, and the one that marks a signal frame
abbrev pub two_of : (plain signal : List ℕ) (personality lsda : Bool) → List Spelling
two_of plain signal personality lsda = spelled plain personality lsda false ∷ spelled signal personality lsda true ∷ []

-- a string's letters and the position past it, or none
abbrev pub ReadsAugmentation : List ℕ → Bool → code.Option (Augmentation × Position) → Read Letters → Type 0
ReadsAugmentation s b (Some p) x = Rests s b (letters_of p.0) p.1 x
ReadsAugmentation s b None x = x ≡ none

-- ---- the augmentation data

-- the mark behind the augmentation data, whose length is a number, of which debug_frame has none
unfoldable pub tail_mark : (debug : Bool) → List ℕ → Position → Bool
tail_mark debug s p = p.shortest && numbers_short (pick debug [] (unsignedNumber ∷ [])) (drop p.at s)

-- bytes from the position `at`, which has the mark b, up to `end`, and the rest
pub record Counts (s : List ℕ) (b : Bool) (at : Position) (end : ℕ) (x : Read (List ℕ)) : Type 0 where
  pub ordered : at.at ≤ end
  pub inside : end ≤ length s
  pub read : x ≡ some (part s at.at end, drop end s)
  pub mark : at.shortest ≡ b

-- these, or none
abbrev pub CountsIn : List ℕ → Bool → code.Option (Position × ℕ) → Read (List ℕ) → Type 0
CountsIn s b (Some p) x = Counts s b p.0 p.1 x
CountsIn s b None x = x ≡ none

-- something is skipped, and the rest stands at position q
pub record Skips (s : List ℕ) (q : ℕ) (x : Option (List ℕ)) : Type 0 where
  pub inside : q ≤ length s
  pub rest : x ≡ some (drop q s)

-- that position, or none
abbrev pub SkipsTo : List ℕ → code.Option ℕ → Option (List ℕ) → Type 0
SkipsTo s (Some q) x = Skips s q x
SkipsTo s None x = x ≡ none

-- a number and the position past it, or none
abbrev pub Numbers : List ℕ → Bool → code.Option (ℕ × Position) → Read ℕ → Type 0
Numbers s b (Some p) x = Rests s b p.0 p.1 x
Numbers s b None x = x ≡ none

-- ---- a header

-- its fields, with the operations at position q, which has the mark b
pub record Heading (s : List ℕ) (b : Bool) (q : Position) (pointer : ℕ) (signal : Bool) (x : Option HeaderFields) : Type 0 where
  pub inside : q.at ≤ length s
  pub read : x ≡ some (record { pointer = pointer; signal = signal; operations = drop q.at s })
  pub mark : q.shortest ≡ b

-- these, or none
abbrev pub Heads : List ℕ → Bool → code.Option Header → Option HeaderFields → Type 0
Heads s b (Some h) x = Heading s b h.operations h.pointer h.signal x
Heads s b None x = x ≡ none

-- these, or question 64
abbrev pub ParsesHeader : List ℕ → Bool → code.Result Header Question → Option HeaderFields → Type 0
ParsesHeader s b (Ok h) x = Heading s b h.operations h.pointer h.signal x
ParsesHeader s b (Err q) x = (number_of q ≡ 64) × (x ≡ none)

-- from the code alignment factor on
unfoldable pub header_factors : (debug : Bool) → Letters → ℕ → List ℕ → Option HeaderFields
header_factors debug l word bs =
    next (read_uleb bs) λ code r₃. require (eqb code 1)
    (next (read_sleb r₃) λ z r₄. require (same_offset z (data_factor word)) (next (read_register r₄) λ ra r₅. header_tail debug l word r₅))

-- ---- a record

-- its fields, with the operations at position q, which has the mark b
pub record Recording (s : List ℕ) (b : Bool) (q : Position) (size : ℕ) (x : Option RecordFields) : Type 0 where
  pub inside : q.at ≤ length s
  pub read : x ≡ some (record { size = size; operations = drop q.at s })
  pub mark : q.shortest ≡ b

-- these, or none
abbrev pub Records : List ℕ → Bool → code.Option Record → Option RecordFields → Type 0
Records s b (Some r) x = Recording s b r.operations r.size x
Records s b None x = x ≡ none

-- these, or question 64
abbrev pub ParsesRecord : List ℕ → Bool → code.Result Record Question → Option RecordFields → Type 0
ParsesRecord s b (Ok r) x = Recording s b r.operations r.size x
ParsesRecord s b (Err q) x = (number_of q ≡ 64) × (x ≡ none)

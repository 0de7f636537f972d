-- What the reader's functions promise: an operand, a code at a position, the codes counted and stored, and a record's header.
use Rattle.std.specs.Prelude.{◌≡◌, ℕ, ◌+◌, ◌*◌, ◌^◌, ◌≤◌, ◌<◌, Bool, false, ◌||◌, List, [], ◌∷◌, T, eqb, length, get_or, drop, Some, None}
use Rattle.std.specs.Prelude as code
use Rattle.std.proofs.Math.Option.{Option, none, some}
use Rattle.format.specs.Put.{put}
use Rattle.format.specs.declared.Seh.{Seh}
use Rattle.operations.specs.declared.fields.Position.{Position}
use Rattle.format.specs.X64Reader.{read_code, code_numbers, has_frame, header_ok, slot_bytes_in}
use Rattle.x64_reader.specs.declared.Code.{Code}
use Rattle.x64_reader.specs.declared.Slots.{Slots}
use Rattle.x64_reader.specs.declared.Header.{Header}
use Rattle.x64_reader.specs.declared.X64Reading.{X64Reading}

-- ---- one code

-- an operand has at most 32 bits
abbrev pub Small : code.Option (ℕ × Position) → Type 0
Small (Some v) = v.0 < 2 ^ 32
Small None = Unit

-- what stands at p is the code c at `offset`, and q is the position past it
pub record CodeThere (frame : ℕ) (s : List ℕ) (p : Position) (offset : ℕ) (c : Seh) (q : Position) : Type 0 where
  pub ahead : p.at < q.at
  pub inside : q.at ≤ length s
  pub reads : read_code frame (drop p.at s) ≡ some ((offset, c), drop q.at s)

abbrev pub CodeSays : (frame : ℕ) → List ℕ → Position → code.Option Code → Type 0
CodeSays frame s p (Some c) = CodeThere frame s p c.offset c.says c.past
CodeSays frame s p None = read_code frame (drop p.at s) ≡ none

-- ---- the codes

-- what `next` gives of some slots: what stands at the position, and then the position past it; none at the slots' end
abbrev pub Behind : Slots → code.Option Code → Slots → Type 0
Behind x None y = Unit
Behind x (Some c) y = (y.bytes.now ≡ x.bytes.now) × (y.frame ≡ x.frame) × (y.at ≡ c.past)

abbrev pub GivesCode : Slots → code.Option (code.Option Code) → Slots → Type 0
GivesCode x None y = length x.bytes.now ≤ x.at.at
GivesCode x (Some r) y = (x.at.at < length x.bytes.now) × CodeSays x.frame x.bytes.now x.at r × Behind x r y

unfoldable pub counted_of : Option (List (ℕ × Seh)) → code.Option (ℕ × Bool)
counted_of none = None
counted_of (some cs) = Some (length cs, has_frame cs)

-- there are n codes
pub record Held (r : Option (List (ℕ × Seh))) (n : ℕ) : Type 0 where
  pub codes : List (ℕ × Seh)
  pub are : r ≡ some codes
  pub many : n ≡ length codes

unfoldable pub stored_of : Option (List (ℕ × Seh)) → List ℕ → List ℕ
stored_of none old = old
stored_of (some cs) old = put old 0 (code_numbers cs)

-- ---- a record

-- a header, its two bytes, and its slots
pub record HeaderThere (bs : List ℕ) (end frame : ℕ) (slots : List ℕ) : Type 0 where
  pub ok : T (header_ok bs)
  pub ends : end ≡ get_or bs 1 0
  pub frames : frame ≡ get_or bs 3 0
  pub holds : slots ≡ slot_bytes_in bs

abbrev pub HeaderSays : List ℕ → ℕ → code.Option Header → Type 0
HeaderSays s p (Some h) = HeaderThere (drop p s) h.end h.frame h.slots.now
HeaderSays s p None = header_ok (drop p s) ≡ false

-- the numbers of a reading, in the order of include/dekvoz.h
abbrev pub read_numbers : X64Reading → List ℕ
read_numbers r = r.number ∷ r.end ∷ r.frame ∷ r.frame_register ∷ r.frame_offset ∷ r.codes ∷ []

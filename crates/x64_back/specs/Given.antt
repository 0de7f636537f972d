-- A function of direct codes, as the reader answers it where at most one of its codes sets the frame register.
use Rattle.std.specs.Prelude.{◌≡◌, ℕ, ◌+◌, ◌*◌, ◌≤◌, ◌<◌, List, [], ◌∷◌, length}
use Rattle.format.specs.Answers.{bit}
use Rattle.format.specs.Prelude.{good}
use Rattle.format.specs.Machine.{machine_of}
use Rattle.format.specs.Lists.{Prologue, function_stride, prologue_stride, code_stride, count, prologue_at}
use Rattle.format.specs.Questions.{Given, Answer, accepted, given_function}
use Rattle.format.specs.Writer.{Written}
use Rattle.format.specs.X64.{size64, codes_of, prologue_of}
use Rattle.format.specs.X64Reader.{Info, is_frame, info_numbers, codes_stored}
use Rattle.format.specs.declared.Seh.{Seh}
use Rattle.format.specs.declared.Seh.TheVariants.{Push, Alloc, Frame, Save}

-- how many codes set the frame register
unfoldable pub frame_codes : List (ℕ × Seh) → ℕ
frame_codes [] = 0
frame_codes (c ∷ cs) = bit (is_frame c.1) + frame_codes cs

-- the register and the offset of the frame code, both 0 without one
unfoldable pub or_frame_of : Seh → ℕ × ℕ → ℕ × ℕ
or_frame_of (Push reg) r = r
or_frame_of (Alloc z) r = r
or_frame_of (Frame reg z) r = (reg, size64 z)
or_frame_of (Save reg vector z) r = r

unfoldable pub frame_of : List (ℕ × Seh) → ℕ × ℕ
frame_of [] = (0, 0)
frame_of (c ∷ cs) = or_frame_of c.1 (frame_of cs)

unfoldable pub given : Prologue → Info
given p = record { end = p.end; register = (frame_of p.codes).0; offset = (frame_of p.codes).1; codes = p.codes }

-- what is read of a function with at most one frame code, as numbers, and its codes in a lent list that is long enough
abbrev pub ReadAsGiven : Prologue → (numbers old new : List ℕ) → Type 0
ReadAsGiven p ns old new =
    frame_codes p.codes ≤ 1 → code_stride * length p.codes ≤ length old
    → (ns ≡ info_numbers (good (given p))) × (new ≡ codes_stored (good (given p)) old)

-- what is read at function k's marker
abbrev pub ReadBack : (fs codes : List ℕ) → Answer → (k : ℕ) → (numbers old new : List ℕ) → Type 0
ReadBack fs codes a k ns old new =
    (w : Written) → a ≡ accepted w → k < count prologue_stride fs → ReadAsGiven (prologue_at fs codes k) ns old new

-- The same in COFF: function k's rows have codes, in which a pushed vector register is the integer one of its number (`code_for`), and these
-- are what is read.
pub record CodesBack (g : Given) (k : ℕ) (ns old new : List ℕ) : Type 0 where
  pub codes : List (ℕ × Seh)
  pub are : codes_of (machine_of g.machine) (given_function g k) ≡ good codes
  pub read : ReadAsGiven (prologue_of (given_function g k) codes) ns old new

abbrev pub RowsBack : Given → Answer → (k : ℕ) → (numbers old new : List ℕ) → Type 0
RowsBack g a k ns old new = (w : Written) → a ≡ accepted w → k < count function_stride g.functions → CodesBack g k ns old new

-- A function's record by its parts (Microsoft, "ARM64 exception handling", ".xdata records").
use Rattle.std.specs.Prelude.{◌≡◌, Bool, ◌&&◌, List, [], ◌++◌, ℕ, ◌+◌, ◌-◌, ◌*◌, ◌/◌, ◌^◌, ◌≤◌, ◌<◌, leb, eqb, length, replicate}
use Rattle.format.specs.Prelude.{pick}
use Rattle.format.specs.Lists.{field}
use Rattle.arm64.specs.Lists.{epilogue_stride}
use Rattle.arm64.specs.Writer.{instructions, nop_byte}
use Rattle.arm64.specs.Records.{only_in, count_in}
use Rattle.arm64_header.specs.Header.{header_of}
use Rattle.arm64_function.specs.declared.Parts.{Parts}
use Rattle.arm64_function.specs.declared.Shape.{Shape}
use Rattle.arm64_function.specs.Own.{Ready, Fitted, Started, codes_in, index_at, words_from, most_codes}

-- the parts of a function of `size` bytes, of which every question has been asked
pub record Whole (es cs : List ℕ) (p : Parts) (size : ℕ) : Type 0 where
  pub ready : Ready es cs p
  pub fitted : Fitted es cs p
  pub started : Started es p
  pub starts : (i : ℕ) → p.first ≤ i → i < p.end → field epilogue_stride es i 0 < size
  pub short : instructions size < 2 ^ 18
  pub few : p.end - p.first < 65536
  pub small : length (codes_in es cs p) ≤ most_codes

-- E
unfoldable pub single_at : (es cs : List ℕ) → Parts → (size : ℕ) → Bool
single_at es cs p size =
    eqb (p.end - p.first) 1
    && (eqb (instructions (size - field epilogue_stride es p.first 0)) (field epilogue_stride es p.first 2 + 1)
    && leb (index_at es cs p p.first) 31 && leb (length (codes_in es cs p)) 124)

-- the count's field
unfoldable pub count_at : (es cs : List ℕ) → Parts → (size : ℕ) → ℕ
count_at es cs p size = pick (single_at es cs p size) (index_at es cs p p.first) (p.end - p.first)

unfoldable pub words_at : (es cs : List ℕ) → Parts → ℕ
words_at es cs p = (length (codes_in es cs p) + 3) / 4

pub record Shaped (es cs : List ℕ) (p : Parts) (size : ℕ) (s : Shape) : Type 0 where
  pub is_only : only_in s.epilogues ≡ single_at es cs p size
  pub is_count : count_in s.epilogues ≡ count_at es cs p size
  pub is_codes : s.codes ≡ length (codes_in es cs p)
  pub few : count_in s.epilogues < 65536
  pub small : s.codes ≤ most_codes

unfoldable pub scopes_at : (es cs : List ℕ) → Parts → (single : Bool) → List ℕ
scopes_at es cs p single = pick single [] (words_from es cs p p.first (p.end - p.first))

unfoldable pub record_at : (es cs : List ℕ) → Parts → (size : ℕ) → List ℕ
record_at es cs p size =
    header_of (instructions size) (single_at es cs p size) (count_at es cs p size) (words_at es cs p)
    ++ (scopes_at es cs p (single_at es cs p size) ++ (codes_in es cs p ++ replicate (4 * words_at es cs p - length (codes_in es cs p)) nop_byte))

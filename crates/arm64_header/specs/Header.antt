-- The header of a full record by its numbers (Microsoft, "ARM64 exception handling", ".xdata records").
use Rattle.std.specs.Prelude.{ℕ, ◌+◌, ◌*◌, ◌^◌, Bool, ◌||◌, List, ◌++◌, leb, ltb}
use Rattle.format.specs.Prelude.{pick}
use Rattle.format.specs.Leb.{little}
use Rattle.arm64.specs.Records.{only_in, count_in}
use Rattle.arm64_header.specs.declared.Header.{Header}

-- the short form holds counts below 32 and 31 words of codes
unfoldable pub is_long_of : (count words : ℕ) → Bool
is_long_of count words = leb 32 count || ltb 31 words

-- the length in instructions, and E
unfoldable pub first_word : (size : ℕ) → (single : Bool) → ℕ
first_word size single = size + 2 ^ 21 * pick single 1 0

-- a function of `size` instructions; the count is of its epilogues or, with E, the index of the only one's codes
unfoldable pub header_of : (size : ℕ) → (single : Bool) → (count words : ℕ) → List ℕ
header_of size single count words =
    pick (is_long_of count words) (little 4 (first_word size single) ++ little 4 (count + 2 ^ 16 * words))
    (little 4 (first_word size single + 2 ^ 22 * count + 2 ^ 27 * words))

-- by the struct
abbrev pub header_by : Header → List ℕ
header_by h = header_of h.length (only_in h.epilogues) (count_in h.epilogues) h.words

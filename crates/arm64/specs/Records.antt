-- The full record in .xdata (Microsoft, "ARM64 exception handling", ".xdata records"): its header in both forms, the epilogues' words, the codes.
use Rattle.std.specs.Prelude.{ℕ, ◌+◌, ◌*◌, ◌/◌, ◌%◌, ◌^◌, Bool, true, false, ◌&&◌, List, length, get_or, take, drop, leb, eqb}
use Rattle.format.specs.Prelude.{pick}
use Rattle.arm64.specs.declared.Epilogues.{Epilogues}
use Rattle.arm64.specs.declared.Epilogues.TheVariants.{Single, Scoped}
use Rattle.arm64.specs.declared.Header.{Header}

-- the word at p, the lowest byte first
unfoldable pub word_at : List ℕ → ℕ → ℕ
word_at s p = get_or s p 0 + 256 * get_or s (p + 1) 0 + 65536 * get_or s (p + 2) 0 + 16777216 * get_or s (p + 3) 0

-- ---- the header

-- E, and the count's field, which is with E the index of the only epilogue's codes
abbrev pub only_in : Epilogues → Bool
only_in (Single index) = true
only_in (Scoped count) = false

abbrev pub count_in : Epilogues → ℕ
count_in (Single index) = index
count_in (Scoped count) = count

-- version, 2 bits behind the length's 18
unfoldable pub version_of : ℕ → ℕ
version_of w = w / 2 ^ 18 % 4

-- the long form: both counts of the first word, 10 bits in all, are 0
unfoldable pub is_long : ℕ → Bool
is_long w = eqb (w / 2 ^ 22) 0

abbrev pub epilogues_with : (w count : ℕ) → Epilogues
epilogues_with w count = pick (eqb (w / 2 ^ 21 % 2) 1) (Single count) (Scoped count)

-- the first word in both forms: length 18 bits, version 2, X 1, E 1
unfoldable pub header_with : (w count words past : ℕ) → Header
header_with w count words past =
    record {
      length = w % 2 ^ 18;
      handler = eqb (w / 2 ^ 20 % 2) 1;
      epilogues = epilogues_with w count;
      words = words;
      past = past;
    }

-- behind it epilogues 5 bits, words 5
unfoldable pub short_header : (w past : ℕ) → Header
short_header w past = header_with w (w / 2 ^ 22 % 32) (w / 2 ^ 27) past

-- a second word v: epilogues 16 bits, words 8, and 8 that are not looked at
unfoldable pub long_header : (w v past : ℕ) → Header
long_header w v past = header_with w (v % 2 ^ 16) (v / 2 ^ 16 % 256) past

unfoldable pub header_at : List ℕ → ℕ → Header
header_at s p = pick (is_long (word_at s p)) (long_header (word_at s p) (word_at s (p + 4)) (p + 8)) (short_header (word_at s p) (p + 4))

-- ---- behind the header

-- the epilogues' words: none where E is set
abbrev pub words_for : Epilogues → ℕ
words_for (Single index) = 0
words_for (Scoped count) = count

unfoldable pub scopes_in : Header → ℕ
scopes_in h = words_for h.epilogues

-- where the codes start and end; behind them the handler's word, where X is set
unfoldable pub codes_from : Header → ℕ
codes_from h = h.past + 4 * scopes_in h

unfoldable pub codes_to : Header → ℕ
codes_to h = codes_from h + 4 * h.words

-- the parts that the header names lie inside
unfoldable pub header_fits : Header → (size : ℕ) → Bool
header_fits h size = leb (codes_to h + pick h.handler 4 0) size

-- a record at p: version 0, and no part past the end
unfoldable pub record_ok : List ℕ → ℕ → Bool
record_ok s p = leb (p + 4) (length s) && eqb (version_of (word_at s p)) 0 && header_fits (header_at s p) (length s)

-- the bytes of the codes
unfoldable pub codes_of : Header → List ℕ → List ℕ
codes_of h s = take (4 * h.words) (drop (codes_from h) s)

-- an epilogue's word: start 18 bits, in instructions, 4 bits that are not looked at, index of its codes 10
unfoldable pub scope_start : ℕ → ℕ
scope_start w = w % 2 ^ 18

unfoldable pub scope_index : ℕ → ℕ
scope_index w = w / 2 ^ 22

-- the word of epilogue k
unfoldable pub scope_at : Header → List ℕ → ℕ → ℕ
scope_at h s k = word_at s (h.past + 4 * k)

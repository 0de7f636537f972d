-- A record's header where there is one, and its epilogues counted and stored.
use Rattle.std.specs.Prelude.{◌≡◌, ℕ, ◌+◌, ◌*◌, ◌≤◌, ◌<◌, List, [], ◌∷◌, length, leb}
use Rattle.std.proofs.Math.Option.{Option, none, some}
use Rattle.format.specs.Prelude.{pick}
use Rattle.arm64.specs.declared.Epilogues.{Epilogues}
use Rattle.arm64.specs.declared.Epilogues.TheVariants.{Single, Scoped}
use Rattle.arm64.specs.declared.Header.{Header}
use Rattle.format.specs.Put.{put}
use Rattle.format.proofs.Wrote.{Wrote}
use Rattle.arm64.specs.declared.Code.{Code}
use Rattle.arm64.specs.Lists.{Epilogue, epilogue_numbers, code_numbers}
use Rattle.arm64.specs.Records.{count_in, word_at, record_ok, header_fits, header_at, codes_to}
use Rattle.arm64.specs.Reader.{epilogue_codes}

-- the word at p, where it lies inside
unfoldable pub word_there : List ℕ → ℕ → Option ℕ
word_there s p = pick (leb (p + 4) (length s)) (some (word_at s p)) none

-- a header whose parts lie inside `size` bytes
unfoldable pub fitting : (size : ℕ) → Header → Option Header
fitting size h = pick (header_fits h size) (some h) none

-- the header of the record at p
unfoldable pub headed_at : List ℕ → ℕ → Option Header
headed_at s p = pick (record_ok s p) (some (header_at s p)) none

-- the numbers of a header are those of its fields
pub record Narrow (h : Header) : Type 0 where
  pub low_length : h.length < 262144
  pub low_count : count_in h.epilogues < 65536
  pub low_words : h.words < 256

-- a header that was read: its fields, and its parts inside
pub record Inside (s : List ℕ) (h : Header) : Type 0 where
  pub narrow : Narrow h
  pub ends : codes_to h ≤ length s

-- the words from `past` on
unfoldable pub words_from : (past : ℕ) → List ℕ → ℕ → ℕ
words_from past s k = word_at s (past + 4 * k)

-- how many codes epilogues have in all
unfoldable pub total_of : Option (List Epilogue) → Option ℕ
total_of none = none
total_of (some es) = some (length (epilogue_codes es))

unfoldable pub epilogues_in : Option (List Epilogue) → List Epilogue
epilogues_in none = []
epilogues_in (some es) = es

-- how many epilogues a record has
abbrev pub many_in : Epilogues → ℕ
many_in (Single index) = 1
many_in (Scoped count) = count

unfoldable pub how_many : Header → ℕ
how_many h = many_in h.epilogues

-- what a writer of epilogues does: their numbers at the front of one list, and their codes behind n codes of the other
pub record Listed (es es' cs cs' : List ℕ) (n : ℕ) (all : List Epilogue) : Type 0 where
  pub numbers : es' ≡ put es 0 (epilogue_numbers n all)
  pub codes : cs' ≡ put cs (3 * n) (code_numbers (epilogue_codes all))

-- what a writer of one epilogue does: its three numbers in place k, and its codes behind `at` codes
pub record Placed (es es' cs cs' : List ℕ) (k at r start : ℕ) (run : List Code) : Type 0 where
  pub behind : r ≡ at + length run
  pub numbers : Wrote es es' (3 * k) (3 * (k + 1)) (start ∷ at ∷ length run ∷ [])
  pub codes : Wrote cs cs' (3 * at) (3 * r) (code_numbers run)

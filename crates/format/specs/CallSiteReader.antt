-- Call sites read (Itanium C++ ABI, exception handling tables, "LSDA"): the entries of the table at a place, and the first that covers an offset.
use Rattle.std.specs.Prelude.{ℕ, zero, suc, ◌+◌, ◌^◌, Bool, false, ◌&&◌, List, [], ◌∷◌, ◌++◌, length, drop, leb, ltb, eqb}
use Rattle.std.proofs.Math.Option.{Option, none, some}
use Rattle.format.specs.Prelude.{pick, Read, next, after, Result, good, bad, onward, or_else, first}
use Rattle.format.specs.Constants.{DW_EH_PE_omit, DW_EH_PE_uleb128}
use Rattle.format.specs.Leb.{read_uleb}
use Rattle.format.specs.Lists.{Landing}
use Rattle.format.specs.Answers.{bit}
use Rattle.format.specs.Reader.{read_counted}
use Rattle.format.specs.Shortest.{unsigned, numbers_short, every_short}

-- ---- one entry: start, length and pad, and any action; start plus length has 64 bits

unfoldable pub site_of : (start size pad : ℕ) → Landing
site_of start size pad = record { start = start; size = size; pad = pad }

unfoldable pub read_site : List ℕ → Read Landing
read_site bs =
    next (read_uleb bs) λ start b₁. next (read_uleb b₁) λ size b₂. next (read_uleb b₂) λ pad b₃. next (read_uleb b₃) λ action rest.
    pick (ltb (start + size) (2 ^ 64)) (some (site_of start size pad, rest)) none

-- ---- the entries of a table, all of whose bytes belong to them (72)

-- at most f - 1 entries
unfoldable pub read_sites_f : ℕ → List ℕ → Option (List Landing)
read_sites_f zero bs = none
read_sites_f (suc f) [] = some []
read_sites_f (suc f) (b ∷ bs) = next (read_site (b ∷ bs)) λ l rest. after (read_sites_f f rest) λ ls. some (l ∷ ls)

-- each is longer than one byte, so the length is fuel enough
unfoldable pub read_sites : List ℕ → Option (List Landing)
read_sites bs = read_sites_f (suc (length bs)) bs

-- ---- a table (71): no landing pad base, no type table, numbers as ULEB; the length of its entries, and as many bytes

unfoldable pub head_ok : (base types encoding : ℕ) → Bool
head_ok base types encoding = eqb base DW_EH_PE_omit && eqb types DW_EH_PE_omit && eqb encoding DW_EH_PE_uleb128

-- the bytes of its entries
unfoldable pub read_table : List ℕ → Option (List ℕ)
read_table [] = none
read_table (a ∷ []) = none
read_table (a ∷ b ∷ []) = none
read_table (a ∷ b ∷ c ∷ bs) = pick (head_ok a b c) (next (read_counted bs) λ es rest. some es) none

-- the entries of the table at a place of the exception bytes; nothing stands at a place outside them
unfoldable pub sites_at : List ℕ → (place : ℕ) → Result (List Landing)
sites_at s place = onward (or_else (read_table (drop place s)) 71) λ bs. or_else (read_sites bs) 72

-- ---- an offset

-- start at most the offset, and the offset below start plus length
unfoldable pub covers : (offset : ℕ) → Landing → Bool
covers offset l = leb l.start offset && ltb offset (l.start + l.size)

-- the first entry in table order that covers the offset, or none
unfoldable pub site_at : List ℕ → (place offset : ℕ) → Result (Option Landing)
site_at s place offset = onward (sites_at s place) λ ls. good (first (covers offset) ls)

-- ---- whether every number of a table is spelled shortest (document 02, W-206): its length behind the three bytes of its head, and its entries'

unfoldable pub entries_short : Option (List ℕ) → Bool
entries_short none = false
entries_short (some bs) = every_short bs

unfoldable pub sites_short : List ℕ → (place : ℕ) → Bool
sites_short s place = numbers_short (unsigned ∷ []) (drop 3 (drop place s)) && entries_short (read_table (drop place s))

-- ---- as numbers: number (0: answered), found (0: no entry covers the offset), start, length and pad

unfoldable pub site_numbers : Option Landing → List ℕ
site_numbers none = 0 ∷ 0 ∷ 0 ∷ 0 ∷ 0 ∷ []
site_numbers (some l) = 0 ∷ 1 ∷ l.start ∷ l.size ∷ l.pad ∷ []

-- what the reader of call sites answers: the question's number with zeros, or the site
unfoldable pub answer_numbers : Result (Option Landing) → List ℕ
answer_numbers (bad n) = n ∷ 0 ∷ 0 ∷ 0 ∷ 0 ∷ []
answer_numbers (good o) = site_numbers o

-- and last whether every number of the table is spelled shortest, 0 on a refusal
unfoldable pub site_mark : Result (Option Landing) → Bool → ℕ
site_mark (bad n) shortest = 0
site_mark (good o) shortest = bit shortest

unfoldable pub marked_site : Result (Option Landing) → (shortest : Bool) → List ℕ
marked_site r shortest = answer_numbers r ++ (site_mark r shortest ∷ [])

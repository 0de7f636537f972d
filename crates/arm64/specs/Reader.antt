-- The reader: from an entry's second word and, where that is not packed, the record at a place, to the length, the prologue's codes and the epilogues.
-- 76: a part past the end, or a version other than 0. 77: a reserved flag, a packed word that is not defined, an incomplete code, a run without its end,
-- an epilogue that starts before the function, a code that `describe` never writes. 54: a lent list is too short; asked last.
use Rattle.std.specs.Prelude.{ℕ, zero, suc, ◌-◌, ◌*◌, ◌%◌, ◌^◌, ◌&&◌, List, [], ◌∷◌, ◌++◌, length, leb, ltb, eqb}
use Rattle.std.proofs.Math.Option.{Option, none, some}
use Rattle.format.specs.Prelude.{pick, after, Result, good, bad, onward, or_else}
use Rattle.format.specs.Lists.{count}
use Rattle.format.specs.Put.{put}
use Rattle.arm64.specs.declared.Code.{Code}
use Rattle.arm64.specs.declared.Epilogues.{Epilogues}
use Rattle.arm64.specs.declared.Epilogues.TheVariants.{Single, Scoped}
use Rattle.arm64.specs.declared.Header.{Header}
use Rattle.arm64.specs.declared.Packed.{Packed}
use Rattle.arm64.specs.declared.Arm64Reading.{Arm64Reading}
use Rattle.arm64.specs.Codes.{code_at, k_end}
use Rattle.arm64.specs.Lists.{Epilogue, epilogue_stride, code_stride, code_numbers, epilogue_numbers}
use Rattle.arm64.specs.Records.{header_at, record_ok, codes_of, scope_start, scope_index, scope_at}
use Rattle.arm64.specs.Packed.{packed_of, packed_ok, packed_prologue, packed_epilogue}
use Rattle.arm64.specs.Meaning.{reverse}

-- what an entry says of its function: its length in bytes, the prologue's codes and the epilogues, all in the order of the instructions
pub record Unwound : Type 0 where
  pub size : ℕ
  pub prologue : List Code
  pub epilogues : List Epilogue

-- ---- a run of codes, up to its end

unfoldable pub in_front : {A : Type 0} → A → Option (List A) → Option (List A)
in_front c none = none
in_front c (some cs) = some (c ∷ cs)

-- from p on; a code has a byte at least, so the list's length is fuel enough
unfoldable pub run_f : ℕ → List ℕ → ℕ → Option (List Code)
run_f zero s p = none
run_f (suc f) s p = after (code_at s p) λ t. pick (eqb t.0.kind k_end) (some []) (in_front t.0 (run_f f s t.1))

unfoldable pub run_at : List ℕ → ℕ → Option (List Code)
run_at s p = run_f (suc (length s)) s p

-- ---- epilogues

unfoldable pub epilogue : (start : ℕ) → List Code → Epilogue
epilogue start cs = record { start = start; codes = cs }

-- at the end of a function of `size` instructions: its codes' instructions and a ret are the last ones
unfoldable pub at_end : (size : ℕ) → List Code → Option (List Epilogue)
at_end size cs = pick (ltb (length cs) size) (some (epilogue (4 * (size - suc (length cs))) cs ∷ [])) none

-- n epilogues from the k-th on, each by its word: the start in instructions, and the index of its run
unfoldable pub scoped : (word : ℕ → ℕ) → (codes : List ℕ) → (k n : ℕ) → Option (List Epilogue)
scoped word codes k zero = some []
scoped word codes k (suc n) =
    after (run_at codes (scope_index (word k))) λ cs. in_front (epilogue (4 * scope_start (word k)) cs) (scoped word codes (suc k) n)

-- one at the end, where E is set, or as many as the count says
abbrev pub epilogues_by : Epilogues → Header → List ℕ → Option (List Epilogue)
epilogues_by (Single index) h s = after (run_at (codes_of h s) index) (at_end h.length)
epilogues_by (Scoped count) h s = scoped (scope_at h s) (codes_of h s) 0 count

unfoldable pub record_epilogues : Header → List ℕ → Option (List Epilogue)
record_epilogues h s = epilogues_by h.epilogues h s

-- ---- the two forms

unfoldable pub unwound : (size : ℕ) → List Code → List Epilogue → Unwound
unwound size p es = record { size = 4 * size; prologue = p; epilogues = es }

-- the prologue's run stands last instruction first, at index 0
unfoldable pub record_unwound : Header → List ℕ → Option Unwound
record_unwound h s =
    after (run_at (codes_of h s) 0) λ p. after (record_epilogues h s) λ es. some (unwound h.length (reverse p) es)

unfoldable pub full_record : List ℕ → ℕ → Result Unwound
full_record s p = pick (record_ok s p) (or_else (record_unwound (header_at s p) s) 77) (bad 76)

-- a fragment (flag 2) has no epilogue
unfoldable pub packed_epilogues : Packed → Option (List Epilogue)
packed_epilogues p = pick (eqb p.flag 2) (some []) (at_end p.length (packed_epilogue p))

unfoldable pub packed_unwound : Packed → Option Unwound
packed_unwound p = pick (packed_ok p) (after (packed_epilogues p) λ es. some (unwound p.length (packed_prologue p) es)) none

-- the low two bits: 0 a record, 1 and 2 packed, 3 reserved; a packed word has 32 bits
unfoldable pub unwound_by : (word : ℕ) → List ℕ → (place : ℕ) → Result Unwound
unwound_by word s place =
    pick (eqb (word % 4) 0) (full_record s place)
    (pick (eqb (word % 4) 3) (bad 77) (pick (ltb word (2 ^ 32)) (or_else (packed_unwound (packed_of word)) 77) (bad 77)))

-- ---- the answer, and the lent lists

-- the codes of the epilogues, one run behind the other
unfoldable pub epilogue_codes : List Epilogue → List Code
epilogue_codes [] = []
epilogue_codes (e ∷ es) = e.codes ++ epilogue_codes es

unfoldable pub all_codes : Unwound → List Code
all_codes u = u.prologue ++ epilogue_codes u.epilogues

unfoldable pub fits_in : (es cs : List ℕ) → Unwound → Result Unwound
fits_in es cs u =
    pick (leb (length u.epilogues) (count epilogue_stride es) && leb (length (all_codes u)) (count code_stride cs)) (good u) (bad 54)

unfoldable pub read_arm64 : (word : ℕ) → List ℕ → (place : ℕ) → (es cs : List ℕ) → Result Unwound
read_arm64 word s place es cs = onward (unwound_by word s place) (fits_in es cs)

unfoldable pub reading_of : Result Unwound → Arm64Reading
reading_of (bad n) = record { number = n; length = 0; prologue = 0; epilogues = 0; codes = 0 }
reading_of (good u) =
    record {
      number = 0;
      length = u.size;
      prologue = length u.prologue;
      epilogues = length u.epilogues;
      codes = length (all_codes u);
    }

-- the lent lists afterwards: as they were on a refusal
unfoldable pub epilogues_after : List ℕ → Result Unwound → List ℕ
epilogues_after es (bad n) = es
epilogues_after es (good u) = put es 0 (epilogue_numbers (length u.prologue) u.epilogues)

unfoldable pub codes_after : List ℕ → Result Unwound → List ℕ
codes_after cs (bad n) = cs
codes_after cs (good u) = put cs 0 (code_numbers (all_codes u))

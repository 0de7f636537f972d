-- The writer: a row of .pdata for each function and, where that is not packed, its record in .xdata (Microsoft, "ARM64 exception handling"; `describe`
-- and `table` of the source). 13: counts, ranges, symbols, kinds, absent operands. Then function by function 81: the length; 82: the epilogues' starts;
-- 83: values that no field holds. Then 51 to 54.
use Rattle.std.specs.Prelude.{ℕ, ◌+◌, ◌-◌, ◌*◌, ◌/◌, ◌%◌, ◌^◌, Bool, false, ◌&&◌, ◌||◌, List, [], ◌∷◌, ◌++◌, map, length, replicate, leb, ltb, eqb}
use Rattle.format.specs.Prelude.{pick, all}
use Rattle.format.specs.Constants.{image_reloc}
use Rattle.format.specs.Leb.{little}
use Rattle.format.specs.Lists.{Relocation, field, count, inside, symbol_ok, all_in, sum_of, most_functions, most_records}
use Rattle.format.specs.Headers.{reloc}
use Rattle.format.specs.X64.{marker}
use Rattle.format.specs.Writer.{Written}
use Rattle.format.specs.Questions.{Question, ask, and_then, per_function, Room, Answer, empty, unless, fitting}
use Rattle.arm64.specs.declared.Code.{Code}
use Rattle.arm64.specs.Codes.{k_regp, k_freg_x, k_add_fp, k_pac_sign_lr}
use Rattle.arm64.specs.Lists.{Epilogue, Function, function_stride, epilogue_stride, code_stride, functions_of}
use Rattle.arm64.specs.Meaning.{reverse}
use Rattle.arm64.specs.Runs.{no_pair, simplify, run_fits, run_bytes, leads, own_runs, runs_bytes, index_of}
use Rattle.arm64.specs.Packing.{candidate, packed_word, stands_for}

-- ---- question 13

unfoldable pub has_register : ℕ → Bool
has_register kind = leb k_regp kind && leb kind k_freg_x

unfoldable pub has_offset : ℕ → Bool
has_offset kind = leb kind k_freg_x || eqb kind k_add_fp

-- an operand that the kind does not have is 0
unfoldable pub code_ok : (kind register offset : ℕ) → Bool
code_ok kind register offset = leb kind k_pac_sign_lr && (has_register kind || eqb register 0) && (has_offset kind || eqb offset 0)

unfoldable pub code_ok_at : List ℕ → ℕ → Bool
code_ok_at cs i = code_ok (field code_stride cs i 0) (field code_stride cs i 1) (field code_stride cs i 2)

unfoldable pub codes_ok_in : List ℕ → (at n : ℕ) → Bool
codes_ok_in cs at n = inside at n (count code_stride cs) && all_in (code_ok_at cs) at n

unfoldable pub epilogue_ok_at : (es cs : List ℕ) → ℕ → Bool
epilogue_ok_at es cs i = codes_ok_in cs (field epilogue_stride es i 1) (field epilogue_stride es i 2)

unfoldable pub function_ok_at : (fs es cs : List ℕ) → ℕ → Bool
function_ok_at fs es cs k =
    let f : ℕ → ℕ = λ j. field function_stride fs k j in
    symbol_ok (f 0) && codes_ok_in cs (f 2) (f 3) && inside (f 4) (f 5) (count epilogue_stride es) && all_in (epilogue_ok_at es cs) (f 4) (f 5)

-- the codes of function k, its epilogues' with them
unfoldable pub codes_in : (fs es : List ℕ) → ℕ → ℕ
codes_in fs es k =
    field function_stride fs k 3 + sum_of (λ i. field epilogue_stride es i 2) (field function_stride fs k 4) (field function_stride fs k 5)

unfoldable pub lists_ok : (fs es cs : List ℕ) → Bool
lists_ok fs es cs =
    let n : ℕ = count function_stride fs in
    leb n most_functions && leb (sum_of (λ k. field function_stride fs k 5) 0 n) most_records && leb (sum_of (codes_in fs es) 0 n) most_records
    && all_in (function_ok_at fs es cs) 0 n

-- ---- a function as it is written

-- the runs in the order in which they save
unfoldable pub prologue_run : Function → List Code
prologue_run f = simplify no_pair f.prologue

unfoldable pub epilogue_run : Epilogue → List Code
epilogue_run e = simplify no_pair (reverse e.codes)

unfoldable pub epilogue_runs : Function → List (List Code)
epilogue_runs f = map epilogue_run f.epilogues

unfoldable pub own_of : Function → List (List Code)
own_of f = own_runs (prologue_run f) [] (epilogue_runs f)

unfoldable pub codes_of : Function → List ℕ
codes_of f = run_bytes (prologue_run f) ++ runs_bytes (own_of f)

unfoldable pub index_in : Function → Epilogue → ℕ
index_in f e = index_of (prologue_run f) (own_of f) (epilogue_run e)

-- in instructions
unfoldable pub instructions : ℕ → ℕ
instructions bytes = bytes / 4

-- E: its instructions and a ret are the function's last, and the short header holds its index and the words of codes
unfoldable pub ends_with : Function → Epilogue → Bool
ends_with f e =
    eqb (instructions (f.size - e.start)) (length e.codes + 1) && leb (index_in f e) 31 && leb (length (codes_of f)) 124

-- an only epilogue, by a test of it
unfoldable pub only_one : (Epilogue → Bool) → List Epilogue → Bool
only_one test [] = false
only_one test (e ∷ []) = test e
only_one test (e ∷ d ∷ es) = false

unfoldable pub single : Function → Bool
single f = only_one (ends_with f) f.epilogues

-- the count's field: with E the index of the only epilogue
unfoldable pub first_index : Function → List Epilogue → ℕ
first_index f [] = 0
first_index f (e ∷ es) = index_in f e

unfoldable pub count_of : Function → ℕ
count_of f = pick (single f) (first_index f f.epilogues) (length f.epilogues)

unfoldable pub words_of : Function → ℕ
words_of f = (length (codes_of f) + 3) / 4

-- ---- packed: E is set, the epilogue shares the prologue's codes, and a word stands for both

unfoldable pub packed_for : Function → Epilogue → Bool
packed_for f e =
    ends_with f e && leads (epilogue_run e) (prologue_run f)
    && stands_for (candidate (instructions f.size) (prologue_run f)) (prologue_run f) (epilogue_run e)

unfoldable pub is_packed : Function → Bool
is_packed f = only_one (packed_for f) f.epilogues

-- ---- the full record

-- the short form holds counts below 32 and 124 bytes of codes
unfoldable pub is_long_for : Function → Bool
is_long_for f = leb 32 (count_of f) || ltb 124 (length (codes_of f))

unfoldable pub header_word : Function → ℕ
header_word f = instructions f.size + 2 ^ 21 * pick (single f) 1 0

unfoldable pub header_bytes : Function → List ℕ
header_bytes f =
    pick (is_long_for f) (little 4 (header_word f) ++ little 4 (count_of f + 2 ^ 16 * words_of f))
    (little 4 (header_word f + 2 ^ 22 * count_of f + 2 ^ 27 * words_of f))

-- an epilogue's word: its start in instructions, and its index
unfoldable pub scope_bytes : Function → List Epilogue → List ℕ
scope_bytes f [] = []
scope_bytes f (e ∷ es) = little 4 (instructions e.start + 2 ^ 22 * index_in f e) ++ scope_bytes f es

unfoldable pub scopes_of : Function → List ℕ
scopes_of f = pick (single f) [] (scope_bytes f f.epilogues)

-- codes are padded to words with nop
abbrev pub nop_byte : ℕ
nop_byte = 0xe3

unfoldable pub record_bytes : Function → List ℕ
record_bytes f = header_bytes f ++ (scopes_of f ++ (codes_of f ++ replicate (4 * words_of f - length (codes_of f)) nop_byte))

-- ---- questions 81 to 83

-- the most instructions that a header counts (LONGEST)
abbrev pub longest : ℕ
longest = 2 ^ 18 - 1

unfoldable pub size_ok : Function → Bool
size_ok f = eqb (f.size % 4) 0 && leb (instructions f.size) longest

unfoldable pub start_ok : Function → Epilogue → Bool
start_ok f e = eqb (e.start % 4) 0 && ltb e.start f.size

unfoldable pub values_ok : Function → Bool
values_ok f =
    run_fits no_pair f.prologue && all (λ e. run_fits no_pair (reverse e.codes)) f.epilogues && ltb (count_of f) (2 ^ 16)
    && ltb (words_of f) (2 ^ 8)

unfoldable pub function_asks : ℕ → Function → Question
function_asks k f =
    and_then (ask (size_ok f) 81 0) (and_then (ask (all (start_ok f) f.epilogues) 82 0) (ask (values_ok f) 83 0))

-- ---- the table

-- a row of .pdata: the function's start, and the packed word or the place of the record
unfoldable pub row_bytes : Function → List ℕ
row_bytes f = little 4 0 ++ little 4 (pick (is_packed f) (packed_word (candidate (instructions f.size) (prologue_run f))) 0)

unfoldable pub row_relocs : (at : ℕ) → Function → List Relocation
row_relocs at f = reloc at f.symbol image_reloc 4 0 ∷ pick (is_packed f) [] (reloc (at + 4) (marker f.symbol) image_reloc 4 0 ∷ [])

unfoldable pub info_of : Function → List ℕ
info_of f = pick (is_packed f) [] (record_bytes f)

-- the marker of a packed function
abbrev pub no_record : ℕ
no_record = 2 ^ 64 - 1

unfoldable pub markers_from : (at : ℕ) → List Function → List ℕ
markers_from at [] = []
markers_from at (f ∷ fs) = pick (is_packed f) no_record at ∷ markers_from (at + length (info_of f)) fs

unfoldable pub rows_of : List Function → List ℕ
rows_of [] = []
rows_of (f ∷ fs) = row_bytes f ++ rows_of fs

unfoldable pub relocs_from : (at : ℕ) → List Function → List Relocation
relocs_from at [] = []
relocs_from at (f ∷ fs) = row_relocs at f ++ relocs_from (at + 8) fs

unfoldable pub infos_of : List Function → List ℕ
infos_of [] = []
infos_of (f ∷ fs) = info_of f ++ infos_of fs

unfoldable pub arm64 : List Function → Written
arm64 fs = record { places = markers_from 0 fs; bytes = rows_of fs; relocations = relocs_from 0 fs; sites = infos_of fs }

-- an empty list is an empty result before any question
unfoldable pub arm64_answer : (fs es cs : List ℕ) → Room → Answer
arm64_answer fs es cs r =
    pick (eqb (count function_stride fs) 0) empty
    (unless (ask (lists_ok fs es cs) 13 0)
    (unless (per_function function_asks 0 (functions_of fs es cs)) (fitting r (arm64 (functions_of fs es cs)))))

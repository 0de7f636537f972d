-- The questions in their order, with the number and the position of a no, and what each entry answers (document 01, "Questions, in order, and the number for a no").
use Rattle.std.specs.Prelude.{ℕ, suc, ◌-◌, ◌*◌, ◌^◌, Bool, true, false, not, ◌&&◌, ◌||◌, List, [], ◌∷◌, map, length, leb, ltb, eqb}
use Rattle.std.proofs.Math.Option.{Option, none, some}
use Rattle.format.specs.Prelude.{pick, Result, good, bad, onward, all}
use Rattle.format.specs.Constants.{elf, coff, mach_o, plan9}
use Rattle.format.specs.declared.Machine.{Machine}
use Rattle.format.specs.Machine.{machine_of, machine_ok}
use Rattle.format.specs.Rows.{RowAt, row_whole}
use Rattle.format.specs.Lists.{Function, Named, Pointer, Landing, Relaxed, Prologue, function_stride, prologue_stride, count, function_at, functions_of, prologues_of, lists_ok, codes_ok}
use Rattle.format.specs.Headers.{pointer_size}
use Rattle.format.specs.declared.Section.{Section}
use Rattle.format.specs.declared.Section.TheVariants.{Elf, Debug}
use Rattle.format.specs.Writer.{Written, dwarf, taken}
use Rattle.format.specs.X64.{codes_of, prologue_of, prologue_no, x64}

-- a question: nothing where the answer is yes, else the number and the function's position
abbrev pub Question : Type 0
Question = Option (ℕ × ℕ)

unfoldable pub ask : Bool → (number position : ℕ) → Question
ask test number position = pick test none (some (number, position))

-- one question after the other
unfoldable pub and_then : Question → Question → Question
and_then none q = q
and_then (some r) q = some r

-- function by function, from position `at`
unfoldable pub per_function : {A : Type 0} → (ℕ → A → Question) → ℕ → List A → Question
per_function f at [] = none
per_function f at (x ∷ xs) = and_then (f at x) (per_function f (suc at) xs)

-- ---- DWARF: 21 to 25

-- 21: the bytes of the length field
unfoldable pub size_bytes : Section → ℕ → ℕ
size_bytes Elf word = 4
size_bytes Debug word = word

-- 22: the encodings that are used
unfoldable pub is_some : {A : Type 0} → Option A → Bool
is_some none = false
is_some (some a) = true

unfoldable pub lsda_ok : ℕ → Option Pointer → Bool
lsda_ok word none = true
lsda_ok word (some p) = is_some (pointer_size false word p.encoding)

unfoldable pub named_ok : ℕ → Option Named → Bool
named_ok word none = true
named_ok word (some n) = is_some (pointer_size true word n.personality.encoding) && lsda_ok word n.lsda

unfoldable pub encodings_ok : ℕ → List Landing → Option Named → Bool
encodings_ok word [] n = named_ok word n
encodings_ok word (l ∷ ls) n = true

-- 23: no row goes back, nor steps above 2^32 - 1
unfoldable pub steps_ok : ℕ → List RowAt → Bool
steps_ok at [] = true
steps_ok at (x ∷ xs) = leb at x.0 && ltb (x.0 - at) (2 ^ 32) && steps_ok x.0 xs

-- 25: the two places of each pair are different
unfoldable pub pairs_ok : Option Relaxed → Bool
pairs_ok none = true
pairs_ok (some r) = all (λ p. not (eqb p.place1 p.place2)) r.pairs

-- the questions of one function, as the section takes it
unfoldable pub dwarf_asks : Section → ℕ → ℕ → Function → Question
dwarf_asks s word k f =
    and_then (ask (ltb f.size (256 ^ size_bytes s word)) 21 k)
    (and_then (ask (encodings_ok word f.landings f.named) 22 k)
    (and_then (ask (steps_ok 0 f.rows) 23 k)
    (and_then (ask (all (λ x. row_whole word x.1) f.rows) 24 k) (ask (pairs_ok f.relaxed) 25 k))))

-- ---- x64: 21, then 31 to 34 by groups, then 34 to 41 by codes

-- the prologues of the functions from position `at`, or the number and position of the first no of 31 to 34
pub data Prologues : Type 0 where
  made : List Prologue → Prologues
  stopped : (number position : ℕ) → Prologues

unfoldable pub made_one : ℕ → Result Prologue → Prologues → Prologues
made_one at (bad n) ps = stopped n at
made_one at (good p) (made ps) = made (p ∷ ps)
made_one at (good p) (stopped n k) = stopped n k

unfoldable pub prologues_for : Machine → ℕ → List Function → Prologues
prologues_for m at [] = made []
prologues_for m at (f ∷ fs) = made_one at (onward (codes_of m f) λ cs. good (prologue_of f cs)) (prologues_for m (suc at) fs)

unfoldable pub no_at : ℕ → Option ℕ → Question
no_at k none = none
no_at k (some n) = some (n, k)

unfoldable pub code_asks : List Prologue → Question
code_asks ps = per_function (λ k p. no_at k (prologue_no p.end p.codes)) 0 ps

-- ---- room: 51 to 54, in the elements of the lent lists; five numbers are a relocation

pub record Room : Type 0 where
  pub places : ℕ
  pub bytes : ℕ
  pub relocations : ℕ
  pub sites : ℕ

-- the room of four lent lists
abbrev pub room_in : (places bytes relocations sites : List ℕ) → Room
room_in places bytes relocations sites =
    record { places = length places; bytes = length bytes; relocations = length relocations; sites = length sites }

unfoldable pub room_asks : Room → Written → Question
room_asks r w =
    and_then (ask (leb (length w.places) r.places) 51 0)
    (and_then (ask (leb (length w.bytes) r.bytes) 52 0)
    (and_then (ask (leb (5 * length w.relocations) r.relocations) 53 0) (ask (leb (length w.sites) r.sites) 54 0)))

-- ---- what the entries answer

-- what a writer answers: a refusal's number and position, the empty result of a list or a format that has no table, or what was written
pub data Answer : Type 0 where
  refused : (number position : ℕ) → Answer
  empty : Answer
  accepted : Written → Answer

-- an answer where every question was answered by yes
unfoldable pub unless : Question → Answer → Answer
unless none a = a
unless (some r) a = refused r.0 r.1

-- what was written where it fits
unfoldable pub fitting : Room → Written → Answer
fitting r w = unless (room_asks r w) (accepted w)

unfoldable pub dwarf_answer : Section → Machine → List Function → Room → Answer
dwarf_answer s m fs r = unless (per_function (dwarf_asks s m.word) 0 (map (taken s) fs)) (fitting r (dwarf s m fs))

unfoldable pub codes_answer : List Prologue → Room → Answer
codes_answer ps r = unless (code_asks ps) (fitting r (x64 ps))

unfoldable pub prologues_answer : Prologues → Room → Answer
prologues_answer (stopped n k) r = refused n k
prologues_answer (made ps) r = codes_answer ps r

-- x64, 21: lengths below 2^32, asked of the whole list before any other
unfoldable pub short_ones : {A : Type 0} → (A → ℕ) → List A → Question
short_ones size fs = per_function (λ k f. ask (ltb (size f) (2 ^ 32)) 21 k) 0 fs

unfoldable pub windows_answer : Machine → List Function → Room → Answer
windows_answer m fs r = unless (short_ones (λ f. f.size) fs) (prologues_answer (prologues_for m 0 fs) r)

-- the lists of numbers that an entry takes
pub record Given : Type 0 where
  pub machine : List ℕ
  pub functions : List ℕ
  pub rows : List ℕ
  pub landings : List ℕ
  pub pairs : List ℕ

abbrev pub given_of : (machine functions rows landings pairs : List ℕ) → Given
given_of machine functions rows landings pairs =
    record { machine = machine; functions = functions; rows = rows; landings = landings; pairs = pairs }

unfoldable pub given_functions : Given → List Function
given_functions g = functions_of g.functions g.rows g.landings g.pairs

-- function k of them
abbrev pub given_function : Given → ℕ → Function
given_function g k = function_at g.functions g.rows g.landings g.pairs k

unfoldable pub no_functions : Given → Bool
no_functions g = eqb (count function_stride g.functions) 0

-- 11 and 13
unfoldable pub given_asks : Given → Question
given_asks g =
    and_then (ask (machine_ok g.machine) 11 0) (ask (lists_ok g.functions g.rows g.landings g.pairs) 13 0)

-- 11, 12 (x64 has word 8) and 13
unfoldable pub windows_asks : Given → Question
windows_asks g =
    and_then (ask (machine_ok g.machine) 11 0)
    (and_then (ask (eqb (machine_of g.machine).word 8) 12 0)
    (ask (lists_ok g.functions g.rows g.landings g.pairs) 13 0))

unfoldable pub dwarf_given : Section → Given → Room → Answer
dwarf_given s g r = unless (given_asks g) (dwarf_answer s (machine_of g.machine) (given_functions g) r)

-- Mach-O is not written any more; Wasm and Plan 9 have no table; a number that is no format is 11
unfoldable pub format_answer : ℕ → Given → Room → Answer
format_answer format g r =
    pick (eqb format elf) (dwarf_given Elf g r)
    (pick (eqb format coff) (unless (windows_asks g) (windows_answer (machine_of g.machine) (given_functions g) r))
    (pick (eqb format mach_o) (refused 78 0)
    (pick (leb format plan9) empty (refused 11 0))))

-- an empty list is an empty result before any question
unfoldable pub relaxed_table : ℕ → Given → Room → Answer
relaxed_table format g r = pick (no_functions g) empty (format_answer format g r)

-- debug_frame is an empty result outside ELF
unfoldable pub relaxed_debug_frame : ℕ → Given → Room → Answer
relaxed_debug_frame format g r = pick (no_functions g || not (eqb format elf)) empty (dwarf_given Debug g r)

-- direct codes: 13, 21, the codes, and the room
unfoldable pub seh : (fs codes : List ℕ) → Room → Answer
seh fs codes r =
    pick (eqb (count prologue_stride fs) 0) empty
    (unless (ask (codes_ok fs codes) 13 0)
    (unless (short_ones (λ p. p.size) (prologues_of fs codes)) (codes_answer (prologues_of fs codes) r)))

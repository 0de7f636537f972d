-- Functions, landings, relaxing labels and x64 codes as records, and the lists of numbers that mean them (document 01, "Machine, function and row").
use Rattle.std.specs.Prelude.{ℕ, zero, suc, ◌+◌, ◌*◌, ◌/◌, ◌^◌, Bool, not, ◌&&◌, ◌||◌, List, [], ◌∷◌, length, get_or, leb, ltb, eqb}
use Rattle.std.proofs.Math.Option.{Option, none, some}
use Rattle.std.specs.Int.{w32, w64}
use Rattle.std.proofs.Common.{to_z}
use Rattle.format.specs.Prelude.{pick, each, all}
use Rattle.format.specs.Constants.{def_cfa_kind, def_cfa_offset_kind, def_cfa_register_kind, offset_kind, restore_kind, undefined_kind, remember_state_kind, restore_state_kind, same_value_kind, in_register_kind, push_kind, alloc_kind, frame_kind, save_kind}
use Rattle.format.specs.declared.Row.{Row}
use Rattle.format.specs.declared.Row.TheVariants.{DefCfa, DefCfaOffset, DefCfaRegister, Offset, Restore, Undefined, RememberState, RestoreState, NegateRaState, SameValue, InRegister}
use Rattle.format.specs.declared.Seh.{Seh}
use Rattle.format.specs.declared.Seh.TheVariants.{Push, Alloc, Frame, Save}
use Rattle.format.specs.Rows.{RowAt}

-- ---- what a function is

-- a landing: the call's start and length, and the pad, from the function's start (Itanium LSDA, call site record)
pub record Landing : Type 0 where
  pub start : ℕ
  pub size : ℕ
  pub pad : ℕ

-- a pointer by its encoding (LSB, DWARF exception header encoding) and the symbol that it points to
pub record Pointer : Type 0 where
  pub encoding : ℕ
  pub symbol : ℕ

-- a named personality with its LSDA, if it has one
pub record Named : Type 0 where
  pub personality : Pointer
  pub lsda : Option Pointer

-- two places of a function with a label at each, whose distance a linker may shorten
pub record Pair : Type 0 where
  pub place1 : ℕ
  pub place2 : ℕ
  pub symbol1 : ℕ
  pub symbol2 : ℕ

-- relaxing labels: one at the function's end, and the pairs
pub record Relaxed : Type 0 where
  pub end : ℕ
  pub pairs : List Pair

pub record Function : Type 0 where
  pub symbol : ℕ
  pub size : ℕ
  pub rows : List RowAt
  pub landings : List Landing
  pub simple : Bool
  pub signal : Bool
  pub named : Option Named
  pub relaxed : Option Relaxed

-- a function of direct x64 codes: each code with the offset where its instruction ends
pub record Prologue : Type 0 where
  pub symbol : ℕ
  pub size : ℕ
  pub end : ℕ
  pub codes : List (ℕ × Seh)

-- a relocation: five numbers
pub record Relocation : Type 0 where
  pub place : ℕ
  pub symbol : ℕ
  pub kind : ℕ
  pub bytes : ℕ
  pub addend : ℕ

-- ---- the lists of numbers, each with its stride; an incomplete last record is no record

abbrev pub function_stride : ℕ
function_stride = 18

abbrev pub row_stride : ℕ
row_stride = 4

abbrev pub landing_stride : ℕ
landing_stride = 3

abbrev pub pair_stride : ℕ
pair_stride = 4

abbrev pub prologue_stride : ℕ
prologue_stride = 5

abbrev pub code_stride : ℕ
code_stride = 5

abbrev pub relocation_stride : ℕ
relocation_stride = 5

-- number j of record i
abbrev pub field : ℕ → List ℕ → ℕ → ℕ → ℕ
field stride xs i j = get_or xs (stride * i + j) 0

abbrev pub count : ℕ → List ℕ → ℕ
count stride xs = length xs / stride

-- a mark is set where its number is not 0 (question 13 holds it to 0 and 1)
unfoldable pub mark : ℕ → Bool
mark n = not (eqb n 0)

-- a row by its kind, its register and its second operand: an offset in 32 bits, two's complement, or the register that holds the value
unfoldable pub row_of : (kind reg off : ℕ) → Row
row_of kind reg off =
    pick (eqb kind def_cfa_kind) (DefCfa reg (to_z w32 off))
    (pick (eqb kind def_cfa_offset_kind) (DefCfaOffset (to_z w32 off))
    (pick (eqb kind def_cfa_register_kind) (DefCfaRegister reg)
    (pick (eqb kind offset_kind) (Offset reg (to_z w32 off))
    (pick (eqb kind restore_kind) (Restore reg)
    (pick (eqb kind undefined_kind) (Undefined reg)
    (pick (eqb kind remember_state_kind) RememberState
    (pick (eqb kind restore_state_kind) RestoreState
    (pick (eqb kind same_value_kind) (SameValue reg)
    (pick (eqb kind in_register_kind) (InRegister reg off) NegateRaState)))))))))

unfoldable pub row_at : List ℕ → ℕ → RowAt
row_at rows i = (field row_stride rows i 0, row_of (field row_stride rows i 1) (field row_stride rows i 2) (field row_stride rows i 3))

unfoldable pub landing_at : List ℕ → ℕ → Landing
landing_at ls i = record { start = field landing_stride ls i 0; size = field landing_stride ls i 1; pad = field landing_stride ls i 2 }

unfoldable pub pair_at : List ℕ → ℕ → Pair
pair_at ps i =
    record { place1 = field pair_stride ps i 0; place2 = field pair_stride ps i 1; symbol1 = field pair_stride ps i 2; symbol2 = field pair_stride ps i 3 }

-- a code by its kind, its register, vector mark and value in 64 bits, two's complement
unfoldable pub code_of : (kind reg vector value : ℕ) → Seh
code_of kind reg vector value =
    pick (eqb kind push_kind) (Push reg)
    (pick (eqb kind alloc_kind) (Alloc (to_z w64 value))
    (pick (eqb kind frame_kind) (Frame reg (to_z w64 value)) (Save reg (mark vector) (to_z w64 value))))

unfoldable pub code_at : List ℕ → ℕ → ℕ × Seh
code_at cs i = (field code_stride cs i 0, code_of (field code_stride cs i 1) (field code_stride cs i 2) (field code_stride cs i 3) (field code_stride cs i 4))

-- something where a mark is set
unfoldable pub optional : {A : Type 0} → ℕ → A → Option A
optional n a = pick (mark n) (some a) none

-- function k: symbol, length, rows_at, rows, landings_at, landings, simple, signal, personality, its encoding, its symbol, lsda,
-- its encoding, its symbol, relaxed, end symbol, pairs_at, pairs
unfoldable pub function_at : (fs rows landings pairs : List ℕ) → ℕ → Function
function_at fs rows landings pairs k =
    let f : ℕ → ℕ = λ j. field function_stride fs k j in
    record {
      symbol = f 0;
      size = f 1;
      rows = each (row_at rows) (f 2) (f 3);
      landings = each (landing_at landings) (f 4) (f 5);
      simple = mark (f 6);
      signal = mark (f 7);
      named =
          optional (f 8)
          (record { personality = record { encoding = f 9; symbol = f 10 }; lsda = optional (f 11) (record { encoding = f 12; symbol = f 13 }) });
      relaxed = optional (f 14) (record { end = f 15; pairs = each (pair_at pairs) (f 16) (f 17) });
    }

unfoldable pub functions_of : (fs rows landings pairs : List ℕ) → List Function
functions_of fs rows landings pairs = each (function_at fs rows landings pairs) 0 (count function_stride fs)

unfoldable pub prologue_at : (fs codes : List ℕ) → ℕ → Prologue
prologue_at fs codes k =
    record {
      symbol = field prologue_stride fs k 0;
      size = field prologue_stride fs k 1;
      end = field prologue_stride fs k 2;
      codes = each (code_at codes) (field prologue_stride fs k 3) (field prologue_stride fs k 4);
    }

unfoldable pub prologues_of : (fs codes : List ℕ) → List Prologue
prologues_of fs codes = each (prologue_at fs codes) 0 (count prologue_stride fs)

unfoldable pub relocation_at : List ℕ → ℕ → Relocation
relocation_at rs i =
    record {
      place = field relocation_stride rs i 0;
      symbol = field relocation_stride rs i 1;
      kind = field relocation_stride rs i 2;
      bytes = field relocation_stride rs i 3;
      addend = field relocation_stride rs i 4;
    }

unfoldable pub relocations_of : List ℕ → List Relocation
relocations_of rs = each (relocation_at rs) 0 (count relocation_stride rs)

-- and back
unfoldable pub numbers_of : List Relocation → List ℕ
numbers_of [] = []
numbers_of (r ∷ rs) = r.place ∷ r.symbol ∷ r.kind ∷ r.bytes ∷ r.addend ∷ numbers_of rs

-- ---- question 13: what the lists may hold

abbrev pub most_functions : ℕ
most_functions = 65536

-- rows, landings, pairs and codes, each summed over the functions
abbrev pub most_records : ℕ
most_records = 1048576

-- a range of n records from `at` lies inside a list of `size` records
unfoldable pub inside : (at n size : ℕ) → Bool
inside at n size = leb (at + n) size

-- a caller's symbol: 16 to 2^32 - 1
unfoldable pub symbol_ok : ℕ → Bool
symbol_ok s = leb 16 s && ltb s (2 ^ 32)

unfoldable pub mark_ok : ℕ → Bool
mark_ok n = leb n 1

-- where a mark is set, a test; where it isn't, nothing is looked at
unfoldable pub when_marked : ℕ → Bool → Bool
when_marked n test = eqb n 0 || test

-- a kind has a register; a kind has an offset
unfoldable pub has_register : ℕ → Bool
has_register kind =
    eqb kind def_cfa_kind || eqb kind def_cfa_register_kind || eqb kind offset_kind || eqb kind restore_kind || eqb kind undefined_kind
    || eqb kind same_value_kind || eqb kind in_register_kind

unfoldable pub has_offset : ℕ → Bool
has_offset kind = eqb kind def_cfa_kind || eqb kind def_cfa_offset_kind || eqb kind offset_kind

-- how many second operands a kind may have: 32-bit offsets, the 16-bit registers of InRegister, or 0 alone
unfoldable pub second_operands : ℕ → ℕ
second_operands kind = pick (has_offset kind) (2 ^ 32) (pick (eqb kind in_register_kind) 65536 1)

-- a kind, a 16-bit register and a second operand; an operand that the kind does not have is 0
unfoldable pub row_ok : (kind reg off : ℕ) → Bool
row_ok kind reg off = leb kind in_register_kind && ltb reg (pick (has_register kind) 65536 1) && ltb off (second_operands kind)

unfoldable pub row_ok_at : List ℕ → ℕ → Bool
row_ok_at rows i = row_ok (field row_stride rows i 1) (field row_stride rows i 2) (field row_stride rows i 3)

unfoldable pub pair_ok_at : List ℕ → ℕ → Bool
pair_ok_at ps i = symbol_ok (field pair_stride ps i 2) && symbol_ok (field pair_stride ps i 3)

-- a kind; Alloc has no register, only Save a vector mark, Push no value
unfoldable pub code_ok : (kind reg vector value : ℕ) → Bool
code_ok kind reg vector value =
    leb kind save_kind && (eqb reg 0 || not (eqb kind alloc_kind)) && leb vector (pick (eqb kind save_kind) 1 0) && (eqb value 0 || not (eqb kind push_kind))

unfoldable pub code_ok_at : List ℕ → ℕ → Bool
code_ok_at cs i = code_ok (field code_stride cs i 1) (field code_stride cs i 2) (field code_stride cs i 3) (field code_stride cs i 4)

-- a test at each record of a range
unfoldable pub all_in : (ℕ → Bool) → (at n : ℕ) → Bool
all_in test at n = all test (each (λ i. i) at n)

-- an encoding byte and a symbol
unfoldable pub pointer_ok : (encoding symbol : ℕ) → Bool
pointer_ok encoding symbol = leb encoding 255 && symbol_ok symbol

unfoldable pub function_ok_at : (fs rows landings pairs : List ℕ) → ℕ → Bool
function_ok_at fs rows landings pairs k =
    let f : ℕ → ℕ = λ j. field function_stride fs k j in
    symbol_ok (f 0) && inside (f 2) (f 3) (count row_stride rows) && all_in (row_ok_at rows) (f 2) (f 3)
    && inside (f 4) (f 5) (count landing_stride landings) && mark_ok (f 6) && mark_ok (f 7) && mark_ok (f 8)
    && when_marked (f 8) (pointer_ok (f 9) (f 10) && mark_ok (f 11) && when_marked (f 11) (pointer_ok (f 12) (f 13)))
    && mark_ok (f 14)
    && when_marked (f 14) (symbol_ok (f 15) && inside (f 16) (f 17) (count pair_stride pairs) && all_in (pair_ok_at pairs) (f 16) (f 17))

unfoldable pub prologue_ok_at : (fs codes : List ℕ) → ℕ → Bool
prologue_ok_at fs codes k =
    let f : ℕ → ℕ = λ j. field prologue_stride fs k j in
    symbol_ok (f 0) && inside (f 3) (f 4) (count code_stride codes) && all_in (code_ok_at codes) (f 3) (f 4)

-- the sum of a number over records
unfoldable pub sum_of : (ℕ → ℕ) → (at n : ℕ) → ℕ
sum_of f at zero = 0
sum_of f at (suc n) = f at + sum_of f (suc at) n

-- a function's pairs count where it has relaxing labels
unfoldable pub pairs_in : List ℕ → ℕ → ℕ
pairs_in fs k = pick (mark (field function_stride fs k 14)) (field function_stride fs k 17) 0

-- question 13 of the lists of functions
unfoldable pub lists_ok : (fs rows landings pairs : List ℕ) → Bool
lists_ok fs rows landings pairs =
    let n : ℕ = count function_stride fs in
    leb n most_functions && leb (sum_of (λ k. field function_stride fs k 3) 0 n) most_records
    && leb (sum_of (λ k. field function_stride fs k 5) 0 n) most_records && leb (sum_of (pairs_in fs) 0 n) most_records
    && all_in (function_ok_at fs rows landings pairs) 0 n

-- question 13 of the lists of direct codes
unfoldable pub codes_ok : (fs codes : List ℕ) → Bool
codes_ok fs codes =
    let n : ℕ = count prologue_stride fs in
    leb n most_functions && leb (sum_of (λ k. field prologue_stride fs k 4) 0 n) most_records && all_in (prologue_ok_at fs codes) 0 n

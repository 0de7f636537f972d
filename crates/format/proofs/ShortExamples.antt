-- Worked examples, computed: padded numbers alone (DWARF 5, 7.6), in operations, in a header and in a record.
use mathlib.Core.Path.{◌≡◌, refl}
use mathlib.Core.Bool.{true, false}
use mathlib.Core.Option.{none, some}
use mathlib.Core.List.{[], ◌∷◌, map}
use Rattle.format.specs.Prelude.{pick, next}
use Rattle.format.specs.Leb.{uleb_f, uleb, bits7, sleb_f, sleb, read_uleb_f, read_uleb, push, last7, read_sleb_f, fits64, read_sleb}
use Rattle.format.specs.Rows.{unfactor, in_range, read_offset, read_factored, one, read_extended, read_operation}
use Rattle.format.specs.Shortest.{unsigned, signed, shortest, read_mark, marked, numbers_short, every_short_f, every_short, extended_operands, operands_of, operation_short, behind, while_read, run_short_f, run_short}
use Rattle.format.specs.Reader.{strip, spelled, spellings, spell_or, read_letters, header_numbers, mark_after, header_short, record_short}

-- 1 and 128, 1 in two bytes and in three; -1 and 64, -1 and 64 padded
unsigned_examples : map (read_mark unsigned) ((1 ∷ []) ∷ (0x80 ∷ 1 ∷ []) ∷ (0x81 ∷ 0 ∷ 7 ∷ []) ∷ (0x81 ∷ 0x80 ∷ 0 ∷ []) ∷ (0x81 ∷ []) ∷ [])
    ≡ some (true, []) ∷ some (true, []) ∷ some (false, 7 ∷ []) ∷ some (false, []) ∷ none ∷ []
unfolding read_mark shortest read_uleb read_uleb_f uleb uleb_f next pick
unsigned_examples = refl

signed_examples : map (read_mark signed) ((0x7f ∷ []) ∷ (0xc0 ∷ 0 ∷ []) ∷ (0xff ∷ 0x7f ∷ 7 ∷ []) ∷ (0xc0 ∷ 0x80 ∷ 0 ∷ []) ∷ [])
    ≡ some (true, []) ∷ some (true, []) ∷ some (false, 7 ∷ []) ∷ some (false, []) ∷ []
unfolding read_mark shortest read_sleb read_sleb_f push last7 fits64 sleb sleb_f bits7 next pick
signed_examples = refl

-- a run at p: DW_CFA_def_cfa_offset 16, a step of 4, DW_CFA_offset of register 6 at 2, spelled `82 00`: it is read from 4 on
run_examples : map (λ p. run_short 8 p (0x0e ∷ 0x10 ∷ 0x44 ∷ 0x86 ∷ 0x82 ∷ 0 ∷ [])) (3 ∷ 4 ∷ []) ≡ true ∷ false ∷ []
unfolding run_short run_short_f while_read behind operation_short operands_of extended_operands numbers_short marked read_mark shortest read_operation read_extended one read_offset read_factored in_range unfactor fits64 read_uleb read_uleb_f uleb uleb_f next pick
run_examples = refl

-- a header of eh_frame, plain; with its code factor, its data factor, its return register or its augmentation length padded
header_examples : map (header_short false)
    ((0 ∷ 0 ∷ 0 ∷ 0 ∷ 1 ∷ 0x7a ∷ 0x52 ∷ 0 ∷ 1 ∷ 0x78 ∷ 16 ∷ 1 ∷ 0x1b ∷ [])
    ∷ (0 ∷ 0 ∷ 0 ∷ 0 ∷ 1 ∷ 0x7a ∷ 0x52 ∷ 0 ∷ 0x81 ∷ 0 ∷ 0x78 ∷ 16 ∷ 1 ∷ 0x1b ∷ [])
    ∷ (0 ∷ 0 ∷ 0 ∷ 0 ∷ 1 ∷ 0x7a ∷ 0x52 ∷ 0 ∷ 1 ∷ 0xf8 ∷ 0x7f ∷ 16 ∷ 1 ∷ 0x1b ∷ [])
    ∷ (0 ∷ 0 ∷ 0 ∷ 0 ∷ 1 ∷ 0x7a ∷ 0x52 ∷ 0 ∷ 1 ∷ 0x78 ∷ 0x90 ∷ 0 ∷ 1 ∷ 0x1b ∷ [])
    ∷ (0 ∷ 0 ∷ 0 ∷ 0 ∷ 1 ∷ 0x7a ∷ 0x52 ∷ 0 ∷ 1 ∷ 0x78 ∷ 16 ∷ 0x81 ∷ 0 ∷ 0x1b ∷ []) ∷ [])
    ≡ true ∷ false ∷ false ∷ false ∷ false ∷ []
unfolding header_short header_numbers mark_after read_letters spellings spelled spell_or strip numbers_short marked read_mark shortest read_uleb read_uleb_f uleb uleb_f read_sleb read_sleb_f push last7 fits64 sleb sleb_f bits7 next pick
header_examples = refl

-- a record of eh_frame, its augmentation length 0 in one byte and in two; debug_frame's has none
record_examples : map (record_short false)
    ((0x18 ∷ 0 ∷ 0 ∷ 0 ∷ 0 ∷ 0 ∷ 0 ∷ 0 ∷ 6 ∷ 0 ∷ 0 ∷ 0 ∷ 0 ∷ []) ∷ (0x18 ∷ 0 ∷ 0 ∷ 0 ∷ 0 ∷ 0 ∷ 0 ∷ 0 ∷ 6 ∷ 0 ∷ 0 ∷ 0 ∷ 0x80 ∷ 0 ∷ []) ∷ [])
    ≡ true ∷ false ∷ []
unfolding record_short numbers_short marked read_mark shortest read_uleb read_uleb_f uleb uleb_f next pick
record_examples = refl

-- the entries of a table: a site, and the same with its pad of 0 in two bytes
site_examples : map every_short ((4 ∷ 6 ∷ 0 ∷ 0 ∷ []) ∷ (4 ∷ 6 ∷ 0x80 ∷ 0 ∷ 0 ∷ []) ∷ []) ≡ true ∷ false ∷ []
unfolding every_short every_short_f marked read_mark shortest read_uleb read_uleb_f uleb uleb_f next pick
site_examples = refl

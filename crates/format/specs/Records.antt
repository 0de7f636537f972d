-- Records (FDE): one for each function (DWARF 5, 6.4.1; LSB, .eh_frame, "The Frame Description Entry Format").
use Rattle.std.specs.Prelude.{ℕ, zero, suc, ◌+◌, ◌-◌, Bool, true, false, ◌&&◌, List, [], ◌∷◌, ◌++◌, length, replicate, eqb}
use Rattle.std.proofs.Math.Option.{Option, none, some}
use Rattle.format.specs.Prelude.{pick, first}
use Rattle.format.specs.Constants.{data_reloc, address_reloc, sum_plus_reloc, sum_minus_reloc, set6_reloc, set8_reloc, set16_reloc, set32_reloc, except_table, debug_frame}
use Rattle.format.specs.Leb.{little}
use Rattle.format.specs.declared.Machine.{Machine}
use Rattle.format.specs.Rows.{RowAt, row_bytes, step_bytes, step_form, stepped_bytes}
use Rattle.format.specs.Lists.{Function, Landing, Named, Pointer, Pair, Relaxed, Relocation}
use Rattle.format.specs.Headers.{others, padded, entry, counted, pointer_bytes, pointer_reloc, reloc}

-- ---- the pointer to the call sites (LSB, `L`): at a place of EXCEPT_TABLE, or named

-- its blank bytes in a record
unfoldable pub pointer_blank : ℕ → Option Pointer → ℕ
pointer_blank word none = 0
pointer_blank word (some p) = pointer_bytes word p.encoding

unfoldable pub named_blank : ℕ → Option Named → ℕ
named_blank word none = 0
named_blank word (some n) = pointer_blank word n.lsda

unfoldable pub lsda_blank : ℕ → List Landing → Option Named → ℕ
lsda_blank word [] n = named_blank word n
lsda_blank word (l ∷ ls) n = 4

-- its relocation
unfoldable pub pointer_to : (word place : ℕ) → Option Pointer → List Relocation
pointer_to word place none = []
pointer_to word place (some p) = pointer_reloc word place p.symbol p.encoding ∷ []

unfoldable pub named_reloc : (word place : ℕ) → Option Named → List Relocation
named_reloc word place none = []
named_reloc word place (some n) = pointer_to word place n.lsda

-- landings beat a named personality; `table` is the place of the function's table in EXCEPT_TABLE
unfoldable pub lsda_reloc : (word place table : ℕ) → List Landing → Option Named → List Relocation
lsda_reloc word place table [] n = named_reloc word place n
lsda_reloc word place table (l ∷ ls) n = reloc place except_table data_reloc 4 table ∷ []

-- ---- a record's fields

-- a relaxed function's length field is zero
unfoldable pub size_field : ℕ → Option Relaxed → ℕ
size_field size none = size
size_field size (some r) = 0

-- eh_frame: the distance from this field back to the header, the function's place in 4 bytes, its length in 4, and the augmentation.
-- debug_frame (DWARF 5, 6.4.1): the header's place, the function's address and its length, each of these two a word.
unfoldable pub record_fields : (debug : Bool) → ℕ → (distance : ℕ) → Function → List ℕ
record_fields true word distance f = little 4 0 ++ (replicate word 0 ++ little word (size_field f.size f.relaxed))
record_fields false word distance f =
    little 4 distance ++ (replicate 4 0 ++ (little 4 (size_field f.size f.relaxed) ++ counted (replicate (lsda_blank word f.landings f.named) 0)))

-- a record at `at` whose header is at `cie`: the fields, then the rows that do not lead with the steps between them
unfoldable pub record_bytes : (debug : Bool) → Machine → (align at cie : ℕ) → Function → List ℕ
record_bytes debug m align at cie f =
    entry (padded align at (record_fields debug m.word (at + 4 - cie) f ++ stepped_bytes m.word 0 (others f.rows)))

-- ---- a record's relocations

-- relaxing: the length is the distance from the function to its end label, Sum plus and Sum minus in the field's bytes
unfoldable pub sum_pair : (place bytes : ℕ) → Function → Option Relaxed → List Relocation
sum_pair place bytes f none = []
sum_pair place bytes f (some r) = reloc place r.end sum_plus_reloc bytes 0 ∷ reloc place f.symbol sum_minus_reloc bytes 0 ∷ []

-- the first pair whose places are a step's two ends
unfoldable pub pair_for : (from to : ℕ) → List Pair → Option Pair
pair_for from to ps = first (λ p. eqb p.place1 from && eqb p.place2 to) ps

-- the kind of Set for a step's form, and the size of its field: Set6 on the opcode byte, else one behind it; Sub's kind is one more
unfoldable pub set_kind : ℕ → ℕ
set_kind zero = set6_reloc
set_kind (suc zero) = set8_reloc
set_kind (suc (suc zero)) = set16_reloc
set_kind (suc (suc (suc k))) = set32_reloc

unfoldable pub set_bytes : ℕ → ℕ
set_bytes zero = 1
set_bytes (suc k) = suc k

unfoldable pub set_place : (place form : ℕ) → ℕ
set_place place zero = place
set_place place (suc k) = place + 1

-- Set takes the second symbol, Sub the first
unfoldable pub set_pair : (place form : ℕ) → Option Pair → List Relocation
set_pair place form none = []
set_pair place form (some p) =
    reloc (set_place place form) p.symbol2 (set_kind form) (set_bytes form) 0
    ∷ reloc (set_place place form) p.symbol1 (suc (set_kind form)) (set_bytes form) 0 ∷ []

-- those of the rows: `place` is where the row's step stands in the section
unfoldable pub step_relocs : ℕ → (place at : ℕ) → List Pair → List RowAt → List Relocation
step_relocs w place at ps [] = []
step_relocs w place at ps (x ∷ xs) =
    set_pair place (step_form (x.0 - at)) (pair_for at x.0 ps)
    ++ step_relocs w (place + length (step_bytes (x.0 - at)) + length (row_bytes w x.1)) x.0 ps xs

unfoldable pub row_relocs : ℕ → (place : ℕ) → List RowAt → Option Relaxed → List Relocation
row_relocs w place xs none = []
row_relocs w place xs (some r) = step_relocs w place 0 r.pairs xs

-- in debug_frame the section's first; then function, call sites, Sum pair, and those of the steps. The length field stands behind
-- the function's, the call sites' pointer behind the length and the augmentation's own length of one byte.
unfoldable pub record_relocs : (debug : Bool) → Machine → (at cie table : ℕ) → Function → List Relocation
record_relocs debug m at cie table f =
    let word : ℕ = m.word in
    let ops : ℕ = at + 4 + length (record_fields debug word (at + 4 - cie) f) in
    pick debug
    (reloc (at + 4) debug_frame address_reloc 4 cie ∷ reloc (at + 8) f.symbol address_reloc word 0 ∷ sum_pair (at + 8 + word) word f f.relaxed)
    (reloc (at + 8) f.symbol data_reloc 4 0 ∷ (lsda_reloc word (at + 17) table f.landings f.named ++ sum_pair (at + 12) 4 f f.relaxed))
    ++ row_relocs word ops (others f.rows) f.relaxed

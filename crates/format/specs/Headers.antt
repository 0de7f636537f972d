-- Headers (CIE): leading rows, what makes two headers one, encodings, and a header's bytes (DWARF 5, 6.4.1; LSB, .eh_frame, "The Common Information Entry Format").
use Rattle.std.specs.Prelude.{ℕ, ◌+◌, ◌-◌, ◌%◌, Bool, true, false, not, ◌&&◌, ◌||◌, List, [], ◌∷◌, ◌++◌, length, replicate, leb, ltb, eqb, ℤ, pos, neg_ℤ}
use Rattle.std.specs.Bool.{beq}
use Rattle.std.proofs.Math.Option.{Option, none, some}
use Rattle.format.specs.Prelude.{pick}
use Rattle.format.specs.Constants.{remember_state_kind, data_reloc, address_reloc, personality_symbol, letter_z, letter_p, letter_l, letter_r, letter_s}
use Rattle.format.specs.Constants.{DW_EH_PE_absptr, DW_EH_PE_udata4, DW_EH_PE_udata8, DW_EH_PE_sdata4, DW_EH_PE_sdata8, DW_EH_PE_pcrel, DW_EH_PE_indirect, pcrel_udata4, pcrel_sdata4, indirect_pcrel_sdata4}
use Rattle.format.specs.Leb.{little, uleb, sleb}
use Rattle.format.specs.declared.Machine.{Machine}
use Rattle.format.specs.declared.Row.{Row}
use Rattle.format.specs.declared.Row.TheVariants.{DefCfa, Offset}
use Rattle.format.specs.Rows.{RowAt, kind_of, rows_bytes, same_row}
use Rattle.format.specs.Lists.{Function, Named, Pointer, Landing, Relocation}

-- ---- leading rows

-- the state that a call leaves behind: the frame ends the pushed bytes above the stack pointer and, where there are any, the return address is the word below the end
unfoldable pub implied : Machine → List Row
implied m =
    DefCfa m.stack (pos m.pushed) ∷ pick (eqb m.pushed 0) [] (Offset m.ret (neg_ℤ (pos m.pushed)) ∷ [])

-- a row leads where it is at offset 0 and no RememberState
unfoldable pub leads : RowAt → Bool
leads x = eqb x.0 0 && not (eqb (kind_of x.1) remember_state_kind)

-- a function's rows up to the first that does not lead; and the others
unfoldable pub ahead : List RowAt → List Row
ahead [] = []
ahead (x ∷ xs) = pick (leads x) (x.1 ∷ ahead xs) []

unfoldable pub others : List RowAt → List RowAt
others [] = []
others (x ∷ xs) = pick (leads x) (others xs) (x ∷ xs)

-- the leading rows (document 01, "Header"): unless simple the implied ones, then those of the function
unfoldable pub leading : Machine → Function → List Row
leading m f = pick f.simple [] (implied m) ++ ahead f.rows

-- ---- what makes two headers one

-- The kinds of header (document 01, "Header"): plain, with landings, and with a named personality by its encoding, its symbol and the LSDA's encoding or lack of one
pub data Kind : Type 0 where
  plain : Kind
  personal : Kind
  named : (encoding symbol : ℕ) (lsda : Option ℕ) → Kind

pub record Key : Type 0 where
  pub kind : Kind
  pub signal : Bool
  pub rows : List Row

unfoldable pub encoding_of : Option Pointer → Option ℕ
encoding_of none = none
encoding_of (some p) = some p.encoding

unfoldable pub named_kind : Option Named → Kind
named_kind none = plain
named_kind (some n) = named n.personality.encoding n.personality.symbol (encoding_of n.lsda)

-- landings beat a named personality
unfoldable pub kind_for : List Landing → Option Named → Kind
kind_for [] n = named_kind n
kind_for (l ∷ ls) n = personal

unfoldable pub key_of : Machine → Function → Key
key_of m f = record { kind = kind_for f.landings f.named; signal = f.signal; rows = leading m f }

unfoldable pub same_encoding : Option ℕ → Option ℕ → Bool
same_encoding none none = true
same_encoding none (some b) = false
same_encoding (some a) none = false
same_encoding (some a) (some b) = eqb a b

unfoldable pub same_kind : Kind → Kind → Bool
same_kind plain plain = true
same_kind plain personal = false
same_kind plain (named e s l) = false
same_kind personal plain = false
same_kind personal personal = true
same_kind personal (named e s l) = false
same_kind (named e s l) plain = false
same_kind (named e s l) personal = false
same_kind (named e s l) (named e' s' l') = eqb e e' && eqb s s' && same_encoding l l'

unfoldable pub same_rows : List Row → List Row → Bool
same_rows [] [] = true
same_rows [] (b ∷ bs) = false
same_rows (a ∷ rs) [] = false
same_rows (a ∷ rs) (b ∷ bs) = same_row a b && same_rows rs bs

-- headers are one by kind, signal mark and leading rows
unfoldable pub same_key : Key → Key → Bool
same_key a b = same_kind a.kind b.kind && beq a.signal b.signal && same_rows a.rows b.rows

-- ---- encodings (LSB, "DWARF Exception Header Encoding"; the source's pointer_size)

-- bytes of a pointer by its encoding without the indirect bit
unfoldable pub size_of : ℕ → ℕ → Option ℕ
size_of word e =
    pick (eqb e DW_EH_PE_absptr) (some word)
    (pick (eqb e DW_EH_PE_udata4 || eqb e DW_EH_PE_sdata4 || eqb e pcrel_udata4 || eqb e pcrel_sdata4) (some 4)
    (pick (eqb e DW_EH_PE_udata8 || eqb e DW_EH_PE_sdata8) (some 8) none))

-- the indirect bit is taken for a personality only
unfoldable pub pointer_size : (indirect : Bool) → ℕ → ℕ → Option ℕ
pointer_size indirect word e = pick (ltb e DW_EH_PE_indirect || indirect) (size_of word (e % DW_EH_PE_indirect)) none

unfoldable pub size_or0 : Option ℕ → ℕ
size_or0 none = 0
size_or0 (some n) = n

-- the bytes that are written for a pointer; question 22 lets no other encoding through
unfoldable pub pointer_bytes : ℕ → ℕ → ℕ
pointer_bytes word e = size_or0 (size_of word (e % DW_EH_PE_indirect))

-- ---- relocations

abbrev pub reloc : (place symbol kind bytes addend : ℕ) → Relocation
reloc place symbol kind bytes addend = record { place = place; symbol = symbol; kind = kind; bytes = bytes; addend = addend }

-- a pointer by its encoding: Data (a distance of 4 bytes) where it is pcrel, else Address of its size
unfoldable pub pointer_reloc : (word place symbol encoding : ℕ) → Relocation
pointer_reloc word place symbol e =
    pick (leb DW_EH_PE_pcrel (e % DW_EH_PE_indirect)) (reloc place symbol data_reloc 4 0) (reloc place symbol address_reloc (pointer_bytes word e) 0)

-- ---- an entry

-- zeros after n bytes of a section, up to a multiple of `align`
unfoldable pub padding : ℕ → ℕ → ℕ
padding align n = (align - n % align) % align

-- An entry at a place of the section: a 4-byte length and as many bytes, the last of them DW_CFA_nop up to the alignment, which counts from the section's start (DWARF 5, 7.2.2 and 6.4.1)
unfoldable pub padded : (align at : ℕ) → List ℕ → List ℕ
padded align at body = body ++ replicate (padding align (at + 4 + length body)) 0

unfoldable pub entry : List ℕ → List ℕ
entry body = little 4 (length body) ++ body

-- ---- a header's bytes

-- Augmentation strings (LSB, "Augmentation String Format"): z, P with a personality, L with an LSDA, R, S for a signal frame; the final 0 is part of it.
unfoldable pub letters : Kind → List ℕ
letters plain = letter_z ∷ letter_r ∷ []
letters personal = letter_z ∷ letter_p ∷ letter_l ∷ letter_r ∷ []
letters (named e s none) = letter_z ∷ letter_p ∷ letter_r ∷ []
letters (named e s (some l)) = letter_z ∷ letter_p ∷ letter_l ∷ letter_r ∷ []

-- debug_frame's header has no augmentation but the signal mark
unfoldable pub augmentation : (debug : Bool) → Key → List ℕ
augmentation debug k = pick debug [] (letters k.kind) ++ pick k.signal (letter_s ∷ 0 ∷ []) (0 ∷ [])

-- the L and R of a named personality: the LSDA's encoding, if any, and the record's
unfoldable pub lsda_letter : Option ℕ → List ℕ
lsda_letter none = []
lsda_letter (some l) = l ∷ []

-- augmentation data (LSB, table "Augmentation Data"): the personality's encoding and blank pointer, the LSDA's encoding, the records' encoding
unfoldable pub augmentation_data : ℕ → Kind → List ℕ
augmentation_data word plain = pcrel_sdata4 ∷ []
augmentation_data word personal = indirect_pcrel_sdata4 ∷ (replicate 4 0 ++ (pcrel_sdata4 ∷ pcrel_sdata4 ∷ []))
augmentation_data word (named e s l) = e ∷ (replicate (pointer_bytes word e) 0 ++ (lsda_letter l ++ (pcrel_sdata4 ∷ [])))

-- with its length in front (`z`); none in debug_frame
unfoldable pub counted : List ℕ → List ℕ
counted bs = uleb (length bs) ++ bs

unfoldable pub header_data : (debug : Bool) → ℕ → Kind → List ℕ
header_data debug word k = pick debug [] (counted (augmentation_data word k))

-- what marks a header: 0 in eh_frame (LSB), all ones in debug_frame (DWARF 5, 7.24)
unfoldable pub header_id : (debug : Bool) → ℕ
header_id debug = pick debug 0xffffffff 0

-- the data alignment factor, minus word
unfoldable pub data_factor : ℕ → ℤ
data_factor word = neg_ℤ (pos word)

-- id, version 1, augmentation string, code alignment factor 1, data alignment factor, return address register, augmentation data
unfoldable pub header_fields : (debug : Bool) → Machine → Key → List ℕ
header_fields debug m k =
    little 4 (header_id debug)
    ++ (1 ∷ (augmentation debug k ++ (uleb 1 ++ (sleb (data_factor m.word) ++ (uleb m.ret ++ header_data debug m.word k.kind)))))

-- and the leading rows
unfoldable pub header_bytes : (debug : Bool) → Machine → (align at : ℕ) → Key → List ℕ
header_bytes debug m align at k = entry (padded align at (header_fields debug m k ++ rows_bytes m.word k.rows))

-- ---- a header's relocation: the personality's pointer, which stands behind its encoding

-- the place of the pointer in a header at `at`: the length, then what stands in front of the augmentation data, its length and the encoding
unfoldable pub pointer_place : Machine → (at : ℕ) → Key → ℕ
pointer_place m at k =
    let n : ℕ = length (augmentation_data m.word k.kind) in
    at + 4 + length (header_fields false m k) - n + 1

unfoldable pub kind_relocs : ℕ → (place : ℕ) → Kind → List Relocation
kind_relocs word place plain = []
kind_relocs word place personal = reloc place personality_symbol data_reloc 4 0 ∷ []
kind_relocs word place (named e s l) = pointer_reloc word place s e ∷ []

unfoldable pub header_relocs : (debug : Bool) → Machine → (at : ℕ) → Key → List Relocation
header_relocs debug m at k = pick debug [] (kind_relocs m.word (pointer_place m at k) k.kind)

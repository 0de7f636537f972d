-- Worked examples, computed from the definitions: the table of a function that pushes rbp, as gcc writes it for x86-64 (LSB, ".eh_frame").
use mathlib.Core.Path.{◌≡◌, refl}
use Prim.Native.Nat.{ℕ}
use mathlib.Core.List.{List, [], ◌∷◌, ◌++◌}
use Rattle.format.specs.Prelude.{pick, next, after, onward, or_else}
use Rattle.format.specs.Leb.{read_little, read_uleb_f, read_uleb, push, last7, read_sleb_f, fits64, read_sleb}
use Rattle.format.specs.Machine.{is_word_size}
use Rattle.format.specs.Rows.{unfactor, read_register, in_range, read_factored, one, read_operation, kind_of, reg_of, offset_of, same_offset}
use Rattle.format.specs.Headers.{header_id, data_factor}
use Rattle.format.specs.Answers.{bit}
use Rattle.format.specs.Reader.{read_entry, value_or0, second, is_header, strip, spelled, spellings, spell_or, read_letters, read_byte, read_many, read_counted, personality_in, lsda_in, letters_in, header_tail, require, record_tail}
use Rattle.reader.specs.Listing.{shown, entry_read, entry_from, entry_at}
use Rattle.parts.specs.Faults.{reading, testing}
use Rattle.parts.specs.Entries.{standing, entry_numbers, next_entry}
use Rattle.parts.specs.Operations.{operation_numbers, decoded_numbers, operation_from, read_operation_at}
use Rattle.parts.specs.Headers.{header_rest, header_from, header_parts, no_header, header_numbers, header_of, read_header_at}
use Rattle.parts.specs.Records.{record_rest, record_parts, call_site_bytes, no_record, record_numbers, record_of, read_record_at}

-- a length of 20, id 0, version 1, zR, factors 1 and -8, return address 16, one byte 1b; DefCfa(7, 8), Offset(16, -8) and two bytes of padding
cie : List ℕ
cie = 20 ∷ 0 ∷ 0 ∷ 0 ∷ 0 ∷ 0 ∷ 0 ∷ 0 ∷ 1 ∷ 0x7a ∷ 0x52 ∷ 0 ∷ 1 ∷ 0x78 ∷ 0x10 ∷ 1 ∷ 0x1b ∷ 0x0c ∷ 7 ∷ 8 ∷ 0x90 ∷ 1 ∷ 0 ∷ 0 ∷ []

-- a length of 20, 28 back to the header, place 0, 31 bytes of code, no augmentation data; a step of 1, DefCfaOffset(16), Offset(6, -16)
fde : List ℕ
fde = 20 ∷ 0 ∷ 0 ∷ 0 ∷ 28 ∷ 0 ∷ 0 ∷ 0 ∷ 0 ∷ 0 ∷ 0 ∷ 0 ∷ 31 ∷ 0 ∷ 0 ∷ 0 ∷ 0 ∷ 0x41 ∷ 0x0e ∷ 0x10 ∷ 0x86 ∷ 2 ∷ 0 ∷ 0 ∷ []

table : List ℕ
table = cie ++ fde

second_entry : next_entry table 0 24 ≡ record { number = 0; header = 0; place = 24; length = 20; next = 48 }
unfolding table cie fde next_entry standing entry_numbers entry_at entry_from entry_read shown is_header second value_or0 header_id read_entry read_little next pick bit
second_entry = refl

header_read : read_header_at table 0 8 0
    ≡ record { number = 0; «field» = 0; personality = 0; lsda = 0; signal = 0; return_register = 16; pointer = 0; operations = 17; end = 24 }
unfolding table cie fde read_header_at header_of header_numbers header_parts header_from header_rest reading testing onward or_else entry_at entry_from entry_read shown is_header second value_or0 header_id read_entry read_little read_byte read_letters spellings spelled spell_or strip read_uleb read_uleb_f read_sleb read_sleb_f last7 push fits64 same_offset data_factor read_register header_tail read_counted read_many letters_in personality_in lsda_in is_word_size next after pick bit
header_read = refl

-- a word of 4 wants a data alignment factor of -4
header_fault : read_header_at table 0 4 0
    ≡ record { number = 64; «field» = 4; personality = 0; lsda = 0; signal = 0; return_register = 0; pointer = 0; operations = 0; end = 0 }
unfolding table cie fde read_header_at header_of no_header header_numbers header_parts header_from reading testing entry_at entry_from entry_read shown is_header second value_or0 header_id read_entry read_little read_byte read_letters spellings spelled spell_or strip read_uleb read_uleb_f read_sleb read_sleb_f last7 push fits64 same_offset data_factor is_word_size next pick
header_fault = refl

record_read : read_record_at table 0 8 0 24
    ≡ record { number = 0; «field» = 0; header = 28; function = 0; length = 31; call_sites = 0; operations = 41; end = 48 }
unfolding table cie fde read_record_at record_of record_numbers record_parts record_rest call_site_bytes reading onward or_else entry_at entry_from entry_read shown is_header second value_or0 header_id read_entry read_little read_uleb read_uleb_f record_tail read_counted read_many require is_word_size next pick
record_read = refl

-- a pointer of 4 bytes is not there
record_fault : read_record_at table 0 8 4 24
    ≡ record { number = 64; «field» = 9; header = 0; function = 0; length = 0; call_sites = 0; operations = 0; end = 0 }
unfolding table cie fde read_record_at record_of no_record record_numbers record_parts record_rest reading onward or_else entry_at entry_from entry_read shown is_header second value_or0 header_id read_entry read_little read_uleb read_uleb_f record_tail read_counted read_many require is_word_size next pick
record_fault = refl

-- rbp is saved 16 below the frame address, which is 2^64 - 16 in two's complement
saved_read : read_operation_at table 44 48 8 ≡ record { number = 0; kind = 3; reg = 6; value = 18446744073709551600; next = 46; opcode = 0x86 }
unfolding table cie fde read_operation_at operation_from decoded_numbers operation_numbers read_operation read_factored in_range unfactor fits64 one read_uleb read_uleb_f kind_of reg_of offset_of is_word_size next pick
saved_read = refl

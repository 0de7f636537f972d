-- A worked example, computed from the definitions: a function of 20 bytes with rows at 8 and 12, whose labels at its start (16) and at 8 (17) a
-- linker brings together from 8 bytes to 4, and whose end label (18) comes to stand at 14.
use mathlib.Core.Path.{◌≡◌, refl}
use mathlib.Core.Bool.{false}
use mathlib.Core.Option.{none, some}
use mathlib.Core.List.{List, [], ◌∷◌}
use Prim.Native.Nat.{ℕ}
use lib.IntN.{pos}
use Rattle.format.specs.declared.Section.TheVariants.{Elf}
use Rattle.format.specs.declared.Row.TheVariants.{DefCfaOffset}
use Rattle.format.specs.declared.CfaRule.TheVariants.{Register as register}
use Rattle.format.specs.declared.Rule.TheVariants.{Unstated}
use Rattle.format.specs.Coded.{Reading}
use Rattle.std.specs.Prelude.{Ok, Err}
use Rattle.format.specs.CallSites.{site_added, site_bytes, site_pad, site_table, sites_bytes}
use Rattle.format.specs.Headers.{ahead, augmentation, augmentation_data, counted, data_factor, encoding_of, entry, header_bytes, header_data, header_fields, header_id, header_relocs, implied, key_of, kind_for, kind_relocs, leading, leads, letters, lsda_letter, named_kind, others, padded, padding, pointer_bytes, pointer_place, pointer_reloc, pointer_size, same_encoding, same_key, same_kind, same_rows, size_of, size_or0}
use Rattle.format.specs.Leb.{bits7, fits64, last7, little, push, read_little, read_sleb, read_sleb_f, read_uleb, read_uleb_f, sleb, sleb_f, uleb, uleb_f}
use Rattle.format.specs.Lists.{numbers_of, relocation_at, relocations_of, Function}
use Rattle.format.specs.Machine.{is_word_size, x8664}
use Rattle.format.specs.Prelude.{after, all, each, first, next, onward, or_else, pick, good}
use Rattle.format.specs.Put.{put}
use Rattle.format.specs.Questions.{is_some}
use Rattle.format.specs.Reader.{distance_back, entries, entries_f, first_addend, header_at, header_place, header_tail, is_header, letters_in, locate, lsda_in, parse_header, parse_record, parsed, perform, personality_in, read, read_byte, read_counted, read_entry, read_letters, read_many, read_section, record_tail, records, require, run, run_f, run_to, second, spell_or, spelled, spellings, strip, value_or0, when_read}
use Rattle.format.specs.Records.{lsda_blank, lsda_reloc, named_blank, named_reloc, pair_for, pointer_blank, pointer_to, record_bytes, record_fields, record_relocs, row_relocs, set_bytes, set_kind, set_pair, set_place, size_field, step_relocs, sum_pair}
use Rattle.format.specs.Rows.{cfa_bytes, factor, in_range, kind_of, offset_of, one, read_extended, read_factored, read_offset, read_operation, read_register, read_signed, reg_of, row_bytes, rows_bytes, same_offset, same_row, saved_bytes, step_bytes, step_form, step_in, stepped_bytes, two, unfactor, with_register}
use Rattle.format.specs.Rules.{act, answer, apply, apply_rows, blank, entry_state, negated, refusal, reoffset, reregister, restored, rules_for, seen, unless_refused, up_to, with_cfa, with_rule, without_cfa, without_stored}
use Rattle.format.specs.Writer.{align_for, dwarf, is_debug, is_empty, joined, part_of, part_with, parts_from, parts_of, place_in, taken, without_exceptions}
use Rattle.apply.specs.Kinds.{kind_of as kindBy, size_ok}
use Rattle.apply.specs.Fields.{up_to as fits_in, signed32, low_of, number_at, field_at, in_field, set_in, sub_in, whole_in}
use Rattle.apply.specs.Values.{symbol_at, symbols_of, address_of, sum_of as sumFor, apart, value_as, distance_of, store_as, store_of}
use Rattle.apply.specs.Apply.{front, everywhere, partners, leads as leadsTo, follows, paired, measured, value_ok, sound, near_as, near, stores, apply as putInPlace}
use Rattle.apply_back.specs.Moved.{or_zero, between, length_in, new_length, pairs_of, step_or, new_step, moved_from, moved_rows, moved_rules}

abbrev shortened : Function
shortened =
    record {
      symbol = 16;
      size = 20;
      rows = (8, DefCfaOffset (pos 16)) ∷ (12, DefCfaOffset (pos 8)) ∷ [];
      landings = [];
      simple = false;
      signal = false;
      named = none;
      relaxed = some (record { end = 18; pairs = record { place1 = 0; place2 = 8; symbol1 = 16; symbol2 = 17 } ∷ [] });
    }

-- the function is at 0x1000
abbrev addresses : List ℕ
addresses = 16 ∷ 0x1000 ∷ 17 ∷ 0x1004 ∷ 18 ∷ 0x100e ∷ []

abbrev bytes : List ℕ
bytes =
    0x14 ∷ 0 ∷ 0 ∷ 0 ∷ 0 ∷ 0 ∷ 0 ∷ 0 ∷ 1 ∷ 0x7a ∷ 0x52 ∷ 0 ∷ 1 ∷ 0x78 ∷ 0x10 ∷ 1 ∷ 0x1b ∷ 0x0c ∷ 7 ∷ 8 ∷ 0x90 ∷ 1 ∷ 0 ∷ 0
    ∷ 0x14 ∷ 0 ∷ 0 ∷ 0 ∷ 0x1c ∷ 0 ∷ 0 ∷ 0 ∷ 0 ∷ 0 ∷ 0 ∷ 0 ∷ 0 ∷ 0 ∷ 0 ∷ 0 ∷ 0 ∷ 0x48 ∷ 0x0e ∷ 0x10 ∷ 0x44 ∷ 0x0e ∷ 8 ∷ 0 ∷ []

abbrev relocations : List ℕ
relocations =
    32 ∷ 16 ∷ 0 ∷ 4 ∷ 0 ∷ 36 ∷ 18 ∷ 2 ∷ 4 ∷ 0 ∷ 36 ∷ 16 ∷ 3 ∷ 4 ∷ 0 ∷ 41 ∷ 17 ∷ 5 ∷ 1 ∷ 0 ∷ 41 ∷ 16 ∷ 6 ∷ 1 ∷ 0 ∷ []

-- the function's place is 0x1000 less 0x2020, its length 14 and the first step 4
abbrev placed : List ℕ
placed =
    0x14 ∷ 0 ∷ 0 ∷ 0 ∷ 0 ∷ 0 ∷ 0 ∷ 0 ∷ 1 ∷ 0x7a ∷ 0x52 ∷ 0 ∷ 1 ∷ 0x78 ∷ 0x10 ∷ 1 ∷ 0x1b ∷ 0x0c ∷ 7 ∷ 8 ∷ 0x90 ∷ 1 ∷ 0 ∷ 0
    ∷ 0x14 ∷ 0 ∷ 0 ∷ 0 ∷ 0x1c ∷ 0 ∷ 0 ∷ 0 ∷ 0xe0 ∷ 0xef ∷ 0xff ∷ 0xff ∷ 14 ∷ 0 ∷ 0 ∷ 0 ∷ 0 ∷ 0x44 ∷ 0x0e ∷ 0x10 ∷ 0x44 ∷ 0x0e ∷ 8 ∷ 0 ∷ []

rows_move : moved_rows (symbols_of addresses) shortened ≡ (4, DefCfaOffset (pos 16)) ∷ (8, DefCfaOffset (pos 8)) ∷ []
unfolding moved_rows moved_from new_step step_or pairs_of between or_zero address_of symbols_of symbol_at pair_for others leads kind_of pick after first each
rows_move = refl

length_is : new_length (symbols_of addresses) shortened ≡ 14
unfolding new_length length_in between or_zero address_of symbols_of symbol_at pick after first each
length_is = refl

writes_bytes : (dwarf Elf x8664 (shortened ∷ [])).bytes ≡ bytes
unfolding pick next after first each little uleb_f uleb bits7 sleb_f sleb factor cfa_bytes with_register saved_bytes row_bytes step_in step_form step_bytes stepped_bytes rows_bytes kind_of reg_of offset_of same_row numbers_of implied leads ahead others leading encoding_of named_kind kind_for key_of same_encoding same_kind same_rows same_key size_of size_or0 pointer_bytes pointer_reloc padding padded entry letters augmentation lsda_letter augmentation_data counted header_data header_id data_factor header_fields header_bytes pointer_place kind_relocs header_relocs site_bytes sites_bytes site_table site_pad site_added pointer_blank named_blank lsda_blank pointer_to named_reloc lsda_reloc size_field record_fields record_bytes sum_pair pair_for set_kind set_bytes set_place set_pair step_relocs row_relocs record_relocs is_debug without_exceptions taken align_for place_in part_with part_of is_empty parts_from joined parts_of dwarf
writes_bytes = refl

writes_relocations : numbers_of (dwarf Elf x8664 (shortened ∷ [])).relocations ≡ relocations
unfolding pick next after first each little uleb_f uleb bits7 sleb_f sleb factor cfa_bytes with_register saved_bytes row_bytes step_in step_form step_bytes stepped_bytes rows_bytes kind_of reg_of offset_of same_row numbers_of implied leads ahead others leading encoding_of named_kind kind_for key_of same_encoding same_kind same_rows same_key size_of size_or0 pointer_bytes pointer_reloc padding padded entry letters augmentation lsda_letter augmentation_data counted header_data header_id data_factor header_fields header_bytes pointer_place kind_relocs header_relocs site_bytes sites_bytes site_table site_pad site_added pointer_blank named_blank lsda_blank pointer_to named_reloc lsda_reloc size_field record_fields record_bytes sum_pair pair_for set_kind set_bytes set_place set_pair step_relocs row_relocs record_relocs is_debug without_exceptions taken align_for place_in part_with part_of is_empty parts_from joined parts_of dwarf
writes_relocations = refl

puts : putInPlace bytes relocations addresses 0x2000 0 48 ≡ good placed
unfolding kindBy size_ok is_word_size fits_in signed32 low_of number_at field_at in_field set_in sub_in whole_in symbol_at symbols_of address_of sumFor apart value_as distance_of store_as store_of front everywhere partners leadsTo follows paired measured value_ok sound near_as near stores putInPlace pick after first each relocations_of relocation_at is_some put little
puts = refl

-- at 3, 4, 7, 8, 13 and past the end
abbrev frame : ℕ → Reading
frame n = Ok (record { cfa = register 7 (pos n); rule = Unstated; signing = false })

reads : read placed [] 0 8 0 6 3 ∷ read placed [] 0 8 0 6 4 ∷ read placed [] 0 8 0 6 7 ∷ read placed [] 0 8 0 6 8 ∷ read placed [] 0 8 0 6 13 ∷ read placed [] 0 8 0 6 14 ∷ []
    ≡ frame 8 ∷ frame 16 ∷ frame 16 ∷ frame 8 ∷ frame 8 ∷ Err 65 ∷ []
unfolding pick next after onward or_else all first each read_little read_uleb_f read_uleb push last7 read_sleb_f fits64 read_sleb unfactor read_register in_range read_offset read_factored read_signed one two read_extended read_operation same_offset relocation_at relocations_of size_of pointer_size header_id data_factor is_word_size blank with_cfa with_rule reoffset reregister restored negated apply rules_for seen without_cfa without_stored refusal unless_refused act answer read_entry entries_f entries value_or0 second is_header records distance_back first_addend header_place header_at strip spelled spellings spell_or read_letters read_byte read_many read_counted personality_in lsda_in letters_in header_tail require parse_header record_tail parse_record perform when_read run_f run parsed locate run_to read_section read
reads = refl

-- what the law says of these offsets
rules_are : seen 6 (moved_rules x8664 (symbols_of addresses) shortened 3) ∷ seen 6 (moved_rules x8664 (symbols_of addresses) shortened 4)
    ∷ seen 6 (moved_rules x8664 (symbols_of addresses) shortened 8) ∷ []
    ≡ frame 8 ∷ frame 16 ∷ frame 8 ∷ []
unfolding moved_rules moved_rows moved_from new_step step_or pairs_of between or_zero address_of symbols_of symbol_at pair_for others leads ahead leading implied kind_of entry_state apply_rows apply blank with_cfa with_rule reoffset up_to seen rules_for pick after first each
rules_are = refl

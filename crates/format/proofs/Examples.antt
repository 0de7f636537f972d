-- Worked examples, computed from the definitions. The LEB numbers are DWARF 5's own (7.6, tables 7.7 and 7.8). The sections and the x64
-- record are the Rust's answers to the cases named, stored in differential/expected by `differential/run store`; GNU as writes the same
-- bytes for two_functions, debug_two and landing_and_named (differential/gas), and those of in_registers, which the Rust cannot be handed.
use mathlib.Core.Path.{◌≡◌, refl}
use Prim.Native.Nat.{ℕ}
use mathlib.Core.Bool.{Bool, true, false}
use mathlib.Core.List.{List, [], ◌∷◌, ◌++◌}
use lib.ListN.{get_or, replicate, set}
use lib.IntN.{pos, negsuc}
use Rattle.format.specs.Put.{put}
use Rattle.format.specs.Answers.{cfa_numbers, rule_numbers, bit, reading_numbers, outcome_numbers, outcome_of, afterwards, relocation_numbers}
use Rattle.format.specs.declared.CfaRule.TheVariants.{Register as register}
use Rattle.format.specs.declared.Rule.TheVariants.{Saved, Unstated as unstated, SameValue, InRegister}
use Rattle.format.specs.Coded.{Reading}
use Rattle.format.specs.declared.CfaRule.{CfaRule}
use Rattle.format.specs.declared.Rule.{Rule}
use Rattle.std.specs.Prelude.{Ok, Err}
use Rattle.format.specs.CallSites.{site_bytes, sites_bytes, site_table, site_pad, site_added}
use Rattle.format.specs.Headers.{implied, leads, ahead, others, leading, encoding_of, named_kind, kind_for, key_of, same_encoding, same_kind, same_rows, same_key, size_of, pointer_size, size_or0, pointer_bytes, pointer_reloc, padding, padded, entry, letters, augmentation, lsda_letter, augmentation_data, counted, header_data, header_id, data_factor, header_fields, header_bytes, pointer_place, kind_relocs, header_relocs}
use Rattle.format.specs.Leb.{little, read_little, uleb_f, uleb, bits7, sleb_f, sleb, read_uleb_f, read_uleb, push, last7, read_sleb_f, fits64, read_sleb}
use Rattle.format.specs.Lists.{mark, row_of, row_at, landing_at, pair_at, code_of, code_at, optional, function_at, functions_of, prologue_at, prologues_of, relocation_at, relocations_of, numbers_of, inside, symbol_ok, mark_ok, when_marked, has_register, has_offset, second_operands, row_ok, row_ok_at, pair_ok_at, code_ok, code_ok_at, all_in, pointer_ok, function_ok_at, prologue_ok_at, sum_of, pairs_in, lists_ok, codes_ok}
use Rattle.format.specs.Machine.{register_of, machine_of, is_word_size, machine_ok, x8664}
use Rattle.format.specs.Questions.{ask, and_then, per_function, size_bytes, is_some, lsda_ok, named_ok, encodings_ok, steps_ok, pairs_ok, dwarf_asks, made_one, prologues_for, no_at, code_asks, room_asks, unless, fitting, dwarf_answer, codes_answer, prologues_answer, short_ones, windows_answer, given_functions, no_functions, given_asks, windows_asks, dwarf_given, format_answer, relaxed_table, relaxed_debug_frame, seh, Answer, refused, empty, accepted, Given, Room}
use Rattle.format.proofs.Accepted.{dwarf_written}
use Rattle.format.specs.Reader.{read_entry, entries_f, entries, value_or0, second, is_header, records, distance_back, first_addend, header_place, header_at, strip, spelled, spellings, spell_or, read_letters, read_byte, read_many, read_counted, personality_in, lsda_in, letters_in, header_tail, require, parse_header, record_tail, parse_record, perform, when_read, run_f, run, parsed, locate, run_to, read_section, read}
use Rattle.format.specs.Records.{pointer_blank, named_blank, lsda_blank, pointer_to, named_reloc, lsda_reloc, size_field, record_fields, record_bytes, sum_pair, pair_for, set_kind, set_bytes, set_place, set_pair, step_relocs, row_relocs, record_relocs}
use Rattle.format.specs.Rows.{factor, cfa_bytes, with_register, saved_bytes, row_bytes, step_in, step_form, step_bytes, stepped_bytes, rows_bytes, unfactor, read_register, in_range, read_offset, read_factored, read_signed, one, two, read_extended, read_operation, whole, whole_below, row_whole, same_offset, kind_of, reg_of, offset_of, same_row}
use Rattle.format.specs.Rules.{blank, with_cfa, with_rule, reoffset, reregister, restored, negated, apply, rules_for, seen, without_cfa, without_stored, refusal, unless_refused, act, answer}
use Rattle.format.specs.Prelude.{pick, next, after, onward, or_else, all, first, each}
use Rattle.format.specs.Writer.{is_debug, without_exceptions, taken, align_for, place_in, part_with, part_of, is_empty, parts_from, joined, parts_of, dwarf}
use Rattle.format.specs.X64.{before_remember, join_group, groups, more, is_push, only_push, lone_row, push_rows, read_group, read_groups, low16, code_for, codes_for, codes_of, end_of, node, alloc_bytes, slot_bytes, save_bytes, size64, code_bytes, register_in, alloc_no, save_no, operand_no, code_no, frame_ok, frame_no, or_no, first_no, slots, prologue_no, frame_or, frame_byte, reversed, info_bytes, runtime_relocs, markers_from, runtime_from, x64, prologue_of}

-- ---- LEB numbers

leb_numbers : List (List ℕ)
leb_numbers =
    uleb 2 ∷ uleb 127 ∷ uleb 128 ∷ uleb 129 ∷ uleb 12857 ∷ sleb (pos 2) ∷ sleb (negsuc 1) ∷ sleb (pos 127) ∷ sleb (negsuc 126)
    ∷ sleb (pos 128) ∷ sleb (negsuc 127) ∷ sleb (pos 129) ∷ sleb (negsuc 128) ∷ []

leb_examples : leb_numbers
    ≡ (2 ∷ []) ∷ (127 ∷ []) ∷ (0x80 ∷ 1 ∷ []) ∷ (0x81 ∷ 1 ∷ []) ∷ (0xb9 ∷ 100 ∷ []) ∷ (2 ∷ []) ∷ (0x7e ∷ []) ∷ (0xff ∷ 0 ∷ [])
    ∷ (0x81 ∷ 0x7f ∷ []) ∷ (0x80 ∷ 1 ∷ []) ∷ (0x80 ∷ 0x7f ∷ []) ∷ (0x81 ∷ 1 ∷ []) ∷ (0xff ∷ 0x7e ∷ []) ∷ []
unfolding leb_numbers uleb uleb_f sleb sleb_f bits7 pick
leb_examples = refl

-- ---- lists, and what is written for them: header places (or markers), bytes, relocations, call sites (or x64 info)

-- x86-64 as a machine list
x8664_list : List ℕ
x8664_list = 8 ∷ 8 ∷ 7 ∷ 16 ∷ 6 ∷ 0 ∷ x8664.map

on : (functions rows landings : List ℕ) → Given
on functions rows landings = record { machine = x8664_list; functions = functions; rows = rows; landings = landings; pairs = [] }

-- differential/cases: two_functions
two_functions : Given
two_functions = on (16 ∷ 6 ∷ 0 ∷ 4 ∷ 0 ∷ 0 ∷ 0 ∷ 0 ∷ 0 ∷ 0 ∷ 0 ∷ 0 ∷ 0 ∷ 0 ∷ 0 ∷ 0 ∷ 0 ∷ 0 ∷ 17 ∷ 11 ∷ 4 ∷ 4 ∷ 0 ∷ 0 ∷ 0 ∷ 0 ∷ 0 ∷ 0 ∷ 0 ∷ 0 ∷ 0 ∷ 0 ∷ 0 ∷ 0 ∷ 0 ∷ 0 ∷ []) (1 ∷ 1 ∷ 0 ∷ 16 ∷ 1 ∷ 3 ∷ 6 ∷ 4294967280 ∷ 4 ∷ 2 ∷ 6 ∷ 0 ∷ 5 ∷ 0 ∷ 7 ∷ 8 ∷ 1 ∷ 1 ∷ 0 ∷ 16 ∷ 1 ∷ 3 ∷ 6 ∷ 4294967280 ∷ 4 ∷ 2 ∷ 6 ∷ 0 ∷ 10 ∷ 0 ∷ 7 ∷ 8 ∷ []) ([])

two_functions_written : List (List ℕ)
two_functions_written = (0 ∷ 0 ∷ []) ∷ (0x14 ∷ 0x00 ∷ 0x00 ∷ 0x00 ∷ 0x00 ∷ 0x00 ∷ 0x00 ∷ 0x00 ∷ 0x01 ∷ 0x7a ∷ 0x52 ∷ 0x00 ∷ 0x01 ∷ 0x78 ∷ 0x10 ∷ 0x01 ∷ 0x1b ∷ 0x0c ∷ 0x07 ∷ 0x08 ∷ 0x90 ∷ 0x01 ∷ 0x00 ∷ 0x00 ∷ 0x1c ∷ 0x00 ∷ 0x00 ∷ 0x00 ∷ 0x1c ∷ 0x00 ∷ 0x00 ∷ 0x00 ∷ 0x00 ∷ 0x00 ∷ 0x00 ∷ 0x00 ∷ 0x06 ∷ 0x00 ∷ 0x00 ∷ 0x00 ∷ 0x00 ∷ 0x41 ∷ 0x0e ∷ 0x10 ∷ 0x86 ∷ 0x02 ∷ 0x43 ∷ 0x0d ∷ 0x06 ∷ 0x41 ∷ 0x0c ∷ 0x07 ∷ 0x08 ∷ 0x00 ∷ 0x00 ∷ 0x00 ∷ 0x1c ∷ 0x00 ∷ 0x00 ∷ 0x00 ∷ 0x3c ∷ 0x00 ∷ 0x00 ∷ 0x00 ∷ 0x00 ∷ 0x00 ∷ 0x00 ∷ 0x00 ∷ 0x0b ∷ 0x00 ∷ 0x00 ∷ 0x00 ∷ 0x00 ∷ 0x41 ∷ 0x0e ∷ 0x10 ∷ 0x86 ∷ 0x02 ∷ 0x43 ∷ 0x0d ∷ 0x06 ∷ 0x46 ∷ 0x0c ∷ 0x07 ∷ 0x08 ∷ 0x00 ∷ 0x00 ∷ 0x00 ∷ []) ∷ (32 ∷ 16 ∷ 0 ∷ 4 ∷ 0 ∷ 64 ∷ 17 ∷ 0 ∷ 4 ∷ 0 ∷ []) ∷ ([]) ∷ []

-- differential/cases: last_header_padding
last_header : Given
last_header = on (16 ∷ 16 ∷ 0 ∷ 1 ∷ 0 ∷ 0 ∷ 0 ∷ 0 ∷ 0 ∷ 0 ∷ 0 ∷ 0 ∷ 0 ∷ 0 ∷ 0 ∷ 0 ∷ 0 ∷ 0 ∷ 17 ∷ 16 ∷ 0 ∷ 0 ∷ 0 ∷ 0 ∷ 1 ∷ 0 ∷ 0 ∷ 0 ∷ 0 ∷ 0 ∷ 0 ∷ 0 ∷ 0 ∷ 0 ∷ 0 ∷ 0 ∷ []) (1 ∷ 8 ∷ 0 ∷ 0 ∷ []) ([])

last_header_written : List (List ℕ)
last_header_written = (0 ∷ 44 ∷ []) ∷ (0x14 ∷ 0x00 ∷ 0x00 ∷ 0x00 ∷ 0x00 ∷ 0x00 ∷ 0x00 ∷ 0x00 ∷ 0x01 ∷ 0x7a ∷ 0x52 ∷ 0x00 ∷ 0x01 ∷ 0x78 ∷ 0x10 ∷ 0x01 ∷ 0x1b ∷ 0x0c ∷ 0x07 ∷ 0x08 ∷ 0x90 ∷ 0x01 ∷ 0x00 ∷ 0x00 ∷ 0x10 ∷ 0x00 ∷ 0x00 ∷ 0x00 ∷ 0x1c ∷ 0x00 ∷ 0x00 ∷ 0x00 ∷ 0x00 ∷ 0x00 ∷ 0x00 ∷ 0x00 ∷ 0x10 ∷ 0x00 ∷ 0x00 ∷ 0x00 ∷ 0x00 ∷ 0x41 ∷ 0x2d ∷ 0x00 ∷ 0x10 ∷ 0x00 ∷ 0x00 ∷ 0x00 ∷ 0x00 ∷ 0x00 ∷ 0x00 ∷ 0x00 ∷ 0x01 ∷ 0x7a ∷ 0x52 ∷ 0x00 ∷ 0x01 ∷ 0x78 ∷ 0x10 ∷ 0x01 ∷ 0x1b ∷ 0x00 ∷ 0x00 ∷ 0x00 ∷ 0x14 ∷ 0x00 ∷ 0x00 ∷ 0x00 ∷ 0x18 ∷ 0x00 ∷ 0x00 ∷ 0x00 ∷ 0x00 ∷ 0x00 ∷ 0x00 ∷ 0x00 ∷ 0x10 ∷ 0x00 ∷ 0x00 ∷ 0x00 ∷ 0x00 ∷ 0x00 ∷ 0x00 ∷ 0x00 ∷ 0x00 ∷ 0x00 ∷ 0x00 ∷ 0x00 ∷ []) ∷ (32 ∷ 16 ∷ 0 ∷ 4 ∷ 0 ∷ 72 ∷ 17 ∷ 0 ∷ 4 ∷ 0 ∷ []) ∷ ([]) ∷ []

-- differential/cases: landing_and_named
landing_named : Given
landing_named = on (16 ∷ 6 ∷ 0 ∷ 4 ∷ 0 ∷ 2 ∷ 0 ∷ 0 ∷ 0 ∷ 0 ∷ 0 ∷ 0 ∷ 0 ∷ 0 ∷ 0 ∷ 0 ∷ 0 ∷ 0 ∷ 17 ∷ 11 ∷ 4 ∷ 4 ∷ 0 ∷ 0 ∷ 0 ∷ 0 ∷ 1 ∷ 155 ∷ 40 ∷ 1 ∷ 27 ∷ 41 ∷ 0 ∷ 0 ∷ 0 ∷ 0 ∷ 18 ∷ 1 ∷ 0 ∷ 0 ∷ 0 ∷ 0 ∷ 0 ∷ 0 ∷ 0 ∷ 0 ∷ 0 ∷ 0 ∷ 0 ∷ 0 ∷ 0 ∷ 0 ∷ 0 ∷ 0 ∷ []) (1 ∷ 1 ∷ 0 ∷ 16 ∷ 1 ∷ 3 ∷ 6 ∷ 4294967280 ∷ 4 ∷ 2 ∷ 6 ∷ 0 ∷ 5 ∷ 0 ∷ 7 ∷ 8 ∷ 1 ∷ 1 ∷ 0 ∷ 16 ∷ 1 ∷ 3 ∷ 6 ∷ 4294967280 ∷ 4 ∷ 2 ∷ 6 ∷ 0 ∷ 10 ∷ 0 ∷ 7 ∷ 8 ∷ []) (1 ∷ 3 ∷ 4 ∷ 4 ∷ 1 ∷ 5 ∷ [])

landing_named_written : List (List ℕ)
landing_named_written = (0 ∷ 68 ∷ 136 ∷ []) ∷ (0x1c ∷ 0x00 ∷ 0x00 ∷ 0x00 ∷ 0x00 ∷ 0x00 ∷ 0x00 ∷ 0x00 ∷ 0x01 ∷ 0x7a ∷ 0x50 ∷ 0x4c ∷ 0x52 ∷ 0x00 ∷ 0x01 ∷ 0x78 ∷ 0x10 ∷ 0x07 ∷ 0x9b ∷ 0x00 ∷ 0x00 ∷ 0x00 ∷ 0x00 ∷ 0x1b ∷ 0x1b ∷ 0x0c ∷ 0x07 ∷ 0x08 ∷ 0x90 ∷ 0x01 ∷ 0x00 ∷ 0x00 ∷ 0x20 ∷ 0x00 ∷ 0x00 ∷ 0x00 ∷ 0x24 ∷ 0x00 ∷ 0x00 ∷ 0x00 ∷ 0x00 ∷ 0x00 ∷ 0x00 ∷ 0x00 ∷ 0x06 ∷ 0x00 ∷ 0x00 ∷ 0x00 ∷ 0x04 ∷ 0x00 ∷ 0x00 ∷ 0x00 ∷ 0x00 ∷ 0x41 ∷ 0x0e ∷ 0x10 ∷ 0x86 ∷ 0x02 ∷ 0x43 ∷ 0x0d ∷ 0x06 ∷ 0x41 ∷ 0x0c ∷ 0x07 ∷ 0x08 ∷ 0x00 ∷ 0x00 ∷ 0x00 ∷ 0x1c ∷ 0x00 ∷ 0x00 ∷ 0x00 ∷ 0x00 ∷ 0x00 ∷ 0x00 ∷ 0x00 ∷ 0x01 ∷ 0x7a ∷ 0x50 ∷ 0x4c ∷ 0x52 ∷ 0x00 ∷ 0x01 ∷ 0x78 ∷ 0x10 ∷ 0x07 ∷ 0x9b ∷ 0x00 ∷ 0x00 ∷ 0x00 ∷ 0x00 ∷ 0x1b ∷ 0x1b ∷ 0x0c ∷ 0x07 ∷ 0x08 ∷ 0x90 ∷ 0x01 ∷ 0x00 ∷ 0x00 ∷ 0x20 ∷ 0x00 ∷ 0x00 ∷ 0x00 ∷ 0x24 ∷ 0x00 ∷ 0x00 ∷ 0x00 ∷ 0x00 ∷ 0x00 ∷ 0x00 ∷ 0x00 ∷ 0x0b ∷ 0x00 ∷ 0x00 ∷ 0x00 ∷ 0x04 ∷ 0x00 ∷ 0x00 ∷ 0x00 ∷ 0x00 ∷ 0x41 ∷ 0x0e ∷ 0x10 ∷ 0x86 ∷ 0x02 ∷ 0x43 ∷ 0x0d ∷ 0x06 ∷ 0x46 ∷ 0x0c ∷ 0x07 ∷ 0x08 ∷ 0x00 ∷ 0x00 ∷ 0x00 ∷ 0x14 ∷ 0x00 ∷ 0x00 ∷ 0x00 ∷ 0x00 ∷ 0x00 ∷ 0x00 ∷ 0x00 ∷ 0x01 ∷ 0x7a ∷ 0x52 ∷ 0x00 ∷ 0x01 ∷ 0x78 ∷ 0x10 ∷ 0x01 ∷ 0x1b ∷ 0x0c ∷ 0x07 ∷ 0x08 ∷ 0x90 ∷ 0x01 ∷ 0x00 ∷ 0x00 ∷ 0x14 ∷ 0x00 ∷ 0x00 ∷ 0x00 ∷ 0x1c ∷ 0x00 ∷ 0x00 ∷ 0x00 ∷ 0x00 ∷ 0x00 ∷ 0x00 ∷ 0x00 ∷ 0x01 ∷ 0x00 ∷ 0x00 ∷ 0x00 ∷ 0x00 ∷ 0x00 ∷ 0x00 ∷ 0x00 ∷ 0x00 ∷ 0x00 ∷ 0x00 ∷ 0x00 ∷ []) ∷ (19 ∷ 0 ∷ 0 ∷ 4 ∷ 0 ∷ 40 ∷ 16 ∷ 0 ∷ 4 ∷ 0 ∷ 49 ∷ 1 ∷ 0 ∷ 4 ∷ 0 ∷ 87 ∷ 40 ∷ 0 ∷ 4 ∷ 0 ∷ 108 ∷ 17 ∷ 0 ∷ 4 ∷ 0 ∷ 117 ∷ 41 ∷ 0 ∷ 4 ∷ 0 ∷ 168 ∷ 18 ∷ 0 ∷ 4 ∷ 0 ∷ []) ∷ (0xff ∷ 0xff ∷ 0x01 ∷ 0x08 ∷ 0x01 ∷ 0x03 ∷ 0x04 ∷ 0x00 ∷ 0x04 ∷ 0x01 ∷ 0x05 ∷ 0x00 ∷ []) ∷ []

-- differential/cases: x64_prologue
prologue : Given
prologue = on (16 ∷ 40 ∷ 0 ∷ 7 ∷ 0 ∷ 0 ∷ 0 ∷ 0 ∷ 0 ∷ 0 ∷ 0 ∷ 0 ∷ 0 ∷ 0 ∷ 0 ∷ 0 ∷ 0 ∷ 0 ∷ []) (1 ∷ 1 ∷ 0 ∷ 16 ∷ 1 ∷ 3 ∷ 6 ∷ 4294967280 ∷ 5 ∷ 1 ∷ 0 ∷ 64 ∷ 10 ∷ 3 ∷ 23 ∷ 4294967264 ∷ 20 ∷ 6 ∷ 0 ∷ 0 ∷ 21 ∷ 0 ∷ 7 ∷ 8 ∷ 22 ∷ 7 ∷ 0 ∷ 0 ∷ []) ([])

prologue_written : List (List ℕ)
prologue_written = (0 ∷ []) ∷ (0x00 ∷ 0x00 ∷ 0x00 ∷ 0x00 ∷ 0x00 ∷ 0x00 ∷ 0x00 ∷ 0x00 ∷ 0x00 ∷ 0x00 ∷ 0x00 ∷ 0x00 ∷ []) ∷ (0 ∷ 16 ∷ 4 ∷ 4 ∷ 0 ∷ 4 ∷ 16 ∷ 4 ∷ 4 ∷ 40 ∷ 8 ∷ 4294967312 ∷ 4 ∷ 4 ∷ 0 ∷ []) ∷ (0x01 ∷ 0x0a ∷ 0x04 ∷ 0x00 ∷ 0x0a ∷ 0x68 ∷ 0x02 ∷ 0x00 ∷ 0x05 ∷ 0x52 ∷ 0x01 ∷ 0x50 ∷ []) ∷ []

-- differential/cases: debug_two, the list `two_functions` as debug_frame
two_functions_debug_lem : List (List ℕ)
two_functions_debug_lem = (0 ∷ 0 ∷ []) ∷ (0x14 ∷ 0x00 ∷ 0x00 ∷ 0x00 ∷ 0xff ∷ 0xff ∷ 0xff ∷ 0xff ∷ 0x01 ∷ 0x00 ∷ 0x01 ∷ 0x78 ∷ 0x10 ∷ 0x0c ∷ 0x07 ∷ 0x08 ∷ 0x90 ∷ 0x01 ∷ 0x00 ∷ 0x00 ∷ 0x00 ∷ 0x00 ∷ 0x00 ∷ 0x00 ∷ 0x24 ∷ 0x00 ∷ 0x00 ∷ 0x00 ∷ 0x00 ∷ 0x00 ∷ 0x00 ∷ 0x00 ∷ 0x00 ∷ 0x00 ∷ 0x00 ∷ 0x00 ∷ 0x00 ∷ 0x00 ∷ 0x00 ∷ 0x00 ∷ 0x06 ∷ 0x00 ∷ 0x00 ∷ 0x00 ∷ 0x00 ∷ 0x00 ∷ 0x00 ∷ 0x00 ∷ 0x41 ∷ 0x0e ∷ 0x10 ∷ 0x86 ∷ 0x02 ∷ 0x43 ∷ 0x0d ∷ 0x06 ∷ 0x41 ∷ 0x0c ∷ 0x07 ∷ 0x08 ∷ 0x00 ∷ 0x00 ∷ 0x00 ∷ 0x00 ∷ 0x24 ∷ 0x00 ∷ 0x00 ∷ 0x00 ∷ 0x00 ∷ 0x00 ∷ 0x00 ∷ 0x00 ∷ 0x00 ∷ 0x00 ∷ 0x00 ∷ 0x00 ∷ 0x00 ∷ 0x00 ∷ 0x00 ∷ 0x00 ∷ 0x0b ∷ 0x00 ∷ 0x00 ∷ 0x00 ∷ 0x00 ∷ 0x00 ∷ 0x00 ∷ 0x00 ∷ 0x41 ∷ 0x0e ∷ 0x10 ∷ 0x86 ∷ 0x02 ∷ 0x43 ∷ 0x0d ∷ 0x06 ∷ 0x46 ∷ 0x0c ∷ 0x07 ∷ 0x08 ∷ 0x00 ∷ 0x00 ∷ 0x00 ∷ 0x00 ∷ []) ∷ (28 ∷ 2 ∷ 1 ∷ 4 ∷ 0 ∷ 32 ∷ 16 ∷ 1 ∷ 8 ∷ 0 ∷ 68 ∷ 2 ∷ 1 ∷ 4 ∷ 0 ∷ 72 ∷ 17 ∷ 1 ∷ 8 ∷ 0 ∷ []) ∷ ([]) ∷ []

-- differential/cases: in_registers; the first two rows lead, registers from 128 on have two bytes
in_registers : Given
in_registers = on (16 ∷ 8 ∷ 0 ∷ 4 ∷ 0 ∷ 0 ∷ 0 ∷ 0 ∷ 0 ∷ 0 ∷ 0 ∷ 0 ∷ 0 ∷ 0 ∷ 0 ∷ 0 ∷ 0 ∷ 0 ∷ []) (0 ∷ 9 ∷ 3 ∷ 0 ∷ 0 ∷ 10 ∷ 130 ∷ 200 ∷ 1 ∷ 10 ∷ 12 ∷ 13 ∷ 4 ∷ 9 ∷ 300 ∷ 0 ∷ []) []

in_registers_written : List (List ℕ)
in_registers_written = (0 ∷ []) ∷ (0x1c ∷ 0x00 ∷ 0x00 ∷ 0x00 ∷ 0x00 ∷ 0x00 ∷ 0x00 ∷ 0x00 ∷ 0x01 ∷ 0x7a ∷ 0x52 ∷ 0x00 ∷ 0x01 ∷ 0x78 ∷ 0x10 ∷ 0x01 ∷ 0x1b ∷ 0x0c ∷ 0x07 ∷ 0x08 ∷ 0x90 ∷ 0x01 ∷ 0x08 ∷ 0x03 ∷ 0x09 ∷ 0x82 ∷ 0x01 ∷ 0xc8 ∷ 0x01 ∷ 0x00 ∷ 0x00 ∷ 0x00 ∷ 0x1c ∷ 0x00 ∷ 0x00 ∷ 0x00 ∷ 0x24 ∷ 0x00 ∷ 0x00 ∷ 0x00 ∷ 0x00 ∷ 0x00 ∷ 0x00 ∷ 0x00 ∷ 0x08 ∷ 0x00 ∷ 0x00 ∷ 0x00 ∷ 0x00 ∷ 0x41 ∷ 0x09 ∷ 0x0c ∷ 0x0d ∷ 0x43 ∷ 0x08 ∷ 0xac ∷ 0x02 ∷ 0x00 ∷ 0x00 ∷ 0x00 ∷ 0x00 ∷ 0x00 ∷ 0x00 ∷ 0x00 ∷ []) ∷ (40 ∷ 16 ∷ 0 ∷ 4 ∷ 0 ∷ []) ∷ [] ∷ []

ample : Room
ample = record { places = 9; bytes = 999; relocations = 999; sites = 99 }

view : Answer → List (List ℕ)
view (refused n k) = (n ∷ k ∷ []) ∷ []
view empty = []
view (accepted w) = w.places ∷ w.bytes ∷ numbers_of w.relocations ∷ w.sites ∷ []

-- what the writers' definitions give
unfoldable written : ℕ → Given → Room → List (List ℕ)
unfolding view x8664_list on ample pick next after onward or_else all first each little read_little uleb_f uleb bits7 sleb_f sleb read_uleb_f read_uleb push last7 read_sleb_f fits64 read_sleb register_of machine_of is_word_size machine_ok factor cfa_bytes with_register saved_bytes row_bytes step_in step_form step_bytes stepped_bytes rows_bytes unfactor read_register in_range read_offset read_factored read_signed one two read_extended read_operation whole whole_below row_whole same_offset kind_of reg_of offset_of same_row mark row_of row_at landing_at pair_at code_of code_at optional function_at functions_of prologue_at prologues_of relocation_at relocations_of numbers_of inside symbol_ok mark_ok when_marked has_register has_offset second_operands row_ok row_ok_at pair_ok_at code_ok code_ok_at all_in pointer_ok function_ok_at prologue_ok_at sum_of pairs_in lists_ok codes_ok implied leads ahead others leading encoding_of named_kind kind_for key_of same_encoding same_kind same_rows same_key size_of pointer_size size_or0 pointer_bytes pointer_reloc padding padded entry letters augmentation lsda_letter augmentation_data counted header_data header_id data_factor header_fields header_bytes pointer_place kind_relocs header_relocs site_bytes sites_bytes site_table site_pad site_added pointer_blank named_blank lsda_blank pointer_to named_reloc lsda_reloc size_field record_fields record_bytes sum_pair pair_for set_kind set_bytes set_place set_pair step_relocs row_relocs record_relocs before_remember join_group groups more is_push only_push lone_row push_rows read_group read_groups low16 code_for codes_for codes_of end_of node alloc_bytes slot_bytes save_bytes size64 code_bytes register_in alloc_no save_no operand_no code_no frame_ok frame_no or_no first_no slots prologue_no frame_or frame_byte reversed info_bytes runtime_relocs markers_from runtime_from x64 prologue_of ask and_then per_function size_bytes is_some lsda_ok named_ok encodings_ok steps_ok pairs_ok dwarf_asks made_one prologues_for no_at code_asks room_asks unless fitting dwarf_answer codes_answer prologues_answer short_ones windows_answer given_functions no_functions given_asks windows_asks dwarf_given format_answer relaxed_table relaxed_debug_frame seh dwarf_written is_debug without_exceptions taken align_for place_in part_with part_of is_empty parts_from joined parts_of dwarf
written format g r = view (relaxed_table format g r)

unfoldable written_debug : Given → List (List ℕ)
unfolding view x8664_list on ample pick next after onward or_else all first each little read_little uleb_f uleb bits7 sleb_f sleb read_uleb_f read_uleb push last7 read_sleb_f fits64 read_sleb register_of machine_of is_word_size machine_ok factor cfa_bytes with_register saved_bytes row_bytes step_in step_form step_bytes stepped_bytes rows_bytes unfactor read_register in_range read_offset read_factored read_signed one two read_extended read_operation whole whole_below row_whole same_offset kind_of reg_of offset_of same_row mark row_of row_at landing_at pair_at code_of code_at optional function_at functions_of prologue_at prologues_of relocation_at relocations_of numbers_of inside symbol_ok mark_ok when_marked has_register has_offset second_operands row_ok row_ok_at pair_ok_at code_ok code_ok_at all_in pointer_ok function_ok_at prologue_ok_at sum_of pairs_in lists_ok codes_ok implied leads ahead others leading encoding_of named_kind kind_for key_of same_encoding same_kind same_rows same_key size_of pointer_size size_or0 pointer_bytes pointer_reloc padding padded entry letters augmentation lsda_letter augmentation_data counted header_data header_id data_factor header_fields header_bytes pointer_place kind_relocs header_relocs site_bytes sites_bytes site_table site_pad site_added pointer_blank named_blank lsda_blank pointer_to named_reloc lsda_reloc size_field record_fields record_bytes sum_pair pair_for set_kind set_bytes set_place set_pair step_relocs row_relocs record_relocs before_remember join_group groups more is_push only_push lone_row push_rows read_group read_groups low16 code_for codes_for codes_of end_of node alloc_bytes slot_bytes save_bytes size64 code_bytes register_in alloc_no save_no operand_no code_no frame_ok frame_no or_no first_no slots prologue_no frame_or frame_byte reversed info_bytes runtime_relocs markers_from runtime_from x64 prologue_of ask and_then per_function size_bytes is_some lsda_ok named_ok encodings_ok steps_ok pairs_ok dwarf_asks made_one prologues_for no_at code_asks room_asks unless fitting dwarf_answer codes_answer prologues_answer short_ones windows_answer given_functions no_functions given_asks windows_asks dwarf_given format_answer relaxed_table relaxed_debug_frame seh dwarf_written is_debug without_exceptions taken align_for place_in part_with part_of is_empty parts_from joined parts_of dwarf
written_debug g = view (relaxed_debug_frame 0 g ample)

-- two functions share one header
two_functions_lem : written 0 two_functions ample ≡ two_functions_written
unfolding written two_functions two_functions_written
two_functions_lem = refl

-- the same as debug_frame
two_functions_debug : written_debug two_functions ≡ two_functions_debug_lem
unfolding written_debug two_functions two_functions_debug_lem
two_functions_debug = refl

-- a simple function has a header of its own; it starts at 44, and is padded to a multiple of 8 from the section's start
last_header_lem : written 0 last_header ample ≡ last_header_written
unfolding written last_header last_header_written
last_header_lem = refl

-- landings, a named personality with an LSDA, and neither
landing_named_lem : written 0 landing_named ample ≡ landing_named_written
unfolding written landing_named landing_named_written
landing_named_lem = refl

-- registers that keep their value, and values held in other registers
in_registers_lem : written 0 in_registers ample ≡ in_registers_written
unfolding written in_registers in_registers_written
in_registers_lem = refl

-- x64: a push, an allocation and a vector register's save
x64_prologue : written 1 prologue ample ≡ prologue_written
unfolding written prologue prologue_written
x64_prologue = refl

-- ---- refusals: number and position

-- an Offset of -12 at word 8 in the second function; a row that goes back; a direct frame pointer before the frame in COFF; a machine
-- list that is one number short; a symbol below 16; a buffer one byte short; a relocation list that holds one of two
refusals : List (List (List ℕ))
refusals =
    written 0 (on (16 ∷ 1 ∷ 0 ∷ 0 ∷ (replicate 14 0 ++ (17 ∷ 1 ∷ 0 ∷ 1 ∷ replicate 14 0))) (0 ∷ 3 ∷ 6 ∷ 0xfffffff4 ∷ []) []) ample
    ∷ written 0 (on (16 ∷ 1 ∷ 0 ∷ 2 ∷ replicate 14 0) (2 ∷ 8 ∷ 0 ∷ 0 ∷ 1 ∷ 8 ∷ 0 ∷ 0 ∷ []) []) ample
    ∷ written 1 (on (16 ∷ 1 ∷ 0 ∷ 1 ∷ replicate 14 0) (1 ∷ 2 ∷ 6 ∷ 0 ∷ []) []) ample
    ∷ written 0 (record { machine = 8 ∷ replicate 68 0; functions = 16 ∷ replicate 17 0; rows = []; landings = []; pairs = [] }) ample
    ∷ written 0 (on (15 ∷ replicate 17 0) [] []) ample
    ∷ written 0 two_functions (record { places = 2; bytes = 87; relocations = 10; sites = 0 })
    ∷ written 0 two_functions (record { places = 2; bytes = 88; relocations = 9; sites = 0 })
    ∷ []

refusals_are : refusals ≡ ((24 ∷ 1 ∷ []) ∷ []) ∷ ((23 ∷ 0 ∷ []) ∷ []) ∷ ((31 ∷ 0 ∷ []) ∷ []) ∷ ((11 ∷ 0 ∷ []) ∷ []) ∷ ((13 ∷ 0 ∷ []) ∷ []) ∷ ((52 ∷ 0 ∷ []) ∷ []) ∷ ((53 ∷ 0 ∷ []) ∷ []) ∷ []
unfolding refusals written two_functions
refusals_are = refl

-- SameValue with an operand, another register above 65,535, a kind above 10; both kinds as x64 input
register_refusals : List (List (List ℕ))
register_refusals =
    written 0 (one_row 9 1) ample ∷ written 0 (one_row 10 65536) ample ∷ written 0 (one_row 11 0) ample ∷ written 1 (one_row 9 0) ample
    ∷ written 1 (one_row 10 65535) ample ∷ []
  where
    one_row : (kind operand : ℕ) → Given
    one_row kind operand = on (16 ∷ 1 ∷ 0 ∷ 1 ∷ replicate 14 0) (1 ∷ kind ∷ 3 ∷ operand ∷ []) []

register_refusals_are : register_refusals ≡ ((13 ∷ 0 ∷ []) ∷ []) ∷ ((13 ∷ 0 ∷ []) ∷ []) ∷ ((13 ∷ 0 ∷ []) ∷ []) ∷ ((33 ∷ 0 ∷ []) ∷ []) ∷ ((33 ∷ 0 ∷ []) ∷ []) ∷ []
unfolding register_refusals written
register_refusals_are = refl

-- ---- reads

-- what the reader's definition gives of register q at p in record k of eh_frame and of debug_frame at word 8
unfoldable read_eh : List (List ℕ) → (k q p : ℕ) → Reading
unfolding pick next after onward or_else all first each little read_little uleb_f uleb bits7 sleb_f sleb read_uleb_f read_uleb push last7 read_sleb_f fits64 read_sleb factor cfa_bytes with_register saved_bytes row_bytes step_in step_form step_bytes stepped_bytes rows_bytes unfactor read_register in_range read_offset read_factored read_signed one two read_extended read_operation whole whole_below row_whole same_offset kind_of reg_of offset_of same_row mark row_of row_at landing_at pair_at code_of code_at optional function_at functions_of prologue_at prologues_of relocation_at relocations_of numbers_of inside symbol_ok mark_ok when_marked has_register has_offset second_operands row_ok row_ok_at pair_ok_at code_ok code_ok_at all_in pointer_ok function_ok_at prologue_ok_at sum_of pairs_in lists_ok codes_ok implied leads ahead others leading encoding_of named_kind kind_for key_of same_encoding same_kind same_rows same_key size_of pointer_size size_or0 pointer_bytes pointer_reloc padding padded entry letters augmentation lsda_letter augmentation_data counted header_data header_id data_factor header_fields header_bytes pointer_place kind_relocs header_relocs register_of machine_of is_word_size machine_ok blank with_cfa with_rule reoffset reregister restored negated apply rules_for seen without_cfa without_stored refusal unless_refused act answer read_entry entries_f entries value_or0 second is_header records distance_back first_addend header_place header_at strip spelled spellings spell_or read_letters read_byte read_many read_counted personality_in lsda_in letters_in header_tail require parse_header record_tail parse_record perform when_read run_f run parsed locate run_to read_section read
read_eh w k q p = read (get_or w 1 []) (get_or w 2 []) 0 8 k q p

unfoldable read_debug : List (List ℕ) → (k q p : ℕ) → Reading
unfolding pick next after onward or_else all first each little read_little uleb_f uleb bits7 sleb_f sleb read_uleb_f read_uleb push last7 read_sleb_f fits64 read_sleb factor cfa_bytes with_register saved_bytes row_bytes step_in step_form step_bytes stepped_bytes rows_bytes unfactor read_register in_range read_offset read_factored read_signed one two read_extended read_operation whole whole_below row_whole same_offset kind_of reg_of offset_of same_row mark row_of row_at landing_at pair_at code_of code_at optional function_at functions_of prologue_at prologues_of relocation_at relocations_of numbers_of inside symbol_ok mark_ok when_marked has_register has_offset second_operands row_ok row_ok_at pair_ok_at code_ok code_ok_at all_in pointer_ok function_ok_at prologue_ok_at sum_of pairs_in lists_ok codes_ok implied leads ahead others leading encoding_of named_kind kind_for key_of same_encoding same_kind same_rows same_key size_of pointer_size size_or0 pointer_bytes pointer_reloc padding padded entry letters augmentation lsda_letter augmentation_data counted header_data header_id data_factor header_fields header_bytes pointer_place kind_relocs header_relocs register_of machine_of is_word_size machine_ok blank with_cfa with_rule reoffset reregister restored negated apply rules_for seen without_cfa without_stored refusal unless_refused act answer read_entry entries_f entries value_or0 second is_header records distance_back first_addend header_place header_at strip spelled spellings spell_or read_letters read_byte read_many read_counted personality_in lsda_in letters_in header_tail require parse_header record_tail parse_record perform when_read run_f run parsed locate run_to read_section read
read_debug w k q p = read (get_or w 1 []) (get_or w 2 []) 1 8 k q p

abbrev rules : CfaRule → Rule → Bool → Reading
rules c r s = Ok (record { cfa = c; rule = r; signing = s })

-- both functions push rbp (6) at 1 and take it for their frame at 4; the second is 11 bytes long
reads : List Reading
reads =
    read_eh two_functions_written 1 6 0 ∷ read_eh two_functions_written 1 6 2 ∷ read_eh two_functions_written 1 16 5
    ∷ read_eh two_functions_written 0 6 3 ∷ read_eh two_functions_written 1 6 11 ∷ read_eh two_functions_written 2 6 0
    ∷ read_debug two_functions_debug_lem 1 6 5 ∷ read_eh landing_named_written 1 6 3 ∷ []

reads_are : reads
    ≡ rules (register 7 (pos 8)) unstated false ∷ rules (register 7 (pos 16)) (Saved (negsuc 15)) false
    ∷ rules (register 6 (pos 16)) (Saved (negsuc 7)) false ∷ rules (register 7 (pos 16)) (Saved (negsuc 15)) false ∷ Err 65
    ∷ Err 62 ∷ rules (register 6 (pos 16)) (Saved (negsuc 15)) false ∷ rules (register 7 (pos 16)) (Saved (negsuc 15)) false ∷ []
unfolding reads read_eh read_debug two_functions_written two_functions_debug_lem landing_named_written
reads_are = refl

-- rbx (3) keeps its value, 130 is in 200 from the start; r12 is in r13 from 1 on, and 300 keeps its value from 4 on
register_reads : List Reading
register_reads =
    read_eh in_registers_written 0 3 0 ∷ read_eh in_registers_written 0 130 7 ∷ read_eh in_registers_written 0 12 0
    ∷ read_eh in_registers_written 0 12 1 ∷ read_eh in_registers_written 0 300 3 ∷ read_eh in_registers_written 0 300 4 ∷ []

register_reads_are : register_reads
    ≡ rules (register 7 (pos 8)) SameValue false ∷ rules (register 7 (pos 8)) (InRegister 200) false
    ∷ rules (register 7 (pos 8)) unstated false ∷ rules (register 7 (pos 8)) (InRegister 13) false
    ∷ rules (register 7 (pos 8)) unstated false ∷ rules (register 7 (pos 8)) SameValue false ∷ []
unfolding register_reads read_eh in_registers_written
register_reads_are = refl

-- a section cut by one byte does not tile; a version of 3 and a distance to no header are refused; so is a relocation list without the header's place
damaged : List Reading
damaged =
    read_eh ([] ∷ (0x14 ∷ 0 ∷ 0 ∷ 0 ∷ 0 ∷ []) ∷ [] ∷ []) 0 6 0
    ∷ read_eh ([] ∷ set (get_or two_functions_written 1 []) 8 3 ∷ [] ∷ []) 0 6 0
    ∷ read_eh ([] ∷ set (get_or two_functions_written 1 []) 28 0x1d ∷ [] ∷ []) 0 6 0
    ∷ read_debug ([] ∷ get_or two_functions_debug_lem 1 [] ∷ [] ∷ []) 0 6 0
    ∷ read (get_or two_functions_written 1 []) [] 0 3 0 6 0 ∷ []

damaged_are : damaged ≡ Err 61 ∷ Err 64 ∷ Err 63 ∷ Err 63 ∷ Err 11 ∷ []
unfolding damaged read_eh read_debug two_functions_written two_functions_debug_lem
damaged_are = refl

-- ---- answers as numbers

-- answers and a refusal of the reader; an accepted and a refused call; what a lent list of relocations holds after the first and a list
-- of places after the second
answers : List (List ℕ)
answers =
    reading_numbers (rules (register 7 (pos 16)) (Saved (negsuc 15)) true) ∷ reading_numbers (rules (register 7 (pos 8)) SameValue false)
    ∷ reading_numbers (rules (register 7 (pos 8)) (InRegister 200) false) ∷ reading_numbers (Err 65)
    ∷ outcome_numbers (outcome_of (relaxed_table 0 two_functions ample)) ∷ outcome_numbers (outcome_of (refused 24 1))
    ∷ afterwards relocation_numbers (relaxed_table 0 two_functions ample) (replicate 12 9) ∷ afterwards (λ w. w.places) (refused 24 1) (5 ∷ []) ∷ []

answers_are : answers
    ≡ (0 ∷ 1 ∷ 7 ∷ 16 ∷ 2 ∷ 0xfffffffffffffff0 ∷ 1 ∷ []) ∷ (0 ∷ 1 ∷ 7 ∷ 8 ∷ 3 ∷ 0 ∷ 0 ∷ []) ∷ (0 ∷ 1 ∷ 7 ∷ 8 ∷ 4 ∷ 200 ∷ 0 ∷ []) ∷ (65 ∷ 0 ∷ 0 ∷ 0 ∷ 0 ∷ 0 ∷ 0 ∷ []) ∷ (0 ∷ 0 ∷ 2 ∷ 88 ∷ 2 ∷ 0 ∷ [])
    ∷ (24 ∷ 1 ∷ 0 ∷ 0 ∷ 0 ∷ 0 ∷ []) ∷ (32 ∷ 16 ∷ 0 ∷ 4 ∷ 0 ∷ 64 ∷ 17 ∷ 0 ∷ 4 ∷ 0 ∷ 9 ∷ 9 ∷ []) ∷ (5 ∷ []) ∷ []
unfolding answers written two_functions put cfa_numbers rule_numbers bit reading_numbers outcome_numbers outcome_of afterwards relocation_numbers
answers_are = refl

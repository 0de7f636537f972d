-- Worked examples, computed from the definitions: what differential/arm64_reader.py, which is written from the page, makes of the same inputs.
use mathlib.Core.Path.{◌≡◌, refl}
use Prim.Native.Nat.{ℕ, ◌+◌}
use mathlib.Core.List.{List, [], ◌∷◌, map}
use mathlib.Core.Option.{none, some}
use mathlib.Core.Bool.{false}
use lib.ListN.{replicate}
use Rattle.format.specs.Prelude.{pick, after, each, onward, or_else, Result}
use Rattle.format.specs.Put.{put}
use Rattle.arm64.specs.declared.Arm64Reading.{Arm64Reading}
use Rattle.arm64.specs.Codes.{code, short_form, integer_form, vector_form, other_form, form_of, field_at, code_in, code_as, code_at, big, register_field, offset_field, spelled, alloc_form, form_for, code_bytes, k_alloc, k_r19_r20_x, k_fplr, k_fplr_x, k_regp, k_regp_x, k_reg, k_reg_x, k_lrpair, k_fregp, k_fregp_x, k_freg, k_freg_x, k_set_fp, k_add_fp, k_nop, k_save_next, k_pac_sign_lr}
use Rattle.arm64.specs.Lists.{code_numbers, epilogue_numbers}
use Rattle.arm64.specs.Records.{word_at, version_of, is_long, header_with, short_header, long_header, header_at, scopes_in, codes_from, codes_to, header_fits, record_ok, codes_of, scope_start, scope_index, scope_at}
use Rattle.arm64.specs.Packed.{packed_of, saves_lr, integer_size, vector_count, saved_size, local_size, packed_ok, chain_ok, sign_slot, lone, integer_pair, integer_odd, integer_slot, vector_pair, vector_slot, home_slot, alloc_slot, rest_slot, chain_slot, frame_slot, local_slot, slot, with_slot, slots_from, undone, slot_at, packed_prologue, packed_epilogue}
use Rattle.arm64.specs.Meaning.{Store, stored, storing, only, save_one, save_pair, save_next, pair_step, integer_step, frame_step, or_step, step_of, pair_of, effect_of, effects, reverse, prologue_means, epilogue_means}
use Rattle.arm64.specs.Reader.{Unwound, in_front, run_f, run_at, epilogue, at_end, scoped, record_epilogues, unwound, record_unwound, full_record, packed_epilogues, packed_unwound, unwound_by, epilogue_codes, all_codes, fits_in, read_arm64, reading_of, epilogues_after, codes_after}

-- ---- each kind's bytes: the smallest and the largest operands

codes_spelled : List (List ℕ)
codes_spelled =
    map code_bytes
    (code k_alloc 0 0 ∷ code k_alloc 0 496 ∷ code k_alloc 0 512 ∷ code k_alloc 0 32752 ∷ code k_alloc 0 32768 ∷ code k_alloc 0 268435440 ∷ code k_r19_r20_x 0 248 ∷ code k_fplr 0 504 ∷ code k_fplr_x 0 8 ∷ code k_fplr_x 0 512 ∷ code k_regp 19 0 ∷ code k_regp 28 504 ∷ code k_regp_x 28 512 ∷ code k_reg 30 504 ∷ code k_reg_x 30 256 ∷ code k_lrpair 27 504 ∷ code k_fregp 14 504 ∷ code k_fregp_x 8 8 ∷ code k_freg 15 504 ∷ code k_freg_x 15 256 ∷ code k_set_fp 0 0 ∷ code k_add_fp 0 2040 ∷ code k_nop 0 0 ∷ code k_save_next 0 0 ∷ code k_pac_sign_lr 0 0 ∷ [])

codes_bytes : codes_spelled
    ≡ (0x00 ∷ []) ∷ (0x1f ∷ []) ∷ (0xc0 ∷ 0x20 ∷ []) ∷ (0xc7 ∷ 0xff ∷ []) ∷ (0xe0 ∷ 0x00 ∷ 0x08 ∷ 0x00 ∷ []) ∷ (0xe0 ∷ 0xff ∷ 0xff ∷ 0xff ∷ []) ∷ (0x3f ∷ []) ∷ (0x7f ∷ []) ∷ (0x80 ∷ []) ∷ (0xbf ∷ []) ∷ (0xc8 ∷ 0x00 ∷ []) ∷ (0xca ∷ 0x7f ∷ []) ∷ (0xce ∷ 0x7f ∷ []) ∷ (0xd2 ∷ 0xff ∷ []) ∷ (0xd5 ∷ 0x7f ∷ []) ∷ (0xd7 ∷ 0x3f ∷ []) ∷ (0xd9 ∷ 0xbf ∷ []) ∷ (0xda ∷ 0x00 ∷ []) ∷ (0xdd ∷ 0xff ∷ []) ∷ (0xde ∷ 0xff ∷ []) ∷ (0xe1 ∷ []) ∷ (0xe2 ∷ 0xff ∷ []) ∷ (0xe3 ∷ []) ∷ (0xe6 ∷ []) ∷ (0xfc ∷ []) ∷ []
unfolding codes_spelled code_bytes form_for alloc_form spelled register_field offset_field big pick
codes_bytes = refl

-- ---- what is read: the answer's five numbers, the epilogues and the codes, in lists of 9 and 60 numbers, as many as were stored

answer_numbers : Arm64Reading → List ℕ
answer_numbers r = r.number ∷ r.length ∷ r.prologue ∷ r.epilogues ∷ r.codes ∷ []

told : (es cs : ℕ) → Result Unwound → List (List ℕ)
told es cs r = answer_numbers (reading_of r) ∷ epilogues_after (replicate es 9) r ∷ codes_after (replicate cs 9) r ∷ []

read_of : (word : ℕ) → List ℕ → (place es cs : ℕ) → List (List ℕ)
read_of word s place es cs = told es cs (read_arm64 word s place (replicate es 9) (replicate cs 9))

-- a prologue of every code above, in the order of its instructions, and no epilogue
every_code : read_of 0 (0x64 ∷ 0x00 ∷ 0x00 ∷ 0x60 ∷ 0x00 ∷ 0x1f ∷ 0xc0 ∷ 0x20 ∷ 0xc7 ∷ 0xff ∷ 0xe0 ∷ 0x00 ∷ 0x08 ∷ 0x00 ∷ 0xe0 ∷ 0xff ∷ 0xff ∷ 0xff ∷ 0x3f ∷ 0x7f ∷ 0x80 ∷ 0xbf ∷ 0xc8 ∷ 0x00 ∷ 0xca ∷ 0x7f ∷ 0xce ∷ 0x7f ∷ 0xd2 ∷ 0xff ∷ 0xd5 ∷ 0x7f ∷ 0xd7 ∷ 0x3f ∷ 0xd9 ∷ 0xbf ∷ 0xda ∷ 0x00 ∷ 0xdd ∷ 0xff ∷ 0xde ∷ 0xff ∷ 0xe1 ∷ 0xe2 ∷ 0xff ∷ 0xe3 ∷ 0xe6 ∷ 0xfc ∷ 0xe4 ∷ 0xe3 ∷ 0xe3 ∷ 0xe3 ∷ []) 0 3 78
    ≡ (0 ∷ 400 ∷ 25 ∷ 0 ∷ 25 ∷ []) ∷ (9 ∷ 9 ∷ 9 ∷ []) ∷ (17 ∷ 0 ∷ 0 ∷ 16 ∷ 0 ∷ 0 ∷ 15 ∷ 0 ∷ 0 ∷ 14 ∷ 0 ∷ 2040 ∷ 13 ∷ 0 ∷ 0 ∷ 12 ∷ 15 ∷ 256 ∷ 11 ∷ 15 ∷ 504 ∷ 10 ∷ 8 ∷ 8 ∷ 9 ∷ 14 ∷ 504 ∷ 8 ∷ 27 ∷ 504 ∷ 7 ∷ 30 ∷ 256 ∷ 6 ∷ 30 ∷ 504 ∷ 5 ∷ 28 ∷ 512 ∷ 4 ∷ 28 ∷ 504 ∷ 4 ∷ 19 ∷ 0 ∷ 3 ∷ 0 ∷ 512 ∷ 3 ∷ 0 ∷ 8 ∷ 2 ∷ 0 ∷ 504 ∷ 1 ∷ 0 ∷ 248 ∷ 0 ∷ 0 ∷ 268435440 ∷ 0 ∷ 0 ∷ 32768 ∷ 0 ∷ 0 ∷ 32752 ∷ 0 ∷ 0 ∷ 512 ∷ 0 ∷ 0 ∷ 496 ∷ 0 ∷ 0 ∷ 0 ∷ 9 ∷ 9 ∷ 9 ∷ []) ∷ []
unfolding read_of told answer_numbers read_arm64 unwound_by full_record record_ok header_at word_at version_of is_long header_with short_header long_header scopes_in codes_from codes_to header_fits codes_of scope_start scope_index scope_at record_unwound record_epilogues scoped at_end epilogue unwound run_at run_f in_front code_at code_as form_of short_form integer_form vector_form other_form field_at code_in packed_unwound packed_epilogues packed_of saves_lr integer_size vector_count saved_size local_size packed_ok chain_ok sign_slot lone integer_pair integer_odd integer_slot vector_pair vector_slot home_slot alloc_slot rest_slot chain_slot frame_slot local_slot slot with_slot slots_from undone slot_at packed_prologue packed_epilogue epilogue_codes all_codes fits_in reading_of epilogues_after codes_after epilogue_numbers code_numbers reverse put pick after each onward or_else
every_code = refl

-- two epilogues: one of its own codes, and one of the end of the prologue's
two_epilogues : read_of 0 (0x14 ∷ 0x00 ∷ 0x80 ∷ 0x18 ∷ 0x08 ∷ 0x00 ∷ 0x40 ∷ 0x01 ∷ 0x10 ∷ 0x00 ∷ 0xc0 ∷ 0x00 ∷ 0xc8 ∷ 0x02 ∷ 0xe1 ∷ 0x83 ∷ 0xe4 ∷ 0xc8 ∷ 0x02 ∷ 0x83 ∷ 0xe4 ∷ 0xe3 ∷ 0xe3 ∷ 0xe3 ∷ []) 0 6 18
    ≡ (0 ∷ 80 ∷ 3 ∷ 2 ∷ 6 ∷ []) ∷ (32 ∷ 3 ∷ 2 ∷ 64 ∷ 5 ∷ 1 ∷ []) ∷ (3 ∷ 0 ∷ 32 ∷ 13 ∷ 0 ∷ 0 ∷ 4 ∷ 19 ∷ 16 ∷ 4 ∷ 19 ∷ 16 ∷ 3 ∷ 0 ∷ 32 ∷ 3 ∷ 0 ∷ 32 ∷ []) ∷ []
unfolding read_of told answer_numbers read_arm64 unwound_by full_record record_ok header_at word_at version_of is_long header_with short_header long_header scopes_in codes_from codes_to header_fits codes_of scope_start scope_index scope_at record_unwound record_epilogues scoped at_end epilogue unwound run_at run_f in_front code_at code_as form_of short_form integer_form vector_form other_form field_at code_in packed_unwound packed_epilogues packed_of saves_lr integer_size vector_count saved_size local_size packed_ok chain_ok sign_slot lone integer_pair integer_odd integer_slot vector_pair vector_slot home_slot alloc_slot rest_slot chain_slot frame_slot local_slot slot with_slot slots_from undone slot_at packed_prologue packed_epilogue epilogue_codes all_codes fits_in reading_of epilogues_after codes_after epilogue_numbers code_numbers reverse put pick after each onward or_else
two_epilogues = refl

-- 54: the same with room for one epilogue
no_room : read_of 0 (0x14 ∷ 0x00 ∷ 0x80 ∷ 0x18 ∷ 0x08 ∷ 0x00 ∷ 0x40 ∷ 0x01 ∷ 0x10 ∷ 0x00 ∷ 0xc0 ∷ 0x00 ∷ 0xc8 ∷ 0x02 ∷ 0xe1 ∷ 0x83 ∷ 0xe4 ∷ 0xc8 ∷ 0x02 ∷ 0x83 ∷ 0xe4 ∷ 0xe3 ∷ 0xe3 ∷ 0xe3 ∷ []) 0 5 18
    ≡ (54 ∷ 0 ∷ 0 ∷ 0 ∷ 0 ∷ []) ∷ (9 ∷ 9 ∷ 9 ∷ 9 ∷ 9 ∷ []) ∷ (9 ∷ 9 ∷ 9 ∷ 9 ∷ 9 ∷ 9 ∷ 9 ∷ 9 ∷ 9 ∷ 9 ∷ 9 ∷ 9 ∷ 9 ∷ 9 ∷ 9 ∷ 9 ∷ 9 ∷ 9 ∷ []) ∷ []
unfolding read_of told answer_numbers read_arm64 unwound_by full_record record_ok header_at word_at version_of is_long header_with short_header long_header scopes_in codes_from codes_to header_fits codes_of scope_start scope_index scope_at record_unwound record_epilogues scoped at_end epilogue unwound run_at run_f in_front code_at code_as form_of short_form integer_form vector_form other_form field_at code_in packed_unwound packed_epilogues packed_of saves_lr integer_size vector_count saved_size local_size packed_ok chain_ok sign_slot lone integer_pair integer_odd integer_slot vector_pair vector_slot home_slot alloc_slot rest_slot chain_slot frame_slot local_slot slot with_slot slots_from undone slot_at packed_prologue packed_epilogue epilogue_codes all_codes fits_in reading_of epilogues_after codes_after epilogue_numbers code_numbers reverse put pick after each onward or_else
no_room = refl

-- 54: the same with room for five codes
no_room_codes : read_of 0 (0x14 ∷ 0x00 ∷ 0x80 ∷ 0x18 ∷ 0x08 ∷ 0x00 ∷ 0x40 ∷ 0x01 ∷ 0x10 ∷ 0x00 ∷ 0xc0 ∷ 0x00 ∷ 0xc8 ∷ 0x02 ∷ 0xe1 ∷ 0x83 ∷ 0xe4 ∷ 0xc8 ∷ 0x02 ∷ 0x83 ∷ 0xe4 ∷ 0xe3 ∷ 0xe3 ∷ 0xe3 ∷ []) 0 6 17
    ≡ (54 ∷ 0 ∷ 0 ∷ 0 ∷ 0 ∷ []) ∷ (9 ∷ 9 ∷ 9 ∷ 9 ∷ 9 ∷ 9 ∷ []) ∷ (9 ∷ 9 ∷ 9 ∷ 9 ∷ 9 ∷ 9 ∷ 9 ∷ 9 ∷ 9 ∷ 9 ∷ 9 ∷ 9 ∷ 9 ∷ 9 ∷ 9 ∷ 9 ∷ 9 ∷ []) ∷ []
unfolding read_of told answer_numbers read_arm64 unwound_by full_record record_ok header_at word_at version_of is_long header_with short_header long_header scopes_in codes_from codes_to header_fits codes_of scope_start scope_index scope_at record_unwound record_epilogues scoped at_end epilogue unwound run_at run_f in_front code_at code_as form_of short_form integer_form vector_form other_form field_at code_in packed_unwound packed_epilogues packed_of saves_lr integer_size vector_count saved_size local_size packed_ok chain_ok sign_slot lone integer_pair integer_odd integer_slot vector_pair vector_slot home_slot alloc_slot rest_slot chain_slot frame_slot local_slot slot with_slot slots_from undone slot_at packed_prologue packed_epilogue epilogue_codes all_codes fits_in reading_of epilogues_after codes_after epilogue_numbers code_numbers reverse put pick after each onward or_else
no_room_codes = refl

-- 76: the last byte of the codes is missing
cut : read_of 0 (0x14 ∷ 0x00 ∷ 0x80 ∷ 0x18 ∷ 0x08 ∷ 0x00 ∷ 0x40 ∷ 0x01 ∷ 0x10 ∷ 0x00 ∷ 0xc0 ∷ 0x00 ∷ 0xc8 ∷ 0x02 ∷ 0xe1 ∷ 0x83 ∷ 0xe4 ∷ 0xc8 ∷ 0x02 ∷ 0x83 ∷ 0xe4 ∷ 0xe3 ∷ 0xe3 ∷ []) 0 6 18
    ≡ (76 ∷ 0 ∷ 0 ∷ 0 ∷ 0 ∷ []) ∷ (9 ∷ 9 ∷ 9 ∷ 9 ∷ 9 ∷ 9 ∷ []) ∷ (9 ∷ 9 ∷ 9 ∷ 9 ∷ 9 ∷ 9 ∷ 9 ∷ 9 ∷ 9 ∷ 9 ∷ 9 ∷ 9 ∷ 9 ∷ 9 ∷ 9 ∷ 9 ∷ 9 ∷ 9 ∷ []) ∷ []
unfolding read_of told answer_numbers read_arm64 unwound_by full_record record_ok header_at word_at version_of is_long header_with short_header long_header scopes_in codes_from codes_to header_fits codes_of scope_start scope_index scope_at record_unwound record_epilogues scoped at_end epilogue unwound run_at run_f in_front code_at code_as form_of short_form integer_form vector_form other_form field_at code_in packed_unwound packed_epilogues packed_of saves_lr integer_size vector_count saved_size local_size packed_ok chain_ok sign_slot lone integer_pair integer_odd integer_slot vector_pair vector_slot home_slot alloc_slot rest_slot chain_slot frame_slot local_slot slot with_slot slots_from undone slot_at packed_prologue packed_epilogue epilogue_codes all_codes fits_in reading_of epilogues_after codes_after epilogue_numbers code_numbers reverse put pick after each onward or_else
cut = refl

-- E: one epilogue at the end, whose codes start at index 1
one_at_end : read_of 0 (0x09 ∷ 0x00 ∷ 0x60 ∷ 0x08 ∷ 0xe1 ∷ 0x81 ∷ 0xe4 ∷ 0xe3 ∷ []) 0 4 9
    ≡ (0 ∷ 36 ∷ 2 ∷ 1 ∷ 3 ∷ []) ∷ (28 ∷ 2 ∷ 1 ∷ 9 ∷ []) ∷ (3 ∷ 0 ∷ 16 ∷ 13 ∷ 0 ∷ 0 ∷ 3 ∷ 0 ∷ 16 ∷ []) ∷ []
unfolding read_of told answer_numbers read_arm64 unwound_by full_record record_ok header_at word_at version_of is_long header_with short_header long_header scopes_in codes_from codes_to header_fits codes_of scope_start scope_index scope_at record_unwound record_epilogues scoped at_end epilogue unwound run_at run_f in_front code_at code_as form_of short_form integer_form vector_form other_form field_at code_in packed_unwound packed_epilogues packed_of saves_lr integer_size vector_count saved_size local_size packed_ok chain_ok sign_slot lone integer_pair integer_odd integer_slot vector_pair vector_slot home_slot alloc_slot rest_slot chain_slot frame_slot local_slot slot with_slot slots_from undone slot_at packed_prologue packed_epilogue epilogue_codes all_codes fits_in reading_of epilogues_after codes_after epilogue_numbers code_numbers reverse put pick after each onward or_else
one_at_end = refl

-- 77: the same in a function of one instruction
starts_before : read_of 0 (0x01 ∷ 0x00 ∷ 0x60 ∷ 0x08 ∷ 0xe1 ∷ 0x81 ∷ 0xe4 ∷ 0xe3 ∷ []) 0 4 9
    ≡ (77 ∷ 0 ∷ 0 ∷ 0 ∷ 0 ∷ []) ∷ (9 ∷ 9 ∷ 9 ∷ 9 ∷ []) ∷ (9 ∷ 9 ∷ 9 ∷ 9 ∷ 9 ∷ 9 ∷ 9 ∷ 9 ∷ 9 ∷ []) ∷ []
unfolding read_of told answer_numbers read_arm64 unwound_by full_record record_ok header_at word_at version_of is_long header_with short_header long_header scopes_in codes_from codes_to header_fits codes_of scope_start scope_index scope_at record_unwound record_epilogues scoped at_end epilogue unwound run_at run_f in_front code_at code_as form_of short_form integer_form vector_form other_form field_at code_in packed_unwound packed_epilogues packed_of saves_lr integer_size vector_count saved_size local_size packed_ok chain_ok sign_slot lone integer_pair integer_odd integer_slot vector_pair vector_slot home_slot alloc_slot rest_slot chain_slot frame_slot local_slot slot with_slot slots_from undone slot_at packed_prologue packed_epilogue epilogue_codes all_codes fits_in reading_of epilogues_after codes_after epilogue_numbers code_numbers reverse put pick after each onward or_else
starts_before = refl

-- the long header, with a handler's word behind the codes, at place 1
long_header_lem : read_of 0 (0x07 ∷ 0x09 ∷ 0x00 ∷ 0x10 ∷ 0x00 ∷ 0x01 ∷ 0x00 ∷ 0x01 ∷ 0x00 ∷ 0x04 ∷ 0x00 ∷ 0x40 ∷ 0x00 ∷ 0x02 ∷ 0x81 ∷ 0xe4 ∷ 0xe3 ∷ 0x01 ∷ 0x02 ∷ 0x03 ∷ 0x04 ∷ []) 1 3 9
    ≡ (0 ∷ 36 ∷ 2 ∷ 1 ∷ 3 ∷ []) ∷ (16 ∷ 2 ∷ 1 ∷ []) ∷ (3 ∷ 0 ∷ 16 ∷ 0 ∷ 0 ∷ 32 ∷ 3 ∷ 0 ∷ 16 ∷ []) ∷ []
unfolding read_of told answer_numbers read_arm64 unwound_by full_record record_ok header_at word_at version_of is_long header_with short_header long_header scopes_in codes_from codes_to header_fits codes_of scope_start scope_index scope_at record_unwound record_epilogues scoped at_end epilogue unwound run_at run_f in_front code_at code_as form_of short_form integer_form vector_form other_form field_at code_in packed_unwound packed_epilogues packed_of saves_lr integer_size vector_count saved_size local_size packed_ok chain_ok sign_slot lone integer_pair integer_odd integer_slot vector_pair vector_slot home_slot alloc_slot rest_slot chain_slot frame_slot local_slot slot with_slot slots_from undone slot_at packed_prologue packed_epilogue epilogue_codes all_codes fits_in reading_of epilogues_after codes_after epilogue_numbers code_numbers reverse put pick after each onward or_else
long_header_lem = refl

-- 76: the handler's word is incomplete
handler_cut : read_of 0 (0x07 ∷ 0x09 ∷ 0x00 ∷ 0x10 ∷ 0x00 ∷ 0x01 ∷ 0x00 ∷ 0x01 ∷ 0x00 ∷ 0x04 ∷ 0x00 ∷ 0x40 ∷ 0x00 ∷ 0x02 ∷ 0x81 ∷ 0xe4 ∷ 0xe3 ∷ 0x01 ∷ 0x02 ∷ 0x03 ∷ []) 1 3 9
    ≡ (76 ∷ 0 ∷ 0 ∷ 0 ∷ 0 ∷ []) ∷ (9 ∷ 9 ∷ 9 ∷ []) ∷ (9 ∷ 9 ∷ 9 ∷ 9 ∷ 9 ∷ 9 ∷ 9 ∷ 9 ∷ 9 ∷ []) ∷ []
unfolding read_of told answer_numbers read_arm64 unwound_by full_record record_ok header_at word_at version_of is_long header_with short_header long_header scopes_in codes_from codes_to header_fits codes_of scope_start scope_index scope_at record_unwound record_epilogues scoped at_end epilogue unwound run_at run_f in_front code_at code_as form_of short_form integer_form vector_form other_form field_at code_in packed_unwound packed_epilogues packed_of saves_lr integer_size vector_count saved_size local_size packed_ok chain_ok sign_slot lone integer_pair integer_odd integer_slot vector_pair vector_slot home_slot alloc_slot rest_slot chain_slot frame_slot local_slot slot with_slot slots_from undone slot_at packed_prologue packed_epilogue epilogue_codes all_codes fits_in reading_of epilogues_after codes_after epilogue_numbers code_numbers reverse put pick after each onward or_else
handler_cut = refl

-- 76: version 1
version : read_of 0 (0x09 ∷ 0x00 ∷ 0x04 ∷ 0x08 ∷ 0xe4 ∷ 0xe3 ∷ 0xe3 ∷ 0xe3 ∷ []) 0 3 9
    ≡ (76 ∷ 0 ∷ 0 ∷ 0 ∷ 0 ∷ []) ∷ (9 ∷ 9 ∷ 9 ∷ []) ∷ (9 ∷ 9 ∷ 9 ∷ 9 ∷ 9 ∷ 9 ∷ 9 ∷ 9 ∷ 9 ∷ []) ∷ []
unfolding read_of told answer_numbers read_arm64 unwound_by full_record record_ok header_at word_at version_of is_long header_with short_header long_header scopes_in codes_from codes_to header_fits codes_of scope_start scope_index scope_at record_unwound record_epilogues scoped at_end epilogue unwound run_at run_f in_front code_at code_as form_of short_form integer_form vector_form other_form field_at code_in packed_unwound packed_epilogues packed_of saves_lr integer_size vector_count saved_size local_size packed_ok chain_ok sign_slot lone integer_pair integer_odd integer_slot vector_pair vector_slot home_slot alloc_slot rest_slot chain_slot frame_slot local_slot slot with_slot slots_from undone slot_at packed_prologue packed_epilogue epilogue_codes all_codes fits_in reading_of epilogues_after codes_after epilogue_numbers code_numbers reverse put pick after each onward or_else
version = refl

-- 77: a run without its end
no_end : read_of 0 (0x09 ∷ 0x00 ∷ 0x00 ∷ 0x08 ∷ 0xe3 ∷ 0xe3 ∷ 0xe3 ∷ 0xe3 ∷ []) 0 3 9
    ≡ (77 ∷ 0 ∷ 0 ∷ 0 ∷ 0 ∷ []) ∷ (9 ∷ 9 ∷ 9 ∷ []) ∷ (9 ∷ 9 ∷ 9 ∷ 9 ∷ 9 ∷ 9 ∷ 9 ∷ 9 ∷ 9 ∷ []) ∷ []
unfolding read_of told answer_numbers read_arm64 unwound_by full_record record_ok header_at word_at version_of is_long header_with short_header long_header scopes_in codes_from codes_to header_fits codes_of scope_start scope_index scope_at record_unwound record_epilogues scoped at_end epilogue unwound run_at run_f in_front code_at code_as form_of short_form integer_form vector_form other_form field_at code_in packed_unwound packed_epilogues packed_of saves_lr integer_size vector_count saved_size local_size packed_ok chain_ok sign_slot lone integer_pair integer_odd integer_slot vector_pair vector_slot home_slot alloc_slot rest_slot chain_slot frame_slot local_slot slot with_slot slots_from undone slot_at packed_prologue packed_epilogue epilogue_codes all_codes fits_in reading_of epilogues_after codes_after epilogue_numbers code_numbers reverse put pick after each onward or_else
no_end = refl

-- 77: an incomplete code
incomplete : read_of 0 (0x09 ∷ 0x00 ∷ 0x00 ∷ 0x08 ∷ 0xe3 ∷ 0xe3 ∷ 0xe3 ∷ 0xc8 ∷ []) 0 3 9
    ≡ (77 ∷ 0 ∷ 0 ∷ 0 ∷ 0 ∷ []) ∷ (9 ∷ 9 ∷ 9 ∷ []) ∷ (9 ∷ 9 ∷ 9 ∷ 9 ∷ 9 ∷ 9 ∷ 9 ∷ 9 ∷ 9 ∷ []) ∷ []
unfolding read_of told answer_numbers read_arm64 unwound_by full_record record_ok header_at word_at version_of is_long header_with short_header long_header scopes_in codes_from codes_to header_fits codes_of scope_start scope_index scope_at record_unwound record_epilogues scoped at_end epilogue unwound run_at run_f in_front code_at code_as form_of short_form integer_form vector_form other_form field_at code_in packed_unwound packed_epilogues packed_of saves_lr integer_size vector_count saved_size local_size packed_ok chain_ok sign_slot lone integer_pair integer_odd integer_slot vector_pair vector_slot home_slot alloc_slot rest_slot chain_slot frame_slot local_slot slot with_slot slots_from undone slot_at packed_prologue packed_epilogue epilogue_codes all_codes fits_in reading_of epilogues_after codes_after epilogue_numbers code_numbers reverse put pick after each onward or_else
incomplete = refl

-- 77: a code that is never written
unknown : read_of 0 (0x09 ∷ 0x00 ∷ 0x00 ∷ 0x08 ∷ 0xdf ∷ 0xe4 ∷ 0xe3 ∷ 0xe3 ∷ []) 0 3 9
    ≡ (77 ∷ 0 ∷ 0 ∷ 0 ∷ 0 ∷ []) ∷ (9 ∷ 9 ∷ 9 ∷ []) ∷ (9 ∷ 9 ∷ 9 ∷ 9 ∷ 9 ∷ 9 ∷ 9 ∷ 9 ∷ 9 ∷ []) ∷ []
unfolding read_of told answer_numbers read_arm64 unwound_by full_record record_ok header_at word_at version_of is_long header_with short_header long_header scopes_in codes_from codes_to header_fits codes_of scope_start scope_index scope_at record_unwound record_epilogues scoped at_end epilogue unwound run_at run_f in_front code_at code_as form_of short_form integer_form vector_form other_form field_at code_in packed_unwound packed_epilogues packed_of saves_lr integer_size vector_count saved_size local_size packed_ok chain_ok sign_slot lone integer_pair integer_odd integer_slot vector_pair vector_slot home_slot alloc_slot rest_slot chain_slot frame_slot local_slot slot with_slot slots_from undone slot_at packed_prologue packed_epilogue epilogue_codes all_codes fits_in reading_of epilogues_after codes_after epilogue_numbers code_numbers reverse put pick after each onward or_else
unknown = refl

-- 77: an index behind the codes
index_behind : read_of 0 (0x09 ∷ 0x00 ∷ 0x40 ∷ 0x08 ∷ 0x04 ∷ 0x00 ∷ 0x00 ∷ 0x01 ∷ 0xe4 ∷ 0xe3 ∷ 0xe3 ∷ 0xe3 ∷ []) 0 3 9
    ≡ (77 ∷ 0 ∷ 0 ∷ 0 ∷ 0 ∷ []) ∷ (9 ∷ 9 ∷ 9 ∷ []) ∷ (9 ∷ 9 ∷ 9 ∷ 9 ∷ 9 ∷ 9 ∷ 9 ∷ 9 ∷ 9 ∷ []) ∷ []
unfolding read_of told answer_numbers read_arm64 unwound_by full_record record_ok header_at word_at version_of is_long header_with short_header long_header scopes_in codes_from codes_to header_fits codes_of scope_start scope_index scope_at record_unwound record_epilogues scoped at_end epilogue unwound run_at run_f in_front code_at code_as form_of short_form integer_form vector_form other_form field_at code_in packed_unwound packed_epilogues packed_of saves_lr integer_size vector_count saved_size local_size packed_ok chain_ok sign_slot lone integer_pair integer_odd integer_slot vector_pair vector_slot home_slot alloc_slot rest_slot chain_slot frame_slot local_slot slot with_slot slots_from undone slot_at packed_prologue packed_epilogue epilogue_codes all_codes fits_in reading_of epilogues_after codes_after epilogue_numbers code_numbers reverse put pick after each onward or_else
index_behind = refl

-- a packed function: x19 to x21 with lr, d8 to d10, 96 bytes
packed_function : read_of 86196345 [] 0 3 30
    ≡ (0 ∷ 120 ∷ 5 ∷ 1 ∷ 10 ∷ []) ∷ (96 ∷ 5 ∷ 5 ∷ []) ∷ (1 ∷ 0 ∷ 64 ∷ 8 ∷ 21 ∷ 16 ∷ 9 ∷ 8 ∷ 32 ∷ 11 ∷ 10 ∷ 48 ∷ 0 ∷ 0 ∷ 96 ∷ 0 ∷ 0 ∷ 96 ∷ 11 ∷ 10 ∷ 48 ∷ 9 ∷ 8 ∷ 32 ∷ 8 ∷ 21 ∷ 16 ∷ 1 ∷ 0 ∷ 64 ∷ []) ∷ []
unfolding read_of told answer_numbers read_arm64 unwound_by full_record record_ok header_at word_at version_of is_long header_with short_header long_header scopes_in codes_from codes_to header_fits codes_of scope_start scope_index scope_at record_unwound record_epilogues scoped at_end epilogue unwound run_at run_f in_front code_at code_as form_of short_form integer_form vector_form other_form field_at code_in packed_unwound packed_epilogues packed_of saves_lr integer_size vector_count saved_size local_size packed_ok chain_ok sign_slot lone integer_pair integer_odd integer_slot vector_pair vector_slot home_slot alloc_slot rest_slot chain_slot frame_slot local_slot slot with_slot slots_from undone slot_at packed_prologue packed_epilogue epilogue_codes all_codes fits_in reading_of epilogues_after codes_after epilogue_numbers code_numbers reverse put pick after each onward or_else
packed_function = refl

-- a packed function that signs, homes its parameters and has a frame record
packed_homes : read_of 844365985 [] 0 3 45
    ≡ (0 ∷ 160 ∷ 10 ∷ 1 ∷ 15 ∷ []) ∷ (136 ∷ 10 ∷ 5 ∷ []) ∷ (17 ∷ 0 ∷ 0 ∷ 1 ∷ 0 ∷ 96 ∷ 4 ∷ 21 ∷ 16 ∷ 15 ∷ 0 ∷ 0 ∷ 15 ∷ 0 ∷ 0 ∷ 15 ∷ 0 ∷ 0 ∷ 15 ∷ 0 ∷ 0 ∷ 0 ∷ 0 ∷ 1504 ∷ 2 ∷ 0 ∷ 0 ∷ 13 ∷ 0 ∷ 0 ∷ 2 ∷ 0 ∷ 0 ∷ 0 ∷ 0 ∷ 1504 ∷ 4 ∷ 21 ∷ 16 ∷ 1 ∷ 0 ∷ 96 ∷ 17 ∷ 0 ∷ 0 ∷ []) ∷ []
unfolding read_of told answer_numbers read_arm64 unwound_by full_record record_ok header_at word_at version_of is_long header_with short_header long_header scopes_in codes_from codes_to header_fits codes_of scope_start scope_index scope_at record_unwound record_epilogues scoped at_end epilogue unwound run_at run_f in_front code_at code_as form_of short_form integer_form vector_form other_form field_at code_in packed_unwound packed_epilogues packed_of saves_lr integer_size vector_count saved_size local_size packed_ok chain_ok sign_slot lone integer_pair integer_odd integer_slot vector_pair vector_slot home_slot alloc_slot rest_slot chain_slot frame_slot local_slot slot with_slot slots_from undone slot_at packed_prologue packed_epilogue epilogue_codes all_codes fits_in reading_of epilogues_after codes_after epilogue_numbers code_numbers reverse put pick after each onward or_else
packed_homes = refl

-- a packed fragment has no epilogue; two allocations
packed_fragment : read_of 2516590630 [] 0 0 9
    ≡ (0 ∷ 36 ∷ 3 ∷ 0 ∷ 3 ∷ []) ∷ [] ∷ (10 ∷ 8 ∷ 16 ∷ 0 ∷ 0 ∷ 4080 ∷ 0 ∷ 0 ∷ 704 ∷ []) ∷ []
unfolding read_of told answer_numbers read_arm64 unwound_by full_record record_ok header_at word_at version_of is_long header_with short_header long_header scopes_in codes_from codes_to header_fits codes_of scope_start scope_index scope_at record_unwound record_epilogues scoped at_end epilogue unwound run_at run_f in_front code_at code_as form_of short_form integer_form vector_form other_form field_at code_in packed_unwound packed_epilogues packed_of saves_lr integer_size vector_count saved_size local_size packed_ok chain_ok sign_slot lone integer_pair integer_odd integer_slot vector_pair vector_slot home_slot alloc_slot rest_slot chain_slot frame_slot local_slot slot with_slot slots_from undone slot_at packed_prologue packed_epilogue epilogue_codes all_codes fits_in reading_of epilogues_after codes_after epilogue_numbers code_numbers reverse put pick after each onward or_else
packed_fragment = refl

-- 77: the packed epilogue is longer than the function
packed_long : read_of 48365577 [] 0 3 30
    ≡ (77 ∷ 0 ∷ 0 ∷ 0 ∷ 0 ∷ []) ∷ (9 ∷ 9 ∷ 9 ∷ []) ∷ (9 ∷ 9 ∷ 9 ∷ 9 ∷ 9 ∷ 9 ∷ 9 ∷ 9 ∷ 9 ∷ 9 ∷ 9 ∷ 9 ∷ 9 ∷ 9 ∷ 9 ∷ 9 ∷ 9 ∷ 9 ∷ 9 ∷ 9 ∷ 9 ∷ 9 ∷ 9 ∷ 9 ∷ 9 ∷ 9 ∷ 9 ∷ 9 ∷ 9 ∷ 9 ∷ []) ∷ []
unfolding read_of told answer_numbers read_arm64 unwound_by full_record record_ok header_at word_at version_of is_long header_with short_header long_header scopes_in codes_from codes_to header_fits codes_of scope_start scope_index scope_at record_unwound record_epilogues scoped at_end epilogue unwound run_at run_f in_front code_at code_as form_of short_form integer_form vector_form other_form field_at code_in packed_unwound packed_epilogues packed_of saves_lr integer_size vector_count saved_size local_size packed_ok chain_ok sign_slot lone integer_pair integer_odd integer_slot vector_pair vector_slot home_slot alloc_slot rest_slot chain_slot frame_slot local_slot slot with_slot slots_from undone slot_at packed_prologue packed_epilogue epilogue_codes all_codes fits_in reading_of epilogues_after codes_after epilogue_numbers code_numbers reverse put pick after each onward or_else
packed_long = refl

-- 77: eleven integer registers
packed_undefined : read_of 132841553 [] 0 3 30
    ≡ (77 ∷ 0 ∷ 0 ∷ 0 ∷ 0 ∷ []) ∷ (9 ∷ 9 ∷ 9 ∷ []) ∷ (9 ∷ 9 ∷ 9 ∷ 9 ∷ 9 ∷ 9 ∷ 9 ∷ 9 ∷ 9 ∷ 9 ∷ 9 ∷ 9 ∷ 9 ∷ 9 ∷ 9 ∷ 9 ∷ 9 ∷ 9 ∷ 9 ∷ 9 ∷ 9 ∷ 9 ∷ 9 ∷ 9 ∷ 9 ∷ 9 ∷ 9 ∷ 9 ∷ 9 ∷ 9 ∷ []) ∷ []
unfolding read_of told answer_numbers read_arm64 unwound_by full_record record_ok header_at word_at version_of is_long header_with short_header long_header scopes_in codes_from codes_to header_fits codes_of scope_start scope_index scope_at record_unwound record_epilogues scoped at_end epilogue unwound run_at run_f in_front code_at code_as form_of short_form integer_form vector_form other_form field_at code_in packed_unwound packed_epilogues packed_of saves_lr integer_size vector_count saved_size local_size packed_ok chain_ok sign_slot lone integer_pair integer_odd integer_slot vector_pair vector_slot home_slot alloc_slot rest_slot chain_slot frame_slot local_slot slot with_slot slots_from undone slot_at packed_prologue packed_epilogue epilogue_codes all_codes fits_in reading_of epilogues_after codes_after epilogue_numbers code_numbers reverse put pick after each onward or_else
packed_undefined = refl

-- 77: the reserved flag
reserved_flag : read_of 3 [] 0 3 30
    ≡ (77 ∷ 0 ∷ 0 ∷ 0 ∷ 0 ∷ []) ∷ (9 ∷ 9 ∷ 9 ∷ []) ∷ (9 ∷ 9 ∷ 9 ∷ 9 ∷ 9 ∷ 9 ∷ 9 ∷ 9 ∷ 9 ∷ 9 ∷ 9 ∷ 9 ∷ 9 ∷ 9 ∷ 9 ∷ 9 ∷ 9 ∷ 9 ∷ 9 ∷ 9 ∷ 9 ∷ 9 ∷ 9 ∷ 9 ∷ 9 ∷ 9 ∷ 9 ∷ 9 ∷ 9 ∷ 9 ∷ []) ∷ []
unfolding read_of told answer_numbers read_arm64 unwound_by full_record record_ok header_at word_at version_of is_long header_with short_header long_header scopes_in codes_from codes_to header_fits codes_of scope_start scope_index scope_at record_unwound record_epilogues scoped at_end epilogue unwound run_at run_f in_front code_at code_as form_of short_form integer_form vector_form other_form field_at code_in packed_unwound packed_epilogues packed_of saves_lr integer_size vector_count saved_size local_size packed_ok chain_ok sign_slot lone integer_pair integer_odd integer_slot vector_pair vector_slot home_slot alloc_slot rest_slot chain_slot frame_slot local_slot slot with_slot slots_from undone slot_at packed_prologue packed_epilogue epilogue_codes all_codes fits_in reading_of epilogues_after codes_after epilogue_numbers code_numbers reverse put pick after each onward or_else
reserved_flag = refl

-- 77: a packed word of 33 bits
wide_word : read_of 5139333281 [] 0 3 45
    ≡ (77 ∷ 0 ∷ 0 ∷ 0 ∷ 0 ∷ []) ∷ (9 ∷ 9 ∷ 9 ∷ []) ∷ (9 ∷ 9 ∷ 9 ∷ 9 ∷ 9 ∷ 9 ∷ 9 ∷ 9 ∷ 9 ∷ 9 ∷ 9 ∷ 9 ∷ 9 ∷ 9 ∷ 9 ∷ 9 ∷ 9 ∷ 9 ∷ 9 ∷ 9 ∷ 9 ∷ 9 ∷ 9 ∷ 9 ∷ 9 ∷ 9 ∷ 9 ∷ 9 ∷ 9 ∷ 9 ∷ 9 ∷ 9 ∷ 9 ∷ 9 ∷ 9 ∷ 9 ∷ 9 ∷ 9 ∷ 9 ∷ 9 ∷ 9 ∷ 9 ∷ 9 ∷ 9 ∷ 9 ∷ []) ∷ []
unfolding read_of told answer_numbers read_arm64 unwound_by full_record record_ok header_at word_at version_of is_long header_with short_header long_header scopes_in codes_from codes_to header_fits codes_of scope_start scope_index scope_at record_unwound record_epilogues scoped at_end epilogue unwound run_at run_f in_front code_at code_as form_of short_form integer_form vector_form other_form field_at code_in packed_unwound packed_epilogues packed_of saves_lr integer_size vector_count saved_size local_size packed_ok chain_ok sign_slot lone integer_pair integer_odd integer_slot vector_pair vector_slot home_slot alloc_slot rest_slot chain_slot frame_slot local_slot slot with_slot slots_from undone slot_at packed_prologue packed_epilogue epilogue_codes all_codes fits_in reading_of epilogues_after codes_after epilogue_numbers code_numbers reverse put pick after each onward or_else
wide_word = refl

-- ---- what codes mean

-- the two registers of a pair of x registers stored from `above` on
pair_of_lem : (register above : ℕ) → List Store
pair_of_lem r z = stored false r z ∷ stored false (r + 1) (z + 8) ∷ []

-- a save_next behind a first pair, and behind that one another: x21, x22 at 16, and x23, x24 at 32
next_pairs : prologue_means (code k_r19_r20_x 0 48 ∷ code k_save_next 0 0 ∷ code k_save_next 0 0 ∷ [])
    ≡ prologue_means (code k_regp_x 19 48 ∷ code k_regp 21 16 ∷ code k_regp 23 32 ∷ [])
unfolding prologue_means effects effect_of step_of pair_of or_step frame_step integer_step pair_step save_next save_pair storing stored pick
next_pairs = refl

-- an epilogue's save_next goes on from the pair that is restored behind it
next_undone : epilogue_means (code k_save_next 0 0 ∷ code k_regp 19 16 ∷ [])
    ≡ some (storing 0 (pair_of_lem 21 32)) ∷ some (storing 0 (pair_of_lem 19 16)) ∷ []
unfolding pair_of_lem epilogue_means reverse effects effect_of step_of pair_of or_step frame_step integer_step pair_step save_next save_pair storing stored pick
next_undone = refl

-- behind no pair it means nothing
next_alone : prologue_means (code k_reg_x 19 32 ∷ code k_save_next 0 0 ∷ []) ≡ some (storing 32 (stored false 19 0 ∷ [])) ∷ none ∷ []
unfolding prologue_means effects effect_of step_of pair_of or_step frame_step integer_step pair_step save_next save_one only storing stored pick
next_alone = refl

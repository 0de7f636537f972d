-- Worked examples, computed from the definitions: why the laws ask question 13, and one function by its packed word and by its full record.
use mathlib.Core.Path.{◌≡◌, refl}
use mathlib.Core.Bool.{true, false}
use mathlib.Core.Option.{some}
use mathlib.Core.List.{[], ◌∷◌, List, ◌++◌}
use Rattle.format.specs.Prelude.{pick, after, good, or_else, each, all}
use Rattle.format.specs.Leb.{little}
use Rattle.arm64.specs.Codes.{code, k_alloc, k_r19_r20_x, k_regp, k_regp_x, k_set_fp, k_save_next, k_end, form_of, short_form, other_form, field_at, code_in, code_as, code_at, big, register_field, offset_field, spelled, form_for, code_bytes, register_fits, offset_fits, code_fits, alloc_form}
use Rattle.arm64.specs.Lists.{Function, functions_of, numbered_function, numbered_epilogue, numbered_code}
use Rattle.arm64.specs.Records.{word_at, version_of, is_long, header_with, short_header, header_at, scopes_in, codes_from, codes_to, header_fits, record_ok}
use Rattle.arm64.specs.Records as records
use Rattle.arm64.specs.Packed.{packed_of, saves_lr, integer_size, vector_count, saved_size, local_size, packed_ok, chain_ok, sign_slot, lone, integer_pair, integer_odd, integer_slot, vector_pair, vector_slot, home_slot, alloc_slot, rest_slot, chain_slot, frame_slot, local_slot, slot, with_slot, slots_from, undone, slot_at, packed_prologue, packed_epilogue}
use Rattle.arm64.specs.Meaning.{reverse}
use Rattle.arm64.specs.Runs.{same_code, same_codes, shorter, pair_in, has_next, next_pair, resolved, next_or, simple, pair_behind, simplify, resolve, backwards, run_bytes, run_size, leads, is_in, own_runs, runs_bytes, place_in, index_of, run_fits, simple_fits}
use Rattle.arm64.specs.Packing.{integers_in, vectors_in, down_in, chain_behind, tally, tallies, nothing_yet, as_fields, candidate, packed_word, fields_hold, stands_for}
use Rattle.arm64.specs.Reader.{in_front, run_f, run_at, epilogue, at_end, record_epilogues, unwound, record_unwound, full_record, packed_epilogues, packed_unwound, unwound_by}
use Rattle.arm64.specs.Writer.{has_register, has_offset, code_ok, prologue_run, epilogue_run, epilogue_runs, own_of, codes_of, index_in, instructions, ends_with, only_one, single, first_index, count_of, words_of, packed_for, is_packed, is_long_for, header_word, header_bytes, scopes_of, record_bytes, lists_ok, function_ok_at, codes_in, epilogue_ok_at, codes_ok_in, code_ok_at, function_asks, values_ok, start_ok, size_ok, arm64, infos_of, relocs_from, rows_of, markers_from, info_of, row_relocs, row_bytes, scope_bytes, arm64_answer}
use Rattle.arm64_back.specs.Back.{whole_code, given, ReadBack, second_word}
use Rattle.arm64_back.proofs.PackedForm.{word_for}
use Rattle.format.specs.Lists.{inside, symbol_ok, all_in, sum_of, numbers_of}
use Rattle.format.specs.Questions.{ask, and_then, per_function, Room, accepted, unless, fitting, room_asks}
use Prim.Native.Nat.{ℕ, ◌<◌}
use lib.ListN.{get_or}
use Rattle.arm64_back.proofs.Arm64Back.{arm64_back, entry_word}

-- 83 alone does not suffice: a kind that is none is written as Alloc, and a register that the kind does not have is lost. 13 refuses both.
no_kind : (code_fits (code k_end 0 0) ≡ true) × (code_at (code_bytes (code k_end 0 0)) 0 ≡ some (code k_alloc 0 0, 1))
    × (whole_code (code k_end 0 0) ≡ false)
unfolding code_fits register_fits offset_fits offset_field register_field form_for code_bytes spelled big code_at code_as code_in field_at form_of short_form pick whole_code code_ok has_register has_offset
no_kind = (refl, refl, refl)

no_operand : (code_fits (code k_set_fp 7 0) ≡ true) × (code_at (code_bytes (code k_set_fp 7 0)) 0 ≡ some (code k_set_fp 0 0, 1))
    × (whole_code (code k_set_fp 7 0) ≡ false)
unfolding code_fits register_fits offset_fits offset_field register_field form_for code_bytes spelled big code_at code_as code_in field_at form_of other_form pick whole_code code_ok has_register has_offset
no_operand = (refl, refl, refl)

-- x19 to x22 saved by pairs, and an epilogue at the end that restores them
pairs : Function
pairs =
    record {
      symbol = 16;
      size = 32;
      prologue = code k_regp_x 19 32 ∷ code k_regp 21 16 ∷ [];
      epilogues = epilogue 20 (code k_regp 21 16 ∷ code k_regp_x 19 32 ∷ []) ∷ [];
    }

-- the word: R19R20X(32), Regp(21, 16)
pairs_packed : (is_packed pairs ≡ true)
    × (unwound_by (word_for pairs) [] 0
    ≡ good (record { size = 32; prologue = code k_r19_r20_x 0 32 ∷ code k_regp 21 16 ∷ []; epilogues = epilogue 20 (code k_regp 21 16 ∷ code k_r19_r20_x 0 32 ∷ []) ∷ [] }))
unfolding pairs is_packed packed_for only_one ends_with instructions index_in codes_of own_of epilogue_runs epilogue_run prologue_run stands_for fields_hold packed_word candidate as_fields nothing_yet tallies tally chain_behind down_in vectors_in integers_in index_of place_in runs_bytes own_runs is_in leads run_size run_bytes backwards resolve simplify pair_behind simple next_or resolved next_pair has_next pair_in shorter same_codes same_code reverse packed_epilogue packed_prologue slot_at undone slots_from with_slot slot local_slot frame_slot chain_slot rest_slot alloc_slot home_slot vector_slot vector_pair integer_slot integer_odd integer_pair lone sign_slot chain_ok packed_ok local_size saved_size vector_count integer_size saves_lr packed_of code_bytes spelled big form_for register_field offset_field unwound_by packed_unwound packed_epilogues unwound at_end epilogue after or_else pick
pairs_packed = (refl, refl)

-- its full record, with something in front: R19R20X(32), SaveNext
pairs_full : full_record (7 ∷ record_bytes pairs) 1
    ≡ good (record { size = 32; prologue = code k_r19_r20_x 0 32 ∷ code k_save_next 0 0 ∷ []; epilogues = epilogue 20 (code k_save_next 0 0 ∷ code k_r19_r20_x 0 32 ∷ []) ∷ [] })
unfolding pairs record_bytes header_bytes header_word is_long_for count_of words_of single only_one first_index scopes_of ends_with instructions index_in codes_of own_of epilogue_runs epilogue_run prologue_run index_of place_in runs_bytes own_runs is_in leads run_size run_bytes backwards simplify pair_behind simple next_or resolved next_pair has_next pair_in shorter same_codes same_code reverse code_bytes spelled big form_for register_field offset_field little full_record record_ok version_of word_at header_at is_long header_with short_header header_fits codes_to codes_from scopes_in record_unwound record_epilogues records.codes_of run_at run_f in_front code_at code_as code_in field_at form_of short_form other_form unwound at_end epilogue after or_else pick
pairs_full = refl

-- the law at a list that is accepted: a packed function, and one with a record
ample : Room
ample = record { places = 1000; bytes = 1000; relocations = 1000; sites = 1000 }

two : List ℕ
two = 16 ∷ 400 ∷ 0 ∷ 2 ∷ 0 ∷ 1 ∷ 17 ∷ 8 ∷ 3 ∷ 0 ∷ 1 ∷ 0 ∷ []

restored : List ℕ
restored = 392 ∷ 2 ∷ 1 ∷ []

frame : List ℕ
frame = 3 ∷ 0 ∷ 16 ∷ 13 ∷ 0 ∷ 0 ∷ 3 ∷ 0 ∷ 16 ∷ []

two_accepted : arm64_answer two restored frame ample ≡ accepted (arm64 (functions_of two restored frame))
unfolding two restored frame ample arm64_answer lists_ok function_ok_at codes_in epilogue_ok_at codes_ok_in code_ok_at code_ok has_register has_offset function_asks values_ok start_ok size_ok arm64 infos_of relocs_from rows_of markers_from info_of row_relocs row_bytes record_bytes scopes_of scope_bytes header_bytes header_word is_long_for is_packed packed_for words_of count_of first_index single only_one ends_with instructions index_in codes_of own_of epilogue_runs epilogue_run prologue_run stands_for fields_hold packed_word candidate as_fields nothing_yet tallies tally chain_behind down_in vectors_in integers_in index_of place_in runs_bytes own_runs is_in leads run_size run_bytes backwards run_fits simple_fits resolve simplify pair_behind simple next_or resolved has_next next_pair pair_in shorter same_codes same_code functions_of numbered_function numbered_epilogue numbered_code code_bytes form_for alloc_form spelled register_field offset_field big register_fits offset_fits code_fits saves_lr integer_size vector_count saved_size local_size packed_ok chain_ok sign_slot lone integer_pair integer_odd integer_slot vector_pair vector_slot home_slot alloc_slot rest_slot chain_slot frame_slot local_slot slot with_slot slots_from undone slot_at packed_prologue packed_epilogue reverse little inside symbol_ok all_in sum_of ask and_then per_function unless fitting room_asks numbers_of pick each all
two_accepted = refl

two_back : (k : ℕ) → k < 2 → (behind : List ℕ)
    → ReadBack (given (numbered_function two restored frame k))
    (unwound_by (second_word (arm64 (functions_of two restored frame)).bytes k) ((arm64 (functions_of two restored frame)).sites ++ behind)
    (get_or (arm64 (functions_of two restored frame)).places k 0))
unfolding two
two_back k h behind =
    arm64_back two restored frame ample (arm64 (functions_of two restored frame)) two_accepted k h _
    (entry_word two restored frame ample (arm64 (functions_of two restored frame)) two_accepted k h) behind

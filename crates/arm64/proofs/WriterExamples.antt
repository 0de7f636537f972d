-- Worked examples of the writer, computed from the definitions: what differential/arm64_writer.py, which is written from the page and the source, makes of
-- the same lists, and the Rust too where it is not said that they differ.
use mathlib.Core.Path.{◌≡◌, refl}
use Prim.Native.Nat.{ℕ, ◌*◌}
use mathlib.Core.List.{List, [], ◌∷◌}
use Rattle.format.specs.Prelude.{pick, each, all}
use Rattle.format.specs.Leb.{little}
use Rattle.format.specs.Lists.{inside, symbol_ok, all_in, sum_of, numbers_of}
use Rattle.format.specs.Questions.{ask, and_then, per_function, Room, Answer, refused, empty, accepted, unless, fitting, room_asks}
use Rattle.arm64.specs.Codes.{code, k_nop, big, register_field, offset_field, spelled, alloc_form, form_for, code_bytes, register_fits, offset_fits, code_fits}
use Rattle.arm64.specs.Lists.{Function, numbered_code, numbered_epilogue, numbered_function, functions_of}
use Rattle.arm64.specs.Packed.{saves_lr, integer_size, vector_count, saved_size, local_size, packed_ok, chain_ok, sign_slot, lone, integer_pair, integer_odd, integer_slot, vector_pair, vector_slot, home_slot, alloc_slot, rest_slot, chain_slot, frame_slot, local_slot, slot, with_slot, slots_from, undone, slot_at, packed_prologue, packed_epilogue}
use Rattle.arm64.specs.Meaning.{reverse}
use Rattle.arm64.specs.Runs.{same_code, same_codes, shorter, pair_in, has_next, next_pair, resolved, next_or, simple, pair_behind, simplify, resolve, simple_fits, run_fits, backwards, run_bytes, run_size, leads, is_in, own_runs, runs_bytes, place_in, index_of}
use Rattle.arm64.specs.Packing.{integers_in, vectors_in, down_in, chain_behind, tally, tallies, nothing_yet, as_fields, candidate, packed_word, fields_hold, stands_for}
use Rattle.arm64.specs.Writer.{has_register, has_offset, code_ok, code_ok_at, codes_ok_in, epilogue_ok_at, function_ok_at, codes_in, lists_ok, prologue_run, epilogue_run, epilogue_runs, own_of, codes_of, index_in, instructions, ends_with, only_one, single, first_index, count_of, words_of, packed_for, is_packed, is_long_for, header_word, header_bytes, scope_bytes, scopes_of, record_bytes, size_ok, start_ok, values_ok, function_asks, row_bytes, row_relocs, info_of, markers_from, rows_of, relocs_from, infos_of, arm64, arm64_answer}

-- the refusal's number and position, or 0 and the four results
said : Answer → List (List ℕ)
said (refused n k) = (n ∷ k ∷ []) ∷ []
said empty = []
said (accepted w) = (0 ∷ []) ∷ w.places ∷ w.bytes ∷ numbers_of w.relocations ∷ w.sites ∷ []

ample : Room
ample = record { places = 1000; bytes = 1000; relocations = 1000; sites = 1000 }

wrote : (fs es cs : List ℕ) → List (List ℕ)
wrote fs es cs = said (arm64_answer fs es cs ample)

-- packed: the frame record alone
packed_frame : wrote (16 ∷ 400 ∷ 0 ∷ 2 ∷ 0 ∷ 1 ∷ []) (392 ∷ 2 ∷ 1 ∷ []) (3 ∷ 0 ∷ 16 ∷ 13 ∷ 0 ∷ 0 ∷ 3 ∷ 0 ∷ 16 ∷ [])
    ≡ ((0 ∷ []) ∷ (18446744073709551615 ∷ []) ∷ (0 ∷ 0 ∷ 0 ∷ 0 ∷ 145 ∷ 1 ∷ 224 ∷ 0 ∷ []) ∷ (0 ∷ 16 ∷ 4 ∷ 4 ∷ 0 ∷ []) ∷ [] ∷ [])
unfolding wrote said ample arm64_answer lists_ok function_ok_at codes_in epilogue_ok_at codes_ok_in code_ok_at code_ok has_register has_offset function_asks values_ok start_ok size_ok arm64 infos_of relocs_from rows_of markers_from info_of row_relocs row_bytes record_bytes scopes_of scope_bytes header_bytes header_word is_long_for is_packed packed_for words_of count_of first_index single only_one ends_with instructions index_in codes_of own_of epilogue_runs epilogue_run prologue_run stands_for fields_hold packed_word candidate as_fields nothing_yet tallies tally chain_behind down_in vectors_in integers_in index_of place_in runs_bytes own_runs is_in leads run_size run_bytes backwards run_fits simple_fits resolve simplify pair_behind simple next_or resolved has_next next_pair pair_in shorter same_codes same_code functions_of numbered_function numbered_epilogue numbered_code code_bytes form_for alloc_form spelled register_field offset_field big register_fits offset_fits code_fits saves_lr integer_size vector_count saved_size local_size packed_ok chain_ok sign_slot lone integer_pair integer_odd integer_slot vector_pair vector_slot home_slot alloc_slot rest_slot chain_slot frame_slot local_slot slot with_slot slots_from undone slot_at packed_prologue packed_epilogue reverse little inside symbol_ok all_in sum_of ask and_then per_function unless fitting room_asks numbers_of pick each all
packed_frame = refl

-- packed: signing, five registers by pairs, d8 to d10, and 4,112 bytes of locals with the frame record
packed_saves : wrote (16 ∷ 400 ∷ 0 ∷ 10 ∷ 0 ∷ 1 ∷ []) (360 ∷ 10 ∷ 9 ∷ []) (17 ∷ 0 ∷ 0 ∷ 5 ∷ 19 ∷ 64 ∷ 4 ∷ 21 ∷ 16 ∷ 6 ∷ 23 ∷ 32 ∷ 9 ∷ 8 ∷ 40 ∷ 11 ∷ 10 ∷ 56 ∷ 0 ∷ 0 ∷ 4080 ∷ 0 ∷ 0 ∷ 32 ∷ 4 ∷ 29 ∷ 0 ∷ 14 ∷ 0 ∷ 0 ∷ 4 ∷ 29 ∷ 0 ∷ 0 ∷ 0 ∷ 32 ∷ 0 ∷ 0 ∷ 4080 ∷ 11 ∷ 10 ∷ 56 ∷ 9 ∷ 8 ∷ 40 ∷ 6 ∷ 23 ∷ 32 ∷ 4 ∷ 21 ∷ 16 ∷ 5 ∷ 19 ∷ 64 ∷ 17 ∷ 0 ∷ 0 ∷ [])
    ≡ ((0 ∷ []) ∷ (18446744073709551615 ∷ []) ∷ (0 ∷ 0 ∷ 0 ∷ 0 ∷ 145 ∷ 65 ∷ 197 ∷ 130 ∷ []) ∷ (0 ∷ 16 ∷ 4 ∷ 4 ∷ 0 ∷ []) ∷ [] ∷ [])
unfolding wrote said ample arm64_answer lists_ok function_ok_at codes_in epilogue_ok_at codes_ok_in code_ok_at code_ok has_register has_offset function_asks values_ok start_ok size_ok arm64 infos_of relocs_from rows_of markers_from info_of row_relocs row_bytes record_bytes scopes_of scope_bytes header_bytes header_word is_long_for is_packed packed_for words_of count_of first_index single only_one ends_with instructions index_in codes_of own_of epilogue_runs epilogue_run prologue_run stands_for fields_hold packed_word candidate as_fields nothing_yet tallies tally chain_behind down_in vectors_in integers_in index_of place_in runs_bytes own_runs is_in leads run_size run_bytes backwards run_fits simple_fits resolve simplify pair_behind simple next_or resolved has_next next_pair pair_in shorter same_codes same_code functions_of numbered_function numbered_epilogue numbered_code code_bytes form_for alloc_form spelled register_field offset_field big register_fits offset_fits code_fits saves_lr integer_size vector_count saved_size local_size packed_ok chain_ok sign_slot lone integer_pair integer_odd integer_slot vector_pair vector_slot home_slot alloc_slot rest_slot chain_slot frame_slot local_slot slot with_slot slots_from undone slot_at packed_prologue packed_epilogue reverse little inside symbol_ok all_in sum_of ask and_then per_function unless fitting room_asks numbers_of pick each all
packed_saves = refl

-- packed: lr with an odd register, and locals
packed_lr : wrote (16 ∷ 400 ∷ 0 ∷ 3 ∷ 0 ∷ 1 ∷ []) (384 ∷ 3 ∷ 3 ∷ []) (1 ∷ 0 ∷ 32 ∷ 8 ∷ 21 ∷ 16 ∷ 0 ∷ 0 ∷ 96 ∷ 0 ∷ 0 ∷ 96 ∷ 8 ∷ 21 ∷ 16 ∷ 1 ∷ 0 ∷ 32 ∷ [])
    ≡ ((0 ∷ []) ∷ (18446744073709551615 ∷ []) ∷ (0 ∷ 0 ∷ 0 ∷ 0 ∷ 145 ∷ 1 ∷ 35 ∷ 4 ∷ []) ∷ (0 ∷ 16 ∷ 4 ∷ 4 ∷ 0 ∷ []) ∷ [] ∷ [])
unfolding wrote said ample arm64_answer lists_ok function_ok_at codes_in epilogue_ok_at codes_ok_in code_ok_at code_ok has_register has_offset function_asks values_ok start_ok size_ok arm64 infos_of relocs_from rows_of markers_from info_of row_relocs row_bytes record_bytes scopes_of scope_bytes header_bytes header_word is_long_for is_packed packed_for words_of count_of first_index single only_one ends_with instructions index_in codes_of own_of epilogue_runs epilogue_run prologue_run stands_for fields_hold packed_word candidate as_fields nothing_yet tallies tally chain_behind down_in vectors_in integers_in index_of place_in runs_bytes own_runs is_in leads run_size run_bytes backwards run_fits simple_fits resolve simplify pair_behind simple next_or resolved has_next next_pair pair_in shorter same_codes same_code functions_of numbered_function numbered_epilogue numbered_code code_bytes form_for alloc_form spelled register_field offset_field big register_fits offset_fits code_fits saves_lr integer_size vector_count saved_size local_size packed_ok chain_ok sign_slot lone integer_pair integer_odd integer_slot vector_pair vector_slot home_slot alloc_slot rest_slot chain_slot frame_slot local_slot slot with_slot slots_from undone slot_at packed_prologue packed_epilogue reverse little inside symbol_ok all_in sum_of ask and_then per_function unless fitting room_asks numbers_of pick each all
packed_lr = refl

-- packed: vector registers alone, the second pair as save_next
packed_vectors : wrote (16 ∷ 400 ∷ 0 ∷ 2 ∷ 0 ∷ 1 ∷ []) (388 ∷ 2 ∷ 2 ∷ []) (10 ∷ 8 ∷ 32 ∷ 16 ∷ 0 ∷ 0 ∷ 16 ∷ 0 ∷ 0 ∷ 10 ∷ 8 ∷ 32 ∷ [])
    ≡ ((0 ∷ []) ∷ (18446744073709551615 ∷ []) ∷ (0 ∷ 0 ∷ 0 ∷ 0 ∷ 145 ∷ 97 ∷ 0 ∷ 1 ∷ []) ∷ (0 ∷ 16 ∷ 4 ∷ 4 ∷ 0 ∷ []) ∷ [] ∷ [])
unfolding wrote said ample arm64_answer lists_ok function_ok_at codes_in epilogue_ok_at codes_ok_in code_ok_at code_ok has_register has_offset function_asks values_ok start_ok size_ok arm64 infos_of relocs_from rows_of markers_from info_of row_relocs row_bytes record_bytes scopes_of scope_bytes header_bytes header_word is_long_for is_packed packed_for words_of count_of first_index single only_one ends_with instructions index_in codes_of own_of epilogue_runs epilogue_run prologue_run stands_for fields_hold packed_word candidate as_fields nothing_yet tallies tally chain_behind down_in vectors_in integers_in index_of place_in runs_bytes own_runs is_in leads run_size run_bytes backwards run_fits simple_fits resolve simplify pair_behind simple next_or resolved has_next next_pair pair_in shorter same_codes same_code functions_of numbered_function numbered_epilogue numbered_code code_bytes form_for alloc_form spelled register_field offset_field big register_fits offset_fits code_fits saves_lr integer_size vector_count saved_size local_size packed_ok chain_ok sign_slot lone integer_pair integer_odd integer_slot vector_pair vector_slot home_slot alloc_slot rest_slot chain_slot frame_slot local_slot slot with_slot slots_from undone slot_at packed_prologue packed_epilogue reverse little inside symbol_ok all_in sum_of ask and_then per_function unless fitting room_asks numbers_of pick each all
packed_vectors = refl

-- in full: the epilogue undoes SetFp
frame_undone : wrote (16 ∷ 400 ∷ 0 ∷ 2 ∷ 0 ∷ 1 ∷ []) (388 ∷ 2 ∷ 2 ∷ []) (3 ∷ 0 ∷ 16 ∷ 13 ∷ 0 ∷ 0 ∷ 13 ∷ 0 ∷ 0 ∷ 3 ∷ 0 ∷ 16 ∷ [])
    ≡ ((0 ∷ []) ∷ (0 ∷ []) ∷ (0 ∷ 0 ∷ 0 ∷ 0 ∷ 0 ∷ 0 ∷ 0 ∷ 0 ∷ []) ∷ (0 ∷ 16 ∷ 4 ∷ 4 ∷ 0 ∷ 4 ∷ 4294967312 ∷ 4 ∷ 4 ∷ 0 ∷ []) ∷ (100 ∷ 0 ∷ 32 ∷ 8 ∷ 225 ∷ 129 ∷ 228 ∷ 227 ∷ []) ∷ [])
unfolding wrote said ample arm64_answer lists_ok function_ok_at codes_in epilogue_ok_at codes_ok_in code_ok_at code_ok has_register has_offset function_asks values_ok start_ok size_ok arm64 infos_of relocs_from rows_of markers_from info_of row_relocs row_bytes record_bytes scopes_of scope_bytes header_bytes header_word is_long_for is_packed packed_for words_of count_of first_index single only_one ends_with instructions index_in codes_of own_of epilogue_runs epilogue_run prologue_run stands_for fields_hold packed_word candidate as_fields nothing_yet tallies tally chain_behind down_in vectors_in integers_in index_of place_in runs_bytes own_runs is_in leads run_size run_bytes backwards run_fits simple_fits resolve simplify pair_behind simple next_or resolved has_next next_pair pair_in shorter same_codes same_code functions_of numbered_function numbered_epilogue numbered_code code_bytes form_for alloc_form spelled register_field offset_field big register_fits offset_fits code_fits saves_lr integer_size vector_count saved_size local_size packed_ok chain_ok sign_slot lone integer_pair integer_odd integer_slot vector_pair vector_slot home_slot alloc_slot rest_slot chain_slot frame_slot local_slot slot with_slot slots_from undone slot_at packed_prologue packed_epilogue reverse little inside symbol_ok all_in sum_of ask and_then per_function unless fitting room_asks numbers_of pick each all
frame_undone = refl

-- in full: an allocation of 0
nothing_taken : wrote (16 ∷ 400 ∷ 0 ∷ 1 ∷ 0 ∷ 1 ∷ []) (392 ∷ 1 ∷ 1 ∷ []) (0 ∷ 0 ∷ 0 ∷ 0 ∷ 0 ∷ 0 ∷ [])
    ≡ ((0 ∷ []) ∷ (0 ∷ []) ∷ (0 ∷ 0 ∷ 0 ∷ 0 ∷ 0 ∷ 0 ∷ 0 ∷ 0 ∷ []) ∷ (0 ∷ 16 ∷ 4 ∷ 4 ∷ 0 ∷ 4 ∷ 4294967312 ∷ 4 ∷ 4 ∷ 0 ∷ []) ∷ (100 ∷ 0 ∷ 32 ∷ 8 ∷ 0 ∷ 228 ∷ 227 ∷ 227 ∷ []) ∷ [])
unfolding wrote said ample arm64_answer lists_ok function_ok_at codes_in epilogue_ok_at codes_ok_in code_ok_at code_ok has_register has_offset function_asks values_ok start_ok size_ok arm64 infos_of relocs_from rows_of markers_from info_of row_relocs row_bytes record_bytes scopes_of scope_bytes header_bytes header_word is_long_for is_packed packed_for words_of count_of first_index single only_one ends_with instructions index_in codes_of own_of epilogue_runs epilogue_run prologue_run stands_for fields_hold packed_word candidate as_fields nothing_yet tallies tally chain_behind down_in vectors_in integers_in index_of place_in runs_bytes own_runs is_in leads run_size run_bytes backwards run_fits simple_fits resolve simplify pair_behind simple next_or resolved has_next next_pair pair_in shorter same_codes same_code functions_of numbered_function numbered_epilogue numbered_code code_bytes form_for alloc_form spelled register_field offset_field big register_fits offset_fits code_fits saves_lr integer_size vector_count saved_size local_size packed_ok chain_ok sign_slot lone integer_pair integer_odd integer_slot vector_pair vector_slot home_slot alloc_slot rest_slot chain_slot frame_slot local_slot slot with_slot slots_from undone slot_at packed_prologue packed_epilogue reverse little inside symbol_ok all_in sum_of ask and_then per_function unless fitting room_asks numbers_of pick each all
nothing_taken = refl

-- in full: one allocation above 4,080
much_taken : wrote (16 ∷ 400 ∷ 0 ∷ 1 ∷ 0 ∷ 1 ∷ []) (392 ∷ 1 ∷ 1 ∷ []) (0 ∷ 0 ∷ 4096 ∷ 0 ∷ 0 ∷ 4096 ∷ [])
    ≡ ((0 ∷ []) ∷ (0 ∷ []) ∷ (0 ∷ 0 ∷ 0 ∷ 0 ∷ 0 ∷ 0 ∷ 0 ∷ 0 ∷ []) ∷ (0 ∷ 16 ∷ 4 ∷ 4 ∷ 0 ∷ 4 ∷ 4294967312 ∷ 4 ∷ 4 ∷ 0 ∷ []) ∷ (100 ∷ 0 ∷ 32 ∷ 8 ∷ 193 ∷ 0 ∷ 228 ∷ 227 ∷ []) ∷ [])
unfolding wrote said ample arm64_answer lists_ok function_ok_at codes_in epilogue_ok_at codes_ok_in code_ok_at code_ok has_register has_offset function_asks values_ok start_ok size_ok arm64 infos_of relocs_from rows_of markers_from info_of row_relocs row_bytes record_bytes scopes_of scope_bytes header_bytes header_word is_long_for is_packed packed_for words_of count_of first_index single only_one ends_with instructions index_in codes_of own_of epilogue_runs epilogue_run prologue_run stands_for fields_hold packed_word candidate as_fields nothing_yet tallies tally chain_behind down_in vectors_in integers_in index_of place_in runs_bytes own_runs is_in leads run_size run_bytes backwards run_fits simple_fits resolve simplify pair_behind simple next_or resolved has_next next_pair pair_in shorter same_codes same_code functions_of numbered_function numbered_epilogue numbered_code code_bytes form_for alloc_form spelled register_field offset_field big register_fits offset_fits code_fits saves_lr integer_size vector_count saved_size local_size packed_ok chain_ok sign_slot lone integer_pair integer_odd integer_slot vector_pair vector_slot home_slot alloc_slot rest_slot chain_slot frame_slot local_slot slot with_slot slots_from undone slot_at packed_prologue packed_epilogue reverse little inside symbol_ok all_in sum_of ask and_then per_function unless fitting room_asks numbers_of pick each all
much_taken = refl

-- in full: 16 bytes taken, and the frame record behind them
little_taken : wrote (16 ∷ 400 ∷ 0 ∷ 3 ∷ 0 ∷ 1 ∷ []) (388 ∷ 3 ∷ 2 ∷ []) (0 ∷ 0 ∷ 16 ∷ 2 ∷ 0 ∷ 0 ∷ 13 ∷ 0 ∷ 0 ∷ 2 ∷ 0 ∷ 0 ∷ 0 ∷ 0 ∷ 16 ∷ [])
    ≡ ((0 ∷ []) ∷ (0 ∷ []) ∷ (0 ∷ 0 ∷ 0 ∷ 0 ∷ 0 ∷ 0 ∷ 0 ∷ 0 ∷ []) ∷ (0 ∷ 16 ∷ 4 ∷ 4 ∷ 0 ∷ 4 ∷ 4294967312 ∷ 4 ∷ 4 ∷ 0 ∷ []) ∷ (100 ∷ 0 ∷ 96 ∷ 8 ∷ 225 ∷ 64 ∷ 1 ∷ 228 ∷ []) ∷ [])
unfolding wrote said ample arm64_answer lists_ok function_ok_at codes_in epilogue_ok_at codes_ok_in code_ok_at code_ok has_register has_offset function_asks values_ok start_ok size_ok arm64 infos_of relocs_from rows_of markers_from info_of row_relocs row_bytes record_bytes scopes_of scope_bytes header_bytes header_word is_long_for is_packed packed_for words_of count_of first_index single only_one ends_with instructions index_in codes_of own_of epilogue_runs epilogue_run prologue_run stands_for fields_hold packed_word candidate as_fields nothing_yet tallies tally chain_behind down_in vectors_in integers_in index_of place_in runs_bytes own_runs is_in leads run_size run_bytes backwards run_fits simple_fits resolve simplify pair_behind simple next_or resolved has_next next_pair pair_in shorter same_codes same_code functions_of numbered_function numbered_epilogue numbered_code code_bytes form_for alloc_form spelled register_field offset_field big register_fits offset_fits code_fits saves_lr integer_size vector_count saved_size local_size packed_ok chain_ok sign_slot lone integer_pair integer_odd integer_slot vector_pair vector_slot home_slot alloc_slot rest_slot chain_slot frame_slot local_slot slot with_slot slots_from undone slot_at packed_prologue packed_epilogue reverse little inside symbol_ok all_in sum_of ask and_then per_function unless fitting room_asks numbers_of pick each all
little_taken = refl

-- in full: a save_next behind no pair
next_of_none : wrote (16 ∷ 400 ∷ 0 ∷ 2 ∷ 0 ∷ 1 ∷ []) (388 ∷ 2 ∷ 2 ∷ []) (7 ∷ 19 ∷ 32 ∷ 16 ∷ 0 ∷ 0 ∷ 16 ∷ 0 ∷ 0 ∷ 7 ∷ 19 ∷ 32 ∷ [])
    ≡ ((0 ∷ []) ∷ (0 ∷ []) ∷ (0 ∷ 0 ∷ 0 ∷ 0 ∷ 0 ∷ 0 ∷ 0 ∷ 0 ∷ []) ∷ (0 ∷ 16 ∷ 4 ∷ 4 ∷ 0 ∷ 4 ∷ 4294967312 ∷ 4 ∷ 4 ∷ 0 ∷ []) ∷ (100 ∷ 0 ∷ 32 ∷ 8 ∷ 230 ∷ 212 ∷ 3 ∷ 228 ∷ []) ∷ [])
unfolding wrote said ample arm64_answer lists_ok function_ok_at codes_in epilogue_ok_at codes_ok_in code_ok_at code_ok has_register has_offset function_asks values_ok start_ok size_ok arm64 infos_of relocs_from rows_of markers_from info_of row_relocs row_bytes record_bytes scopes_of scope_bytes header_bytes header_word is_long_for is_packed packed_for words_of count_of first_index single only_one ends_with instructions index_in codes_of own_of epilogue_runs epilogue_run prologue_run stands_for fields_hold packed_word candidate as_fields nothing_yet tallies tally chain_behind down_in vectors_in integers_in index_of place_in runs_bytes own_runs is_in leads run_size run_bytes backwards run_fits simple_fits resolve simplify pair_behind simple next_or resolved has_next next_pair pair_in shorter same_codes same_code functions_of numbered_function numbered_epilogue numbered_code code_bytes form_for alloc_form spelled register_field offset_field big register_fits offset_fits code_fits saves_lr integer_size vector_count saved_size local_size packed_ok chain_ok sign_slot lone integer_pair integer_odd integer_slot vector_pair vector_slot home_slot alloc_slot rest_slot chain_slot frame_slot local_slot slot with_slot slots_from undone slot_at packed_prologue packed_epilogue reverse little inside symbol_ok all_in sum_of ask and_then per_function unless fitting room_asks numbers_of pick each all
next_of_none = refl

-- in full: more instructions than a packed word counts
too_long : wrote (16 ∷ 8192 ∷ 0 ∷ 2 ∷ 0 ∷ 1 ∷ []) (8184 ∷ 2 ∷ 1 ∷ []) (3 ∷ 0 ∷ 16 ∷ 13 ∷ 0 ∷ 0 ∷ 3 ∷ 0 ∷ 16 ∷ [])
    ≡ ((0 ∷ []) ∷ (0 ∷ []) ∷ (0 ∷ 0 ∷ 0 ∷ 0 ∷ 0 ∷ 0 ∷ 0 ∷ 0 ∷ []) ∷ (0 ∷ 16 ∷ 4 ∷ 4 ∷ 0 ∷ 4 ∷ 4294967312 ∷ 4 ∷ 4 ∷ 0 ∷ []) ∷ (0 ∷ 8 ∷ 96 ∷ 8 ∷ 225 ∷ 129 ∷ 228 ∷ 227 ∷ []) ∷ [])
unfolding wrote said ample arm64_answer lists_ok function_ok_at codes_in epilogue_ok_at codes_ok_in code_ok_at code_ok has_register has_offset function_asks values_ok start_ok size_ok arm64 infos_of relocs_from rows_of markers_from info_of row_relocs row_bytes record_bytes scopes_of scope_bytes header_bytes header_word is_long_for is_packed packed_for words_of count_of first_index single only_one ends_with instructions index_in codes_of own_of epilogue_runs epilogue_run prologue_run stands_for fields_hold packed_word candidate as_fields nothing_yet tallies tally chain_behind down_in vectors_in integers_in index_of place_in runs_bytes own_runs is_in leads run_size run_bytes backwards run_fits simple_fits resolve simplify pair_behind simple next_or resolved has_next next_pair pair_in shorter same_codes same_code functions_of numbered_function numbered_epilogue numbered_code code_bytes form_for alloc_form spelled register_field offset_field big register_fits offset_fits code_fits saves_lr integer_size vector_count saved_size local_size packed_ok chain_ok sign_slot lone integer_pair integer_odd integer_slot vector_pair vector_slot home_slot alloc_slot rest_slot chain_slot frame_slot local_slot slot with_slot slots_from undone slot_at packed_prologue packed_epilogue reverse little inside symbol_ok all_in sum_of ask and_then per_function unless fitting room_asks numbers_of pick each all
too_long = refl

-- runs shared: with the prologue's end, and with an epilogue's before; and one of its own
shared_runs : wrote (16 ∷ 400 ∷ 0 ∷ 3 ∷ 0 ∷ 5 ∷ []) (40 ∷ 3 ∷ 1 ∷ 80 ∷ 4 ∷ 2 ∷ 120 ∷ 6 ∷ 0 ∷ 160 ∷ 6 ∷ 2 ∷ 200 ∷ 8 ∷ 1 ∷ []) (3 ∷ 0 ∷ 32 ∷ 13 ∷ 0 ∷ 0 ∷ 4 ∷ 19 ∷ 16 ∷ 3 ∷ 0 ∷ 32 ∷ 4 ∷ 19 ∷ 16 ∷ 3 ∷ 0 ∷ 32 ∷ 4 ∷ 19 ∷ 16 ∷ 3 ∷ 0 ∷ 32 ∷ 15 ∷ 0 ∷ 0 ∷ [])
    ≡ ((0 ∷ []) ∷ (0 ∷ []) ∷ (0 ∷ 0 ∷ 0 ∷ 0 ∷ 0 ∷ 0 ∷ 0 ∷ 0 ∷ []) ∷ (0 ∷ 16 ∷ 4 ∷ 4 ∷ 0 ∷ 4 ∷ 4294967312 ∷ 4 ∷ 4 ∷ 0 ∷ []) ∷ (100 ∷ 0 ∷ 64 ∷ 25 ∷ 10 ∷ 0 ∷ 192 ∷ 0 ∷ 20 ∷ 0 ∷ 64 ∷ 1 ∷ 30 ∷ 0 ∷ 0 ∷ 1 ∷ 40 ∷ 0 ∷ 64 ∷ 1 ∷ 50 ∷ 0 ∷ 64 ∷ 2 ∷ 200 ∷ 2 ∷ 225 ∷ 131 ∷ 228 ∷ 200 ∷ 2 ∷ 131 ∷ 228 ∷ 227 ∷ 228 ∷ 227 ∷ []) ∷ [])
unfolding wrote said ample arm64_answer lists_ok function_ok_at codes_in epilogue_ok_at codes_ok_in code_ok_at code_ok has_register has_offset function_asks values_ok start_ok size_ok arm64 infos_of relocs_from rows_of markers_from info_of row_relocs row_bytes record_bytes scopes_of scope_bytes header_bytes header_word is_long_for is_packed packed_for words_of count_of first_index single only_one ends_with instructions index_in codes_of own_of epilogue_runs epilogue_run prologue_run stands_for fields_hold packed_word candidate as_fields nothing_yet tallies tally chain_behind down_in vectors_in integers_in index_of place_in runs_bytes own_runs is_in leads run_size run_bytes backwards run_fits simple_fits resolve simplify pair_behind simple next_or resolved has_next next_pair pair_in shorter same_codes same_code functions_of numbered_function numbered_epilogue numbered_code code_bytes form_for alloc_form spelled register_field offset_field big register_fits offset_fits code_fits saves_lr integer_size vector_count saved_size local_size packed_ok chain_ok sign_slot lone integer_pair integer_odd integer_slot vector_pair vector_slot home_slot alloc_slot rest_slot chain_slot frame_slot local_slot slot with_slot slots_from undone slot_at packed_prologue packed_epilogue reverse little inside symbol_ok all_in sum_of ask and_then per_function unless fitting room_asks numbers_of pick each all
shared_runs = refl

-- E, with codes of its own
own_at_end : wrote (16 ∷ 400 ∷ 0 ∷ 1 ∷ 0 ∷ 1 ∷ []) (388 ∷ 1 ∷ 2 ∷ []) (17 ∷ 0 ∷ 0 ∷ 15 ∷ 0 ∷ 0 ∷ 17 ∷ 0 ∷ 0 ∷ [])
    ≡ ((0 ∷ []) ∷ (0 ∷ []) ∷ (0 ∷ 0 ∷ 0 ∷ 0 ∷ 0 ∷ 0 ∷ 0 ∷ 0 ∷ []) ∷ (0 ∷ 16 ∷ 4 ∷ 4 ∷ 0 ∷ 4 ∷ 4294967312 ∷ 4 ∷ 4 ∷ 0 ∷ []) ∷ (100 ∷ 0 ∷ 160 ∷ 16 ∷ 252 ∷ 228 ∷ 227 ∷ 252 ∷ 228 ∷ 227 ∷ 227 ∷ 227 ∷ []) ∷ [])
unfolding wrote said ample arm64_answer lists_ok function_ok_at codes_in epilogue_ok_at codes_ok_in code_ok_at code_ok has_register has_offset function_asks values_ok start_ok size_ok arm64 infos_of relocs_from rows_of markers_from info_of row_relocs row_bytes record_bytes scopes_of scope_bytes header_bytes header_word is_long_for is_packed packed_for words_of count_of first_index single only_one ends_with instructions index_in codes_of own_of epilogue_runs epilogue_run prologue_run stands_for fields_hold packed_word candidate as_fields nothing_yet tallies tally chain_behind down_in vectors_in integers_in index_of place_in runs_bytes own_runs is_in leads run_size run_bytes backwards run_fits simple_fits resolve simplify pair_behind simple next_or resolved has_next next_pair pair_in shorter same_codes same_code functions_of numbered_function numbered_epilogue numbered_code code_bytes form_for alloc_form spelled register_field offset_field big register_fits offset_fits code_fits saves_lr integer_size vector_count saved_size local_size packed_ok chain_ok sign_slot lone integer_pair integer_odd integer_slot vector_pair vector_slot home_slot alloc_slot rest_slot chain_slot frame_slot local_slot slot with_slot slots_from undone slot_at packed_prologue packed_epilogue reverse little inside symbol_ok all_in sum_of ask and_then per_function unless fitting room_asks numbers_of pick each all
own_at_end = refl

-- pairs two registers on and 16 bytes up are save_nexts, in both orders; x29's pair has its own code
nexts : wrote (16 ∷ 400 ∷ 0 ∷ 4 ∷ 0 ∷ 2 ∷ []) (8 ∷ 4 ∷ 4 ∷ 100 ∷ 8 ∷ 2 ∷ []) (5 ∷ 19 ∷ 256 ∷ 4 ∷ 21 ∷ 16 ∷ 4 ∷ 23 ∷ 32 ∷ 4 ∷ 29 ∷ 48 ∷ 4 ∷ 29 ∷ 48 ∷ 4 ∷ 23 ∷ 32 ∷ 4 ∷ 21 ∷ 16 ∷ 5 ∷ 19 ∷ 256 ∷ 4 ∷ 23 ∷ 32 ∷ 4 ∷ 21 ∷ 16 ∷ [])
    ≡ ((0 ∷ []) ∷ (0 ∷ []) ∷ (0 ∷ 0 ∷ 0 ∷ 0 ∷ 0 ∷ 0 ∷ 0 ∷ 0 ∷ []) ∷ (0 ∷ 16 ∷ 4 ∷ 4 ∷ 0 ∷ 4 ∷ 4294967312 ∷ 4 ∷ 4 ∷ 0 ∷ []) ∷ (100 ∷ 0 ∷ 128 ∷ 24 ∷ 2 ∷ 0 ∷ 0 ∷ 0 ∷ 25 ∷ 0 ∷ 128 ∷ 1 ∷ 70 ∷ 230 ∷ 230 ∷ 204 ∷ 31 ∷ 228 ∷ 230 ∷ 200 ∷ 130 ∷ 228 ∷ 227 ∷ 227 ∷ []) ∷ [])
unfolding wrote said ample arm64_answer lists_ok function_ok_at codes_in epilogue_ok_at codes_ok_in code_ok_at code_ok has_register has_offset function_asks values_ok start_ok size_ok arm64 infos_of relocs_from rows_of markers_from info_of row_relocs row_bytes record_bytes scopes_of scope_bytes header_bytes header_word is_long_for is_packed packed_for words_of count_of first_index single only_one ends_with instructions index_in codes_of own_of epilogue_runs epilogue_run prologue_run stands_for fields_hold packed_word candidate as_fields nothing_yet tallies tally chain_behind down_in vectors_in integers_in index_of place_in runs_bytes own_runs is_in leads run_size run_bytes backwards run_fits simple_fits resolve simplify pair_behind simple next_or resolved has_next next_pair pair_in shorter same_codes same_code functions_of numbered_function numbered_epilogue numbered_code code_bytes form_for alloc_form spelled register_field offset_field big register_fits offset_fits code_fits saves_lr integer_size vector_count saved_size local_size packed_ok chain_ok sign_slot lone integer_pair integer_odd integer_slot vector_pair vector_slot home_slot alloc_slot rest_slot chain_slot frame_slot local_slot slot with_slot slots_from undone slot_at packed_prologue packed_epilogue reverse little inside symbol_ok all_in sum_of ask and_then per_function unless fitting room_asks numbers_of pick each all
nexts = refl

-- the long header: 125 bytes of codes
long_codes : wrote (16 ∷ 400 ∷ 0 ∷ 124 ∷ 0 ∷ 0 ∷ []) [] (17 ∷ 0 ∷ 0 ∷ 15 ∷ 0 ∷ 0 ∷ 15 ∷ 0 ∷ 0 ∷ 15 ∷ 0 ∷ 0 ∷ 15 ∷ 0 ∷ 0 ∷ 15 ∷ 0 ∷ 0 ∷ 15 ∷ 0 ∷ 0 ∷ 15 ∷ 0 ∷ 0 ∷ 15 ∷ 0 ∷ 0 ∷ 15 ∷ 0 ∷ 0 ∷ 15 ∷ 0 ∷ 0 ∷ 15 ∷ 0 ∷ 0 ∷ 15 ∷ 0 ∷ 0 ∷ 15 ∷ 0 ∷ 0 ∷ 15 ∷ 0 ∷ 0 ∷ 15 ∷ 0 ∷ 0 ∷ 15 ∷ 0 ∷ 0 ∷ 15 ∷ 0 ∷ 0 ∷ 15 ∷ 0 ∷ 0 ∷ 15 ∷ 0 ∷ 0 ∷ 15 ∷ 0 ∷ 0 ∷ 15 ∷ 0 ∷ 0 ∷ 15 ∷ 0 ∷ 0 ∷ 15 ∷ 0 ∷ 0 ∷ 15 ∷ 0 ∷ 0 ∷ 15 ∷ 0 ∷ 0 ∷ 15 ∷ 0 ∷ 0 ∷ 15 ∷ 0 ∷ 0 ∷ 15 ∷ 0 ∷ 0 ∷ 15 ∷ 0 ∷ 0 ∷ 15 ∷ 0 ∷ 0 ∷ 15 ∷ 0 ∷ 0 ∷ 15 ∷ 0 ∷ 0 ∷ 15 ∷ 0 ∷ 0 ∷ 15 ∷ 0 ∷ 0 ∷ 15 ∷ 0 ∷ 0 ∷ 15 ∷ 0 ∷ 0 ∷ 15 ∷ 0 ∷ 0 ∷ 15 ∷ 0 ∷ 0 ∷ 15 ∷ 0 ∷ 0 ∷ 15 ∷ 0 ∷ 0 ∷ 15 ∷ 0 ∷ 0 ∷ 15 ∷ 0 ∷ 0 ∷ 15 ∷ 0 ∷ 0 ∷ 15 ∷ 0 ∷ 0 ∷ 15 ∷ 0 ∷ 0 ∷ 15 ∷ 0 ∷ 0 ∷ 15 ∷ 0 ∷ 0 ∷ 15 ∷ 0 ∷ 0 ∷ 15 ∷ 0 ∷ 0 ∷ 15 ∷ 0 ∷ 0 ∷ 15 ∷ 0 ∷ 0 ∷ 15 ∷ 0 ∷ 0 ∷ 15 ∷ 0 ∷ 0 ∷ 15 ∷ 0 ∷ 0 ∷ 15 ∷ 0 ∷ 0 ∷ 15 ∷ 0 ∷ 0 ∷ 15 ∷ 0 ∷ 0 ∷ 15 ∷ 0 ∷ 0 ∷ 15 ∷ 0 ∷ 0 ∷ 15 ∷ 0 ∷ 0 ∷ 15 ∷ 0 ∷ 0 ∷ 15 ∷ 0 ∷ 0 ∷ 15 ∷ 0 ∷ 0 ∷ 15 ∷ 0 ∷ 0 ∷ 15 ∷ 0 ∷ 0 ∷ 15 ∷ 0 ∷ 0 ∷ 15 ∷ 0 ∷ 0 ∷ 15 ∷ 0 ∷ 0 ∷ 15 ∷ 0 ∷ 0 ∷ 15 ∷ 0 ∷ 0 ∷ 15 ∷ 0 ∷ 0 ∷ 15 ∷ 0 ∷ 0 ∷ 15 ∷ 0 ∷ 0 ∷ 15 ∷ 0 ∷ 0 ∷ 15 ∷ 0 ∷ 0 ∷ 15 ∷ 0 ∷ 0 ∷ 15 ∷ 0 ∷ 0 ∷ 15 ∷ 0 ∷ 0 ∷ 15 ∷ 0 ∷ 0 ∷ 15 ∷ 0 ∷ 0 ∷ 15 ∷ 0 ∷ 0 ∷ 15 ∷ 0 ∷ 0 ∷ 15 ∷ 0 ∷ 0 ∷ 15 ∷ 0 ∷ 0 ∷ 15 ∷ 0 ∷ 0 ∷ 15 ∷ 0 ∷ 0 ∷ 15 ∷ 0 ∷ 0 ∷ 15 ∷ 0 ∷ 0 ∷ 15 ∷ 0 ∷ 0 ∷ 15 ∷ 0 ∷ 0 ∷ 15 ∷ 0 ∷ 0 ∷ 15 ∷ 0 ∷ 0 ∷ 15 ∷ 0 ∷ 0 ∷ 15 ∷ 0 ∷ 0 ∷ 15 ∷ 0 ∷ 0 ∷ 15 ∷ 0 ∷ 0 ∷ 15 ∷ 0 ∷ 0 ∷ 15 ∷ 0 ∷ 0 ∷ 15 ∷ 0 ∷ 0 ∷ 15 ∷ 0 ∷ 0 ∷ 15 ∷ 0 ∷ 0 ∷ 15 ∷ 0 ∷ 0 ∷ 15 ∷ 0 ∷ 0 ∷ 15 ∷ 0 ∷ 0 ∷ 15 ∷ 0 ∷ 0 ∷ 15 ∷ 0 ∷ 0 ∷ 15 ∷ 0 ∷ 0 ∷ 15 ∷ 0 ∷ 0 ∷ 15 ∷ 0 ∷ 0 ∷ 15 ∷ 0 ∷ 0 ∷ 15 ∷ 0 ∷ 0 ∷ 15 ∷ 0 ∷ 0 ∷ 15 ∷ 0 ∷ 0 ∷ 15 ∷ 0 ∷ 0 ∷ 15 ∷ 0 ∷ 0 ∷ 15 ∷ 0 ∷ 0 ∷ 15 ∷ 0 ∷ 0 ∷ 15 ∷ 0 ∷ 0 ∷ 15 ∷ 0 ∷ 0 ∷ 15 ∷ 0 ∷ 0 ∷ 15 ∷ 0 ∷ 0 ∷ 15 ∷ 0 ∷ 0 ∷ 15 ∷ 0 ∷ 0 ∷ [])
    ≡ ((0 ∷ []) ∷ (0 ∷ []) ∷ (0 ∷ 0 ∷ 0 ∷ 0 ∷ 0 ∷ 0 ∷ 0 ∷ 0 ∷ []) ∷ (0 ∷ 16 ∷ 4 ∷ 4 ∷ 0 ∷ 4 ∷ 4294967312 ∷ 4 ∷ 4 ∷ 0 ∷ []) ∷ (100 ∷ 0 ∷ 0 ∷ 0 ∷ 0 ∷ 0 ∷ 32 ∷ 0 ∷ 227 ∷ 227 ∷ 227 ∷ 227 ∷ 227 ∷ 227 ∷ 227 ∷ 227 ∷ 227 ∷ 227 ∷ 227 ∷ 227 ∷ 227 ∷ 227 ∷ 227 ∷ 227 ∷ 227 ∷ 227 ∷ 227 ∷ 227 ∷ 227 ∷ 227 ∷ 227 ∷ 227 ∷ 227 ∷ 227 ∷ 227 ∷ 227 ∷ 227 ∷ 227 ∷ 227 ∷ 227 ∷ 227 ∷ 227 ∷ 227 ∷ 227 ∷ 227 ∷ 227 ∷ 227 ∷ 227 ∷ 227 ∷ 227 ∷ 227 ∷ 227 ∷ 227 ∷ 227 ∷ 227 ∷ 227 ∷ 227 ∷ 227 ∷ 227 ∷ 227 ∷ 227 ∷ 227 ∷ 227 ∷ 227 ∷ 227 ∷ 227 ∷ 227 ∷ 227 ∷ 227 ∷ 227 ∷ 227 ∷ 227 ∷ 227 ∷ 227 ∷ 227 ∷ 227 ∷ 227 ∷ 227 ∷ 227 ∷ 227 ∷ 227 ∷ 227 ∷ 227 ∷ 227 ∷ 227 ∷ 227 ∷ 227 ∷ 227 ∷ 227 ∷ 227 ∷ 227 ∷ 227 ∷ 227 ∷ 227 ∷ 227 ∷ 227 ∷ 227 ∷ 227 ∷ 227 ∷ 227 ∷ 227 ∷ 227 ∷ 227 ∷ 227 ∷ 227 ∷ 227 ∷ 227 ∷ 227 ∷ 227 ∷ 227 ∷ 227 ∷ 227 ∷ 227 ∷ 227 ∷ 227 ∷ 227 ∷ 227 ∷ 227 ∷ 227 ∷ 227 ∷ 227 ∷ 227 ∷ 227 ∷ 227 ∷ 227 ∷ 227 ∷ 227 ∷ 227 ∷ 227 ∷ 227 ∷ 227 ∷ 252 ∷ 228 ∷ 227 ∷ 227 ∷ 227 ∷ []) ∷ [])
unfolding wrote said ample arm64_answer lists_ok function_ok_at codes_in epilogue_ok_at codes_ok_in code_ok_at code_ok has_register has_offset function_asks values_ok start_ok size_ok arm64 infos_of relocs_from rows_of markers_from info_of row_relocs row_bytes record_bytes scopes_of scope_bytes header_bytes header_word is_long_for is_packed packed_for words_of count_of first_index single only_one ends_with instructions index_in codes_of own_of epilogue_runs epilogue_run prologue_run stands_for fields_hold packed_word candidate as_fields nothing_yet tallies tally chain_behind down_in vectors_in integers_in index_of place_in runs_bytes own_runs is_in leads run_size run_bytes backwards run_fits simple_fits resolve simplify pair_behind simple next_or resolved has_next next_pair pair_in shorter same_codes same_code functions_of numbered_function numbered_epilogue numbered_code code_bytes form_for alloc_form spelled register_field offset_field big register_fits offset_fits code_fits saves_lr integer_size vector_count saved_size local_size packed_ok chain_ok sign_slot lone integer_pair integer_odd integer_slot vector_pair vector_slot home_slot alloc_slot rest_slot chain_slot frame_slot local_slot slot with_slot slots_from undone slot_at packed_prologue packed_epilogue reverse little inside symbol_ok all_in sum_of ask and_then per_function unless fitting room_asks numbers_of pick each all
long_codes = refl

-- two functions, and a last number that is no record
two_functions_lem : wrote (16 ∷ 400 ∷ 0 ∷ 2 ∷ 0 ∷ 1 ∷ 17 ∷ 8 ∷ 3 ∷ 0 ∷ 1 ∷ 0 ∷ 7 ∷ []) (392 ∷ 2 ∷ 1 ∷ 7 ∷ []) (3 ∷ 0 ∷ 16 ∷ 13 ∷ 0 ∷ 0 ∷ 3 ∷ 0 ∷ 16 ∷ [])
    ≡ ((0 ∷ []) ∷ (18446744073709551615 ∷ 0 ∷ []) ∷ (0 ∷ 0 ∷ 0 ∷ 0 ∷ 145 ∷ 1 ∷ 224 ∷ 0 ∷ 0 ∷ 0 ∷ 0 ∷ 0 ∷ 0 ∷ 0 ∷ 0 ∷ 0 ∷ []) ∷ (0 ∷ 16 ∷ 4 ∷ 4 ∷ 0 ∷ 8 ∷ 17 ∷ 4 ∷ 4 ∷ 0 ∷ 12 ∷ 4294967313 ∷ 4 ∷ 4 ∷ 0 ∷ []) ∷ (2 ∷ 0 ∷ 0 ∷ 8 ∷ 228 ∷ 227 ∷ 227 ∷ 227 ∷ []) ∷ [])
unfolding wrote said ample arm64_answer lists_ok function_ok_at codes_in epilogue_ok_at codes_ok_in code_ok_at code_ok has_register has_offset function_asks values_ok start_ok size_ok arm64 infos_of relocs_from rows_of markers_from info_of row_relocs row_bytes record_bytes scopes_of scope_bytes header_bytes header_word is_long_for is_packed packed_for words_of count_of first_index single only_one ends_with instructions index_in codes_of own_of epilogue_runs epilogue_run prologue_run stands_for fields_hold packed_word candidate as_fields nothing_yet tallies tally chain_behind down_in vectors_in integers_in index_of place_in runs_bytes own_runs is_in leads run_size run_bytes backwards run_fits simple_fits resolve simplify pair_behind simple next_or resolved has_next next_pair pair_in shorter same_codes same_code functions_of numbered_function numbered_epilogue numbered_code code_bytes form_for alloc_form spelled register_field offset_field big register_fits offset_fits code_fits saves_lr integer_size vector_count saved_size local_size packed_ok chain_ok sign_slot lone integer_pair integer_odd integer_slot vector_pair vector_slot home_slot alloc_slot rest_slot chain_slot frame_slot local_slot slot with_slot slots_from undone slot_at packed_prologue packed_epilogue reverse little inside symbol_ok all_in sum_of ask and_then per_function unless fitting room_asks numbers_of pick each all
two_functions_lem = refl

-- no function: an empty result
no_functions : wrote (1 ∷ 2 ∷ 3 ∷ []) [] []
    ≡ []
unfolding wrote said ample arm64_answer lists_ok function_ok_at codes_in epilogue_ok_at codes_ok_in code_ok_at code_ok has_register has_offset function_asks values_ok start_ok size_ok arm64 infos_of relocs_from rows_of markers_from info_of row_relocs row_bytes record_bytes scopes_of scope_bytes header_bytes header_word is_long_for is_packed packed_for words_of count_of first_index single only_one ends_with instructions index_in codes_of own_of epilogue_runs epilogue_run prologue_run stands_for fields_hold packed_word candidate as_fields nothing_yet tallies tally chain_behind down_in vectors_in integers_in index_of place_in runs_bytes own_runs is_in leads run_size run_bytes backwards run_fits simple_fits resolve simplify pair_behind simple next_or resolved has_next next_pair pair_in shorter same_codes same_code functions_of numbered_function numbered_epilogue numbered_code code_bytes form_for alloc_form spelled register_field offset_field big register_fits offset_fits code_fits saves_lr integer_size vector_count saved_size local_size packed_ok chain_ok sign_slot lone integer_pair integer_odd integer_slot vector_pair vector_slot home_slot alloc_slot rest_slot chain_slot frame_slot local_slot slot with_slot slots_from undone slot_at packed_prologue packed_epilogue reverse little inside symbol_ok all_in sum_of ask and_then per_function unless fitting room_asks numbers_of pick each all
no_functions = refl

-- 13: an operand that the kind does not have
of_13 : wrote (16 ∷ 400 ∷ 0 ∷ 1 ∷ 0 ∷ 0 ∷ []) [] (13 ∷ 0 ∷ 8 ∷ [])
    ≡ ((13 ∷ 0 ∷ []) ∷ [])
unfolding wrote said ample arm64_answer lists_ok function_ok_at codes_in epilogue_ok_at codes_ok_in code_ok_at code_ok has_register has_offset function_asks values_ok start_ok size_ok arm64 infos_of relocs_from rows_of markers_from info_of row_relocs row_bytes record_bytes scopes_of scope_bytes header_bytes header_word is_long_for is_packed packed_for words_of count_of first_index single only_one ends_with instructions index_in codes_of own_of epilogue_runs epilogue_run prologue_run stands_for fields_hold packed_word candidate as_fields nothing_yet tallies tally chain_behind down_in vectors_in integers_in index_of place_in runs_bytes own_runs is_in leads run_size run_bytes backwards run_fits simple_fits resolve simplify pair_behind simple next_or resolved has_next next_pair pair_in shorter same_codes same_code functions_of numbered_function numbered_epilogue numbered_code code_bytes form_for alloc_form spelled register_field offset_field big register_fits offset_fits code_fits saves_lr integer_size vector_count saved_size local_size packed_ok chain_ok sign_slot lone integer_pair integer_odd integer_slot vector_pair vector_slot home_slot alloc_slot rest_slot chain_slot frame_slot local_slot slot with_slot slots_from undone slot_at packed_prologue packed_epilogue reverse little inside symbol_ok all_in sum_of ask and_then per_function unless fitting room_asks numbers_of pick each all
of_13 = refl

-- 13: an epilogue's codes past the list
of_13_range : wrote (16 ∷ 400 ∷ 0 ∷ 0 ∷ 0 ∷ 1 ∷ []) (8 ∷ 0 ∷ 1 ∷ []) []
    ≡ ((13 ∷ 0 ∷ []) ∷ [])
unfolding wrote said ample arm64_answer lists_ok function_ok_at codes_in epilogue_ok_at codes_ok_in code_ok_at code_ok has_register has_offset function_asks values_ok start_ok size_ok arm64 infos_of relocs_from rows_of markers_from info_of row_relocs row_bytes record_bytes scopes_of scope_bytes header_bytes header_word is_long_for is_packed packed_for words_of count_of first_index single only_one ends_with instructions index_in codes_of own_of epilogue_runs epilogue_run prologue_run stands_for fields_hold packed_word candidate as_fields nothing_yet tallies tally chain_behind down_in vectors_in integers_in index_of place_in runs_bytes own_runs is_in leads run_size run_bytes backwards run_fits simple_fits resolve simplify pair_behind simple next_or resolved has_next next_pair pair_in shorter same_codes same_code functions_of numbered_function numbered_epilogue numbered_code code_bytes form_for alloc_form spelled register_field offset_field big register_fits offset_fits code_fits saves_lr integer_size vector_count saved_size local_size packed_ok chain_ok sign_slot lone integer_pair integer_odd integer_slot vector_pair vector_slot home_slot alloc_slot rest_slot chain_slot frame_slot local_slot slot with_slot slots_from undone slot_at packed_prologue packed_epilogue reverse little inside symbol_ok all_in sum_of ask and_then per_function unless fitting room_asks numbers_of pick each all
of_13_range = refl

-- 81: not whole instructions
of_81 : wrote (16 ∷ 402 ∷ 0 ∷ 0 ∷ 0 ∷ 0 ∷ []) [] []
    ≡ ((81 ∷ 0 ∷ []) ∷ [])
unfolding wrote said ample arm64_answer lists_ok function_ok_at codes_in epilogue_ok_at codes_ok_in code_ok_at code_ok has_register has_offset function_asks values_ok start_ok size_ok arm64 infos_of relocs_from rows_of markers_from info_of row_relocs row_bytes record_bytes scopes_of scope_bytes header_bytes header_word is_long_for is_packed packed_for words_of count_of first_index single only_one ends_with instructions index_in codes_of own_of epilogue_runs epilogue_run prologue_run stands_for fields_hold packed_word candidate as_fields nothing_yet tallies tally chain_behind down_in vectors_in integers_in index_of place_in runs_bytes own_runs is_in leads run_size run_bytes backwards run_fits simple_fits resolve simplify pair_behind simple next_or resolved has_next next_pair pair_in shorter same_codes same_code functions_of numbered_function numbered_epilogue numbered_code code_bytes form_for alloc_form spelled register_field offset_field big register_fits offset_fits code_fits saves_lr integer_size vector_count saved_size local_size packed_ok chain_ok sign_slot lone integer_pair integer_odd integer_slot vector_pair vector_slot home_slot alloc_slot rest_slot chain_slot frame_slot local_slot slot with_slot slots_from undone slot_at packed_prologue packed_epilogue reverse little inside symbol_ok all_in sum_of ask and_then per_function unless fitting room_asks numbers_of pick each all
of_81 = refl

-- 81: 2^18 instructions
of_81_longest : wrote (16 ∷ 1048576 ∷ 0 ∷ 0 ∷ 0 ∷ 0 ∷ []) [] []
    ≡ ((81 ∷ 0 ∷ []) ∷ [])
unfolding wrote said ample arm64_answer lists_ok function_ok_at codes_in epilogue_ok_at codes_ok_in code_ok_at code_ok has_register has_offset function_asks values_ok start_ok size_ok arm64 infos_of relocs_from rows_of markers_from info_of row_relocs row_bytes record_bytes scopes_of scope_bytes header_bytes header_word is_long_for is_packed packed_for words_of count_of first_index single only_one ends_with instructions index_in codes_of own_of epilogue_runs epilogue_run prologue_run stands_for fields_hold packed_word candidate as_fields nothing_yet tallies tally chain_behind down_in vectors_in integers_in index_of place_in runs_bytes own_runs is_in leads run_size run_bytes backwards run_fits simple_fits resolve simplify pair_behind simple next_or resolved has_next next_pair pair_in shorter same_codes same_code functions_of numbered_function numbered_epilogue numbered_code code_bytes form_for alloc_form spelled register_field offset_field big register_fits offset_fits code_fits saves_lr integer_size vector_count saved_size local_size packed_ok chain_ok sign_slot lone integer_pair integer_odd integer_slot vector_pair vector_slot home_slot alloc_slot rest_slot chain_slot frame_slot local_slot slot with_slot slots_from undone slot_at packed_prologue packed_epilogue reverse little inside symbol_ok all_in sum_of ask and_then per_function unless fitting room_asks numbers_of pick each all
of_81_longest = refl

-- 82: an epilogue off an instruction
of_82 : wrote (16 ∷ 400 ∷ 0 ∷ 0 ∷ 0 ∷ 1 ∷ []) (6 ∷ 0 ∷ 0 ∷ []) []
    ≡ ((82 ∷ 0 ∷ []) ∷ [])
unfolding wrote said ample arm64_answer lists_ok function_ok_at codes_in epilogue_ok_at codes_ok_in code_ok_at code_ok has_register has_offset function_asks values_ok start_ok size_ok arm64 infos_of relocs_from rows_of markers_from info_of row_relocs row_bytes record_bytes scopes_of scope_bytes header_bytes header_word is_long_for is_packed packed_for words_of count_of first_index single only_one ends_with instructions index_in codes_of own_of epilogue_runs epilogue_run prologue_run stands_for fields_hold packed_word candidate as_fields nothing_yet tallies tally chain_behind down_in vectors_in integers_in index_of place_in runs_bytes own_runs is_in leads run_size run_bytes backwards run_fits simple_fits resolve simplify pair_behind simple next_or resolved has_next next_pair pair_in shorter same_codes same_code functions_of numbered_function numbered_epilogue numbered_code code_bytes form_for alloc_form spelled register_field offset_field big register_fits offset_fits code_fits saves_lr integer_size vector_count saved_size local_size packed_ok chain_ok sign_slot lone integer_pair integer_odd integer_slot vector_pair vector_slot home_slot alloc_slot rest_slot chain_slot frame_slot local_slot slot with_slot slots_from undone slot_at packed_prologue packed_epilogue reverse little inside symbol_ok all_in sum_of ask and_then per_function unless fitting room_asks numbers_of pick each all
of_82 = refl

-- 82: an epilogue not below the length
of_82_past : wrote (16 ∷ 400 ∷ 0 ∷ 0 ∷ 0 ∷ 1 ∷ []) (400 ∷ 0 ∷ 0 ∷ []) []
    ≡ ((82 ∷ 0 ∷ []) ∷ [])
unfolding wrote said ample arm64_answer lists_ok function_ok_at codes_in epilogue_ok_at codes_ok_in code_ok_at code_ok has_register has_offset function_asks values_ok start_ok size_ok arm64 infos_of relocs_from rows_of markers_from info_of row_relocs row_bytes record_bytes scopes_of scope_bytes header_bytes header_word is_long_for is_packed packed_for words_of count_of first_index single only_one ends_with instructions index_in codes_of own_of epilogue_runs epilogue_run prologue_run stands_for fields_hold packed_word candidate as_fields nothing_yet tallies tally chain_behind down_in vectors_in integers_in index_of place_in runs_bytes own_runs is_in leads run_size run_bytes backwards run_fits simple_fits resolve simplify pair_behind simple next_or resolved has_next next_pair pair_in shorter same_codes same_code functions_of numbered_function numbered_epilogue numbered_code code_bytes form_for alloc_form spelled register_field offset_field big register_fits offset_fits code_fits saves_lr integer_size vector_count saved_size local_size packed_ok chain_ok sign_slot lone integer_pair integer_odd integer_slot vector_pair vector_slot home_slot alloc_slot rest_slot chain_slot frame_slot local_slot slot with_slot slots_from undone slot_at packed_prologue packed_epilogue reverse little inside symbol_ok all_in sum_of ask and_then per_function unless fitting room_asks numbers_of pick each all
of_82_past = refl

-- 83: a register that its kind cannot name, though it is two on from the pair before
of_83_register : wrote (16 ∷ 400 ∷ 0 ∷ 2 ∷ 0 ∷ 0 ∷ []) [] (4 ∷ 28 ∷ 0 ∷ 4 ∷ 30 ∷ 16 ∷ [])
    ≡ ((83 ∷ 0 ∷ []) ∷ [])
unfolding wrote said ample arm64_answer lists_ok function_ok_at codes_in epilogue_ok_at codes_ok_in code_ok_at code_ok has_register has_offset function_asks values_ok start_ok size_ok arm64 infos_of relocs_from rows_of markers_from info_of row_relocs row_bytes record_bytes scopes_of scope_bytes header_bytes header_word is_long_for is_packed packed_for words_of count_of first_index single only_one ends_with instructions index_in codes_of own_of epilogue_runs epilogue_run prologue_run stands_for fields_hold packed_word candidate as_fields nothing_yet tallies tally chain_behind down_in vectors_in integers_in index_of place_in runs_bytes own_runs is_in leads run_size run_bytes backwards run_fits simple_fits resolve simplify pair_behind simple next_or resolved has_next next_pair pair_in shorter same_codes same_code functions_of numbered_function numbered_epilogue numbered_code code_bytes form_for alloc_form spelled register_field offset_field big register_fits offset_fits code_fits saves_lr integer_size vector_count saved_size local_size packed_ok chain_ok sign_slot lone integer_pair integer_odd integer_slot vector_pair vector_slot home_slot alloc_slot rest_slot chain_slot frame_slot local_slot slot with_slot slots_from undone slot_at packed_prologue packed_epilogue reverse little inside symbol_ok all_in sum_of ask and_then per_function unless fitting room_asks numbers_of pick each all
of_83_register = refl

-- 83: an offset past its field, in an epilogue
of_83_offset : wrote (16 ∷ 400 ∷ 0 ∷ 0 ∷ 0 ∷ 1 ∷ []) (8 ∷ 0 ∷ 1 ∷ []) (7 ∷ 19 ∷ 264 ∷ [])
    ≡ ((83 ∷ 0 ∷ []) ∷ [])
unfolding wrote said ample arm64_answer lists_ok function_ok_at codes_in epilogue_ok_at codes_ok_in code_ok_at code_ok has_register has_offset function_asks values_ok start_ok size_ok arm64 infos_of relocs_from rows_of markers_from info_of row_relocs row_bytes record_bytes scopes_of scope_bytes header_bytes header_word is_long_for is_packed packed_for words_of count_of first_index single only_one ends_with instructions index_in codes_of own_of epilogue_runs epilogue_run prologue_run stands_for fields_hold packed_word candidate as_fields nothing_yet tallies tally chain_behind down_in vectors_in integers_in index_of place_in runs_bytes own_runs is_in leads run_size run_bytes backwards run_fits simple_fits resolve simplify pair_behind simple next_or resolved has_next next_pair pair_in shorter same_codes same_code functions_of numbered_function numbered_epilogue numbered_code code_bytes form_for alloc_form spelled register_field offset_field big register_fits offset_fits code_fits saves_lr integer_size vector_count saved_size local_size packed_ok chain_ok sign_slot lone integer_pair integer_odd integer_slot vector_pair vector_slot home_slot alloc_slot rest_slot chain_slot frame_slot local_slot slot with_slot slots_from undone slot_at packed_prologue packed_epilogue reverse little inside symbol_ok all_in sum_of ask and_then per_function unless fitting room_asks numbers_of pick each all
of_83_offset = refl

-- an offset past Regp's field, as a save_next
next_far : wrote (16 ∷ 400 ∷ 0 ∷ 2 ∷ 0 ∷ 0 ∷ []) [] (4 ∷ 19 ∷ 504 ∷ 4 ∷ 21 ∷ 520 ∷ [])
    ≡ ((0 ∷ []) ∷ (0 ∷ []) ∷ (0 ∷ 0 ∷ 0 ∷ 0 ∷ 0 ∷ 0 ∷ 0 ∷ 0 ∷ []) ∷ (0 ∷ 16 ∷ 4 ∷ 4 ∷ 0 ∷ 4 ∷ 4294967312 ∷ 4 ∷ 4 ∷ 0 ∷ []) ∷ (100 ∷ 0 ∷ 0 ∷ 8 ∷ 230 ∷ 200 ∷ 63 ∷ 228 ∷ []) ∷ [])
unfolding wrote said ample arm64_answer lists_ok function_ok_at codes_in epilogue_ok_at codes_ok_in code_ok_at code_ok has_register has_offset function_asks values_ok start_ok size_ok arm64 infos_of relocs_from rows_of markers_from info_of row_relocs row_bytes record_bytes scopes_of scope_bytes header_bytes header_word is_long_for is_packed packed_for words_of count_of first_index single only_one ends_with instructions index_in codes_of own_of epilogue_runs epilogue_run prologue_run stands_for fields_hold packed_word candidate as_fields nothing_yet tallies tally chain_behind down_in vectors_in integers_in index_of place_in runs_bytes own_runs is_in leads run_size run_bytes backwards run_fits simple_fits resolve simplify pair_behind simple next_or resolved has_next next_pair pair_in shorter same_codes same_code functions_of numbered_function numbered_epilogue numbered_code code_bytes form_for alloc_form spelled register_field offset_field big register_fits offset_fits code_fits saves_lr integer_size vector_count saved_size local_size packed_ok chain_ok sign_slot lone integer_pair integer_odd integer_slot vector_pair vector_slot home_slot alloc_slot rest_slot chain_slot frame_slot local_slot slot with_slot slots_from undone slot_at packed_prologue packed_epilogue reverse little inside symbol_ok all_in sum_of ask and_then per_function unless fitting room_asks numbers_of pick each all
next_far = refl

-- the header's form by the count of epilogues: 31, and 32
with_epilogues : ℕ → Function
with_epilogues n =
    record { symbol = 16; size = 400; prologue = code k_nop 0 0 ∷ []; epilogues = each (λ i. record { start = 4 * i; codes = [] }) 0 n }

short_header : header_bytes (with_epilogues 31) ≡ 0x64 ∷ 0 ∷ 0xc0 ∷ 0x0f ∷ []
unfolding with_epilogues arm64_answer lists_ok function_ok_at codes_in epilogue_ok_at codes_ok_in code_ok_at code_ok has_register has_offset function_asks values_ok start_ok size_ok arm64 infos_of relocs_from rows_of markers_from info_of row_relocs row_bytes record_bytes scopes_of scope_bytes header_bytes header_word is_long_for is_packed packed_for words_of count_of first_index single only_one ends_with instructions index_in codes_of own_of epilogue_runs epilogue_run prologue_run stands_for fields_hold packed_word candidate as_fields nothing_yet tallies tally chain_behind down_in vectors_in integers_in index_of place_in runs_bytes own_runs is_in leads run_size run_bytes backwards run_fits simple_fits resolve simplify pair_behind simple next_or resolved has_next next_pair pair_in shorter same_codes same_code functions_of numbered_function numbered_epilogue numbered_code code_bytes form_for alloc_form spelled register_field offset_field big register_fits offset_fits code_fits saves_lr integer_size vector_count saved_size local_size packed_ok chain_ok sign_slot lone integer_pair integer_odd integer_slot vector_pair vector_slot home_slot alloc_slot rest_slot chain_slot frame_slot local_slot slot with_slot slots_from undone slot_at packed_prologue packed_epilogue reverse little inside symbol_ok all_in sum_of ask and_then per_function unless fitting room_asks numbers_of pick each all
short_header = refl

long_header_lem : header_bytes (with_epilogues 32) ≡ 0x64 ∷ 0 ∷ 0 ∷ 0 ∷ 32 ∷ 0 ∷ 1 ∷ 0 ∷ []
unfolding with_epilogues arm64_answer lists_ok function_ok_at codes_in epilogue_ok_at codes_ok_in code_ok_at code_ok has_register has_offset function_asks values_ok start_ok size_ok arm64 infos_of relocs_from rows_of markers_from info_of row_relocs row_bytes record_bytes scopes_of scope_bytes header_bytes header_word is_long_for is_packed packed_for words_of count_of first_index single only_one ends_with instructions index_in codes_of own_of epilogue_runs epilogue_run prologue_run stands_for fields_hold packed_word candidate as_fields nothing_yet tallies tally chain_behind down_in vectors_in integers_in index_of place_in runs_bytes own_runs is_in leads run_size run_bytes backwards run_fits simple_fits resolve simplify pair_behind simple next_or resolved has_next next_pair pair_in shorter same_codes same_code functions_of numbered_function numbered_epilogue numbered_code code_bytes form_for alloc_form spelled register_field offset_field big register_fits offset_fits code_fits saves_lr integer_size vector_count saved_size local_size packed_ok chain_ok sign_slot lone integer_pair integer_odd integer_slot vector_pair vector_slot home_slot alloc_slot rest_slot chain_slot frame_slot local_slot slot with_slot slots_from undone slot_at packed_prologue packed_epilogue reverse little inside symbol_ok all_in sum_of ask and_then per_function unless fitting room_asks numbers_of pick each all
long_header_lem = refl

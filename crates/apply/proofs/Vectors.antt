-- The definition computed: each kind, and each refusal. Symbol 16 is at 0x1000 (its second address does not count), 17 at 0x1004; the section
-- starts at 0x2000, the image at 0xfa0.
use Rattle.std.proofs.Common.{◌≡◌, ℕ, List, [], ◌∷◌, refl}
use Rattle.format.specs.Prelude.{pick, after, first, each, Result, good, bad}
use Rattle.format.specs.Machine.{is_word_size}
use Rattle.format.specs.Put.{put}
use Rattle.format.specs.Leb.{little}
use Rattle.format.specs.Lists.{relocations_of, relocation_at}
use Rattle.format.specs.Questions.{is_some}
use Rattle.apply.specs.Kinds.{kind_of, size_ok}
use Rattle.apply.specs.Fields.{up_to, signed32, low_of, number_at, field_at, in_field, set_in, sub_in, whole_in}
use Rattle.apply.specs.Values.{symbol_at, symbols_of, address_of, sum_of, apart, value_as, distance_of, store_as, store_of}
use Rattle.apply.specs.Apply.{front, everywhere, partners, leads, follows, paired, measured, value_ok, sound, near_as, near, stores, apply}

abbrev at : (bytes relocations : List ℕ) (room : ℕ) → Result (List ℕ)
at bytes relocations room = apply bytes relocations (16 ∷ 0x1000 ∷ 17 ∷ 0x1004 ∷ 16 ∷ 1 ∷ []) 0x2000 0xfa0 room

-- Data: 0x1000 less 0x2001, in signed 32 bits
distance : at (9 ∷ 0 ∷ 0 ∷ 0 ∷ 0 ∷ []) (1 ∷ 16 ∷ 0 ∷ 4 ∷ 0 ∷ []) 5 ≡ good (9 ∷ 255 ∷ 239 ∷ 255 ∷ 255 ∷ [])
unfolding apply everywhere sound near near_as size_ok is_word_size paired leads follows partners measured value_ok value_as distance_of store_of store_as stores front kind_of sum_of apart address_of symbols_of symbol_at up_to signed32 low_of number_at field_at in_field set_in sub_in whole_in pick after first each relocations_of relocation_at is_some put little
distance = refl

-- Address: 0x1000 - 1 in 2 bytes
address : at (0 ∷ 0 ∷ []) (0 ∷ 16 ∷ 1 ∷ 2 ∷ 18446744073709551615 ∷ []) 2 ≡ good (255 ∷ 15 ∷ [])
unfolding apply everywhere sound near near_as size_ok is_word_size paired leads follows partners measured value_ok value_as distance_of store_of store_as stores front kind_of sum_of apart address_of symbols_of symbol_at up_to signed32 low_of number_at field_at in_field set_in sub_in whole_in pick after first each relocations_of relocation_at is_some put little
address = refl

-- a Sum pair: 0x1004 + 2 - 0x1000 in 4 bytes
sum : at (0 ∷ 0 ∷ 0 ∷ 0 ∷ []) (0 ∷ 17 ∷ 2 ∷ 4 ∷ 2 ∷ 0 ∷ 16 ∷ 3 ∷ 4 ∷ 0 ∷ []) 4 ≡ good (6 ∷ 0 ∷ 0 ∷ 0 ∷ [])
unfolding apply everywhere sound near near_as size_ok is_word_size paired leads follows partners measured value_ok value_as distance_of store_of store_as stores front kind_of sum_of apart address_of symbols_of symbol_at up_to signed32 low_of number_at field_at in_field set_in sub_in whole_in pick after first each relocations_of relocation_at is_some put little
sum = refl

-- Image: 0x1000 less 0xfa0
image : at (0 ∷ 0 ∷ 0 ∷ 0 ∷ []) (0 ∷ 16 ∷ 4 ∷ 4 ∷ 0 ∷ []) 4 ≡ good (96 ∷ 0 ∷ 0 ∷ 0 ∷ [])
unfolding apply everywhere sound near near_as size_ok is_word_size paired leads follows partners measured value_ok value_as distance_of store_of store_as stores front kind_of sum_of apart address_of symbols_of symbol_at up_to signed32 low_of number_at field_at in_field set_in sub_in whole_in pick after first each relocations_of relocation_at is_some put little
image = refl

-- Set6 and Sub6 in 0xc5: the distance 4, and the upper two bits kept
set6 : at (197 ∷ []) (0 ∷ 17 ∷ 5 ∷ 1 ∷ 0 ∷ 0 ∷ 16 ∷ 6 ∷ 1 ∷ 0 ∷ []) 1 ≡ good (196 ∷ [])
unfolding apply everywhere sound near near_as size_ok is_word_size paired leads follows partners measured value_ok value_as distance_of store_of store_as stores front kind_of sum_of apart address_of symbols_of symbol_at up_to signed32 low_of number_at field_at in_field set_in sub_in whole_in pick after first each relocations_of relocation_at is_some put little
set6 = refl

-- Set8 and Sub8: 4 + 251
set8 : at (7 ∷ []) (0 ∷ 17 ∷ 7 ∷ 1 ∷ 251 ∷ 0 ∷ 16 ∷ 8 ∷ 1 ∷ 0 ∷ []) 1 ≡ good (255 ∷ [])
unfolding apply everywhere sound near near_as size_ok is_word_size paired leads follows partners measured value_ok value_as distance_of store_of store_as stores front kind_of sum_of apart address_of symbols_of symbol_at up_to signed32 low_of number_at field_at in_field set_in sub_in whole_in pick after first each relocations_of relocation_at is_some put little
set8 = refl

-- Set16 and Sub16, on the last two bytes: 4 + 256
set16 : at (7 ∷ 8 ∷ 9 ∷ []) (1 ∷ 17 ∷ 9 ∷ 2 ∷ 256 ∷ 1 ∷ 16 ∷ 10 ∷ 2 ∷ 0 ∷ []) 3 ≡ good (7 ∷ 4 ∷ 1 ∷ [])
unfolding apply everywhere sound near near_as size_ok is_word_size paired leads follows partners measured value_ok value_as distance_of store_of store_as stores front kind_of sum_of apart address_of symbols_of symbol_at up_to signed32 low_of number_at field_at in_field set_in sub_in whole_in pick after first each relocations_of relocation_at is_some put little
set16 = refl

-- Set32 and Sub32 over 64 bits: 0x1004 + 2^63 - 1 less 0x1000 + 2^63 - 1
set32 : at (1 ∷ 2 ∷ 3 ∷ 4 ∷ []) (0 ∷ 17 ∷ 11 ∷ 4 ∷ 9223372036854775807 ∷ 0 ∷ 16 ∷ 12 ∷ 4 ∷ 9223372036854775807 ∷ []) 4 ≡ good (4 ∷ 0 ∷ 0 ∷ 0 ∷ [])
unfolding apply everywhere sound near near_as size_ok is_word_size paired leads follows partners measured value_ok value_as distance_of store_of store_as stores front kind_of sum_of apart address_of symbols_of symbol_at up_to signed32 low_of number_at field_at in_field set_in sub_in whole_in pick after first each relocations_of relocation_at is_some put little
set32 = refl

-- 52: a buffer of one byte less
short : at (0 ∷ 0 ∷ []) [] 1 ≡ bad 52
unfolding apply everywhere sound near near_as size_ok is_word_size paired leads follows partners measured value_ok value_as distance_of store_of store_as stores front kind_of sum_of apart address_of symbols_of symbol_at up_to signed32 low_of number_at field_at in_field set_in sub_in whole_in pick after first each relocations_of relocation_at is_some put little
short = refl

-- 52 comes first
short_first : at (0 ∷ 0 ∷ []) (0 ∷ 16 ∷ 13 ∷ 1 ∷ 0 ∷ []) 1 ≡ bad 52
unfolding apply everywhere sound near near_as size_ok is_word_size paired leads follows partners measured value_ok value_as distance_of store_of store_as stores front kind_of sum_of apart address_of symbols_of symbol_at up_to signed32 low_of number_at field_at in_field set_in sub_in whole_in pick after first each relocations_of relocation_at is_some put little
short_first = refl

-- 79: no kind
no_kind : at (0 ∷ []) (0 ∷ 16 ∷ 13 ∷ 1 ∷ 0 ∷ []) 1 ≡ bad 79
unfolding apply everywhere sound near near_as size_ok is_word_size paired leads follows partners measured value_ok value_as distance_of store_of store_as stores front kind_of sum_of apart address_of symbols_of symbol_at up_to signed32 low_of number_at field_at in_field set_in sub_in whole_in pick after first each relocations_of relocation_at is_some put little
no_kind = refl

-- 79: no size of Address
no_size : at (0 ∷ []) (0 ∷ 16 ∷ 1 ∷ 1 ∷ 0 ∷ []) 1 ≡ bad 79
unfolding apply everywhere sound near near_as size_ok is_word_size paired leads follows partners measured value_ok value_as distance_of store_of store_as stores front kind_of sum_of apart address_of symbols_of symbol_at up_to signed32 low_of number_at field_at in_field set_in sub_in whole_in pick after first each relocations_of relocation_at is_some put little
no_size = refl

-- 79: Sum plus without Sum minus
alone : at (0 ∷ 0 ∷ 0 ∷ 0 ∷ []) (0 ∷ 17 ∷ 2 ∷ 4 ∷ 0 ∷ []) 4 ≡ bad 79
unfolding apply everywhere sound near near_as size_ok is_word_size paired leads follows partners measured value_ok value_as distance_of store_of store_as stores front kind_of sum_of apart address_of symbols_of symbol_at up_to signed32 low_of number_at field_at in_field set_in sub_in whole_in pick after first each relocations_of relocation_at is_some put little
alone = refl

-- 79: Sub6 without Set6
second : at (0 ∷ []) (0 ∷ 16 ∷ 6 ∷ 1 ∷ 0 ∷ []) 1 ≡ bad 79
unfolding apply everywhere sound near near_as size_ok is_word_size paired leads follows partners measured value_ok value_as distance_of store_of store_as stores front kind_of sum_of apart address_of symbols_of symbol_at up_to signed32 low_of number_at field_at in_field set_in sub_in whole_in pick after first each relocations_of relocation_at is_some put little
second = refl

-- 79: a pair at two places
apart_places : at (0 ∷ 0 ∷ []) (0 ∷ 17 ∷ 5 ∷ 1 ∷ 0 ∷ 1 ∷ 16 ∷ 6 ∷ 1 ∷ 0 ∷ []) 2 ≡ bad 79
unfolding apply everywhere sound near near_as size_ok is_word_size paired leads follows partners measured value_ok value_as distance_of store_of store_as stores front kind_of sum_of apart address_of symbols_of symbol_at up_to signed32 low_of number_at field_at in_field set_in sub_in whole_in pick after first each relocations_of relocation_at is_some put little
apart_places = refl

-- 79: no address of symbol 18
no_address : at (0 ∷ 0 ∷ []) (0 ∷ 18 ∷ 1 ∷ 2 ∷ 0 ∷ []) 2 ≡ bad 79
unfolding apply everywhere sound near near_as size_ok is_word_size paired leads follows partners measured value_ok value_as distance_of store_of store_as stores front kind_of sum_of apart address_of symbols_of symbol_at up_to signed32 low_of number_at field_at in_field set_in sub_in whole_in pick after first each relocations_of relocation_at is_some put little
no_address = refl

-- 79: 0x10000 in 2 bytes
large : at (0 ∷ 0 ∷ []) (0 ∷ 16 ∷ 1 ∷ 2 ∷ 61440 ∷ []) 2 ≡ bad 79
unfolding apply everywhere sound near near_as size_ok is_word_size paired leads follows partners measured value_ok value_as distance_of store_of store_as stores front kind_of sum_of apart address_of symbols_of symbol_at up_to signed32 low_of number_at field_at in_field set_in sub_in whole_in pick after first each relocations_of relocation_at is_some put little
large = refl

-- 79: a field that ends past the section
outside : at (0 ∷ 0 ∷ []) (1 ∷ 16 ∷ 1 ∷ 2 ∷ 0 ∷ []) 2 ≡ bad 79
unfolding apply everywhere sound near near_as size_ok is_word_size paired leads follows partners measured value_ok value_as distance_of store_of store_as stores front kind_of sum_of apart address_of symbols_of symbol_at up_to signed32 low_of number_at field_at in_field set_in sub_in whole_in pick after first each relocations_of relocation_at is_some put little
outside = refl

-- 80: Set8 of the smaller, Sub8 of the larger
negative : at (0 ∷ []) (0 ∷ 16 ∷ 7 ∷ 1 ∷ 0 ∷ 0 ∷ 17 ∷ 8 ∷ 1 ∷ 0 ∷ []) 1 ≡ bad 80
unfolding apply everywhere sound near near_as size_ok is_word_size paired leads follows partners measured value_ok value_as distance_of store_of store_as stores front kind_of sum_of apart address_of symbols_of symbol_at up_to signed32 low_of number_at field_at in_field set_in sub_in whole_in pick after first each relocations_of relocation_at is_some put little
negative = refl

-- 80: 64 in 6 bits
far : at (0 ∷ []) (0 ∷ 17 ∷ 5 ∷ 1 ∷ 60 ∷ 0 ∷ 16 ∷ 6 ∷ 1 ∷ 0 ∷ []) 1 ≡ bad 80
unfolding apply everywhere sound near near_as size_ok is_word_size paired leads follows partners measured value_ok value_as distance_of store_of store_as stores front kind_of sum_of apart address_of symbols_of symbol_at up_to signed32 low_of number_at field_at in_field set_in sub_in whole_in pick after first each relocations_of relocation_at is_some put little
far = refl

-- 79 of a later relocation comes before 80 of an earlier one
order : at (0 ∷ []) (0 ∷ 16 ∷ 7 ∷ 1 ∷ 0 ∷ 0 ∷ 17 ∷ 8 ∷ 1 ∷ 0 ∷ 0 ∷ 16 ∷ 13 ∷ 1 ∷ 0 ∷ []) 1 ≡ bad 79
unfolding apply everywhere sound near near_as size_ok is_word_size paired leads follows partners measured value_ok value_as distance_of store_of store_as stores front kind_of sum_of apart address_of symbols_of symbol_at up_to signed32 low_of number_at field_at in_field set_in sub_in whole_in pick after first each relocations_of relocation_at is_some put little
order = refl

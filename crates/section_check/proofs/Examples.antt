-- Worked examples, computed from the definitions: a header as gcc writes it for x86-64, and a record behind it.
use mathlib.Core.Path.{◌≡◌, refl}
use Prim.Native.Nat.{ℕ}
use mathlib.Core.List.{List, [], ◌∷◌, ◌++◌}
use Rattle.format.specs.Headers.{pointer_size, header_id, data_factor}
use Rattle.format.specs.Leb.{read_little, read_uleb_f, read_uleb, push, last7, read_sleb_f, fits64, read_sleb}
use Rattle.format.specs.Machine.{is_word_size}
use Rattle.format.specs.Prelude.{pick, next, after, onward, or_else, first, each}
use Rattle.format.specs.Reader.{read_entry, entries_f, entries, value_or0, second, is_header, records, distance_back, first_addend, header_place, header_at, strip, spelled, spellings, spell_or, read_letters, read_byte, read_many, read_counted, personality_in, lsda_in, letters_in, header_tail, require, parse_header, record_tail, parse_record, perform, when_read, run_f, run, parsed, locate, run_to, read_section, read}
use Rattle.format.specs.Rows.{unfactor, read_register, in_range, read_offset, read_factored, read_signed, one, two, read_extended, read_operation, same_offset}
use Rattle.format.specs.Rules.{blank, with_cfa, with_rule, reoffset, reregister, restored, negated, apply, rules_for, seen, without_cfa, without_stored, refusal, unless_refused, act, answer}
use Rattle.section_check.specs.Check.{length_of, answers, last_answers, passes, saying, check_from, check_entries, check_section}
use Rattle.section_check.specs.declared.Checked.{Checked}

header : List ℕ
header = 20 ∷ 0 ∷ 0 ∷ 0 ∷ 0 ∷ 0 ∷ 0 ∷ 0 ∷ 1 ∷ 122 ∷ 82 ∷ 0 ∷ 1 ∷ 120 ∷ 16 ∷ 1 ∷ 27 ∷ 12 ∷ 7 ∷ 8 ∷ 144 ∷ 1 ∷ 0 ∷ 0 ∷ []

-- the check at word 8
unfoldable checked : List ℕ → Checked
unfolding pick next after onward or_else first each read_little read_uleb_f read_uleb push last7 read_sleb_f fits64 read_sleb unfactor read_register in_range read_offset read_factored read_signed one two read_extended read_operation same_offset pointer_size header_id data_factor is_word_size blank with_cfa with_rule reoffset reregister restored negated apply rules_for seen without_cfa without_stored refusal unless_refused act answer read_entry entries_f entries value_or0 second is_header records distance_back first_addend header_place header_at strip spelled spellings spell_or read_letters read_byte read_many read_counted personality_in lsda_in letters_in header_tail require parse_header record_tail parse_record perform when_read run_f run parsed locate run_to read_section read length_of answers last_answers passes saying check_from check_entries check_section
checked section = check_section section 8

-- length 6, a step of 1 and DefCfaOffset 16
passes_whole : checked (header ++ 16 ∷ 0 ∷ 0 ∷ 0 ∷ 28 ∷ 0 ∷ 0 ∷ 0 ∷ 0 ∷ 0 ∷ 0 ∷ 0 ∷ 6 ∷ 0 ∷ 0 ∷ 0 ∷ 0 ∷ 65 ∷ 14 ∷ 16 ∷ []) ≡ record { number = 0; «record» = 0 }
unfolding checked header
passes_whole = refl

-- RestoreState with nothing stored at 6 is behind the last offset, at 5 it is not
last_offset : checked (header ++ 15 ∷ 0 ∷ 0 ∷ 0 ∷ 28 ∷ 0 ∷ 0 ∷ 0 ∷ 0 ∷ 0 ∷ 0 ∷ 0 ∷ 6 ∷ 0 ∷ 0 ∷ 0 ∷ 0 ∷ 70 ∷ 11 ∷ []) ≡ record { number = 0; «record» = 0 }
unfolding checked header
last_offset = refl

-- the same at offset 5
at_last_offset : checked (header ++ 15 ∷ 0 ∷ 0 ∷ 0 ∷ 28 ∷ 0 ∷ 0 ∷ 0 ∷ 0 ∷ 0 ∷ 0 ∷ 0 ∷ 6 ∷ 0 ∷ 0 ∷ 0 ∷ 0 ∷ 69 ∷ 11 ∷ []) ≡ record { number = 84; «record» = 0 }
unfolding checked header
at_last_offset = refl

-- length 0 passes, though no header starts where the record says
length_zero : checked (header ++ 14 ∷ 0 ∷ 0 ∷ 0 ∷ 9 ∷ 0 ∷ 0 ∷ 0 ∷ 0 ∷ 0 ∷ 0 ∷ 0 ∷ 0 ∷ 0 ∷ 0 ∷ 0 ∷ 0 ∷ 11 ∷ []) ≡ record { number = 0; «record» = 0 }
unfolding checked header
length_zero = refl

-- an entry that ends inside its length
length_outside : checked (header ++ 11 ∷ 0 ∷ 0 ∷ 0 ∷ 28 ∷ 0 ∷ 0 ∷ 0 ∷ 0 ∷ 0 ∷ 0 ∷ 0 ∷ 0 ∷ 0 ∷ 0 ∷ []) ≡ record { number = 84; «record» = 0 }
unfolding checked header
length_outside = refl

-- the second record fails
second_record : checked (header ++ 13 ∷ 0 ∷ 0 ∷ 0 ∷ 28 ∷ 0 ∷ 0 ∷ 0 ∷ 0 ∷ 0 ∷ 0 ∷ 0 ∷ 0 ∷ 0 ∷ 0 ∷ 0 ∷ 0 ∷ 14 ∷ 0 ∷ 0 ∷ 0 ∷ 45 ∷ 0 ∷ 0 ∷ 0 ∷ 0 ∷ 0 ∷ 0 ∷ 0 ∷ 1 ∷ 0 ∷ 0 ∷ 0 ∷ 0 ∷ 11 ∷ []) ≡ record { number = 84; «record» = 1 }
unfolding checked header
second_record = refl

-- a byte too many
untiled : checked (header ++ 16 ∷ 0 ∷ 0 ∷ 0 ∷ 28 ∷ 0 ∷ 0 ∷ 0 ∷ 0 ∷ 0 ∷ 0 ∷ 0 ∷ 6 ∷ 0 ∷ 0 ∷ 0 ∷ 0 ∷ 65 ∷ 14 ∷ 16 ∷ 0 ∷ []) ≡ record { number = 61; «record» = 0 }
unfolding checked header
untiled = refl

-- word 3 is none
no_word : check_section header 3 ≡ record { number = 11; «record» = 0 }
unfolding pick next after onward or_else first each read_little read_uleb_f read_uleb push last7 read_sleb_f fits64 read_sleb unfactor read_register in_range read_offset read_factored read_signed one two read_extended read_operation same_offset pointer_size header_id data_factor is_word_size blank with_cfa with_rule reoffset reregister restored negated apply rules_for seen without_cfa without_stored refusal unless_refused act answer read_entry entries_f entries value_or0 second is_header records distance_back first_addend header_place header_at strip spelled spellings spell_or read_letters read_byte read_many read_counted personality_in lsda_in letters_in header_tail require parse_header record_tail parse_record perform when_read run_f run parsed locate run_to read_section read length_of answers last_answers passes saying check_from check_entries check_section header
no_word = refl

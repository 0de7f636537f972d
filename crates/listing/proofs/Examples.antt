-- Worked examples, computed from the definitions: the header's DefCfa 7, 8 and Offset 16, -8, as gcc writes them for x86-64, and records behind it.
use mathlib.Core.Path.{◌≡◌, refl}
use Prim.Native.Nat.{ℕ}
use mathlib.Core.List.{List, [], ◌∷◌}
use Rattle.format.specs.Leb.{read_little, read_uleb_f, read_uleb, push, last7, read_sleb_f, fits64, read_sleb}
use Rattle.format.specs.Prelude.{pick, next}
use Rattle.format.specs.Rows.{unfactor, read_register, in_range, read_offset, read_factored, read_signed, one, two, read_extended, read_operation}
use Rattle.format.specs.Rules.{blank, with_cfa, with_rule, reoffset, reregister, restored, negated, apply, rules_for, without_cfa, without_stored, refusal, unless_refused, act}
use Rattle.format.specs.Answers.{cfa_numbers, rule_numbers, bit}
use Rattle.listing.specs.Lines.{when_read, when_acted, stepping, doing, lines_f, record_lines, lines_of, line_numbers, numbers_of, count_of, ending_of}

-- the lines for register 6 at word 8, and what ended them
unfoldable listed : List ℕ → List ℕ × (ℕ × ℕ)
unfolding pick next read_little read_uleb_f read_uleb push last7 read_sleb_f fits64 read_sleb unfactor read_register in_range read_offset read_factored read_signed one two read_extended read_operation blank with_cfa with_rule reoffset reregister restored negated apply rules_for without_cfa without_stored refusal unless_refused act cfa_numbers rule_numbers bit when_read when_acted stepping doing lines_f record_lines lines_of line_numbers numbers_of count_of ending_of
listed r = let ls = lines_of 8 (12 ∷ 7 ∷ 8 ∷ 144 ∷ 1 ∷ []) r in (numbers_of 6 ls, ending_of ls)

-- a step of 1, DefCfaOffset 16, NegateRaState
signed : listed (65 ∷ 14 ∷ 16 ∷ 45 ∷ []) ≡ (0 ∷ 1 ∷ 7 ∷ 8 ∷ 0 ∷ 0 ∷ 0 ∷ 1 ∷ 1 ∷ 7 ∷ 16 ∷ 0 ∷ 0 ∷ 1 ∷ [], (0, 0))
unfolding listed
signed = refl

-- a step of 0 begins no line
no_step : listed (64 ∷ 14 ∷ 16 ∷ []) ≡ (0 ∷ 1 ∷ 7 ∷ 16 ∷ 0 ∷ 0 ∷ 0 ∷ [], (0, 0))
unfolding listed
no_step = refl

-- RestoreState with nothing stored, behind steps of 2 and 3: the line of offset 2 stands
ends : listed (66 ∷ 7 ∷ 6 ∷ 67 ∷ 11 ∷ []) ≡ (0 ∷ 1 ∷ 7 ∷ 8 ∷ 0 ∷ 0 ∷ 0 ∷ 2 ∷ 1 ∷ 7 ∷ 8 ∷ 1 ∷ 0 ∷ 0 ∷ [], (67, 5))
unfolding listed
ends = refl

-- Questions 23 and 24 in one pass over a function's rows.
use mathlib.Core.Path.{◌≡◌, refl, sym, ◌∙◌}
use Prim.Native.Nat.{ℕ, ◌+◌, ◌-◌, ◌^◌, ◌≤◌, ◌<◌}
use mathlib.Core.Bool.{true}
use mathlib.Core.List.{List}
use Rattle.format.specs.Prelude.{all, each}
use Rattle.format.specs.Rows.{row_whole}
use Rattle.format.specs.Lists.{field, row_stride, row_at}
use Rattle.format.specs.Questions.{steps_ok}
use Rattle.lists.proofs.Ranges as ranges
use Rattle.dwarf.proofs.Rows as lines

-- at row i of the n from `at` on, what is left decides both
pub record Lining (word : ℕ) (rows : List ℕ) (at n from i : ℕ) : Type 0 where
  pub stepping : lines.Stepping rows at n from i
  pub asking : ranges.Asking (λ j. row_whole word (row_at rows j).1) at n i

pub start : (word : ℕ) (rows : List ℕ) (at n : ℕ) → Lining word rows at n 0 at
start word rows at n = record { stepping = lines.start rows at n; asking = ranges.start _ at n }

module _ {word : ℕ} {rows : List ℕ} {at n from i : ℕ} (l : Lining word rows at n from i) where
  pub turn : {to : ℕ} → i < at + n → to ≡ field row_stride rows i 0 → from ≤ to → to - from < 2 ^ 32 → row_whole word (row_at rows i).1 ≡ true
      → Lining word rows at n to (i + 1)
  turn h e f g w = record { stepping = lines.turn l.stepping h e f g; asking = ranges.turn l.asking h (sym w) refl }

  pub ended : at + n ≤ i → (steps_ok 0 (each (row_at rows) at n) ≡ true) × (all (λ x. row_whole word x.1) (each (row_at rows) at n) ≡ true)
  ended h = (sym (lines.ended l.stepping h), sym (ranges.ended l.asking h ∙ lines.all_in_lem _ _ _ _))

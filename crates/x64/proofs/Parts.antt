-- The codes of a function as a part of their list.
use mathlib.Core.Path.{◌≡◌, refl, ap, ◌∙◌}
use Prim.Native.Nat.{ℕ, zero, suc, ◌+◌, ◌*◌, ◌≤◌, ◌<◌}
use native.Mathlib.Omega.{arith}
use mathlib.Core.List.{List}
use lib.ListN.{length, take, drop, get_or, length-drop}
use lib.Seq.{get_or-take, get_or-drop, length-take-le}
use Rattle.format.specs.Prelude.{each}
use Rattle.format.specs.Lists.{count, field, code_stride, code_at}

module _ (list : List ℕ) (at n : ℕ) where
  abbrev pub part : List ℕ
  part = take (5 * n) (drop (5 * at) list)

  part_field : (i : ℕ) → i < n → (j : ℕ) → j < 5 → field code_stride part i j ≡ field code_stride list (at + i) j
  part_field i h j l = get_or-take (5 * n) (drop (5 * at) list) (5 * i + j) 0 (omega arith) ∙ get_or-drop (5 * at) list (5 * i + j) 0 ∙ ap (λ k. get_or list k 0) (omega arith)

  part_code : (i : ℕ) → i < n → code_at part i ≡ code_at list (at + i)
  unfolding code_at
  part_code i h = rw (part_field i h 0 (omega arith), part_field i h 1 (omega arith), part_field i h 2 (omega arith), part_field i h 3 (omega arith), part_field i h 4 (omega arith))

  part_each : (i m : ℕ) → i + m ≤ n → each (code_at part) i m ≡ each (code_at list) (at + i) m
  unfolding each
  part_each i zero h = refl
  part_each i (suc m) h =
      let e : at + suc i ≡ suc (at + i) = omega arith in
      rw (part_code i (omega arith), part_each (suc i) m (omega arith), e)

  module _ (r : at + n ≤ count code_stride list) where
    pub part_count : count code_stride part ≡ n
    part_count =
        let l : length part ≡ 5 * n = length-take-le (5 * n) (drop (5 * at) list) (omega (arith, length-drop (5 * at) list)) in
        omega (arith, l)

    pub part_codes : each (code_at part) 0 (count code_stride part) ≡ each (code_at list) at n
    part_codes = let z : at + 0 ≡ at = omega arith in rw part_count (rw z at (part_each 0 n (omega arith)))

-- The places of a packed word one after the other, and a word with too many registers.
use mathlib.Core.Path.{◌≡◌, refl, sym, ap, ◌∙◌}
use mathlib.Core.Bool.{false}
use mathlib.Core.Option.{Option, none, some}
use mathlib.Core.List.{List, [], ◌∷◌, ◌++◌}
use Prim.Native.Nat.{ℕ, zero, suc, ◌+◌, ◌-◌, ◌*◌, ◌≤◌, ◌<◌}
use native.Mathlib.Omega.{arith}
use native.Mathlib.Numerals.{add-one}
use lib.ListN.{length, get_or, drop, drop_of_length-le}
use lib.Seq.{drop-cons}
use Rattle.std.specs.List.{filter_map, cons_option, range_with_len}
use Rattle.format.proofs.Asked.{option_of}
use Rattle.format.specs.Prelude.{pick}
use Rattle.format.proofs.Wrote.{Wrote}
use Rattle.format.proofs.Storing.{Storing, stored_next}
use Rattle.format.proofs.Storing as storing
use Rattle.arm64.specs.declared.Code.{Code}
use Rattle.arm64.specs.declared.Packed.{Packed}
use Rattle.arm64.specs.Lists.{code_numbers}
use Rattle.arm64.specs.Packed.{packed_ok, with_slot, slots_from}
use Rattle.arm64_runs.proofs.Stores.{code_numbers-length}

cons_slot : (x : Option Code) (cs : List Code) → cons_option (option_of x) cs ≡ with_slot x cs
unfolding with_slot
cons_slot none cs = refl
cons_slot (some c) cs = refl

slot_few : (x : Option Code) (cs : List Code) → length (with_slot x cs) ≤ suc (length cs)
unfolding with_slot
slot_few none cs = omega arith
slot_few (some c) cs = omega arith

module _ (at : ℕ → Option Code) where
  pub next_slot : (i : ℕ) → i < 19 → slots_from at i (19 - i) ≡ with_slot (at i) (slots_from at (i + 1) (19 - (i + 1)))
  unfolding slots_from
  next_slot i h = let z : 19 - i ≡ suc (19 - (i + 1)) = omega arith in rw (z, add-one i) refl

  pub last_slot : (i : ℕ) → 19 ≤ i → slots_from at i (19 - i) ≡ []
  unfolding slots_from
  last_slot i h = let z : 19 - i ≡ 0 = omega arith in rw z

-- the codes as the library's `filter_map` of the places gives them
pub slots_mapped : (at : ℕ → Option Code) (k n : ℕ) → filter_map (λ i. option_of (at i)) (range_with_len k n) ≡ slots_from at k n
unfolding slots_from
slots_mapped at k zero = refl
slots_mapped at k (suc n) = rw (slots_mapped at (k + 1) n, add-one k) (cons_slot (at k) (slots_from at (suc k) n))

pub slots_few : (at : ℕ → Option Code) (k n : ℕ) → length (slots_from at k n) ≤ n
unfolding slots_from
slots_few at k zero = omega arith
slots_few at k (suc n) = omega (arith, slots_few at (suc k) n, slot_few (at k) (slots_from at (suc k) n))

-- ---- the codes stored one behind the other

pub put_start : {xs : List ℕ} {p : ℕ} (all : List Code) → p + 3 * length all ≤ length xs → Storing xs xs p p (code_numbers all) (code_numbers all)
put_start all h = storing.start (omega (arith, code_numbers-length all))

-- k of them are stored, and c is next
module _ {xs₀ xs : List ℕ} {p i k : ℕ} (all : List Code) {c : Code} (d : Storing xs₀ xs p i (code_numbers all) (code_numbers (drop k all))) (t : (k < length all) × (c ≡ get_or all k c)) where
  split : code_numbers (drop k all) ≡ code_numbers (c ∷ []) ++ code_numbers (drop (suc k) all)
  unfolding code_numbers
  split = ap code_numbers (drop-cons all k c t.0 ∙ ap (λ e. e ∷ drop (suc k) all) (sym t.1))

  pub put_room : i + 3 ≤ length xs
  unfolding code_numbers
  put_room = omega (arith, d.room, ap length split)

  pub put_turn : {ys : List ℕ} {j m : ℕ} → m ≡ k + 1 → Wrote xs ys i j (code_numbers (c ∷ [])) → Storing xs₀ ys p j (code_numbers all) (code_numbers (drop m all))
  put_turn {m = m} e w = let z : m ≡ suc k = omega arith in rw z (stored_next (code_numbers (c ∷ [])) (rw split at d) w)

pub put_ended : {xs₀ xs : List ℕ} {p i k : ℕ} (all : List Code) → Storing xs₀ xs p i (code_numbers all) (code_numbers (drop k all)) → k ≡ length all → Wrote xs₀ xs p i (code_numbers all)
unfolding code_numbers
put_ended {k = k} all d e = storing.ended (rw (drop_of_length-le all {i = k} (omega arith)) at d)

-- a word with more registers than x19 to x28
pub ok_registers : (p : Packed) → 10 < p.registers → packed_ok p ≡ false
unfolding packed_ok pick
ok_registers p h = grind arith

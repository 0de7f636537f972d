-- The registers as the code holds them, and those of a record file.
use mathlib.Core.Path.{◌≡◌, refl, sym, ap, ap₂, ◌∙◌}
use mathlib.Core.Bool.{Bool, true, false}
use mathlib.Core.Option.{none, some}
use mathlib.Core.List.{List, [], ◌∷◌, ◌++◌, append_assoc, append-nil}
use Prim.Native.Nat.{ℕ, zero, suc, ◌+◌, ◌-◌, ◌*◌, ◌<◌, ◌≤◌}
use native.Mathlib.Omega.{arith}
use native.Mathlib.Numerals.{add-one}
use lib.ListN.{length, get_or, set, take, drop, get_or-eq_default}
use lib.Seq.{take-suc-set, take_all, drop-drop, set_out}
use lib.Dec.{ltb}
use Rattle.std.specs.Prelude.{None, Some}
use Rattle.std.specs.Borrow.{Bor}
use Rattle.std.specs.Slice.{IsItemAt}
use Rattle.std.specs.Option.{option_flatten, option_copied}
use Rattle.std.specs.Prelude as code
use Rattle.std.specs.Bool.{then_some}
use Rattle.format.specs.Prelude.{pick, each}
use Rattle.format.specs.Leb.{read_little}
use Rattle.format.specs.Reader.{value_or0}
use Rattle.walk.specs.Recorded.{Slot, slot_at, slots_of}
use Rattle.walk.specs.Standing.{slot_of, slots}

pub slots_length : (rs : List (code.Option ℕ)) → length (slots rs) ≡ length rs
unfolding slots
slots_length [] = refl
slots_length (r ∷ rs) = ap suc (slots_length rs)

pub slots_at : (rs : List (code.Option ℕ)) (j : ℕ) → slot_of (get_or rs j None) ≡ get_or (slots rs) j none
unfolding slots
slots_at [] j = refl
slots_at (r ∷ rs) zero = refl
slots_at (r ∷ rs) (suc j) = slots_at rs j

pub slots_past : (rs : List (code.Option ℕ)) (j : ℕ) → length rs ≤ j → none ≡ get_or (slots rs) j none
slots_past rs j h = sym (get_or-eq_default (slots rs) none (omega (arith, slots_length rs)))

-- the register that `get` lends
pub slots_get : (rs : List (code.Option ℕ)) (j : ℕ) (r : code.Option (Bor (code.Option ℕ))) → IsItemAt rs j r → slot_of (option_flatten (option_copied r)) ≡ get_or (slots rs) j none
slots_get rs j None h = slots_past rs j h.3
slots_get rs j (Some x) h = rw (h.3.1 None) (slots_at rs j)

pub slots_set : (rs : List (code.Option ℕ)) (j : ℕ) (r : code.Option ℕ) → slots (set rs j r) ≡ set (slots rs) j (slot_of r)
unfolding slots
slots_set [] j r = refl
slots_set (x ∷ rs) zero r = refl
slots_set (x ∷ rs) (suc j) r = ap (λ (l : List Slot). slot_of x ∷ l) (slots_set rs j r)

pub slots_out : (rs : List (code.Option ℕ)) (j : ℕ) (s : Slot) → length rs ≤ j → slots rs ≡ set (slots rs) j s
slots_out rs j s h = sym (set_out (slots rs) j s (omega (arith, slots_length rs)))

-- ---- the registers of a record file, one in a turn

pub record Filling (s : List ℕ) (p count : ℕ) (rs : List (code.Option ℕ)) (i : ℕ) : Type 0 where
  pub inside : i ≤ 128
  pub full : length rs ≡ 128
  pub rest : take i (slots rs) ++ each (slot_at count (drop p s)) i (128 - i) ≡ slots_of count (drop p s)

pub fill_start : (s : List ℕ) (p count : ℕ) (rs : List (code.Option ℕ)) → length rs ≡ 128 → Filling s p count rs 0
unfolding slots_of
fill_start s p count rs l = record { inside = omega arith; full = l; rest = refl }

then_slot : (b : Bool) (v : ℕ) → slot_of (then_some b v) ≡ pick b (some v) none
unfolding pick
then_slot true v = refl
then_slot false v = refl

module _ {s : List ℕ} {p count : ℕ} {rs : List (code.Option ℕ)} {i : ℕ} (k : Filling s p count rs i) where
  long : length (slots rs) ≡ 128
  long = slots_length rs ∙ k.full

  word_slot : {v : ℕ} {r : code.Option ℕ} → v ≡ value_or0 (read_little 8 (drop (p + 8 * i) s)) → r ≡ then_some (ltb i count) v → slot_of r ≡ slot_at count (drop p s) i
  unfolding slot_at
  word_slot {v} e f = rw f (then_slot (ltb i count) v ∙ rw (e, drop-drop))

  pub fill_turn : {v : ℕ} {r : code.Option ℕ} → i < 128 → v ≡ value_or0 (read_little 8 (drop (p + 8 * i) s)) → r ≡ then_some (ltb i count) v → length (set rs i r) ≡ 128
      → Filling s p count (set rs i r) (i + 1)
  unfolding each
  fill_turn {v} {r} h e f l =
      let d : 128 - i ≡ suc (128 - (i + 1)) = omega arith in
      let more = each (slot_at count (drop p s)) (suc i) (128 - (i + 1)) in
      record {
        inside = omega arith;
        full = l;
        rest =
            ap₂ (λ (xs : List Slot) (n : ℕ). xs ++ each (slot_at count (drop p s)) n (128 - (i + 1)))
            (ap₂ (λ (n : ℕ) (xs : List Slot). take n xs) (add-one i) (slots_set rs i r) ∙ take-suc-set (slots rs) i (slot_of r) (omega (arith, long))) (add-one i)
            ∙ append_assoc (take i (slots rs)) (slot_of r ∷ []) more
            ∙ ap (λ (x : Slot). take i (slots rs) ++ (x ∷ more)) (word_slot e f)
            ∙ ap (λ (n : ℕ). take i (slots rs) ++ each (slot_at count (drop p s)) i n) (sym d)
            ∙ k.rest;
      }

  pub fill_ended : 128 ≤ i → slots rs ≡ slots_of count (drop p s)
  unfolding each
  fill_ended h =
      let d : 128 - i ≡ 0 = omega arith in
      sym (append-nil (take i (slots rs)) ∙ take_all i (slots rs) (omega (arith, long)))
      ∙ ap (λ (n : ℕ). take i (slots rs) ++ each (slot_at count (drop p s)) i n) (sym d) ∙ k.rest

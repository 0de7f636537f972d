-- The forms of a code: an operation with its info and a field behind it, and which form an allocation and a save take.
use mathlib.Core.Path.{◌≡◌, refl, ap, ◌∙◌}
use Prim.Native.Nat.{ℕ, zero, suc, ◌+◌, ◌-◌, ◌*◌, ◌/◌, ◌%◌, ◌≤◌, ◌<◌}
use native.Mathlib.Omega.{arith}
use native.Mathlib.Numerals.{add-one}
use mathlib.Core.Bool.{Bool, true, false, ◌&&◌}
use mathlib.Core.List.{List, [], ◌∷◌, ◌++◌}
use lib.Dec.{leb, ltb, eqb}
use lib.ListN.{length, take, get_or}
use borrow.Author.Tests.{lt-ltb, le-ltb}
use Rattle.std.specs.Int.{bytes_low_first}
use Rattle.std.specs.Prelude.{Result, Ok, Err, Some, None}
use Rattle.std.specs.Result.{OkIff, result_ok, is_ok}
use Rattle.format.specs.Prelude.{pick}
use Rattle.format.specs.Leb.{little}
use Rattle.format.specs.X64.{node, alloc_bytes, slot_bytes, save_bytes}
use Rattle.format.proofs.Choice.{if-le, if-gt, either}
use Rattle.format.proofs.LebBack.{little-length}
use Rattle.codes.specs.Codes.{Holds, is_near, alloc_size, save_size}

length_pick : (b : Bool) (xs ys : List ℕ) → length (pick b xs ys) ≡ pick b (length xs) (length ys)
unfolding pick
length_pick true xs ys = refl
length_pick false xs ys = refl

-- the low bytes of a field
little-take : (n m v : ℕ) → n ≤ m → take n (little m v) ≡ little n v
unfolding little
little-take zero m v h = refl
little-take (suc n) zero v h = absurd (omega arith)
little-take (suc n) (suc m) v h = ap (λ (l : List ℕ). v % 256 ∷ l) (little-take n m (v / 256) (omega arith))

-- a number's four bytes by the library
four_bytes : (v : ℕ) → bytes_low_first 0 4 v ≡ little 4 v
unfolding little
four_bytes v =
    let b : v / 65536 % 256 ≡ v / 256 / 256 % 256 = omega arith in
    let c : v / 16777216 % 256 ≡ v / 256 / 256 / 256 % 256 = omega arith in
    rw (b, c)

pub form_holds : (at op info n v : ℕ) (bs : List ℕ) → n ≤ 4 → bs ≡ bytes_low_first 0 4 v
    → Holds (record { bytes = at ∷ (op + 16 * info) ∷ get_or bs 0 0 ∷ get_or bs 1 0 ∷ get_or bs 2 0 ∷ get_or bs 3 0 ∷ []; count = 2 + n }) (node at op info ++ little n v)
unfolding node little
form_holds at op info n v bs h e =
    let e2 : 2 + n ≡ suc (suc n) = omega arith in
    let f = e ∙ four_bytes v in
    record {
      bytes = rw e2 (rw f (ap (λ (l : List ℕ). at ∷ (op + 16 * info) ∷ l) (little-take n 4 v h)));
      counted = omega (arith, little-length n v);
      most = omega arith;
      six = refl;
    }

-- ---- an allocation

module _ (at size : ℕ) where
  pub alloc_small : size ≤ 128 → alloc_bytes at size ≡ node at 2 (size / 8 - 1) ++ little 0 0
  unfolding alloc_bytes node little
  alloc_small h = rw (if-le size 128)

  module _ (h : 128 < size) where
    pub alloc_eights : size / 8 < 65536 → alloc_bytes at size ≡ node at 1 0 ++ little 2 (size / 8)
    unfolding alloc_bytes
    alloc_eights l = rw (if-gt size 128, if-le (suc (size / 8)) 65536)

    pub alloc_bytes_lem : 65536 ≤ size / 8 → alloc_bytes at size ≡ node at 1 1 ++ little 4 size
    unfolding alloc_bytes
    alloc_bytes_lem l = let g : 65536 < suc (size / 8) = omega arith in rw (if-gt size 128, if-gt (suc (size / 8)) 65536)

-- ---- a save

module _ (near unit at reg above : ℕ) where
  pub slot_near : is_near unit above ≡ true → slot_bytes near unit at reg above ≡ node at near reg ++ little 2 (above / unit)
  unfolding is_near slot_bytes pick
  slot_near t = rw t

  pub slot_far : is_near unit above ≡ false → slot_bytes near unit at reg above ≡ node at (near + 1) reg ++ little 4 above
  unfolding is_near slot_bytes pick
  slot_far t = rw (t, add-one near)

-- ---- by the library's conversion to 16 bits

pub ok_says : {E P : Type 0} (r : Result ℕ E) (m v : ℕ) → r ≡ Ok m → OkIff r P v → P × (m ≡ v)
ok_says r m v e h = rw e at h

pub err_says : {E P : Type 0} (r : Result ℕ E) (v : ℕ) → ((x : ℕ) → r ≡ Ok x → ⊥) → OkIff r P v → P → ⊥
err_says (Ok x) v n h p = n x refl
err_says (Err e) v n h p = h p

pub ok_holds : {E P : Type 0} (r : Result ℕ E) (v : ℕ) → true ≡ is_ok r → OkIff r P v → P
ok_holds (Ok x) v e h = h.0
ok_holds (Err x) v e h = cc

pub not_ok : {E P : Type 0} (r : Result ℕ E) (v : ℕ) → false ≡ is_ok r → OkIff r P v → P → ⊥
not_ok (Ok x) v e h p = cc
not_ok (Err x) v e h p = h p

pub in_units : {E : Type 0} (n unit : ℕ) (r : Result ℕ E) → OkIff r (n / unit < 65536) (n / unit) → n % unit ≡ 0 → result_ok r ≡ pick (is_near unit n) (Some (n / unit)) None
unfolding is_near pick
in_units n unit (Ok x) h e = simp (e, lt-ltb (n / unit) 65536 h.0, h.1)
in_units n unit (Err x) h e = let g : 65536 ≤ n / unit = either 65536 (n / unit) (λ g. g) (λ l. absurd (h l)) in simp (e, le-ltb (n / unit) 65536 g)

-- ---- lengths

module _ (at size : ℕ) where
  pub alloc_length : length (alloc_bytes at size) ≡ alloc_size size
  unfolding alloc_bytes alloc_size node little
  alloc_length = length_pick (leb size 128) _ _ ∙ ap (pick (leb size 128) 2) (length_pick (ltb (size / 8) 65536) _ _)

slot-length : (near unit at reg above : ℕ) → length (slot_bytes near unit at reg above) ≡ pick (is_near unit above) 4 6
unfolding slot_bytes is_near node little
slot-length near unit at reg above = length_pick (eqb (above % unit) 0 && ltb (above / unit) 65536) _ _

pub save-length : (vector : Bool) (at reg above : ℕ) → length (save_bytes vector at reg above) ≡ save_size vector above
unfolding save_bytes save_size
save-length false at reg above = slot-length 4 8 at reg above
save-length true at reg above = slot-length 8 16 at reg above

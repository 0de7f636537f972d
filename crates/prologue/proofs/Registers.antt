-- The registers of a machine by DWARF's numbers: what the map's entry says.
use mathlib.Core.Path.{◌≡◌, refl, sym, ap, ◌∙◌}
use Prim.Native.Nat.{ℕ, ◌-◌, ◌≤◌, ◌<◌}
use native.Mathlib.Omega.{arith}
use mathlib.Core.Bool.{Bool, true, false}
use mathlib.Core.List.{[]}
use lib.ListN.{length, get_or, get_or-eq_default}
use borrow.Author.Tests.{lt-ltb, le-ltb}
use Rattle.format.specs.Prelude.{pick, Result, good, bad, onward}
use Rattle.format.specs.declared.Machine.{Machine}
use Rattle.format.specs.Machine.{Register, register_of}
use Rattle.format.specs.declared.Seh.{Seh}
use Rattle.format.specs.X64.{low16}
use Rattle.format.proofs.Choice.{either}
use Rattle.std.specs.Prelude.{Option, Some, None, is_some}
use Rattle.std.proofs.lemmas.List.{get_or_default}
use Rattle.prologue.specs.Groups.{found_of, is_good}
use Rattle.prologue.specs.Pieces.{code_in, piece_of, named_code}

module _ (m : Machine) (reg : ℕ) (size : length m.map ≡ 64) where
  pub past_map : 64 ≤ reg → None ≡ found_of (low16 (register_of m reg))
  unfolding found_of low16 register_of pick
  past_map h = let l : length m.map ≤ reg = omega arith in rw (get_or-eq_default m.map 255 {n = reg} l)

  module _ {n : ℕ} (h : reg < 64) (e : n ≡ get_or m.map reg 0) where
    entry : get_or m.map reg 255 ≡ n
    entry = get_or_default m.map reg 255 0 (omega arith) ∙ sym e

    pub low_integer : n < 16 → Some (n, false) ≡ found_of (low16 (register_of m reg))
    unfolding found_of low16 register_of pick
    low_integer l = simp (entry, lt-ltb n 128 (omega arith), lt-ltb n 16 l)

    pub high_integer : 16 ≤ n → n < 128 → None ≡ found_of (low16 (register_of m reg))
    unfolding found_of low16 register_of pick
    high_integer l l' = simp (entry, lt-ltb n 128 l', le-ltb n 16 l)

    pub low_vector : 128 ≤ n → n < 144 → Some (n - 128, true) ≡ found_of (low16 (register_of m reg))
    unfolding found_of low16 register_of pick
    low_vector l l' = simp (entry, le-ltb n 128 l, lt-ltb n 255 (omega arith), lt-ltb (n - 128) 16 (omega arith))

    pub high_vector : 144 ≤ n → None ≡ found_of (low16 (register_of m reg))
    unfolding found_of low16 register_of pick
    high_vector l =
        either 255 n (λ g. simp (entry, le-ltb n 128 (omega arith), le-ltb n 255 g))
        (λ g. simp (entry, le-ltb n 128 (omega arith), lt-ltb n 255 g, le-ltb (n - 128) 16 (omega arith)))

-- ---- by the answer that was found

pub found_good : (r : Result Register) {n : ℕ} {vector : Bool} → found_of r ≡ Some (n, vector) → r ≡ good (record { number = n; vector = vector })
unfolding found_of
found_good (good r) {n} {vector} e =
    let f : (r.number, r.vector) ≡ (n, vector) = cc in
    let p : n ≡ r.number = sym (ap (λ (x : ℕ × Bool). x.0) f) in
    let q : vector ≡ r.vector = sym (ap (λ (x : ℕ × Bool). x.1) f) in
    rw (p, q)
found_good (bad k) e = cc

pub found_bad : (r : Result Register) → found_of r ≡ None → is_good r ≡ false
unfolding found_of is_good
found_bad (good r) e = cc
found_bad (bad k) e = refl

pub found_some : (r : Result Register) → is_some (found_of r) ≡ is_good r
unfolding found_of is_good
found_some (good r) = refl
found_some (bad k) = refl

no_code : (off : ℕ) (r : Result Register) (f : Register → Seh) → is_good r ≡ false → code_in off (onward r λ x. good (f x)) ≡ []
unfolding is_good code_in onward
no_code off (good r) f e = cc
no_code off (bad k) f e = refl

-- and the code that it is for
module _ (m : Machine) (off reg : ℕ) (f : Register → Seh) where
  pub code_none : {r : Option (ℕ × Bool)} → r ≡ found_of (low16 (register_of m reg)) → r ≡ None → piece_of None ≡ named_code m off reg f
  unfolding named_code piece_of
  code_none e u = sym (no_code off (low16 (register_of m reg)) f (found_bad (low16 (register_of m reg)) (sym e ∙ u)))

  pub code_some : {r : Option (ℕ × Bool)} {n : ℕ} {vector : Bool} → r ≡ found_of (low16 (register_of m reg)) → r ≡ Some (n, vector)
      → piece_of (Some (record { offset = off; code = f (record { number = n; vector = vector }) })) ≡ named_code m off reg f
  unfolding named_code piece_of code_in onward
  code_some e u = rw (found_good (low16 (register_of m reg)) (sym e ∙ u))

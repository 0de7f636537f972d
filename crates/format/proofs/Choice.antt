-- Laws of choice by a test: which side is taken, what a picked value says of the test, and case splits on a test and on the order of two numbers.
use mathlib.Core.Path.{◌≡◌, refl, sym, subst}
use Prim.Native.Nat.{ℕ, ◌≤◌, ◌<◌}
use mathlib.Core.Bool.{Bool, true, false, not}
use mathlib.Core.Logic.{◌≢◌}
use native.Mathlib.Nat.{lt_of_not-le}
use native.Mathlib.Decide.{dec_le}
use lib.Dec.{T, leb, eqb}
use mir.Facts.{yes_leb, no_leb, yes_eqb, no_eqb}
use Rattle.std.specs.Prelude.{Result, Some, None, Ok, Err}
use Rattle.std.specs.Option.{is_some}
use Rattle.format.specs.Prelude.{pick}

pub pick_yes {ℓ} : {X : Type ℓ} (b : Bool) (x y : X) → T b → pick b x y ≡ x
unfolding pick
pick_yes true x y t = refl
pick_yes false x y t = absurd t

pub pick_no {ℓ} : {X : Type ℓ} (b : Bool) (x y : X) → T (not b) → pick b x y ≡ y
unfolding pick
pick_no true x y t = absurd t
pick_no false x y t = refl

-- the same by the value of the test
pub when_true : {X : Type 0} (b : Bool) (x y : X) → b ≡ true → pick b x y ≡ x
unfolding pick
when_true b x y e = rw e

pub when_false : {X : Type 0} (b : Bool) (x y : X) → b ≡ false → pick b x y ≡ y
unfolding pick
when_false b x y e = rw e

-- what a value or a refusal that was picked says of the test
pub some_picked : {X : Type 0} (b : Bool) (x : X) {y : X} → pick b (Some x) None ≡ Some y → (b ≡ true) × (y ≡ x)
unfolding pick
some_picked true x e = (refl, cc)
some_picked false x e = cc

pub none_picked : {X : Type 0} (b : Bool) (x : X) → pick b (Some x) None ≡ None → b ≡ false
unfolding pick
none_picked true x e = cc
none_picked false x e = refl

pub is_some_picked : {X : Type 0} (b : Bool) (x : X) → is_some (pick b (Some x) None) ≡ b
unfolding pick
is_some_picked true x = refl
is_some_picked false x = refl

pub ok_picked : {X Q : Type 0} (b : Bool) (x : X) (q : Q) {r : Result X Q} {y : X} → r ≡ Ok y → r ≡ pick b (Ok x) (Err q) → (b ≡ true) × (y ≡ x)
unfolding pick
ok_picked true x q e h = (refl, cc)
ok_picked false x q e h = cc

pub err_picked : {X Q : Type 0} (b : Bool) (x : X) (q : Q) {r : Result X Q} {p : Q} → r ≡ Err p → r ≡ pick b (Ok x) (Err q) → (b ≡ false) × (p ≡ q)
unfolding pick
err_picked true x q e h = cc
err_picked false x q e h = (refl, cc)

-- what holds of both holds of the one that is picked
pub picked : {X : Type 0} (P : X → Type 0) (b : Bool) {x y : X} → P x → P y → P (pick b x y)
unfolding pick
picked P true h k = h
picked P false h k = k

-- `ltb a b` is `leb (suc a) b`, so these serve it too
pub if-le {ℓ} : {X : Type ℓ} (a b : ℕ) (x y : X) → a ≤ b → pick (leb a b) x y ≡ x
if-le a b x y h = pick_yes _ x y (yes_leb h)

pub if-gt {ℓ} : {X : Type ℓ} (a b : ℕ) (x y : X) → b < a → pick (leb a b) x y ≡ y
if-gt a b x y h = pick_no _ x y (no_leb h)

pub if-eq {ℓ} : {X : Type ℓ} (a b : ℕ) (x y : X) → a ≡ b → pick (eqb a b) x y ≡ x
if-eq a b x y h = pick_yes _ x y (yes_eqb h)

pub if-ne {ℓ} : {X : Type ℓ} (a b : ℕ) (x y : X) → a ≢ b → pick (eqb a b) x y ≡ y
if-ne a b x y h = pick_no _ x y (no_eqb h)

-- one order or the other
pub either {ℓ} : {X : Type ℓ} (a b : ℕ) → (a ≤ b → X) → (b < a → X) → X
either a b f g = elim (dec_le a b) [ yes h ↦ f h | no h ↦ g (lt_of_not-le h) ]

-- one value of a test or the other
pub decided {ℓ} : {X : Type ℓ} (b : Bool) → (b ≡ true → X) → (b ≡ false → X) → X
decided true f g = f refl
decided false f g = g refl

-- a test says yes, or its opposite does
pub tested {ℓ} : {X : Type ℓ} (b : Bool) → (T b → X) → (T (not b) → X) → X
tested true f g = f tt
tested false f g = g tt

-- a test and its value
pub is_true : (b : Bool) → T b → b ≡ true
is_true true t = refl
is_true false t = absurd t

pub is_false : (b : Bool) → T (not b) → b ≡ false
is_false true t = absurd t
is_false false t = refl

pub is_yes_lem : {b : Bool} → b ≡ true → T b
is_yes_lem e = subst T (sym e) tt

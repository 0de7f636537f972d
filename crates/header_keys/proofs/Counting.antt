-- How many rows lead: those in front of the first that does not.
use mathlib.Core.Path.{◌≡◌, refl, sym, ◌∙◌}
use Prim.Native.Nat.{ℕ, zero, suc, ◌+◌, ◌≤◌, ◌<◌}
use native.Mathlib.Omega.{arith}
use mathlib.Core.Bool.{Bool, true, false}
use lib.Dec.{eqb}
use mir.Facts.{eqb_yes}
use borrow.Author.Tests.{ne_eqb}
use lib.ListN.{length}
use Rattle.format.specs.Prelude.{pick, each}
use Rattle.format.specs.declared.Row.{Row}
use Rattle.format.specs.Rows.{RowAt, kind_of}
use Rattle.format.proofs.Choice.{tested}
use Rattle.format.specs.Lists.{row_of}
use Rattle.format.specs.Headers.{leads, ahead}
use Rattle.std.specs.Prelude.{Option, Some, None, MatchOption, unwrap_or}

-- a row that is no RememberState
Other : Row → Type 0
Other r = eqb (kind_of r) 6 ≡ false

one_other : (b : Bool) (x y : Row) → Other x → Other y → Other (pick b x y)
unfolding Other pick
one_other true x y h k = h
one_other false x y h k = k

-- a row is RememberState where its kind's number says so
pub remembers : (kind reg off : ℕ) → eqb (kind_of (row_of kind reg off)) 6 ≡ eqb kind 6
unfolding row_of kind_of Other pick
remembers kind reg off =
    tested (eqb kind 6) (λ t. let e : kind ≡ 6 = eqb_yes t in rw e)
    (λ t.
    let n : kind ≡ 6 → ⊥ = λ e. absurd (rw e at t) in
    let e = ne_eqb kind 6 n in
    one_other (eqb kind 0) _ _ refl
    (one_other (eqb kind 1) _ _ refl
    (one_other (eqb kind 2) _ _ refl
    (one_other (eqb kind 3) _ _ refl
    (one_other (eqb kind 4) _ _ refl
    (one_other (eqb kind 5) _ _ refl
    (rw e
    (one_other (eqb kind 7) _ _ refl
    (one_other (eqb kind 9) _ _ refl (one_other (eqb kind 10) _ _ refl refl)))))))))
    ∙ sym e)

-- the first row that `find` found not to lead, or none
leading_run : (f : ℕ → RowAt) (at n i : ℕ) → i ≤ n → ((k : ℕ) → k < i → leads (f (at + k)) ≡ true) → (i < n → leads (f (at + i)) ≡ false)
    → i ≡ length (ahead (each f at n))
unfolding each ahead pick
leading_run f at zero zero l h s = refl
leading_run f at zero (suc i) l h s = absurd (omega arith)
leading_run f at (suc n) zero l h s =
    let z : at + 0 ≡ at = omega arith in
    let t : leads (f at) ≡ false = rw z at (s (omega arith)) in
    simp t
leading_run f at (suc n) (suc i) l h s =
    let z : at + 0 ≡ at = omega arith in
    let t : leads (f at) ≡ true = rw z at (h 0 (omega arith)) in
    let r : i ≡ length (ahead (each f (suc at) n)) =
    leading_run f (suc at) n i (omega arith)
    (λ k m. let y : at + suc k ≡ suc at + k = omega arith in rw y at (h (suc k) (omega arith)))
    (λ m. let y : at + suc i ≡ suc at + i = omega arith in rw y at (s (omega arith))) in
    simp t (omega arith)

pub counted : (f : ℕ → RowAt) (at n : ℕ) (r : Option ℕ)
    → MatchOption r ((k : ℕ) → 0 ≤ k → k < n → leads (f (at + k)) ≡ true)
    (λ i. (0 ≤ i) × (i < n) × (leads (f (at + i)) ≡ false) × ((k : ℕ) → 0 ≤ k → k < i → leads (f (at + k)) ≡ true))
    → (unwrap_or r n ≡ length (ahead (each f at n))) × (unwrap_or r n ≤ n)
counted f at n None h = (leading_run f at n n (omega arith) (λ k m. h k (omega arith) m) (λ m. absurd (omega arith)), omega arith)
counted f at n (Some i) h = (leading_run f at n i (omega (arith, h.1)) (λ k m. h.3 k (omega arith) m) (λ m. h.2), omega (arith, h.1))

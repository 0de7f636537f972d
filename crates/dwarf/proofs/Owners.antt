-- The header of the first earlier function of equal key, by that function's number.
use mathlib.Core.Path.{◌≡◌, refl, sym, ap, ◌∙◌}
use Prim.Native.Nat.{ℕ, zero, suc, ◌+◌, ◌-◌, ◌≤◌, ◌<◌}
use native.Mathlib.Omega.{arith}
use mathlib.Core.Bool.{Bool}
use mathlib.Core.Option.{none, some}
use mathlib.Core.List.{List, [], ◌∷◌}
use lib.ListN.{length, get_or}
use Rattle.format.specs.Headers.{Key, key_of, same_key}
use Rattle.format.specs.Writer.{place_in}
use Rattle.format.proofs.Choice.{pick_yes, pick_no, tested}
use Rattle.owners.specs.Owners.{first_from, owner, key_at}
use Rattle.owners.specs.Chains.{Owned}
use Rattle.header_keys.specs.Inputs.{Inputs, function_in, extent_in}
use Rattle.dwarf.specs.Parts.{places_in, seen_from, earlier_in, parts_to}
use Rattle.dwarf.proofs.Fronts.{places_length}
use Rattle.dwarf.proofs.Bodies.{key_body}

first_bounds : (test : ℕ → Bool) (j n : ℕ) → (j ≤ first_from test j n) × (first_from test j n ≤ j + n)
unfolding first_from
first_bounds test j zero = (omega arith, omega arith)
first_bounds test j (suc n) =
    let h = first_bounds test (suc j) n in
    tested (test j) (λ t. rw pick_yes (omega arith, omega arith)) (λ t. rw pick_no (omega arith, omega arith))

module _ (key : ℕ → Key) (k : Key) where
  none_before : (j : ℕ) (ps : List ℕ) → first_from (λ i. same_key (key i) k) j (length ps) ≡ j + length ps → place_in k (seen_from key j ps) ≡ none
  unfolding first_from place_in seen_from
  none_before j [] e = refl
  none_before j (p ∷ ps) e =
      tested (same_key (key j) k) (λ t. let z : j ≡ j + suc (length ps) = rw pick_yes at e in absurd (omega arith))
      (λ t. rw (pick_no (same_key (key j) k)) (none_before (suc j) ps (rw pick_no at e ∙ omega arith)))

  some_before : (j : ℕ) (ps : List ℕ) → first_from (λ i. same_key (key i) k) j (length ps) < j + length ps
      → place_in k (seen_from key j ps) ≡ some (get_or ps (first_from (λ i. same_key (key i) k) j (length ps) - j) 0)
  unfolding first_from place_in seen_from
  some_before j [] e = absurd (omega arith)
  some_before j (p ∷ ps) e =
      tested (same_key (key j) k)
      (λ t.
      let z : j - j ≡ 0 = omega arith in
      rw (pick_yes (same_key (key j) k) (some p), pick_yes (same_key (key j) k) j, z))
      (λ t.
      let i : ℕ = first_from (λ i. same_key (key i) k) (suc j) (length ps) in
      let l : suc j ≤ i = (first_bounds (λ i. same_key (key i) k) (suc j) (length ps)).0 in
      let h : i < j + suc (length ps) = rw pick_no at e in
      let z : i - j ≡ suc (i - suc j) = omega arith in
      rw (pick_no (same_key (key j) k) (some p), pick_no (same_key (key j) k) j, z) (some_before (suc j) ps (omega arith)))

same_first : (f g : ℕ → Bool) (j n : ℕ) → ((i : ℕ) → f i ≡ g i) → first_from f j n ≡ first_from g j n
unfolding first_from
same_first f g j zero h = refl
same_first f g j (suc n) h = rw (h j, same_first f g (suc j) n h)

-- ---- function k

module _ (x : Inputs) (k : ℕ) where
  keys : (j : ℕ) → key_of x.machine (function_in x j) ≡ key_at x j
  keys j = key_body (extent_in x j) x.rows x.landings x.pairs x.machine

  owns : owner x k
      ≡ first_from (λ j. same_key (key_of x.machine (function_in x j)) (key_of x.machine (function_in x k))) 0 (length (places_in (parts_to x k)))
  unfolding owner
  owns = rw (places_length x k) (same_first _ _ 0 k (λ i. rw (keys i, keys k)))

  pub owner_bound : owner x k ≤ k
  owner_bound =
      let h = (first_bounds (λ j. same_key (key_of x.machine (function_in x j)) (key_of x.machine (function_in x k))) 0 (length (places_in (parts_to x k)))).1 in
      omega (arith, owns, places_length x k)

  pub own_header : owner x k ≡ k → earlier_in x k (parts_to x k) ≡ none
  unfolding earlier_in
  own_header e =
      none_before (λ j. key_of x.machine (function_in x j)) (key_of x.machine (function_in x k)) 0 (places_in (parts_to x k))
      (sym owns ∙ omega (arith, places_length x k))

  pub found_header : owner x k < k
      → earlier_in x k (parts_to x k) ≡ some (get_or (places_in (parts_to x k)) (owner x k) 0)
  unfolding earlier_in
  found_header h =
      some_before (λ j. key_of x.machine (function_in x j)) (key_of x.machine (function_in x k)) 0 (places_in (parts_to x k))
      (omega (arith, owns, places_length x k))
      ∙ ap (λ (i : ℕ). some (get_or (places_in (parts_to x k)) i 0)) (omega (arith, owns))

-- ---- an owner that was looked up

pub looked : {x : Inputs} (k : ℕ) {i : ℕ} {owners : List ℕ} → i ≡ get_or owners k 0 → Owned x (k + 1) owners → i ≡ owner x k
looked k e o = e ∙ o.each_one k (omega arith)

-- by whether it is the function itself
module _ (x : Inputs) {k i : ℕ} (e : i ≡ owner x k) where
  pub own_looked : i ≡ k → owner x k ≡ k
  own_looked h = sym e ∙ h

  pub found_looked : (i ≡ k → ⊥) → owner x k < k
  found_looked h = omega (arith, e, h, owner_bound x k)

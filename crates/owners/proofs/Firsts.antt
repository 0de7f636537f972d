-- The first number that passes a test and the last one, and what an owner of a header is to other functions.
use mathlib.Core.Path.{◌≡◌, refl, sym, ap, ◌∙◌}
use Prim.Native.Nat.{ℕ, zero, suc, ◌+◌, ◌≤◌, ◌<◌}
use native.Mathlib.Omega.{arith}
use native.Mathlib.Numerals.{add-one}
use mathlib.Core.Bool.{Bool, true, false, and-false}
use borrow.Author.Tests.{eq-eqb, ne_eqb}
use lib.Dec.{T, eqb}
use mir.Facts.{and_yes, eqb_yes}
use Rattle.format.specs.Prelude.{pick}
use Rattle.format.specs.Headers.{Key, same_key}
use Rattle.format.proofs.Choice.{pick_yes, pick_no, tested, either, is_true, is_false, is_yes_lem}
use Rattle.format.proofs.SameKey.{same_key_lem}
use Rattle.header_keys.specs.Inputs.{Inputs}
use Rattle.owners.specs.Owners.{key_at, first_from, owner}
use Rattle.owners.specs.Chains.{slot_at, last_in, held_in, last_held}
use Rattle.owners.proofs.Finding.{shares, Finding, start, missed, found, ended, owner_low}
use Rattle.std.proofs.lemmas.Bool.{both_ways}

-- ---- the first

module _ (test : ℕ → Bool) where
  passes : (j n : ℕ) → first_from test j n < j + n → test (first_from test j n) ≡ true
  unfolding first_from
  passes j zero h = absurd (omega arith)
  passes j (suc n) h =
      tested (test j) (λ t. rw (pick_yes (test j) j (first_from test (suc j) n) t) (is_true (test j) t))
      (λ t.
      let e : pick (test j) j (first_from test (suc j) n) ≡ first_from test (suc j) n = pick_no (test j) j (first_from test (suc j) n) t in
      let l : first_from test (suc j) n < j + suc n = rw e at h in
      rw e (passes (suc j) n (omega arith)))

  before : (j n i : ℕ) → j ≤ i → i < first_from test j n → test i ≡ false
  unfolding first_from
  before j zero i l h = absurd (omega arith)
  before j (suc n) i l h =
      tested (test j)
      (λ t. let g : i < j = rw (pick_yes (test j) j (first_from test (suc j) n) t) at h in absurd (omega arith))
      (λ t.
      let g : i < first_from test (suc j) n = rw (pick_no (test j) j (first_from test (suc j) n) t) at h in
      either i j
      (λ q. let e : j ≡ i = omega arith in rw e at (is_false (test j) t))
      (λ q. before (suc j) n i q g))

  reached : (k j : ℕ) → j ≤ k → ((i : ℕ) → i < j → test i ≡ false) → Finding test k j
  reached k zero l f = start test k
  reached k (suc j) l f = rw (add-one j) at (missed (reached k j (omega arith) (λ i h. f i (omega arith))) l (f j (omega arith)))

  -- where none passes below k
  none_first : (k : ℕ) → ((i : ℕ) → i < k → test i ≡ false) → k ≡ first_from test 0 k
  none_first k f = ended (reached k k (omega arith) f) (omega arith)

  -- ---- the last

  pub last_low : (k : ℕ) → last_in test (suc k) ≤ k
  unfolding last_in
  last_low zero =
      tested (test 0) (λ t. rw (pick_yes {X = ℕ} (test 0) 0 0 t) (omega arith)) (λ t. rw (pick_no {X = ℕ} (test 0) 0 0 t) (omega arith))
  last_low (suc k) =
      tested (test (suc k)) (λ t. rw (pick_yes (test (suc k)) (suc k) (last_in test (suc k)) t) (omega arith))
      (λ t. rw (pick_no (test (suc k)) (suc k) (last_in test (suc k)) t) (omega (arith, last_low k)))

  pub last_none : (k i : ℕ) → last_in test k < i → i < k → test i ≡ false
  unfolding last_in
  last_none zero i l h = absurd (omega arith)
  last_none (suc k) i l h =
      tested (test k)
      (λ t. let g : k < i = rw (pick_yes (test k) k (last_in test k) t) at l in absurd (omega arith))
      (λ t.
      let g : last_in test k < i = rw (pick_no (test k) k (last_in test k) t) at l in
      either k i
      (λ q. let e : k ≡ i = omega arith in rw e at (is_false (test k) t))
      (λ q. last_none k i g q))

  -- what holds of 0 and of all that pass
  pub last_holds : (P : ℕ → Type 0) → P 0 → ((i : ℕ) → T (test i) → P i) → (k : ℕ) → P (last_in test k)
  unfolding last_in
  last_holds P z f zero = z
  last_holds P z f (suc k) =
      tested (test k) (λ t. rw (pick_yes (test k) k (last_in test k) t) (f k t))
      (λ t. rw (pick_no (test k) k (last_in test k) t) (last_holds P z f k))

pub last_below : (test : ℕ → Bool) (k : ℕ) → 0 < k → last_in test k < k
last_below test zero h = absurd (omega arith)
last_below test (suc k) h = omega (arith, last_low test k)

-- ---- owners

module _ (x : Inputs) where
  abbrev key : ℕ → Key
  key = key_at x

  -- to share a key is to have it
  same : (k j : ℕ) → shares x k j ≡ true → key j ≡ key k
  same k j e = same_key_lem (key j) (key k) (is_yes_lem e)

  same_test : (k j i : ℕ) → shares x k j ≡ true → shares x j i ≡ shares x k i
  same_test k j i e = ap (same_key (key i)) (same k j e)

  pub one_slot : (size k j : ℕ) → shares x k j ≡ true → slot_at x size j ≡ slot_at x size k
  unfolding slot_at
  one_slot size k j e = rw (same k j e)

  -- an owner with the key of function k is function k's
  pub owner_hit : (k j : ℕ) → j ≤ k → owner x j ≡ j → shares x k j ≡ true → j ≡ owner x k
  unfolding owner
  owner_hit k j l o e =
      let f : (i : ℕ) → i < j → shares x k i ≡ false =
      λ i h. sym (same_test k j i e) ∙ before (shares x j) 0 j i (omega arith) (omega arith) in
      either k j
      (λ q.
      let same_one : k ≡ j = omega arith in
      rw same_one (sym o))
      (λ q. found (reached (shares x k) k j l f) q e)

  -- where no owner in front of function k has its key, it has a header of its own
  pub owner_none : (k : ℕ) → ((i : ℕ) → i < k → owner x i ≡ i → shares x k i ≡ false) → k ≡ owner x k
  unfolding owner
  owner_none k f =
      let test : ℕ → Bool = shares x k in
      let o : ℕ = first_from test 0 k in
      either k o
      (λ q. none_first test k (λ i h. before test 0 k i (omega arith) (omega arith)))
      (λ q.
      let e : test o ≡ true = passes test 0 k (omega arith) in
      let own : first_from (shares x o) 0 o ≡ o =
      sym (none_first (shares x o) o (λ i h. same_test k o i e ∙ before test 0 k i (omega arith) h)) in
      absurd (both_ways (test o) (f o q own) e))

  -- an owner has a header of its own
  pub owner_owns : (k : ℕ) → owner x (owner x k) ≡ owner x k
  unfolding owner
  owner_owns k =
      let test : ℕ → Bool = shares x k in
      let o : ℕ = first_from test 0 k in
      either k o
      (λ q. let e : o ≡ k = omega (arith, owner_low x k) in ap (owner x) e)
      (λ q. sym (none_first (shares x o) o (λ i h. same_test k o i (passes test 0 k (omega arith)) ∙ before test 0 k i (omega arith) h)))

  pub owner_zero : owner x 0 ≡ 0
  unfolding owner first_from
  owner_zero = refl

  -- ---- chains

  module _ (size h : ℕ) where
    -- the last one of a slot has a header of its own
    pub held_owns : (k : ℕ) → owner x (last_held x size h k) ≡ last_held x size h k
    unfolding held_in
    held_owns k =
        last_holds (held_in x size h) (λ i. owner x i ≡ i) owner_zero
        (λ i t. eqb_yes (and_yes (eqb (owner x i) i) (eqb (slot_at x size i) h) t).0) k

    -- and the slot, unless it is function 0
    pub held_slot : (k : ℕ) → 0 < last_held x size h k → slot_at x size (last_held x size h k) ≡ h
    unfolding held_in
    held_slot k =
        last_holds (held_in x size h) (λ i. 0 < i → slot_at x size i ≡ h) (λ l. absurd (omega arith))
        (λ i t l. eqb_yes (and_yes (eqb (owner x i) i) (eqb (slot_at x size i) h) t).1) k

  pub held_here : (size h j : ℕ) → owner x j ≡ j → slot_at x size j ≡ h → held_in x size h j ≡ true
  unfolding held_in
  held_here size h j o e = simp (eq-eqb _ _ o, eq-eqb _ _ e)

  pub held_not : (size h j : ℕ) → (slot_at x size j ≡ h → ⊥) → held_in x size h j ≡ false
  unfolding held_in
  held_not size h j e = rw (ne_eqb _ _ e) (and-false (eqb (owner x j) j))

  pub not_owner : (size h j : ℕ) → (owner x j ≡ j → ⊥) → held_in x size h j ≡ false
  unfolding held_in
  not_owner size h j o = simp (ne_eqb _ _ o)

  -- between the last one of function k's slot and function i, no owner has function k's key
  pub none_between : (size k i j : ℕ) → last_held x size (slot_at x size k) i < j → j < i → owner x j ≡ j → shares x k j ≡ false
  unfolding held_in
  none_between size k i j l h o =
      tested (shares x k j)
      (λ t.
      let e : slot_at x size j ≡ slot_at x size k = one_slot size k j (is_true _ t) in
      let f : held_in x size (slot_at x size k) j ≡ false = last_none (held_in x size (slot_at x size k)) i j l h in
      absurd (both_ways _ f (held_here size (slot_at x size k) j o e)))
      (λ t. is_false _ t)

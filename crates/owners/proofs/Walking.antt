-- The search along a chain: from one owner to the one behind it, until one has the key or function 0 was the last.
use mathlib.Core.Path.{◌≡◌, refl, sym}
use Prim.Native.Nat.{ℕ, zero, suc, ◌+◌, ◌≤◌, ◌<◌}
use native.Mathlib.Omega.{arith}
use mathlib.Core.Bool.{true, false}
use mathlib.Core.List.{List}
use borrow.Author.Tests.{lt-ltb}
use lib.Dec.{ltb}
use lib.ListN.{get_or}
use Rattle.std.specs.Prelude.{Option, Some, None, IfSome}
use Rattle.std.specs.Bool.{then_some}
use Rattle.format.proofs.Choice.{if-eq, if-ne, either}
use Rattle.header_keys.specs.Inputs.{Inputs}
use Rattle.owners.specs.Owners.{owner}
use Rattle.owners.specs.Chains.{slot_at, held_in, last_held, behind_in, Chained}
use Rattle.owners.proofs.Finding.{shares}
use Rattle.owners.proofs.Firsts.{last_below, owner_hit, owner_none, held_owns, held_slot, none_between}

-- how many functions are left to look at, at most
abbrev pub left : Option ℕ → ℕ
left None = 0
left (Some j) = j + 1

begun : (P : Option ℕ → Type 0) (k first : ℕ) → (0 < k → P (Some first)) → (k ≡ 0 → P None) → P (then_some (ltb 0 k) first)
begun P zero first f g = g refl
begun P (suc k) first f g = rw (lt-ltb 0 (suc k) (omega arith)) (f (omega arith))

module _ (x : Inputs) where
  -- `next` is an owner of function k's slot in front of it, and from it on no owner has the key of function k
  pub record Walking (size k : ℕ) (next : Option ℕ) (links : List ℕ) : Type 0 where
    pub here : IfSome next (λ j. (j < k) × (owner x j ≡ j) × (0 < j → slot_at x size j ≡ slot_at x size k))
    pub none : (j : ℕ) → left next ≤ j → j < k → owner x j ≡ j → shares x k j ≡ false

  -- at the last owner of function k's slot in front of function i
  at_last : (size k i j : ℕ) (links : List ℕ) → 0 < i → i ≤ k → j ≡ last_held x size (slot_at x size k) i
      → ((j : ℕ) → i ≤ j → j < k → owner x j ≡ j → shares x k j ≡ false) → Walking size k (Some j) links
  at_last size k i j links z l e f =
      let low : last_held x size (slot_at x size k) i < i = last_below (held_in x size (slot_at x size k)) i z in
      record {
        here = (
          omega (arith, e, low),
          rw e (held_owns x size (slot_at x size k) i),
          rw e (held_slot x size (slot_at x size k) i),
        );
        none = λ j' q h o.
            either i j' (λ p. f j' p h o) (λ p. none_between x size k i j' (omega (arith, e, q)) p o);
      }

module _ {x : Inputs} {size k first : ℕ} {links : List ℕ} (c : Chained x size k first links) where
  pub start : Walking x size k (then_some (ltb 0 k) first) links
  start =
      begun (λ o. Walking x size k o links) k first (λ z. at_last x size k k first links z (omega arith) c.from (λ j p h o. absurd (omega arith)))
      (λ z. record { here = tt; none = λ j q h o. absurd (omega arith) })

  module _ {j : ℕ} {next : Option ℕ} (w : Walking x size k next links) (s : next ≡ Some j) where
    at_here : (j < k) × (owner x j ≡ j) × (0 < j → slot_at x size j ≡ slot_at x size k)
    at_here = rw s at w.here

    -- the owner that is looked at
    pub near : j < k
    near = at_here.0

    pub found : shares x k j ≡ true → (j ≡ owner x k) × (j < k)
    found e = (owner_hit x k j (omega (arith, near)) at_here.1 e, near)

    -- the one behind it comes next
    behind_none : j ≡ 0 → behind_in links j ≡ None
    unfolding behind_in
    behind_none z = if-eq j 0 None (Some (get_or links j 0)) z

    behind_some : 0 < j → behind_in links j ≡ Some (get_or links j 0)
    unfolding behind_in
    behind_some z = if-ne j 0 None (Some (get_or links j 0)) (λ q. omega arith)

    behind_last : 0 < j → get_or links j 0 ≡ last_held x size (slot_at x size k) j
    behind_last z = rw (at_here.2 z) at (c.linked.each_one j near at_here.1)

    pub lower : left (behind_in links j) < left next
    lower =
        rw s (either j 0
        (λ z. rw (behind_none (omega arith)) (omega arith))
        (λ z. rw (behind_some z) (let l : last_held x size (slot_at x size k) j < j = last_below (held_in x size (slot_at x size k)) j z in omega (arith, behind_last z))))

    pub turn : shares x k j ≡ false → Walking x size k (behind_in links j) links
    turn e =
        let past : (i : ℕ) → j ≤ i → i < k → owner x i ≡ i → shares x k i ≡ false =
        λ i l g o. either i j (λ p. let d : j ≡ i = omega arith in rw d at e) (λ p. w.none i (rw s (omega arith)) g o) in
        either j 0
        (λ z. rw (behind_none (omega arith)) (record { here = tt; none = λ i q g o. past i (omega arith) g o }))
        (λ z. rw (behind_some z) (at_last x size k j (get_or links j 0) links z (omega (arith, near)) (behind_last z) past))

  pub ended : {next : Option ℕ} → Walking x size k next links → next ≡ None → owner x k ≡ k
  ended w s = sym (owner_none x k (λ j l o. w.none j (rw s (omega arith)) l o))

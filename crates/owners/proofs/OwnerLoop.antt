-- The owners of functions, found and chained one after the other.
use mathlib.Core.Path.{◌≡◌, refl, sym, ap, ◌∙◌}
use Prim.Native.Nat.{ℕ, ◌+◌, ◌≤◌, ◌<◌}
use native.Mathlib.Omega.{arith}
use native.Mathlib.Numerals.{add-one}
use mathlib.Core.List.{List}
use lib.Dec.{eqb}
use lib.ListN.{length, get_or, set, length-set}
use lib.Seq.{get_or-set_same, get_or-set_other}
use mir.Facts.{eqb_yes, eqb_no}
use Rattle.format.proofs.Choice.{pick_yes, pick_no, tested, either, is_yes_lem}
use Rattle.header_keys.specs.Functions.{Listed}
use Rattle.header_keys.specs.Inputs.{Inputs}
use Rattle.owners.specs.Owners.{owner}
use Rattle.owners.specs.Chains.{slot_at, last_in, held_in, last_held, Linked, Chained, Owned, OwnersFound, Enough, Unused}
use Rattle.owners.proofs.Finding.{owner_low}
use Rattle.owners.proofs.Firsts.{held_here, held_not, not_owner}
use Rattle.std.specs.Bool.{fails}

module _ {x : Inputs} {size k : ℕ} {heads links owners : List ℕ} (c : OwnersFound x size k heads links owners)
    (g : Enough (k + 1) size links owners) {o : ℕ} (e : o ≡ owner x k) where
  pub owner_fits : o < 65536
  owner_fits = omega (arith, e, owner_low x k, g.few)

  owned_next : Owned x (k + 1) (set owners k o)
  owned_next = record {
    long = omega (arith, length-set owners k o, g.owners_long);
    each_one = λ j l.
        either k j
        (λ p.
        let d : k ≡ j = omega arith in
        rw (← d) (get_or-set_same owners k o 0 (omega (arith, g.owners_long)) ∙ e))
        (λ p. get_or-set_other owners k j o 0 (λ d. omega arith) ∙ c.owned.each_one j p);
  }

  -- a function that has no header of its own is in no chain
  module _ (n : o ≡ k → ⊥) where
    heads_stay : (i : ℕ) → i < size → get_or heads i 0 ≡ last_held x size i (k + 1)
    unfolding last_in
    heads_stay i l =
        c.heads_last i l
        ∙ rw (add-one k) (sym (pick_no (held_in x size i k) k _ (fails _ (not_owner x size i k (λ d. n (e ∙ d))))))

    pub inherits : OwnersFound x size (k + 1) heads links (set owners k o)
    inherits = record {
      sized = c.sized;
      heads_last = heads_stay;
      linked = record {
        long = omega (arith, g.links_long);
        each_one = λ j l d.
            either k j
            (λ p.
            let f : j ≡ k = omega arith in
            absurd (n (e ∙ (rw f at d))))
            (λ p. c.linked.each_one j p d);
      };
      owned = owned_next;
    }

module _ {x : Inputs} {size k : ℕ} {heads links owners : List ℕ} (c : OwnersFound x size k heads links owners)
    (g : Enough (k + 1) size links owners) {h : ℕ} (q : (h ≡ slot_at x size k) × (h < size)) where
  abbrev links' : List ℕ
  links' = set links k (get_or heads h 0)

  head_is : get_or heads h 0 ≡ last_held x size (slot_at x size k) k
  head_is = c.heads_last h q.1 ∙ ap (λ i. last_held x size i k) q.0

  linked_before : Linked x size k links'
  linked_before = record {
    long = omega (arith, length-set links k (get_or heads h 0), c.linked.long);
    each_one = λ j l o. get_or-set_other links k j (get_or heads h 0) 0 (λ e. omega arith) ∙ c.linked.each_one j l o;
  }

  pub chained : {first : ℕ} → first ≡ get_or heads h 0 → Chained x size k first links'
  chained e = record {
    from = e ∙ head_is;
    long = omega (arith, length-set links k (get_or heads h 0), g.links_long);
    linked = linked_before;
  }

  linked_next : Linked x size (k + 1) links'
  linked_next = record {
    long = omega (arith, length-set links k (get_or heads h 0), g.links_long);
    each_one = λ j l o.
        either k j
        (λ p.
        let e : k ≡ j = omega arith in
        rw (← e) (get_or-set_same links k (get_or heads h 0) 0 (omega (arith, g.links_long)) ∙ head_is))
        (λ p. linked_before.each_one j p o);
  }

  module _ {o : ℕ} (e : o ≡ owner x k) where
    pub shared : (o ≡ k → ⊥) → OwnersFound x size (k + 1) heads links' (set owners k o)
    shared n = record { sized = c.sized; heads_last = heads_stay c g e n; linked = linked_next; owned = owned_next c g e }

    -- one that has is the last of its slot
    pub own : o ≡ k → OwnersFound x size (k + 1) (set heads h k) links' (set owners k o)
    unfolding last_in
    own d = record {
      sized = c.sized ∙ sym (length-set heads h k);
      heads_last = λ i l.
          tested (eqb i h)
          (λ t.
          let z : i ≡ h = eqb_yes t in
          rw (add-one k, z)
          (get_or-set_same heads h k 0 (omega (arith, c.sized, q.1))
          ∙ sym (pick_yes (held_in x size h k) k _ (is_yes_lem (held_here x size h k (sym e ∙ d) (sym q.0))))))
          (λ t.
          let z : i ≡ h → ⊥ = eqb_no t in
          rw (add-one k)
          (get_or-set_other heads h i k 0 z
          ∙ (c.heads_last i l
          ∙ sym (pick_no (held_in x size i k) k _ (fails _ (held_not x size i k (λ f. z (sym f ∙ sym q.0))))))));
      linked = linked_next;
      owned = owned_next c g e;
    }

-- ---- all of them

-- k of n functions have their owners, in lists as long as they were
pub record Going (x : Inputs) (n k : ℕ) (heads₀ links₀ owners₀ heads links owners : List ℕ) : Type 0 where
  pub high : k ≤ n
  pub enough : Enough n (length heads₀) links owners
  pub links_kept : length links ≡ length links₀
  pub owners_kept : length owners ≡ length owners₀
  pub found : OwnersFound x (length heads₀) k heads links owners

pub start : (x : Inputs) {n : ℕ} {heads links owners : List ℕ} → Unused n heads links owners
    → Going x n 0 heads links owners heads links owners
unfolding last_in
start x u = record {
  high = omega arith;
  enough = u.enough;
  links_kept = refl;
  owners_kept = refl;
  found = record {
    sized = refl;
    heads_last = λ h l. u.clear h l;
    linked = record { long = omega arith; each_one = λ j l o. absurd (omega arith) };
    owned = record { long = omega arith; each_one = λ j l. absurd (omega arith) };
  };
}

module _ {x : Inputs} {n k : ℕ} {heads₀ links₀ owners₀ heads links owners : List ℕ}
    (g : Going x n k heads₀ links₀ owners₀ heads links owners) where
  pub heads_kept : length heads ≡ length heads₀
  heads_kept = sym g.found.sized

  module _ (h : k < n) where
    pub fewer : Listed x.functions x.rows n → Listed x.functions x.rows (k + 1)
    fewer l = record { within = omega (arith, l.within); rows_ready = λ j p. l.rows_ready j (omega arith) }

    pub room : Enough (k + 1) (length heads) links owners
    room = record {
      few = omega (arith, g.enough.few);
      some_slot = omega (arith, heads_kept, g.enough.some_slot);
      links_long = omega (arith, g.enough.links_long);
      owners_long = omega (arith, g.enough.owners_long);
    }

    pub so_far : OwnersFound x (length heads) k heads links owners
    so_far = rw heads_kept g.found

    pub turn : {heads' links' owners' : List ℕ}
        → OwnersFound x (length heads) (k + 1) heads' links' owners' × (length links' ≡ length links) × (length owners' ≡ length owners)
        → Going x n (k + 1) heads₀ links₀ owners₀ heads' links' owners'
    turn c = record {
      high = omega arith;
      enough = record {
        few = g.enough.few;
        some_slot = g.enough.some_slot;
        links_long = omega (arith, c.1, g.enough.links_long);
        owners_long = omega (arith, c.2, g.enough.owners_long);
      };
      links_kept = c.1 ∙ g.links_kept;
      owners_kept = c.2 ∙ g.owners_kept;
      found = rw heads_kept at c.0;
    }

  pub ended : n ≤ k → Owned x n owners
  ended h =
      let e : k ≡ n = omega (arith, g.high) in
      rw e at g.found.owned

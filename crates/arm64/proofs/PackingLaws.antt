-- A packed word means what was given: where `stands_for` says so, the effects of its prologue and of its epilogue are those of the given runs.
use mathlib.Core.Path.{◌≡◌, refl, subst, sym, ap, ◌∙◌}
use mathlib.Core.Bool.{Bool, true, false, ◌&&◌, false≢true}
use mathlib.Core.Option.{Option, none, some}
use mathlib.Core.List.{List, [], ◌∷◌, ◌++◌}
use Prim.Native.Nat.{ℕ, zero, suc, ◌+◌, ◌-◌, ◌*◌}
use native.Mathlib.Omega.{arith}
use lib.Dec.{leb, ltb, eqb}
use lib.ListN.{length, length-append}
use borrow.Author.Tests.{eq-eqb, eqb-true, ne_eqb}
use Rattle.format.specs.Prelude.{pick}
use Rattle.arm64.specs.declared.Code.{Code}
use Rattle.arm64.specs.declared.Packed.{Packed}
use Rattle.arm64.specs.declared.Part.{Part}
use Rattle.arm64.specs.declared.Part.TheVariants.{Prologue, Epilogue}
use Rattle.arm64.specs.Codes.{code, k_regp, k_fregp, k_save_next, fp, lr}
use Rattle.arm64.specs.Packed.{packed_ok, sign_slot, lone, integer_pair, integer_odd, integer_slot, vector_pair, vector_slot, home_slot, alloc_slot, rest_slot, chain_slot, frame_slot, local_slot, slot, with_slot, slots_from, undone, slot_at, packed_prologue, packed_epilogue, local_size, integer_size, vector_count}
use Rattle.arm64.specs.Meaning.{Pair, only, save_two, save_pair, pair_step, integer_step, vector_step, frame_step, or_step, step_of, pair_of, effect_of, effects, reverse, prologue_means, epilogue_means}
use Rattle.arm64.specs.Runs.{same_code, same_codes, has_next, next_pair, resolved, resolve, pair_behind, no_pair}
use Rattle.arm64.specs.Packing.{fields_hold, stands_for}
use Rattle.arm64.proofs.MeaningLaws.{Same, equal, by_pick, of_kind, no_next, next_kind, next_means, step_9, step_16, or_split, behind_same}
use Rattle.std.proofs.lemmas.Bool.{and_parts}

pub equal_all : (xs ys : List Code) → same_codes xs ys ≡ true → xs ≡ ys
unfolding same_codes
equal_all [] [] e = refl
equal_all [] (y ∷ ys) e = absurd (false≢true e)
equal_all (x ∷ xs) [] e = absurd (false≢true e)
equal_all (x ∷ xs) (y ∷ ys) e =
    let q = and_parts (same_code x y) (same_codes xs ys) e in ap (λ z. z ∷ xs) (equal x y q.0) ∙ ap (λ zs. y ∷ zs) (equal_all xs ys q.1)

-- ---- lists without a save_next

abbrev Plain : Code → Type 0
Plain c = c.kind ≡ k_save_next → ⊥

abbrev NoNext : List Code → Type 0
NoNext [] = Unit {0}
NoNext (c ∷ cs) = Plain c × NoNext cs

-- what a plain code does does not depend on the pair before it
plain_step : (p q : Option Pair) (c : Code) → Plain c → step_of p c ≡ step_of q c
unfolding step_of pick
plain_step p q c n = rw (ne_eqb c.kind k_save_next n) refl

frame_effect : (z : ℕ) → effect_of (save_two 0 fp lr z) ≡ effect_of (save_pair false 0 fp z)
unfolding effect_of save_two save_pair only
frame_effect z = refl

pair_effect : (r z : ℕ) → effect_of (pair_step 0 r z) ≡ effect_of (save_pair false 0 r z)
unfolding pair_step
pair_effect r z =
    by_pick (λ s. effect_of s ≡ effect_of (save_pair false 0 r z)) (eqb r fp) (save_two 0 fp lr z) (save_pair false 0 r z)
    (λ t. frame_effect z ∙ ap (λ (k : ℕ). effect_of (save_pair false 0 k z)) (sym (eqb-true r fp t))) λ t. refl

-- a step in front of others that do nothing
regp_or : (t : Bool) (r z : ℕ) → effect_of (or_step (pick t (save_two 0 fp lr z) (save_pair false 0 r z)) (vector_step k_regp r z))
    ≡ effect_of (pick t (save_two 0 fp lr z) (save_pair false 0 r z))
unfolding or_step pick save_two save_pair only
regp_or true r z = refl
regp_or false r z = refl

regp_step : (q : Option Pair) (r z : ℕ) → effect_of (step_of q (code k_regp r z)) ≡ effect_of (pair_step 0 r z)
unfolding step_of frame_step integer_step or_step pair_step pick
regp_step q r z = regp_or (eqb r fp) r z

module _ (b : Code) (p : Option Pair) (s : Same b p) (c : Code) (q : Option Pair) where
  -- a save_next behind a pair does what its pair does
  next_effect : c.kind ≡ k_save_next → has_next b ≡ true
      → effect_of (step_of q (code b.kind (b.register + 2) (b.offset + 16))) ≡ effect_of (step_of p c)
  next_effect k t =
      let r : ℕ = b.register + 2 in
      let z : ℕ = b.offset + 16 in
      let given : step_of p c ≡ save_pair (eqb b.kind k_fregp) 0 (b.register + 2) (b.offset + 16)
      = ap (step_of p) (of_kind c k) ∙ step_16 p c.register c.offset ∙ ap (λ x. step_of x (code k_save_next 0 0)) (s t)
      ∙ next_means (eqb b.kind k_fregp) b.register b.offset in
      or_split (eqb b.kind k_regp) (eqb b.kind k_fregp)
      (effect_of (step_of q (code b.kind (b.register + 2) (b.offset + 16))) ≡ effect_of (step_of p c)) (next_kind b t)
      (λ e.
      let f : b.kind ≡ k_regp = eqb-true b.kind k_regp e in
      let v : eqb b.kind k_fregp ≡ false = ne_eqb b.kind k_fregp (λ g. absurd (omega (arith, f, g))) in
      ap (λ (n : ℕ). effect_of (step_of q (code n (b.register + 2) (b.offset + 16)))) f
      ∙ regp_step q (b.register + 2) (b.offset + 16) ∙ pair_effect (b.register + 2) (b.offset + 16)
      ∙ ap (λ w. effect_of (save_pair w 0 (b.register + 2) (b.offset + 16))) (sym v) ∙ sym (ap effect_of given))
      λ e.
      ap (λ (n : ℕ). effect_of (step_of q (code n (b.register + 2) (b.offset + 16)))) (eqb-true b.kind k_fregp e)
      ∙ ap effect_of (step_9 q (b.register + 2) (b.offset + 16))
      ∙ ap (λ w. effect_of (save_pair w 0 (b.register + 2) (b.offset + 16))) (sym e) ∙ sym (ap effect_of given)

  next_resolved : c.kind ≡ k_save_next → Plain (next_pair b) → effect_of (step_of q (next_pair b)) ≡ effect_of (step_of p c)
  unfolding next_pair
  next_resolved k =
      by_pick (λ d. Plain d → effect_of (step_of q d) ≡ effect_of (step_of p c)) (has_next b) (code b.kind (b.register + 2) (b.offset + 16))
      (code k_save_next 0 0) (λ t n. next_effect k t) λ t n. absurd (n refl)

  resolved_effect : Plain (resolved b c) → effect_of (step_of q (resolved b c)) ≡ effect_of (step_of p c)
  unfolding resolved
  resolved_effect =
      by_pick (λ d. Plain d → effect_of (step_of q d) ≡ effect_of (step_of p c)) (eqb c.kind k_save_next) (next_pair b) c
      (λ t n. next_resolved (eqb-true c.kind k_save_next t) n) λ t n. ap effect_of (plain_step q p c n)

resolve_effects : (b : Code) (p q : Option Pair) → Same b p → (cs : List Code) → NoNext (resolve b cs) → effects q (resolve b cs) ≡ effects p cs
unfolding resolve effects
resolve_effects b p q s [] n = refl
resolve_effects b p q s (c ∷ cs) n =
    ap (λ e. e ∷ effects (pair_of (step_of q (resolved b c))) (resolve (pair_behind b c) cs)) (resolved_effect b p s c q n.0)
    ∙ ap (λ es. effect_of (step_of p c) ∷ es)
    (resolve_effects (pair_behind b c) (pair_of (step_of p c)) (pair_of (step_of q (resolved b c))) (behind_same b p s c) cs n.1)

-- ---- a packed word stands for no save_next

abbrev SlotPlain : Option Code → Type 0
SlotPlain none = Unit {0}
SlotPlain (some c) = Plain c

module _ (p : Packed) where
  lone_plain : (j r : ℕ) → Plain (lone p j r)
  unfolding lone
  lone_plain j r = by_pick Plain (eqb j 0) _ _ (λ t e. absurd (omega (arith, e))) λ t e. absurd (omega (arith, e))

  pair_plain : (j : ℕ) → Plain (integer_pair p j)
  unfolding integer_pair
  pair_plain j = by_pick Plain (eqb j 0) _ _ (λ t e. absurd (omega (arith, e))) λ t e. absurd (omega (arith, e))

  odd_plain : (j : ℕ) → Plain (integer_odd p j)
  unfolding integer_odd
  odd_plain j = by_pick Plain (eqb p.chain 1) _ _ (λ t e. absurd (omega (arith, e))) λ t. lone_plain j (19 + 2 * j)

  integer_plain : (j : ℕ) → SlotPlain (integer_slot p j)
  unfolding integer_slot
  integer_plain j =
      by_pick SlotPlain (ltb (2 * j + 1) p.registers) _ _ (λ t. pair_plain j) λ t.
      by_pick SlotPlain (eqb (2 * j + 1) p.registers) _ _ (λ u. odd_plain j) λ u.
      by_pick SlotPlain (eqb (2 * j) p.registers) _ none
      (λ v. by_pick SlotPlain (eqb p.chain 1) _ none (λ w. lone_plain j lr) λ w. tt) λ v. tt

  vector_pair_plain : (j : ℕ) → Plain (vector_pair p j)
  unfolding vector_pair
  vector_pair_plain j = by_pick Plain (eqb (integer_size p + j) 0) _ _ (λ t e. absurd (omega (arith, e))) λ t e. absurd (omega (arith, e))

  vector_plain : (j : ℕ) → SlotPlain (vector_slot p j)
  unfolding vector_slot
  vector_plain j =
      by_pick SlotPlain (ltb (2 * j + 1) (vector_count p)) _ _ (λ t. vector_pair_plain j) λ t.
      by_pick SlotPlain (eqb (2 * j + 1) (vector_count p)) _ none (λ u e. absurd (omega (arith, e))) λ u. tt

  alloc_plain : SlotPlain (alloc_slot p)
  unfolding alloc_slot
  alloc_plain = by_pick SlotPlain (leb (local_size p) (pick (leb 2 p.chain) 512 0)) none _ (λ t. tt) λ t e. absurd (omega (arith, e))

  rest_plain : SlotPlain (rest_slot p)
  unfolding rest_slot
  rest_plain = by_pick SlotPlain (leb (local_size p) 4080) none _ (λ t. tt) λ t e. absurd (omega (arith, e))

  chain_plain : SlotPlain (chain_slot p)
  unfolding chain_slot
  chain_plain =
      by_pick SlotPlain (leb 2 p.chain) _ none
      (λ t. by_pick Plain (leb (local_size p) 512) _ _ (λ u e. absurd (omega (arith, e))) λ u e. absurd (omega (arith, e))) λ t. tt

  frame_plain : SlotPlain (frame_slot p)
  unfolding frame_slot
  frame_plain = by_pick SlotPlain (leb 2 p.chain) _ none (λ t e. absurd (omega (arith, e))) λ t. tt

  local_plain : (j : ℕ) → SlotPlain (local_slot p j)
  unfolding local_slot
  local_plain j =
      by_pick SlotPlain (eqb j 0) _ _ (λ t. alloc_plain) λ t.
      by_pick SlotPlain (eqb j 1) _ _ (λ u. rest_plain) λ u. by_pick SlotPlain (eqb j 2) _ _ (λ v. chain_plain) λ v. frame_plain

  sign_plain : SlotPlain (sign_slot p)
  unfolding sign_slot
  sign_plain = by_pick SlotPlain (eqb p.chain 2) _ none (λ t e. absurd (omega (arith, e))) λ t. tt

  home_plain : SlotPlain (home_slot p)
  unfolding home_slot
  home_plain = by_pick SlotPlain (eqb p.homes 1) _ none (λ t e. absurd (omega (arith, e))) λ t. tt

  slot_plain : (i : ℕ) → SlotPlain (slot p i)
  unfolding slot
  slot_plain i =
      by_pick SlotPlain (ltb i 1) _ _ (λ t. sign_plain) λ t.
      by_pick SlotPlain (ltb i 7) _ _ (λ u. integer_plain (i - 1)) λ u.
      by_pick SlotPlain (ltb i 11) _ _ (λ v. vector_plain (i - 7)) λ v.
      by_pick SlotPlain (ltb i 15) _ _ (λ w. home_plain) λ w. local_plain (i - 15)

  undone_plain : (s : Option Code) → SlotPlain s → SlotPlain (undone s)
  unfolding undone
  undone_plain none h = tt
  undone_plain (some c) h =
      by_pick SlotPlain (eqb c.kind 15) none _ (λ t. tt) λ t. by_pick SlotPlain (eqb c.kind 13) none (some c) (λ u. tt) λ u. h

  at_plain : (part : Part) (i : ℕ) → SlotPlain (slot_at part p i)
  unfolding slot_at
  at_plain Prologue i = slot_plain i
  at_plain Epilogue i = undone_plain (slot p (18 - i)) (slot_plain (18 - i))

with_plain : (s : Option Code) (cs : List Code) → SlotPlain s → NoNext cs → NoNext (with_slot s cs)
unfolding with_slot
with_plain none cs h n = n
with_plain (some c) cs h n = (h, n)

slots_plain : (f : ℕ → Option Code) → ((i : ℕ) → SlotPlain (f i)) → (k n : ℕ) → NoNext (slots_from f k n)
unfolding slots_from
slots_plain f h k zero = tt
slots_plain f h k (suc n) = with_plain (f k) (slots_from f (suc k) n) (h k) (slots_plain f h (suc k) n)

prologue_plain : (p : Packed) → NoNext (packed_prologue p)
unfolding packed_prologue
prologue_plain p = slots_plain (slot_at Prologue p) (at_plain p Prologue) 0 19

epilogue_plain : (p : Packed) → NoNext (packed_epilogue p)
unfolding packed_epilogue
epilogue_plain p = slots_plain (slot_at Epilogue p) (at_plain p Epilogue) 0 19

-- ---- backwards

append-plain : (cs ds : List Code) → NoNext cs → NoNext ds → NoNext (cs ++ ds)
append-plain [] ds n m = m
append-plain (c ∷ cs) ds n m = (n.0, append-plain cs ds n.1 m)

reverse-plain : (cs : List Code) → NoNext cs → NoNext (reverse cs)
unfolding reverse
reverse-plain [] n = tt
reverse-plain (c ∷ cs) n = append-plain (reverse cs) (c ∷ []) (reverse-plain cs n.1) (n.0, tt)

reverse-append : (cs : List Code) (c : Code) → reverse (cs ++ (c ∷ [])) ≡ c ∷ reverse cs
unfolding reverse
reverse-append [] c = refl
reverse-append (d ∷ cs) c = ap (λ xs. xs ++ (d ∷ [])) (reverse-append cs c)

pub reverse_twice : (cs : List Code) → reverse (reverse cs) ≡ cs
unfolding reverse
reverse_twice [] = refl
reverse_twice (c ∷ cs) = reverse-append (reverse cs) c ∙ ap (λ xs. c ∷ xs) (reverse_twice cs)

pub reverse-length : {A : Type 0} (xs : List A) → length (reverse xs) ≡ length xs
unfolding reverse
reverse-length [] = refl
reverse-length (x ∷ xs) = omega (arith, length-append (reverse xs) (x ∷ []), reverse-length xs)

-- ---- the packed word means what was given

module _ (p : Packed) (ps r : List Code) (t : stands_for p ps r ≡ true) where
  tests : (resolve no_pair ps ≡ packed_prologue p) × (reverse (resolve no_pair r) ≡ packed_epilogue p)
  unfolding stands_for
  tests =
      let a = and_parts (fields_hold p && packed_ok p && same_codes (resolve no_pair ps) (packed_prologue p)) (same_codes (reverse (resolve no_pair r)) (packed_epilogue p)) t in
      let b = and_parts (fields_hold p && packed_ok p) (same_codes (resolve no_pair ps) (packed_prologue p)) a.0 in
      (equal_all _ _ b.1, equal_all _ _ a.1)

  -- its prologue does what the given one does, instruction by instruction
  pub packed_prologue_lem : prologue_means (packed_prologue p) ≡ prologue_means ps
  unfolding prologue_means
  packed_prologue_lem =
      ap (effects none) (sym tests.0)
      ∙ resolve_effects no_pair none none (no_next none) ps (subst NoNext (sym tests.0) (prologue_plain p))

  -- and its epilogue too; r is given in the order in which it saves
  pub packed_epilogue_lem : epilogue_means (packed_epilogue p) ≡ epilogue_means (reverse r)
  unfolding epilogue_means
  packed_epilogue_lem =
      let e : reverse (packed_epilogue p) ≡ resolve no_pair r = ap reverse (sym tests.1) ∙ reverse_twice (resolve no_pair r) in
      let n : NoNext (resolve no_pair r) = subst NoNext e (reverse-plain (packed_epilogue p) (epilogue_plain p)) in
      ap (λ cs. reverse (effects none cs)) e ∙ ap reverse (resolve_effects no_pair none none (no_next none) r n)
      ∙ ap (λ cs. reverse (effects none cs)) (sym (reverse_twice r))

-- ---- codes are the same as themselves

same_one : (c : Code) → same_code c c ≡ true
unfolding same_code
same_one c = simp (eq-eqb c.kind c.kind refl, eq-eqb c.register c.register refl, eq-eqb c.offset c.offset refl)

pub same_all : (cs : List Code) → same_codes cs cs ≡ true
unfolding same_codes
same_all [] = refl
same_all (c ∷ cs) = simp (same_one c, same_all cs)

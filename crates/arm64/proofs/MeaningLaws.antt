-- What `simplify` changes means the same: code by code the effects are those of the given codes.
use mathlib.Core.Path.{◌≡◌, refl, subst, sym, ap, ◌∙◌}
use mathlib.Core.Bool.{Bool, true, false, ◌&&◌, ◌||◌, false≢true}
use mathlib.Core.Option.{Option, none, some}
use mathlib.Core.List.{List, [], ◌∷◌}
use Prim.Native.Nat.{ℕ, ◌+◌, ◌<◌}
use native.Mathlib.Omega.{arith}
use lib.Dec.{leb, ltb, eqb}
use borrow.Author.Tests.{eqb-true, eq-eqb, ne_eqb, ltb-true}
use Rattle.format.specs.Prelude.{pick}
use Rattle.arm64.specs.declared.Code.{Code}
use Rattle.arm64.specs.Codes.{code, k_regp, k_regp_x, k_r19_r20_x, k_fregp, k_fregp_x, k_fplr, k_fplr_x, k_set_fp, k_add_fp, k_save_next, fp}
use Rattle.arm64.specs.Meaning.{Pair, only, save_two, save_pair, save_next, pair_step, integer_step, vector_step, frame_step, or_step, step_of, pair_of, effect_of, effects, prologue_means}
use Rattle.arm64.specs.Runs.{same_code, shorter, pair_in, has_next, next_pair, resolved, next_or, simple, pair_behind, simplify, no_pair}
use Rattle.std.proofs.lemmas.Bool.{and_parts}

pub or-false : (a b : Bool) → a ≡ false → a || b ≡ true → b ≡ true
or-false true b n e = absurd (false≢true (sym n))
or-false false b n e = e

pub equal : (a b : Code) → same_code a b ≡ true → a ≡ b
unfolding same_code
equal a b e =
    let p = and_parts (eqb a.kind b.kind && eqb a.register b.register) (eqb a.offset b.offset) e in
    let q = and_parts (eqb a.kind b.kind) (eqb a.register b.register) p.0 in
    ap (λ (k : ℕ). code k a.register a.offset) (eqb-true a.kind b.kind q.0)
    ∙ ap (λ (r : ℕ). code b.kind r a.offset) (eqb-true a.register b.register q.1)
    ∙ ap (λ (z : ℕ). code b.kind b.register z) (eqb-true a.offset b.offset p.1)

-- a code by its kind, and by its register
pub of_kind : (c : Code) {k : ℕ} → c.kind ≡ k → c ≡ code k c.register c.offset
of_kind c e = ap (λ (k : ℕ). code k c.register c.offset) e

of_both : (c : Code) {k r : ℕ} → c.kind ≡ k → c.register ≡ r → c ≡ code k r c.offset
of_both c {k} e f = of_kind c e ∙ ap (λ (r : ℕ). code k r c.offset) f

pub by_pick : {X : Type 0} (P : X → Type 0) (t : Bool) (x y : X) → (t ≡ true → P x) → (t ≡ false → P y) → P (pick t x y)
unfolding pick
by_pick P true x y f g = f refl
by_pick P false x y f g = g refl

-- ---- the shorter codes

module _ (p : Option Pair) where
  frame_pair : (z : ℕ) → step_of p (code k_fplr 0 z) ≡ step_of p (code k_regp fp z)
  unfolding step_of or_step frame_step integer_step pair_step save_two only pick
  frame_pair z = refl

  frame_push : (z : ℕ) → step_of p (code k_fplr_x 0 z) ≡ step_of p (code k_regp_x fp z)
  unfolding step_of or_step frame_step integer_step pair_step save_two only pick
  frame_push z = refl

  first_push : (z : ℕ) → step_of p (code k_r19_r20_x 0 z) ≡ step_of p (code k_regp_x 19 z)
  unfolding step_of or_step frame_step integer_step pair_step save_pair pick
  first_push z = refl

  no_offset : (r : ℕ) → step_of p (code k_set_fp 0 0) ≡ step_of p (code k_add_fp r 0)
  unfolding step_of or_step frame_step only pick
  no_offset r = refl

  pub shorter_means : (c : Code) → step_of p (shorter c) ≡ step_of p c
  unfolding shorter
  shorter_means c =
      let P : Code → Type 0 = λ d. step_of p d ≡ step_of p c in
      by_pick P (eqb c.kind k_regp && eqb c.register fp) _ _
      (λ t.
      let q = and_parts (eqb c.kind k_regp) (eqb c.register fp) t in
      frame_pair c.offset ∙ ap (step_of p) (sym (of_both c (eqb-true c.kind k_regp q.0) (eqb-true c.register fp q.1))))
      λ n1.
      by_pick P (eqb c.kind k_regp_x && eqb c.register fp) _ _
      (λ t.
      let q = and_parts (eqb c.kind k_regp_x) (eqb c.register fp) t in
      frame_push c.offset ∙ ap (step_of p) (sym (of_both c (eqb-true c.kind k_regp_x q.0) (eqb-true c.register fp q.1))))
      λ n2.
      by_pick P (eqb c.kind k_regp_x && eqb c.register 19 && leb c.offset 248) _ _
      (λ t.
      let o = and_parts (eqb c.kind k_regp_x && eqb c.register 19) (leb c.offset 248) t in
      let q = and_parts (eqb c.kind k_regp_x) (eqb c.register 19) o.0 in
      first_push c.offset ∙ ap (step_of p) (sym (of_both c (eqb-true c.kind k_regp_x q.0) (eqb-true c.register 19 q.1))))
      λ n3.
      by_pick P (eqb c.kind k_add_fp && eqb c.offset 0) _ _
      (λ t.
      let q = and_parts (eqb c.kind k_add_fp) (eqb c.offset 0) t in
      no_offset c.register
      ∙ ap (step_of p)
      (ap (λ (z : ℕ). code k_add_fp c.register z) (sym (eqb-true c.offset 0 q.1)) ∙ sym (of_kind c (eqb-true c.kind k_add_fp q.0))))
      λ n4. refl

-- ---- save_next

-- a pair that another may follow is the pair of the meaning
abbrev pub Same : Code → Option Pair → Type 0
Same b p = has_next b ≡ true → p ≡ some (record { vector = eqb b.kind k_fregp; register = b.register; above = b.offset })

pub no_next : (p : Option Pair) → Same no_pair p
unfolding has_next
no_next p e = absurd (false≢true e)

-- the step of a pair that is no frame record
pair_means : (p : Option Pair) (r z : ℕ) → (r ≡ fp → ⊥) → step_of p (code k_regp r z) ≡ save_pair false 0 r z
unfolding step_of or_step frame_step integer_step pair_step save_pair pick
pair_means p r z n = rw (ne_eqb r fp n) refl

pub next_means : (v : Bool) (r z : ℕ) → step_of (some (record { vector = v; register = r; above = z })) (code k_save_next 0 0) ≡ save_pair v 0 (r + 2) (z + 16)
unfolding step_of save_next pick
next_means v r z = refl

-- `shorter` leaves no pair at x29
shorter_frame : (c : Code) → (shorter c).kind ≡ k_regp → (shorter c).register ≡ fp → ⊥
unfolding shorter
shorter_frame c =
    let P : Code → Type 0 = λ d. d.kind ≡ k_regp → d.register ≡ fp → ⊥ in
    by_pick P (eqb c.kind k_regp && eqb c.register fp) _ _ (λ t e f. absurd (omega (arith, e)))
    λ n1.
    by_pick P (eqb c.kind k_regp_x && eqb c.register fp) _ _ (λ t e f. absurd (omega (arith, e)))
    λ n2.
    by_pick P (eqb c.kind k_regp_x && eqb c.register 19 && leb c.offset 248) _ _ (λ t e f. absurd (omega (arith, e)))
    λ n3.
    by_pick P (eqb c.kind k_add_fp && eqb c.offset 0) _ _ (λ t e f. absurd (omega (arith, e)))
    λ n4 e f. false≢true (sym n1 ∙ ap (λ t. t && eqb c.register fp) (eq-eqb c.kind k_regp e) ∙ eq-eqb c.register fp f)

-- the first test of has_next, and the second
pub next_kind : (b : Code) → has_next b ≡ true → (eqb b.kind k_regp || eqb b.kind k_fregp) ≡ true
unfolding has_next
next_kind b e =
    (and_parts (eqb b.kind k_regp || eqb b.kind k_fregp) (ltb b.register fp)
    (and_parts ((eqb b.kind k_regp || eqb b.kind k_fregp) && ltb b.register fp) (ltb b.offset 1024) e).0).0

next_frame : (b : Code) → has_next b ≡ true → b.register ≡ fp → ⊥
unfolding has_next
next_frame b e f =
    let q : b.register < fp
    = ltb-true b.register fp
    (and_parts (eqb b.kind k_regp || eqb b.kind k_fregp) (ltb b.register fp)
    (and_parts ((eqb b.kind k_regp || eqb b.kind k_fregp) && ltb b.register fp) (ltb b.offset 1024) e).0).1 in
    absurd (omega (arith, q, f))

module _ (b : Code) (p : Option Pair) (s : Same b p) where
  -- a pair that SaveNext stands for
  next_same : (d : Code) → next_pair b ≡ d → d.kind ≡ k_regp → (d.register ≡ fp → ⊥) → step_of p (code k_save_next 0 0) ≡ step_of p d
  unfolding next_pair
  next_same d =
      let P : Code → Type 0 = λ n. n ≡ d → d.kind ≡ k_regp → (d.register ≡ fp → ⊥) → step_of p (code k_save_next 0 0) ≡ step_of p d in
      by_pick P (has_next b) _ _
      (λ t e k n.
      let f : b.kind ≡ k_regp = ap (λ x. x.kind) e ∙ k in
      let v : eqb b.kind k_fregp ≡ false = ne_eqb b.kind k_fregp (λ g. absurd (omega (arith, f, g))) in
      let m : b.register + 2 ≡ fp → ⊥ = λ g. n (ap (λ x. x.register) (sym e) ∙ g) in
      ap (λ q. step_of q (code k_save_next 0 0)) (s t) ∙ next_means (eqb b.kind k_fregp) b.register b.offset
      ∙ ap (λ w. save_pair w 0 (b.register + 2) (b.offset + 16)) v ∙ sym (pair_means p (b.register + 2) (b.offset + 16) m)
      ∙ ap (λ (k : ℕ). step_of p (code k (b.register + 2) (b.offset + 16))) (sym f) ∙ ap (step_of p) e)
      λ t e k n. absurd (omega (arith, ap (λ x. x.kind) e, k))

  next_or_means : (d : Code) → (d.kind ≡ k_regp → d.register ≡ fp → ⊥) → step_of p (next_or b d) ≡ step_of p d
  unfolding next_or
  next_or_means d n =
      by_pick (λ x. step_of p x ≡ step_of p d) (eqb d.kind k_regp && same_code (next_pair b) d) _ _
      (λ t.
      let q = and_parts (eqb d.kind k_regp) (same_code (next_pair b) d) t in
      let k : d.kind ≡ k_regp = eqb-true d.kind k_regp q.0 in next_same d (equal (next_pair b) d q.1) k (n k))
      λ t. refl

  pub simple_means : (c : Code) → step_of p (simple b c) ≡ step_of p c
  unfolding simple
  simple_means c = next_or_means (shorter c) (shorter_frame c) ∙ shorter_means p c

-- ---- the pair behind a code

pub or_split : (a b : Bool) (X : Type 0) → a || b ≡ true → (a ≡ true → X) → (b ≡ true → X) → X
or_split true b X e f g = f refl
or_split false b X e f g = g e

step_1 : (p : Option Pair) (r z : ℕ) → step_of p (code k_r19_r20_x r z) ≡ save_pair false z 19 0
unfolding step_of or_step frame_step save_pair pick
step_1 p r z = refl

step_5 : (p : Option Pair) (r z : ℕ) → (r ≡ fp → ⊥) → step_of p (code k_regp_x r z) ≡ save_pair false z r 0
unfolding step_of or_step frame_step integer_step pair_step save_pair pick
step_5 p r z n = rw (ne_eqb r fp n) refl

pub step_9 : (p : Option Pair) (r z : ℕ) → step_of p (code k_fregp r z) ≡ save_pair true 0 r z
unfolding step_of or_step frame_step integer_step vector_step save_pair pick
step_9 p r z = refl

step_10 : (p : Option Pair) (r z : ℕ) → step_of p (code k_fregp_x r z) ≡ save_pair true z r 0
unfolding step_of or_step frame_step integer_step vector_step save_pair pick
step_10 p r z = refl

pub step_16 : (p : Option Pair) (r z : ℕ) → step_of p (code k_save_next r z) ≡ step_of p (code k_save_next 0 0)
unfolding step_of pick
step_16 p r z = refl

pair_of_save : (v : Bool) (down r z : ℕ) → pair_of (save_pair v down r z) ≡ some (record { vector = v; register = r; above = z })
unfolding pair_of save_pair
pair_of_save v down r z = refl

module _ (p : Option Pair) (c : Code) where
  abbrev left : Option Pair
  left = pair_of (step_of p c)

  -- a step that saves a pair leaves it
  leaves : (v : Bool) (down r z : ℕ) → step_of p c ≡ save_pair v down r z → left ≡ some (record { vector = v; register = r; above = z })
  leaves v down r z e = ap pair_of e ∙ pair_of_save v down r z

  own_pair : (eqb c.kind k_regp || eqb c.kind k_fregp) ≡ true → Same c left
  own_pair t h =
      or_split (eqb c.kind k_regp) (eqb c.kind k_fregp) (left ≡ some (record { vector = eqb c.kind k_fregp; register = c.register; above = c.offset })) t
      (λ e.
      let k : c.kind ≡ k_regp = eqb-true c.kind k_regp e in
      leaves false 0 c.register c.offset (ap (step_of p) (of_kind c k) ∙ pair_means p c.register c.offset (next_frame c h))
      ∙ ap (λ v. some (record { vector = v; register = c.register; above = c.offset })) (sym (ne_eqb c.kind k_fregp (λ g. absurd (omega (arith, k, g))))))
      λ e.
      let k : c.kind ≡ k_fregp = eqb-true c.kind k_fregp e in
      leaves true 0 c.register c.offset (ap (step_of p) (of_kind c k) ∙ step_9 p c.register c.offset)
      ∙ ap (λ v. some (record { vector = v; register = c.register; above = c.offset })) (sym e)

  pub pair_same : Same (pair_in c) left
  unfolding pair_in
  pair_same =
      let P : Code → Type 0 = λ d. Same d left in
      by_pick P (eqb c.kind k_regp || eqb c.kind k_fregp) _ _ own_pair
      λ n1.
      by_pick P (eqb c.kind k_r19_r20_x) _ _
      (λ t h. leaves false c.offset 19 0 (ap (step_of p) (of_kind c (eqb-true c.kind k_r19_r20_x t)) ∙ step_1 p c.register c.offset))
      λ n2.
      by_pick P (eqb c.kind k_regp_x) _ _
      (λ t h. leaves false c.offset c.register 0 (ap (step_of p) (of_kind c (eqb-true c.kind k_regp_x t)) ∙ step_5 p c.register c.offset (next_frame (code k_regp c.register 0) h)))
      λ n3.
      by_pick P (eqb c.kind k_fregp_x) _ _
      (λ t h. leaves true c.offset c.register 0 (ap (step_of p) (of_kind c (eqb-true c.kind k_fregp_x t)) ∙ step_10 p c.register c.offset))
      λ n4. no_next left

none_behind : pair_in (code k_save_next 0 0) ≡ no_pair
unfolding pair_in pick
none_behind = refl

module _ (b : Code) (p : Option Pair) (s : Same b p) (c : Code) where
  after_pair : c.kind ≡ k_save_next → has_next b ≡ true → Same (pair_in (code b.kind (b.register + 2) (b.offset + 16))) (left p c)
  unfolding pair_in
  after_pair k t =
      by_pick (λ d. Same d (left p c)) (eqb b.kind k_regp || eqb b.kind k_fregp) (code b.kind (b.register + 2) (b.offset + 16)) _
      (λ u h.
      leaves p c (eqb b.kind k_fregp) 0 (b.register + 2) (b.offset + 16)
      (ap (step_of p) (of_kind c k) ∙ step_16 p c.register c.offset ∙ ap (λ q. step_of q (code k_save_next 0 0)) (s t)
      ∙ next_means (eqb b.kind k_fregp) b.register b.offset))
      λ n. absurd (false≢true (sym n ∙ next_kind b t))

  behind_next : c.kind ≡ k_save_next → Same (pair_in (next_pair b)) (left p c)
  unfolding next_pair
  behind_next k =
      by_pick (λ d. Same (pair_in d) (left p c)) (has_next b) (code b.kind (b.register + 2) (b.offset + 16)) (code k_save_next 0 0) (after_pair k)
      λ t. subst (λ d. Same d (left p c)) (sym none_behind) (no_next (left p c))

  pub behind_same : Same (pair_behind b c) (left p c)
  unfolding pair_behind resolved
  behind_same =
      by_pick (λ d. Same (pair_in d) (left p c)) (eqb c.kind k_save_next) _ _ (λ t. behind_next (eqb-true c.kind k_save_next t)) λ n. pair_same p c

-- ---- a run

simplify_effects : (b : Code) (p : Option Pair) → Same b p → (cs : List Code) → effects p (simplify b cs) ≡ effects p cs
unfolding simplify effects
simplify_effects b p s [] = refl
simplify_effects b p s (c ∷ cs) =
    ap (λ es. effect_of (step_of p (simple b c)) ∷ es)
    (simplify_effects (pair_behind b (simple b c)) (pair_of (step_of p (simple b c))) (behind_same b p s (simple b c)) cs)
    ∙ ap (λ t. effect_of t ∷ effects (pair_of t) cs) (simple_means b p s c)

-- what is written means what was given, code by code
pub simplify_means : (cs : List Code) → prologue_means (simplify no_pair cs) ≡ prologue_means cs
unfolding prologue_means
simplify_means cs = simplify_effects no_pair none (no_next none) cs

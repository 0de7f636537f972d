-- Question 83 of a code, and its bytes.
use mathlib.Core.Path.{◌≡◌, refl, subst, sym, ap, ap₂, ◌∙◌}
use mathlib.Core.Bool.{true, false, ◌&&◌}
use mathlib.Core.List.{[], ◌∷◌}
use Prim.Native.Nat.{ℕ, suc, ◌+◌, ◌-◌, ◌*◌, ◌/◌, ◌%◌, ◌≤◌, ◌<◌, ◌^◌}
use native.Mathlib.Nat.{div-le_self, div-lt_iff_lt-mul, mul-le-mul, zero-add}
use native.Mathlib.Omega.{arith}
use lib.Dec.{T, leb, ltb, eqb}
use lib.ListN.{get_or}
use mir.Facts.{leb_yes}
use borrow.Author.Tests.{lt-leb, le-leb, ne_eqb, eq-eqb, leb-true, ltb-true}
use Rattle.std.proofs.Common.{w16, w32}
use Rattle.std.specs.Int.{to_be_bytes}
use Rattle.std.proofs.lemmas.Bool.{and_parts}
use Rattle.format.specs.Prelude.{each, all}
use Rattle.format.specs.Lists.{all_in}
use Rattle.format.proofs.ListLaws.{in_range}
use Rattle.format.proofs.Choice.{if-eq, if-ne, either}
use Rattle.arm64_spelled.proofs.FormLaws.{past_last, form_good}
use Rattle.arm64.specs.declared.Form.{Form}
use Rattle.arm64.specs.declared.Code.{Code}
use Rattle.arm64.specs.Codes.{last_registers, form_for, register_field, offset_field, register_fits, offset_fits, code_fits, spelled, code_bytes, big}
use Rattle.arm64.proofs.MeaningLaws.{or-false}
use Rattle.arm64_spelled.specs.Forms.{FormGood, InRanges, word_of}

module _ (f : Form) (c : Code) where
  pub register_free : f.step ≡ 0 → true ≡ register_fits f c
  unfolding register_fits
  register_free e = simp (eq-eqb f.step 0 e)

  module _ (n : 0 < f.step) where
    steps : eqb f.step 0 ≡ false
    steps = ne_eqb f.step 0 λ e. absurd (omega (arith, n, e))

    pub register_low : c.register < f.first → false ≡ register_fits f c
    unfolding register_fits
    register_low l = simp (steps, lt-leb f.first c.register l)

    pub register_high : f.first ≤ c.register → get_or last_registers c.kind 0 < c.register → false ≡ register_fits f c
    unfolding register_fits
    register_high l h = simp (steps, le-leb f.first c.register l, lt-leb c.register (get_or last_registers c.kind 0) h)

    pub register_even : f.first ≤ c.register → c.register ≤ get_or last_registers c.kind 0 → eqb ((c.register - f.first) % f.step) 0 ≡ register_fits f c
    unfolding register_fits
    register_even l h = simp (steps, le-leb f.first c.register l, le-leb c.register (get_or last_registers c.kind 0) h)

  pub offset_low : c.offset < f.more → false ≡ offset_fits f c
  unfolding offset_fits
  offset_low l = simp (lt-leb f.more c.offset l)

  module _ (l : f.more ≤ c.offset) where
    pub offset_odd : (c.offset % f.scale ≡ 0 → ⊥) → false ≡ offset_fits f c
    unfolding offset_fits
    offset_odd n = simp (le-leb f.more c.offset l, ne_eqb (c.offset % f.scale) 0 n)

    pub offset_even : c.offset % f.scale ≡ 0 → ltb ((c.offset - f.more) / f.scale) f.unit ≡ offset_fits f c
    unfolding offset_fits offset_field
    offset_even e = simp (le-leb f.more c.offset l, eq-eqb (c.offset % f.scale) 0 e)

-- ---- a code that its fields hold

last_tests : T (all_in (λ k. leb (get_or last_registers k 0) 30) 0 18)
unfolding all_in all each
last_tests = tt

low_last : (k : ℕ) → k < 18 → get_or last_registers k 0 ≤ 30
low_last k h = leb_yes (subst (λ (i : ℕ). T (leb (get_or last_registers i 0) 30)) (zero-add k) (in_range (λ k. leb (get_or last_registers k 0) 30) 0 18 k last_tests h))

last_low : (k : ℕ) → get_or last_registers k 0 ≤ 30
last_low k = either (suc k) 18 (low_last k) λ h. let e : 0 ≡ get_or last_registers k 0 = past_last k (omega (arith, h)) in omega (arith, e)

module _ (f : Form) (c : Code) (r : register_fits f c ≡ true) (o : offset_fits f c ≡ true) where
  in_registers_lem : (f.step ≡ 0 → ⊥)
      → (leb f.first c.register && leb c.register (get_or last_registers c.kind 0) && eqb ((c.register - f.first) % f.step) 0) ≡ true
  unfolding register_fits
  in_registers_lem n = or-false (eqb f.step 0) _ (ne_eqb f.step 0 n) r

  in_offsets : (leb f.more c.offset && eqb (c.offset % f.scale) 0 && ltb (offset_field f c) f.unit) ≡ true
  unfolding offset_fits
  in_offsets = o

  pub ranges : InRanges f c
  ranges =
      let p = and_parts (leb f.more c.offset && eqb (c.offset % f.scale) 0) (ltb (offset_field f c) f.unit) in_offsets in
      let q : (f.step ≡ 0 → ⊥) → (leb f.first c.register && leb c.register (get_or last_registers c.kind 0)) ≡ true
      = λ n. (and_parts (leb f.first c.register && leb c.register (get_or last_registers c.kind 0)) (eqb ((c.register - f.first) % f.step) 0) (in_registers_lem n)).0 in
      let r : (f.step ≡ 0 → ⊥) → (leb f.first c.register ≡ true) × (leb c.register (get_or last_registers c.kind 0) ≡ true)
      = λ n. and_parts (leb f.first c.register) (leb c.register (get_or last_registers c.kind 0)) (q n) in
      record {
        first = λ n. leb-true f.first c.register (r n).0;
        last = λ n.
            let m : c.register ≤ get_or last_registers c.kind 0 = leb-true c.register (get_or last_registers c.kind 0) (r n).1 in
            omega (arith, m, last_low c.kind);
        more = leb-true f.more c.offset (and_parts (leb f.more c.offset) (eqb (c.offset % f.scale) 0) p.0).0;
        held = ltb-true (offset_field f c) f.unit p.1;
      }

pub fits_ranges : (c : Code) → code_fits c ≡ true → InRanges (form_for c) c
unfolding code_fits
fits_ranges c e =
    let p : (register_fits (form_for c) c ≡ true) × (offset_fits (form_for c) c ≡ true)
    = and_parts (register_fits (form_for c) c) (offset_fits (form_for c) c) e in
    ranges (form_for c) c p.0 p.1

-- the largest is an allocation's
pub fits_low : (c : Code) → code_fits c ≡ true → c.offset < 2 ^ 29
unfolding offset_field
fits_low c e =
    let g = form_good c in
    let t = fits_ranges c e in
    let h : c.offset - (form_for c).more < (form_for c).unit * (form_for c).scale = (div-lt_iff_lt-mul g.scaled).0 t.held in
    omega (arith, h, g.near, mul-le-mul g.narrow g.coarse)

-- ---- bytes

pub field_none : (f : Form) (c : Code) → f.step ≡ 0 → 0 ≡ register_field f c
unfolding register_field
field_none f c e = rw (if-eq f.step 0)

pub field_low : (f : Form) (c : Code) → c.register ≤ 30 → (c.register - f.first) / f.step ≤ 30
field_low f c h = omega (arith, div-le_self (c.register - f.first) f.step, h)

-- a code's fields in a form
pub record Fields (f : Form) (c : Code) : Type 0 where
  pub product : f.unit * register_field f c ≤ 503316480
  pub below : offset_field f c < 16777216

pub fields : (f : Form) (c : Code) → FormGood f → InRanges f c → register_field f c ≤ 30 → Fields f c
fields f c g t h =
    record { product = omega (arith, mul-le-mul g.narrow h); below = omega (arith, t.held, g.narrow) }

pub field_some : (f : Form) (c : Code) → (f.step ≡ 0 → ⊥) → (c.register - f.first) / f.step ≡ register_field f c
unfolding register_field
field_some f c n = rw (if-ne f.step 0)

module _ (f : Form) (c : Code) where
  abbrev word_with : ℕ → ℕ
  word_with n = f.op * 256 ^ (n - 1) + f.unit * register_field f c + offset_field f c

  pub word_1 : f.size ≡ 1 → f.op + (f.unit * register_field f c + offset_field f c) ≡ word_of f c
  unfolding word_of
  word_1 e = let g : f.op + (f.unit * register_field f c + offset_field f c) ≡ word_with 1 = omega arith in g ∙ ap word_with (sym e)

  pub word_2 : f.size ≡ 2 → 256 * f.op + (f.unit * register_field f c + offset_field f c) ≡ word_of f c
  unfolding word_of
  word_2 e = let g : 256 * f.op + (f.unit * register_field f c + offset_field f c) ≡ word_with 2 = omega arith in g ∙ ap word_with (sym e)

  pub word_4 : f.size ≡ 4 → 16777216 * f.op + (f.unit * register_field f c + offset_field f c) ≡ word_of f c
  unfolding word_of
  word_4 e = let g : 16777216 * f.op + (f.unit * register_field f c + offset_field f c) ≡ word_with 4 = omega arith in g ∙ ap word_with (sym e)

pub big_1 : (size n : ℕ) → size ≡ 1 → big size n ≡ n % 256 ∷ []
unfolding big
big_1 size n e = ap (λ (k : ℕ). big k n) e

pub big_2 : (size n : ℕ) → size ≡ 2 → big size n ≡ n / 256 % 256 ∷ n % 256 ∷ []
unfolding big
big_2 size n e = ap (λ (k : ℕ). big k n) e

pub big_4 : (size n : ℕ) → size ≡ 4 → big size n ≡ n / 256 / 256 / 256 % 256 ∷ n / 256 / 256 % 256 ∷ n / 256 % 256 ∷ n % 256 ∷ []
unfolding big
big_4 size n e = ap (λ (k : ℕ). big k n) e

-- the same bytes by the library's `to_be_bytes`
pub high_2 : (n : ℕ) → n / 256 % 256 ∷ n % 256 ∷ [] ≡ to_be_bytes w16 (n % 65536)
high_2 n =
    let a : n / 256 % 256 ≡ n % 65536 / 256 % 256 = omega arith in
    let b : n % 256 ≡ n % 65536 % 256 = omega arith in ap₂ (λ (x y : ℕ). x ∷ y ∷ []) a b

pub high_4 : (n : ℕ) → n / 256 / 256 / 256 % 256 ∷ n / 256 / 256 % 256 ∷ n / 256 % 256 ∷ n % 256 ∷ [] ≡ to_be_bytes w32 (n % 4294967296)
high_4 n =
    let m = n % 4294967296 in
    let a : n / 256 / 256 / 256 % 256 ≡ m / 16777216 % 256 = omega arith in
    let b : n / 256 / 256 % 256 ≡ m / 65536 % 256 = omega arith in
    let d : n / 256 % 256 ≡ m / 256 % 256 = omega arith in
    let e : n % 256 ≡ m % 256 = omega arith in rw (a, b, d, e) refl

pub code_bytes_lem : (c : Code) → big (form_for c).size (word_of (form_for c) c) ≡ code_bytes c
unfolding code_bytes spelled word_of
code_bytes_lem c = refl

pub fits_by : (c : Code) → register_fits (form_for c) c ≡ true → code_fits c ≡ offset_fits (form_for c) c
unfolding code_fits
fits_by c e = simp e

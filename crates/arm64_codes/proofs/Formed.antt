-- Every byte's form is one whose codes' numbers fit, a computed test of the 256; where a code that is read ends.
use mathlib.Core.Path.{◌≡◌, subst}
use mathlib.Core.Bool.{Bool, true, not}
use mathlib.Core.Option.{some, none}
use mathlib.Core.List.{List, [], ◌∷◌}
use Prim.Native.Nat.{ℕ, ◌+◌, ◌*◌, ◌/◌, ◌%◌, ◌≤◌, ◌<◌}
use native.Mathlib.Nat.{mul-le-mul, div-le_self, mod-lt}
use native.Mathlib.Omega.{arith}
use lib.Dec.{T, leb, eqb}
use lib.ListN.{length, get_or}
use mir.Facts.{leb_yes, yes_eqb, T_not}
use Rattle.format.specs.Prelude.{pick, each, all}
use Rattle.format.specs.Lists.{all_in}
use Rattle.format.proofs.ListLaws.{chain, chained, in_range}
use Rattle.arm64.specs.declared.Code.{Code}
use Rattle.arm64.specs.declared.Form.{Form}
use Rattle.arm64.specs.Codes.{form_of, short_form, integer_form, vector_form, other_form, code_as, code_at}
use Rattle.arm64_codes.specs.Forms.{FormOk}

abbrev tests : ℕ → Form → List Bool
tests b f =
    leb 1 f.size ∷ leb f.size 4 ∷ not (eqb f.size 3) ∷ leb f.op b ∷ leb 1 f.unit ∷ leb f.unit 16777216 ∷ leb f.first 19
    ∷ leb f.step 2 ∷ leb f.scale 16 ∷ leb f.more 8 ∷ []

abbrev form_test : ℕ → Bool
form_test b = chain true (tests b (form_of b))

form_tests : T (all_in form_test 0 256)
unfolding all_in all each form_of short_form integer_form vector_form other_form pick
form_tests = tt

passed : (b : ℕ) (f : Form) → T (chain true (tests b f)) → FormOk b f
passed b f t =
    let g : (k : ℕ) → T (get_or (true ∷ tests b f) k true) = λ k. chained true (tests b f) k t in
    record {
      some_bytes = leb_yes (g 1);
      few_bytes = leb_yes (g 2);
      not_three = λ e. T_not (eqb f.size 3) (yes_eqb e) (g 3);
      opcode = leb_yes (g 4);
      parted = leb_yes (g 5);
      narrow = leb_yes (g 6);
      low = leb_yes (g 7);
      steps = leb_yes (g 8);
      scaled = leb_yes (g 9);
      less = leb_yes (g 10);
    }

pub form_ok : (b : ℕ) → b < 256 → FormOk b (form_of b)
form_ok b h =
    let e : 0 + b ≡ b = omega arith in
    passed b (form_of b) (subst (λ (i : ℕ). T (form_test i)) e (in_range form_test 0 256 b form_tests h))

-- ---- a code's bytes

some_bytes : (b : ℕ) → 1 ≤ (form_of b).size
unfolding form_of short_form integer_form vector_form other_form pick
some_bytes b = grind arith

module _ (s : List ℕ) (p : ℕ) where
  pub code_past : length s ≤ p → code_at s p ≡ none
  unfolding code_at pick
  code_past h = grind arith

  -- a code that is read lies inside, and the next place is behind it
  pub ahead : {c : Code} {q : ℕ} → code_at s p ≡ some (c, q) → (p < q) × (q ≤ length s)
  unfolding code_at code_as pick
  ahead e = grind (arith, some_bytes)

-- ---- a code's numbers fit

module _ {b : ℕ} {f : Form} (o : FormOk b f) (v : ℕ) (h : v < 16777216) where
  pub register_fits : f.step * (v / f.unit) ≤ 33554432
  register_fits = omega (arith, mul-le-mul o.steps (div-le_self v f.unit), h)

  pub offset_fits : f.scale * (v % f.unit) ≤ 268435456
  offset_fits =
      let l : v % f.unit < f.unit = mod-lt v o.parted in
      let m : v % f.unit ≤ 16777216 = omega (arith, o.narrow) in
      omega (arith, mul-le-mul o.scaled m)

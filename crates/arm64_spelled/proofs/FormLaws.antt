-- The forms of the kinds: by the opcodes, and what holds of each.
use mathlib.Core.Path.{◌≡◌, refl, subst, sym}
use mathlib.Core.Bool.{Bool, true, not}
use mathlib.Core.List.{List, [], ◌∷◌}
use Prim.Native.Nat.{ℕ, zero, suc, ◌/◌, ◌≤◌, ◌<◌, ◌^◌}
use native.Mathlib.Nat.{zero-add}
use native.Mathlib.Omega.{arith}
use lib.Dec.{T, leb, ltb, eqb}
use lib.ListN.{get_or}
use mir.Facts.{leb_yes, yes_eqb, T_not}
use Rattle.format.specs.Prelude.{pick, each, all}
use Rattle.format.specs.Lists.{all_in}
use Rattle.format.proofs.Choice.{if-le, if-gt, if-eq, if-ne, pick_yes, pick_no, tested, either}
use Rattle.format.proofs.ListLaws.{chain, chained, in_range}
use Rattle.arm64.specs.declared.Form.{Form}
use Rattle.arm64.specs.declared.Code.{Code}
use Rattle.arm64.specs.Codes.{form_of, short_form, integer_form, vector_form, other_form, form_for, alloc_form, kind_forms, last_registers, reserved, f_alloc_s, f_alloc_m, f_alloc_l}
use Rattle.arm64_spelled.specs.Forms.{opcodes, FormGood}
use Rattle.std.proofs.lemmas.List.{get_or_past}

opcode_form : (k : ℕ) → k < 18 → form_of (get_or opcodes k 0xdf) ≡ get_or kind_forms k reserved
unfolding form_of short_form integer_form vector_form other_form pick
opcode_form zero h = refl
opcode_form (suc zero) h = refl
opcode_form (suc (suc zero)) h = refl
opcode_form (suc (suc (suc zero))) h = refl
opcode_form (suc (suc (suc (suc zero)))) h = refl
opcode_form (suc (suc (suc (suc (suc zero))))) h = refl
opcode_form (suc (suc (suc (suc (suc (suc zero)))))) h = refl
opcode_form (suc (suc (suc (suc (suc (suc (suc zero))))))) h = refl
opcode_form (suc (suc (suc (suc (suc (suc (suc (suc zero)))))))) h = refl
opcode_form (suc (suc (suc (suc (suc (suc (suc (suc (suc zero))))))))) h = refl
opcode_form (suc (suc (suc (suc (suc (suc (suc (suc (suc (suc zero)))))))))) h = refl
opcode_form (suc (suc (suc (suc (suc (suc (suc (suc (suc (suc (suc zero))))))))))) h = refl
opcode_form (suc (suc (suc (suc (suc (suc (suc (suc (suc (suc (suc (suc zero)))))))))))) h = refl
opcode_form (suc (suc (suc (suc (suc (suc (suc (suc (suc (suc (suc (suc (suc zero))))))))))))) h = refl
opcode_form (suc (suc (suc (suc (suc (suc (suc (suc (suc (suc (suc (suc (suc (suc zero)))))))))))))) h = refl
opcode_form (suc (suc (suc (suc (suc (suc (suc (suc (suc (suc (suc (suc (suc (suc (suc zero))))))))))))))) h = refl
opcode_form (suc (suc (suc (suc (suc (suc (suc (suc (suc (suc (suc (suc (suc (suc (suc (suc zero)))))))))))))))) h = refl
opcode_form (suc (suc (suc (suc (suc (suc (suc (suc (suc (suc (suc (suc (suc (suc (suc (suc (suc zero))))))))))))))))) h = refl
opcode_form (suc (suc (suc (suc (suc (suc (suc (suc (suc (suc (suc (suc (suc (suc (suc (suc (suc (suc k)))))))))))))))))) h = absurd (omega arith)

past_kinds : (k : ℕ) → 17 < k → get_or kind_forms k reserved ≡ reserved
past_kinds k h = get_or_past kind_forms k reserved h

module _ (c : Code) where
  pub by_kind : (c.kind ≡ 0 → ⊥) → form_of (get_or opcodes c.kind 0xdf) ≡ form_for c
  unfolding form_for form_of vector_form pick
  by_kind n =
      either (suc c.kind) 18 (λ h. rw (if-ne c.kind 0) (opcode_form c.kind h)) λ h.
      rw (if-ne c.kind 0, get_or_past opcodes c.kind 0xdf (omega (arith, h))) (sym (past_kinds c.kind (omega (arith, h))))

  module _ (e : c.kind ≡ 0) where
    alloc : form_for c ≡ alloc_form c.offset
    unfolding form_for
    alloc = rw (if-eq c.kind 0)

    pub small : c.offset / 16 < 32 → form_of 0 ≡ form_for c
    unfolding alloc_form form_of short_form pick
    small h = let g : suc (c.offset / 16) ≤ 32 = omega arith in rw alloc (rw (if-le (suc (c.offset / 16)) 32))

    pub middle : 32 ≤ c.offset / 16 → c.offset / 16 < 2048 → form_of 0xc0 ≡ form_for c
    unfolding alloc_form form_of integer_form pick
    middle l h =
        let g : suc (c.offset / 16) ≤ 2048 = omega arith in
        let k : 32 < suc (c.offset / 16) = omega arith in rw alloc (rw (if-gt (suc (c.offset / 16)) 32, if-le (suc (c.offset / 16)) 2048))

    pub large : 2048 ≤ c.offset / 16 → form_of 0xe0 ≡ form_for c
    unfolding alloc_form form_of other_form pick
    large l =
        let g : 2048 < suc (c.offset / 16) = omega arith in
        let k : 32 < suc (c.offset / 16) = omega arith in rw alloc (rw (if-gt (suc (c.offset / 16)) 32, if-gt (suc (c.offset / 16)) 2048))

-- ---- what holds of each form: a computed test of the 18 kinds, and of the allocations

abbrev tests : Form → List Bool
tests f =
    leb 1 f.size ∷ leb f.size 4 ∷ not (eqb f.size 3) ∷ leb f.op 255 ∷ leb f.unit 16777216 ∷ leb 1 f.scale ∷ leb f.scale 16
    ∷ leb f.more 8 ∷ []

passed : (f : Form) → T (chain true (tests f)) → FormGood f
passed f t =
    let g : (k : ℕ) → T (get_or (true ∷ tests f) k true) = λ k. chained true (tests f) k t in
    record {
      some_bytes = leb_yes (g 1);
      few_bytes = leb_yes (g 2);
      not_three = λ e. T_not (eqb f.size 3) (yes_eqb e) (g 3);
      opcode = leb_yes (g 4);
      narrow = leb_yes (g 5);
      scaled = leb_yes (g 6);
      coarse = leb_yes (g 7);
      near = leb_yes (g 8);
    }

abbrev kind_test : ℕ → Bool
kind_test k = chain true (tests (get_or kind_forms k reserved))

kind_tests : T (all_in kind_test 0 18)
unfolding all_in all each
kind_tests = tt

low_good : (k : ℕ) → k < 18 → FormGood (get_or kind_forms k reserved)
low_good k h = passed (get_or kind_forms k reserved) (subst (λ (i : ℕ). T (kind_test i)) (zero-add k) (in_range kind_test 0 18 k kind_tests h))

kind_good : (k : ℕ) → FormGood (get_or kind_forms k reserved)
kind_good k = either (suc k) 18 (low_good k) λ h. rw (past_kinds k (omega (arith, h))) (passed reserved tt)

alloc_good : (size : ℕ) → FormGood (alloc_form size)
unfolding alloc_form
alloc_good size =
    tested (ltb (size / 16) (2 ^ 5)) (λ t. rw (pick_yes (ltb (size / 16) (2 ^ 5)) f_alloc_s (pick (ltb (size / 16) (2 ^ 11)) f_alloc_m f_alloc_l) t) (passed f_alloc_s tt))
    λ t.
    rw (pick_no (ltb (size / 16) (2 ^ 5)) f_alloc_s (pick (ltb (size / 16) (2 ^ 11)) f_alloc_m f_alloc_l) t)
    (tested (ltb (size / 16) (2 ^ 11)) (λ u. rw (pick_yes (ltb (size / 16) (2 ^ 11)) f_alloc_m f_alloc_l u) (passed f_alloc_m tt))
    λ u. rw (pick_no (ltb (size / 16) (2 ^ 11)) f_alloc_m f_alloc_l u) (passed f_alloc_l tt))

pub form_good : (c : Code) → FormGood (form_for c)
unfolding form_for
form_good c =
    tested (eqb c.kind 0) (λ t. rw (pick_yes (eqb c.kind 0) (alloc_form c.offset) (get_or kind_forms c.kind reserved) t) (alloc_good c.offset))
    λ t. rw (pick_no (eqb c.kind 0) (alloc_form c.offset) (get_or kind_forms c.kind reserved) t) (kind_good c.kind)

pub past_last : (k : ℕ) → 17 < k → 0 ≡ get_or last_registers k 0
past_last k h = sym (get_or_past last_registers k 0 h)

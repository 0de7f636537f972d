-- Steps part by part, as the code writes them, and how long they are.
use mathlib.Core.Path.{◌≡◌, refl}
use mathlib.Core.List.{[]}
use mathlib.Core.Logic.{◌≢◌}
use Prim.Native.Nat.{ℕ, zero, suc, ◌+◌, ◌≤◌, ◌<◌}
use native.Mathlib.Omega.{arith}
use lib.ListN.{length}
use Rattle.format.specs.Rows.{step_in, step_form, step_bytes}
use Rattle.rows.specs.Forms.{Meant}
use Rattle.rows.specs.declared.StepForm.TheVariants.{FourBytes}
use Rattle.format.proofs.Choice.{if-le, if-gt, if-eq, if-ne, either}
use Rattle.format.proofs.LebBack.{little-length}

-- ---- a form by a number

-- any number but the first three means four bytes
pub meant_four : (n : ℕ) → n ≢ 0 → n ≢ 1 → n ≢ 2 → Meant n FourBytes
unfolding step_in
meant_four zero a b c = absurd (a refl)
meant_four (suc zero) a b c = absurd (b refl)
meant_four (suc (suc zero)) a b c = absurd (c refl)
meant_four (suc (suc (suc n))) a b c = record { same = λ by. refl; in_opcode = λ e. absurd (omega (arith, e)) }

-- ---- the shortest form

-- where it is, by the size of the step
module _ (by : ℕ) where
  pub form_0 : by ≤ 0x3f → step_form by ≡ 0
  unfolding step_form
  form_0 h = rw (if-le by 0x3f)

  pub form_1 : 0x3f < by → by ≤ 0xff → step_form by ≡ 1
  unfolding step_form
  form_1 a h = rw (if-gt by 0x3f, if-le by 0xff)

  pub form_2 : 0xff < by → by ≤ 0xffff → step_form by ≡ 2
  unfolding step_form
  form_2 a h = let b : 0x3f < by = omega arith in rw (if-gt by 0x3f, if-gt by 0xff, if-le by 0xffff)

  pub form_4 : 0xffff < by → step_form by ≡ 4
  unfolding step_form
  form_4 h = let a : 0x3f < by = omega arith in let b : 0xff < by = omega arith in rw (if-gt by 0x3f, if-gt by 0xff, if-gt by 0xffff)

  -- the form without operand holds the step, and no form is longer than four bytes and the opcode
  pub form_holds : step_form by ≡ 0 → by ≤ 0x3f
  form_holds e =
      either by 0x3f (λ l. l) (λ g. either by 0xff (λ l. absurd (omega (arith, form_1 g l)))
      (λ g'. either by 0xffff (λ l. absurd (omega (arith, form_2 g' l))) (λ g''. absurd (omega (arith, form_4 g'')))))

  pub form-length : (length (step_in (step_form by) by) ≡ 1 + step_form by) × (step_form by ≤ 4)
  unfolding step_in
  form-length =
      either by 0x3f (λ l. rw (form_0 l) (omega arith)) (λ g. either by 0xff (λ l. rw (form_1 g l) (omega (arith, little-length 1 by)))
      (λ g'. either by 0xffff (λ l. rw (form_2 g' l) (omega (arith, little-length 2 by))) (λ g''. rw (form_4 g'') (omega (arith, little-length 4 by)))))

pub step_none : {by : ℕ} → by ≡ 0 → step_bytes by ≡ []
unfolding step_bytes
step_none {by} e = if-eq by 0 [] (step_in (step_form by) by) e

pub step_some : (by : ℕ) → by ≢ 0 → step_bytes by ≡ step_in (step_form by) by
unfolding step_bytes
step_some by h = if-ne by 0 [] (step_in (step_form by) by) h

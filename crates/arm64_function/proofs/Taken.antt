-- What holds of function k of the lists holds of it as the code has taken it out, and the other way.
use mathlib.Core.Path.{◌≡◌, refl, subst, sym, ap, ◌∙◌}
use mathlib.Core.List.{List}
use Prim.Native.Nat.{ℕ, ◌-◌, ◌*◌, ◌^◌, ◌<◌}
use lib.ListN.{length}
use Rattle.format.specs.Lists.{field}
use Rattle.arm64.specs.Lists.{function_stride}
use Rattle.arm64_lists.specs.declared.Lists.{Lists}
use Rattle.arm64_function.specs.declared.Parts.{Parts}
use Rattle.arm64_function.specs.declared.Function.{Function}
use Rattle.arm64_function.specs.Listed.{Fine}
use Rattle.arm64_function.specs.Own.{parts_at}
use Rattle.arm64_function.specs.PackedWord.{Only}
use Rattle.arm64_function.specs.Record.{Whole, record_at}
use Rattle.arm64_function.specs.Function.{Taken, OnlyOne, WholeOf, record_of}
use Rattle.arm64_function.proofs.PackedWord.{only_of}
use Rattle.arm64_function.proofs.Record.{whole}

module _ {x : Lists} {k : ℕ} {f : Function} (t : Taken x k f) where
  abbrev es : List ℕ
  es = x.epilogues.now

  abbrev cs : List ℕ
  cs = x.codes.now

  abbrev parts : Parts
  parts = parts_at x.functions.now k

  abbrev size : ℕ
  size = field function_stride x.functions.now k 1

  pub taken : (C : (es cs : List ℕ) → Parts → (size : ℕ) → Type 0) → C es cs parts size → C f.epilogues.now f.codes.now f.parts f.size
  taken C h =
      subst (λ y. C y f.codes.now f.parts f.size) (sym t.epilogues)
      (subst (λ y. C es y f.parts f.size) (sym t.codes) (subst (λ y. C es cs y f.size) (sym t.parts) (subst (λ (y : ℕ). C es cs parts y) (sym t.size) h)))

  pub given : (C : (es cs : List ℕ) → Parts → (size : ℕ) → Type 0) → C f.epilogues.now f.codes.now f.parts f.size → C es cs parts size
  given C h =
      subst (λ (y : ℕ). C es cs parts y) t.size
      (subst (λ y. C es cs y f.size) t.parts (subst (λ y. C es y f.parts f.size) t.codes (subst (λ y. C y f.codes.now f.parts f.size) t.epilogues h)))

  pub one_given : f.parts.end - f.parts.first ≡ 1 → parts.end - parts.first ≡ 1
  one_given e = sym (ap (λ y. y.end - y.first) t.parts) ∙ e

  module _ (h : Fine x.functions.now es cs k) (short : length cs * 8 < 2 ^ 63) where
    pub only_taken : f.parts.end - f.parts.first ≡ 1 → OnlyOne f
    only_taken e = taken Only (only_of h short (one_given e))

    pub whole_taken : WholeOf f
    whole_taken = taken Whole (whole h short)

  pub record_taken : record_of f ≡ record_at es cs parts size
  record_taken = given (λ a b c n. record_of f ≡ record_at a b c n) refl

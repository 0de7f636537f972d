-- How many bytes a code has.
use mathlib.Core.Path.{◌≡◌, refl, ◌∙◌}
use mathlib.Core.List.{[], ◌∷◌}
use Prim.Native.Nat.{ℕ, zero, suc, ◌/◌, ◌%◌}
use native.Mathlib.Omega.{arith}
use lib.ListN.{length, length-append}
use Rattle.arm64.specs.declared.Code.{Code}
use Rattle.arm64.specs.Codes.{big, form_for, spelled, code_bytes}

pub big-length : (k n : ℕ) → length (big k n) ≡ k
unfolding big
big-length zero n = refl
big-length (suc k) n = length-append (big k (n / 256)) (n % 256 ∷ []) ∙ (let e : length (big k (n / 256)) ≡ k = big-length k (n / 256) in omega (arith, e))

pub code-length : (c : Code) → length (code_bytes c) ≡ (form_for c).size
unfolding code_bytes spelled
code-length c = big-length (form_for c).size _

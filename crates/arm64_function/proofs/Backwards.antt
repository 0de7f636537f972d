-- What a range gives backwards.
use mathlib.Core.Path.{◌≡◌, ◌∙◌}
use mathlib.Core.List.{List, [], ◌∷◌}
use Prim.Native.Nat.{ℕ, zero, suc, ◌+◌, ◌-◌}
use native.Mathlib.Omega.{arith}
use Rattle.std.specs.Iterator.{AlwaysYields}
use Rattle.std.specs.declared.ops.Range.{Range}
use Rattle.std.specs.declared.iter.Rev.{Rev}
use Rattle.std.specs.Iterator.Adapters.{rev_source, rev_steps}
use Rattle.std.specs.Range.{range_steps_back}
use Rattle.std.proofs.lemmas.Iterator.{YieldsList}

-- n numbers from a on, the last first
abbrev pub backwards_from : (a n : ℕ) → List ℕ
backwards_from a zero = []
backwards_from a (suc n) = (a + n) ∷ backwards_from a n

module _ {gap : ℕ → ℕ → ℕ} {follows : ℕ → ℕ → Type 0} (g : (a b : ℕ) → gap a b ≡ b - a) (f : (a b : ℕ) → follows a b → b ≡ a + 1) where
  gives : (a n : ℕ) (s : Rev (Range ℕ)) → (rev_source s).start ≡ a → (rev_source s).end ≡ a + n → AlwaysYields (rev_steps (range_steps_back gap follows)) (λ (x : ℕ). x) s (backwards_from a n)
  gives a zero s b e = λ x j t. omega (arith, t.1.0, g (rev_source s).start (rev_source s).end, b, e)
  gives a (suc n) s b e = (
    λ j t. omega (arith, t.1.0, g (rev_source s).start (rev_source s).end, b, e),
    λ x j t.
        let l : (rev_source j).end ≡ a + n = omega (arith, f (rev_source j).end (rev_source s).end t.1.2, e) in
        (t.1.1 ∙ l, gives a n j (t.0 ∙ b) l),
  )

  pub range_back : {s : Rev (Range ℕ)} (a n : ℕ) → (rev_source s).start ≡ a → (rev_source s).end ≡ a + n → YieldsList (rev_steps (range_steps_back gap follows)) (λ (x : ℕ). x) s (backwards_from a n)
  range_back {s} a n b e = record { runs = gives a n s b e }

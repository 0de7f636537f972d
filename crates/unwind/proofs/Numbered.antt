-- A number and the format that it names.
use mathlib.Core.Path.{◌≡◌}
use Prim.Native.Nat.{ℕ, ◌<◌}
use Rattle.std.specs.Prelude.{Result, Ok, Err}
use Rattle.std.proofs.lemmas.Result.{MatchResult-at_ok, MatchResult-at_err}
use Rattle.format.specs.declared.question.Question.{Question}
use Rattle.format.specs.declared.question.Question.TheVariants.{Interface}
use Rattle.unwind.specs.declared.object.Format.{Format}
use Rattle.unwind.specs.Formats.{format_number, Named}

-- what the format of a number says of it
module _ {n : ℕ} {r : Result Format Question} (d : Named n r) where
  pub named : {f : Format} → r ≡ Ok f → n ≡ format_number f
  named {f} e = MatchResult-at_ok (λ f. n ≡ format_number f) (λ q. (q ≡ Interface) × (4 < n)) f e d

  pub unnamed : {q : Question} → r ≡ Err q → (q ≡ Interface) × (4 < n)
  unnamed {q} e = MatchResult-at_err (λ f. n ≡ format_number f) (λ q. (q ≡ Interface) × (4 < n)) q e d

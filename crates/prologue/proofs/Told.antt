-- What an answer in the code's type says of the definition's.
use mathlib.Core.Path.{◌≡◌}
use Rattle.std.specs.Prelude.{Ok, Err}
use Rattle.std.specs.Prelude as code
use Rattle.format.specs.Prelude.{Result, good, bad}
use Rattle.format.specs.Coded.{result_of, numbered}
use Rattle.format.specs.Numbers.{number_of}
use Rattle.format.specs.declared.question.Question.{Question}

module _ {A : Type 0} (r : Result A) {answer : code.Result A Question} where
  pub ok_of : {a : A} → answer ≡ Ok a → numbered answer ≡ result_of r → r ≡ good a
  ok_of {a = a} f e = told r (rw f at e)
    where
      told : (x : Result A) → Ok a ≡ result_of x → x ≡ good a
      told (good b) e = cc
      told (bad n) e = cc

  pub err_of : {q : Question} → answer ≡ Err q → numbered answer ≡ result_of r → r ≡ bad (number_of q)
  err_of {q = q} f e = told r (rw f at e)
    where
      told : (x : Result A) → ◌≡◌ {A = _} (Err (number_of q)) (result_of x) → x ≡ bad (number_of q)
      told (good b) e = cc
      told (bad n) e = cc

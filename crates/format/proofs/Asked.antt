-- What the inner functions that ask questions promise.
use mathlib.Core.Path.{◌≡◌, refl}
use Prim.Native.Nat.{ℕ}
use native.Mathlib.Omega.{arith}
use mathlib.Core.Option.{Option, none, some}
use Rattle.std.specs.Prelude.{Some, None, Ok, Err}
use Rattle.std.specs.Prelude as code
use Rattle.std.specs.Option.{ok_or}
use Rattle.format.specs.Questions.{is_some}

-- a value, where there is one, as the code has it
abbrev pub option_of : {A : Type 0} → Option A → code.Option A
option_of none = None
option_of (some a) = Some a

-- what a function that asks questions answers
abbrev pub Asked : Type 0
Asked = code.Result Unit (ℕ × ℕ)

-- what a function that asks answers, by what the definition answers: yes, or the number and the position of the first no
unfoldable pub question_of : Option (ℕ × ℕ) → Asked
question_of none = Ok tt
question_of (some x) = Err x

pub said_yes : (o : Option (ℕ × ℕ)) → question_of o ≡ Ok tt → o ≡ none
unfolding question_of
said_yes none e = refl
said_yes (some r) e = let z : ◌≡◌ {A = ℕ} 0 1 = cc in absurd (omega arith)

-- a no is the question's
pub said_no : (o : Option (ℕ × ℕ)) {r : ℕ × ℕ} → question_of o ≡ Err r → o ≡ some r
unfolding question_of
said_no none e = let z : ◌≡◌ {A = ℕ} 0 1 = cc in absurd (omega arith)
said_no (some x) e = cc

-- which value of the definitions the code's is
pub none_is : {A : Type 0} (o : Option A) → option_of o ≡ None → o ≡ none
none_is none e = refl
none_is (some a) e = absurd cc

pub value_is : {A : Type 0} (o : Option A) {a : A} → option_of o ≡ Some a → o ≡ some a
value_is none e = absurd cc
value_is (some b) e = cc

pub some_is : (o : Option ℕ) → code.is_some (option_of o) ≡ is_some o
unfolding is_some
some_is none = refl
some_is (some n) = refl

-- what stands in front of a `?`: the value that was there, or that there was none and by what is refused
pub given : {A Q : Type 0} (o : code.Option A) (q : Q) {x : A} → ok_or o q ≡ Ok x → o ≡ Some x
given None q e = absurd cc
given (Some y) q e = cc

pub lacking : {A Q : Type 0} (o : code.Option A) (q : Q) {e : Q} → ok_or o q ≡ Err e → (o ≡ None) × (q ≡ e)
lacking None q e = (refl, cc)
lacking (Some y) q e = absurd cc

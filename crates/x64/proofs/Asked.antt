-- Questions asked function by function, up to the first no, and the answer that they lead to.
use mathlib.Core.Path.{◌≡◌, refl, sym, ap, ◌∙◌}
use Prim.Native.Nat.{ℕ, zero, suc, ◌+◌, ◌-◌, ◌≤◌, ◌<◌}
use native.Mathlib.Omega.{arith}
use native.Mathlib.Numerals.{add-one}
use mathlib.Core.Option.{Option, none, some}
use Rattle.format.proofs.Asked.{question_of, Asked}
use Rattle.std.specs.Prelude.{Ok, Err}
use Rattle.format.specs.Questions.{Question, and_then, no_at}
use Rattle.codes.specs.Codes.{yes_or_no}
use Rattle.std.specs.Prelude as code
use Rattle.x64.specs.Answers.{refused_at, ask_each}

-- ---- one answer

pub then_err : (q p : Question) {x : Asked} {r : ℕ × ℕ} → x ≡ question_of q → x ≡ Err r → Err r ≡ question_of (and_then q p)
unfolding question_of and_then
then_err none p {x} {r} e y = let z : ◌≡◌ {A = Asked} (Ok tt) (Err r) = sym e ∙ y in cc
then_err (some x) p e y = sym y ∙ e

-- of function k: a no with its position, and a yes
pub no_with : (o : Option ℕ) (k : ℕ) {a : code.Result Unit ℕ} {x : Asked} → x ≡ refused_at k a → a ≡ yes_or_no o → x ≡ question_of (no_at k o)
unfolding yes_or_no no_at question_of
no_with none k e g = rw (e, g)
no_with (some n) k e g = rw (e, g)

no_none : (o : Option ℕ) (k : ℕ) → question_of (no_at k o) ≡ Ok tt → o ≡ none
unfolding no_at question_of
no_none none k e = refl
no_none (some n) k e = cc

-- ---- function by function

-- at function k of n, what is left decides
pub record Passing (f : ℕ → Option ℕ) (n k : ℕ) : Type 0 where
  pub high : k ≤ n
  pub rest : ask_each f 0 n ≡ ask_each f k (n - k)

pub start : (f : ℕ → Option ℕ) (n : ℕ) → Passing f n 0
start f n = record { high = omega arith; rest = let e : n ≡ n - 0 = omega arith in ap (ask_each f 0) e }

module _ {f : ℕ → Option ℕ} {n k : ℕ} (a : Passing f n k) where
  here : k < n → ask_each f 0 n ≡ and_then (no_at k (f k)) (ask_each f (k + 1) (n - (k + 1)))
  unfolding ask_each
  here h =
      let e : n - k ≡ suc (n - suc k) = omega arith in
      a.rest ∙ rw (add-one k, e)

  module _ {x : Asked} (h : k < n) (e : x ≡ question_of (no_at k (f k))) where
    pub turn : x ≡ Ok tt → Passing f n (k + 1)
    unfolding no_at and_then
    turn z = record { high = omega arith; rest = here h ∙ rw (no_none (f k) k (sym e ∙ z)) }

    pub stopped : {r : ℕ × ℕ} → x ≡ Err r → Err r ≡ question_of (ask_each f 0 n)
    stopped z = rw (here h) (then_err _ _ e z)

  pub ended : n ≤ k → ask_each f 0 n ≡ none
  unfolding ask_each
  ended h =
      let e : n - k ≡ 0 = omega arith in
      a.rest ∙ rw e

-- ---- pass by pass

module _ (a b c : Question) where
  pub first_err : {r : ℕ × ℕ} → Err r ≡ question_of a → Err r ≡ question_of (and_then a (and_then b c))
  first_err e = then_err a (and_then b c) refl (sym e)

  module _ (h : a ≡ none) where
    pub second_err : {r : ℕ × ℕ} → Err r ≡ question_of b → Err r ≡ question_of (and_then a (and_then b c))
    unfolding and_then
    second_err e = rw h (then_err b c refl (sym e))

    module _ (g : b ≡ none) where
      pub third_err : {r : ℕ × ℕ} → Err r ≡ question_of c → Err r ≡ question_of (and_then a (and_then b c))
      unfolding and_then
      third_err e = rw (h, g) e

      pub all_yes : c ≡ none → Ok tt ≡ question_of (and_then a (and_then b c))
      unfolding and_then question_of
      all_yes e = rw (h, g, e)

both : (o : Option ℕ) (at : ℕ) (q : Question) → and_then (no_at at o) q ≡ none → (o ≡ none) × (q ≡ none)
unfolding and_then no_at
both none at q e = (refl, e)
both (some r) at q e = let z : ◌≡◌ {A = ℕ} 0 1 = cc in absurd (omega arith)

-- a yes to all is a yes to each
each_from : (f : ℕ → Option ℕ) (at n k : ℕ) → ask_each f at n ≡ none → k < n → f (at + k) ≡ none
unfolding ask_each
each_from f at zero k e h = absurd (omega arith)
each_from f at (suc n) zero e h = let z : at + 0 ≡ at = omega arith in rw z (both (f at) at (ask_each f (suc at) n) e).0
each_from f at (suc n) (suc k) e h =
    let z : at + suc k ≡ suc at + k = omega arith in
    rw z (each_from f (suc at) n k (both (f at) at (ask_each f (suc at) n) e).1 (omega arith))

pub each_yes : (f : ℕ → Option ℕ) (n : ℕ) → ask_each f 0 n ≡ none → (k : ℕ) → k < n → f k ≡ none
each_yes f n e k h = let z : 0 + k ≡ k = omega arith in rw z at (each_from f 0 n k e h)

-- Questions 21 to 25 asked function by function, up to the first no.
use mathlib.Core.Path.{◌≡◌, refl, sym, ap, ◌∙◌}
use Prim.Native.Nat.{ℕ, zero, suc, ◌+◌, ◌-◌, ◌^◌, ◌≤◌, ◌<◌}
use native.Mathlib.Omega.{arith}
use native.Mathlib.Numerals.{add-one}
use mathlib.Core.Option.{none, some}
use mathlib.Core.List.{[]}
use mathlib.Core.Bool.{Bool, true, ◌&&◌}
use lib.Dec.{ltb}
use Rattle.std.specs.List.{range_with_len, list_all}
use Rattle.format.specs.Prelude.{all, each, pick}
use Rattle.format.proofs.Asked.{question_of, said_yes, Asked}
use Rattle.std.specs.Prelude.{Ok, Err}
use Rattle.format.specs.Questions.{Question, ask, and_then, size_bytes, encodings_ok, steps_ok, pairs_ok, dwarf_asks, per_function}
use Rattle.format.proofs.Accepted.{and_then_assoc}
use Rattle.lists.specs.declared.Extent.{Extent}
use Rattle.lists.specs.Extents.{meant}
use Rattle.header_keys.specs.Functions.{body_of}
use Rattle.header_keys.specs.Inputs.{Inputs, rows_of}
use Rattle.dwarf.specs.Asks.{lines_asks, whole_in}

-- ---- one answer

pub said_no : (o p : Question) {r : ℕ × ℕ} → question_of o ≡ Err r → question_of (and_then o p) ≡ question_of o
unfolding question_of and_then
said_no none p e = let z : ◌≡◌ {A = ℕ} 0 1 = cc in absurd (omega arith)
said_no (some r) p e = refl

then_none : {p : Question} → and_then none p ≡ p
unfolding and_then
then_none = refl

-- ---- those of one function

-- a function that passes 21 and 22
module _ (x : Inputs) (k : ℕ) (e : Extent) (a : ltb e.length (256 ^ size_bytes x.section x.machine.word) ≡ true)
    (b : encodings_ok x.machine.word (body_of e []).landings (body_of e []).named ≡ true) where
  abbrev last : Question
  last = ask (pairs_ok (meant e [] [] x.pairs).relaxed) 25 k

  lines_first : dwarf_asks x.section x.machine.word k (meant e x.rows [] x.pairs) ≡ and_then (lines_asks x k e) last
  unfolding dwarf_asks lines_asks meant ask and_then pick
  lines_first = rw (a, b) (and_then_assoc (ask (steps_ok 0 (rows_of x e)) 23 k) (ask (whole_in x e) 24 k) last)

  module _ {q : Asked} (c : q ≡ question_of (lines_asks x k e)) where
    pub lines_no : {r : ℕ × ℕ} → q ≡ Err r → Err r ≡ question_of (dwarf_asks x.section x.machine.word k (meant e x.rows [] x.pairs))
    lines_no n = rw lines_first (rw (said_no (lines_asks x k e) last (sym c ∙ n)) (sym n ∙ c))

    pub lines_yes : q ≡ Ok tt → dwarf_asks x.section x.machine.word k (meant e x.rows [] x.pairs) ≡ last
    lines_yes y = rw (lines_first, said_yes (lines_asks x k e) (sym c ∙ y)) then_none

-- ---- those of all functions

module _ {A : Type 0} where
  -- at record k of n, what is left decides
  pub record Asking (ask : ℕ → A → Question) (f : ℕ → A) (n k : ℕ) : Type 0 where
    pub high : k ≤ n
    pub rest : per_function ask 0 (each f 0 n) ≡ per_function ask k (each f k (n - k))

  pub start : (ask : ℕ → A → Question) (f : ℕ → A) (n : ℕ) → Asking ask f n 0
  start ask f n = record { high = omega arith; rest = let e : n ≡ n - 0 = omega arith in ap (λ (i : ℕ). per_function ask 0 (each f 0 i)) e }

  module _ {ask : ℕ → A → Question} {f : ℕ → A} {n k : ℕ} (a : Asking ask f n k) where
    here : k < n → per_function ask 0 (each f 0 n) ≡ and_then (ask k (f k)) (per_function ask (k + 1) (each f (k + 1) (n - (k + 1))))
    unfolding per_function each
    here h =
        let e : n - k ≡ suc (n - suc k) = omega arith in
        a.rest ∙ rw (add-one k, e)

    module _ {q : Asked} (h : k < n) (e : q ≡ question_of (ask k (f k))) where
      pub turn : q ≡ Ok tt → Asking ask f n (k + 1)
      turn y = record { high = omega arith; rest = here h ∙ rw (said_yes (ask k (f k)) (sym e ∙ y)) then_none }

      pub stopped : {r : ℕ × ℕ} → q ≡ Err r → q ≡ question_of (per_function ask 0 (each f 0 n))
      stopped y = e ∙ (sym (said_no (ask k (f k)) _ (sym e ∙ y)) ∙ sym (ap question_of (here h)))

    pub ended : n ≤ k → Ok tt ≡ question_of (per_function ask 0 (each f 0 n))
    unfolding per_function each question_of
    ended h =
        let e : n - k ≡ 0 = omega arith in
        sym (ap question_of a.rest ∙ rw e)

-- a test of each value over a range, asked by `all` of an iterator over the range
pub all_each_range : {A : Type 0} (test : A → Bool) (f : ℕ → A) (at n : ℕ) → list_all (λ i. test (f i)) (range_with_len at n) ≡ all test (each f at n)
unfolding all each
all_each_range test f at zero = refl
all_each_range test f at (suc n) = rw (add-one at) (ap (λ b. test (f at) && b) (all_each_range test f (suc at) n))

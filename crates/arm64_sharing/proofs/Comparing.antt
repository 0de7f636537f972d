-- Two runs compared code by code.
use mathlib.Core.Path.{◌≡◌, refl, sym, ap, ◌∙◌}
use mathlib.Core.Bool.{Bool, true, false, ◌&&◌}
use mathlib.Core.List.{List, [], ◌∷◌}
use Prim.Native.Nat.{ℕ, suc, ◌+◌, ◌-◌, ◌≤◌, ◌<◌}
use native.Mathlib.Omega.{arith}
use lib.ListN.{length}
use Rattle.std.proofs.lemmas.Bool.{and_right}
use Rattle.format.specs.Prelude.{each}
use Rattle.format.proofs.ListLaws.{each_next}
use Rattle.arm64.specs.declared.Code.{Code}
use Rattle.arm64.specs.Runs.{no_pair, same_code, same_codes, simple, pair_behind, simplify, leads}
use Rattle.arm64.proofs.MeaningLaws.{equal}
use Rattle.arm64_simple.specs.declared.Run.{Run}
use Rattle.arm64_simple.specs.declared.Step.{Step}
use Rattle.arm64_simple.specs.Saves.{saved_at, saves}
use Rattle.arm64_simple.specs.Steps.{steps}
use Rattle.arm64_simple.proofs.Loops.{rest_start, steps-length, saves-length}
use Rattle.arm64.proofs.PackedBack.{simplify-length}

-- ---- step by step

-- a run's steps and the codes of another: each is written alike behind the step's pair
pub agree : List Step → List Code → Bool
agree [] ds = true
agree (s ∷ ss) [] = false
agree (s ∷ ss) (d ∷ ds) = same_code s.written (simple s.before d) && agree ss ds

and_where : (t a b : Bool) → (t ≡ true → a ≡ b) → (t && a) ≡ (t && b)
and_where true a b f = f refl
and_where false a b f = refl

-- the pair before is the same in both while their codes are
agree_steps : (b : Code) (cs ds : List Code) → agree (steps b cs) ds ≡ leads (simplify b cs) (simplify b ds)
unfolding agree steps simplify leads
agree_steps b [] ds = refl
agree_steps b (c ∷ cs) [] = refl
agree_steps b (c ∷ cs) (d ∷ ds) =
    and_where (same_code (simple b c) (simple b d)) _ _ λ e.
    agree_steps (pair_behind b (simple b c)) cs ds
    ∙ ap (λ x. leads (simplify (pair_behind b (simple b c)) cs) (simplify (pair_behind b x) ds))
    (equal (simple b c) (simple b d) e)

-- a run's codes from the j-th on
abbrev pub codes_from : List ℕ → Run → ℕ → List Code
codes_from ds o j = each (saved_at ds o) j (o.count - j)

-- of the steps of a run of n codes those of `left` are still to be compared,
-- with the other's codes from the j-th on
pub record Agreeing (whole : Bool) (ds : List ℕ) (o : Run) (n : ℕ) (left : List Step) (j : ℕ) : Type 0 where
  pub count : j + length left ≡ n
  pub same : agree left (codes_from ds o j) ≡ whole

pub agreeing_start : (cs ds : List ℕ) (r o : Run) {left : List Step} → left ≡ steps no_pair (saves cs r)
    → Agreeing (leads (simplify no_pair (saves cs r)) (simplify no_pair (saves ds o))) ds o r.count left 0
agreeing_start cs ds r o {left} e =
    let n : length left ≡ r.count
    = ap length e ∙ steps-length no_pair (saves cs r) ∙ saves-length cs r in
    record {
      count = omega (arith, n);
      same = ap (λ ss. agree ss (codes_from ds o 0)) e
          ∙ ap (agree (steps no_pair (saves cs r))) (rest_start ds o)
          ∙ agree_steps no_pair (saves cs r) (saves ds o);
    }

module _ {t : Bool} {ds : List ℕ} {o : Run} {n j : ℕ} {left : List Step} (a : Agreeing t ds o n left j)
  where
    module _ {later : List Step} {s : Step} (e : left ≡ s ∷ later) where
      more : suc (length later) + j ≡ n
      more = let l = ap length e in omega (arith, l, a.count)

      pub agreeing_low : j < n
      agreeing_low = omega (arith, more)

      module _ {d w : Code} (h : n ≤ o.count) (f : d ≡ saved_at ds o j) (g : w ≡ simple s.before d) where
        cut : (same_code s.written w && agree later (codes_from ds o (j + 1))) ≡ t
        unfolding agree
        cut =
            ap (λ x. same_code s.written x && agree later (codes_from ds o (j + 1)))
            (g ∙ ap (simple s.before) f)
            ∙ sym (ap (agree (s ∷ later)) (each_next (saved_at ds o) o.count j (omega (arith, more, h))))
            ∙ sym (ap (λ ss. agree ss (codes_from ds o j)) e)
            ∙ a.same

        pub agreeing_stopped : same_code s.written w ≡ false → false ≡ t
        agreeing_stopped k = sym (ap (λ b. b && agree later (codes_from ds o (j + 1))) k) ∙ cut

        pub agreeing_turn : same_code s.written w ≡ true → Agreeing t ds o n later (j + 1)
        agreeing_turn k =
            record {
              count = omega (arith, more);
              same = sym (ap (λ b. b && agree later (codes_from ds o (j + 1))) k) ∙ cut;
            }

    pub agreeing_ended : left ≡ [] → true ≡ t
    unfolding agree
    agreeing_ended e = sym (ap (λ ss. agree ss (codes_from ds o j)) e) ∙ a.same

-- ---- by lengths

pub written_length : (cs : List ℕ) (r : Run) → length (simplify no_pair (saves cs r)) ≡ r.count
written_length cs r = simplify-length no_pair (saves cs r) ∙ saves-length cs r

long_no : (xs ys : List Code) → length ys < length xs → leads xs ys ≡ false
unfolding leads
long_no [] ys h = absurd (omega arith)
long_no (x ∷ xs) [] h = refl
long_no (x ∷ xs) (y ∷ ys) h = and_right (same_code x y) (leads xs ys) (long_no xs ys (omega arith))

pub longer : (cs ds : List ℕ) (r o : Run) → o.count < r.count → false ≡ leads (simplify no_pair (saves cs r)) (simplify no_pair (saves ds o))
longer cs ds r o h = sym (long_no _ _ (omega (arith, written_length cs r, written_length ds o)))

equal_length : (xs ys : List Code) → length xs ≡ length ys → leads xs ys ≡ same_codes xs ys
unfolding leads same_codes
equal_length [] [] h = refl
equal_length [] (y ∷ ys) h = absurd (omega arith)
equal_length (x ∷ xs) [] h = absurd (omega arith)
equal_length (x ∷ xs) (y ∷ ys) h = ap (λ t. same_code x y && t) (equal_length xs ys (omega arith))

other_length : (xs ys : List Code) → (length xs ≡ length ys → ⊥) → same_codes xs ys ≡ false
unfolding same_codes
other_length [] [] h = absurd (h refl)
other_length [] (y ∷ ys) h = refl
other_length (x ∷ xs) [] h = refl
other_length (x ∷ xs) (y ∷ ys) h = and_right (same_code x y) (same_codes xs ys) (other_length xs ys (λ e. h (ap suc e)))

pub counts_equal : (cs ds : List ℕ) (r o : Run) → r.count ≡ o.count
    → leads (simplify no_pair (saves cs r)) (simplify no_pair (saves ds o)) ≡ same_codes (simplify no_pair (saves cs r)) (simplify no_pair (saves ds o))
counts_equal cs ds r o e = equal_length _ _ (written_length cs r ∙ e ∙ sym (written_length ds o))

pub counts_differ : (cs ds : List ℕ) (r o : Run) → (r.count ≡ o.count → ⊥)
    → false ≡ same_codes (simplify no_pair (saves cs r)) (simplify no_pair (saves ds o))
counts_differ cs ds r o n = sym (other_length _ _ (λ e. n (sym (written_length cs r) ∙ e ∙ written_length ds o)))

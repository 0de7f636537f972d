-- The codes of a run step by step.
use mathlib.Core.Path.{◌≡◌, refl, sym, ap, ◌∙◌}
use mathlib.Core.Bool.{true, false, ◌&&◌}
use mathlib.Core.List.{List, [], ◌∷◌, map}
use Prim.Native.Nat.{ℕ, suc, ◌+◌, ◌-◌, ◌*◌, ◌≤◌}
use native.Mathlib.Omega.{arith}
use lib.ListN.{length, length-append}
use Rattle.std.specs.List.{list_all}
use Rattle.std.proofs.lemmas.Bool.{and_parts}
use Rattle.format.specs.Prelude.{each}
use Rattle.format.proofs.ListLaws.{each_next, each_none, each-length}
use Rattle.arm64.specs.declared.Code.{Code}
use Rattle.arm64.specs.Codes.{code_bytes, code_fits, form_for, register_fits}
use Rattle.arm64.specs.Runs.{no_pair, shorter, resolved, simple, pair_behind, simplify, resolve, simple_fits, run_fits, backwards}
use Rattle.arm64_simple.specs.declared.Run.{Run}
use Rattle.arm64_simple.specs.declared.Step.{Step}
use Rattle.arm64_simple.specs.Saves.{saved_at, saves}
use Rattle.arm64_simple.specs.Steps.{steps, step_fits}

all_of : (f : ℕ → Code) (n : ℕ) → each f 0 n ≡ each f 0 (n - 0)
all_of f n = let e : n ≡ n - 0 = omega arith in ap (each f 0) e

-- ---- the next step

module _ (cs : List ℕ) (r : Run) where
  -- what is still to be saved
  abbrev rest : ℕ → List Code
  rest j = each (saved_at cs r) j (r.count - j)

  pub rest_start : rest 0 ≡ saves cs r
  unfolding saves
  rest_start = sym (all_of (saved_at cs r) r.count)

  pub steps_none : (b : Code) {j : ℕ} → j ≡ r.count → steps b (rest j) ≡ []
  unfolding steps
  steps_none b {j} e = ap (steps b) (each_none (saved_at cs r) r.count j (omega (arith, e)))

  pub steps_next : {b c d w : Code} {j : ℕ} → j ≤ r.count → (j ≡ r.count → ⊥) → c ≡ saved_at cs r j → w ≡ simple b c → d ≡ pair_behind b w
      → steps b (rest j) ≡ record { before = b; given = c; written = w } ∷ steps d (rest (j + 1))
  unfolding steps
  steps_next {b} {c} {d} {w} {j} h n e f g =
      ap (steps b) (each_next (saved_at cs r) r.count j (omega (arith, h, n)) ∙ ap (λ x. x ∷ rest (j + 1)) (sym e))
      ∙ ap (λ x. record { before = b; given = c; written = x } ∷ steps (pair_behind b x) (rest (j + 1))) (sym f)
      ∙ ap (λ x. record { before = b; given = c; written = w } ∷ steps x (rest (j + 1))) (sym g)

-- ---- what all steps are

pub steps-length : (b : Code) (cs : List Code) → length (steps b cs) ≡ length cs
unfolding steps
steps-length b [] = refl
steps-length b (c ∷ cs) = ap suc (steps-length (pair_behind b (simple b c)) cs)

pub saves-length : (cs : List ℕ) (r : Run) → length (saves cs r) ≡ r.count
unfolding saves
saves-length cs r = each-length (saved_at cs r) 0 r.count

abbrev pub written : List Step → List Code
written ss = map (λ s. s.written) ss

pub written_all : (b : Code) (cs : List Code) → written (steps b cs) ≡ simplify b cs
unfolding steps simplify
written_all b [] = refl
written_all b (c ∷ cs) = ap (λ x. simple b c ∷ x) (written_all (pair_behind b (simple b c)) cs)

-- SaveNexts as the pairs that they save
abbrev pub resolves : List Step → List Code
resolves ss = map (λ s. resolved s.before s.written) ss

pub resolves_all : (b : Code) (cs : List Code) → resolves (steps b cs) ≡ resolve b (simplify b cs)
unfolding steps simplify resolve
resolves_all b [] = refl
resolves_all b (c ∷ cs) = ap (λ x. resolved b (simple b c) ∷ x) (resolves_all (pair_behind b (simple b c)) cs)

-- ---- question 83

pub fits_yes : (s : Step) → register_fits (form_for (shorter s.given)) (shorter s.given) ≡ true → code_fits s.written ≡ step_fits s
unfolding step_fits
fits_yes s e = simp e

pub fits_no : (s : Step) → register_fits (form_for (shorter s.given)) (shorter s.given) ≡ false → false ≡ step_fits s
unfolding step_fits
fits_no s e = simp e

pub fits_code : (s : Step) → step_fits s ≡ true → code_fits s.written ≡ true
unfolding step_fits
fits_code s e = (and_parts (register_fits (form_for (shorter s.given)) (shorter s.given)) (code_fits s.written) e).1

pub fits_all : (b : Code) (cs : List Code) → list_all step_fits (steps b cs) ≡ run_fits b cs
unfolding steps step_fits run_fits simple_fits
fits_all b [] = refl
fits_all b (c ∷ cs) = ap (λ x. simple_fits b c && x) (fits_all (pair_behind b (simple b c)) cs)

-- ---- sizes

pub record Sizing (whole count : ℕ) (left : List Step) (size : ℕ) : Type 0 where
  pub few : size + 4 * length left ≤ 4 * count
  pub same : whole ≡ size + length (backwards (written left))

pub sizing_start : (cs : List ℕ) (r : Run) {left : List Step} → left ≡ steps no_pair (saves cs r)
    → Sizing (length (backwards (simplify no_pair (saves cs r)))) r.count left 0
sizing_start cs r {left} e =
    let n : length left ≡ r.count = ap length e ∙ steps-length no_pair (saves cs r) ∙ saves-length cs r in
    let g : length (backwards (simplify no_pair (saves cs r))) ≡ length (backwards (written left))
    = ap (λ x. length (backwards x)) (sym (ap written e ∙ written_all no_pair (saves cs r))) in
    record { few = omega (arith, n); same = omega (arith, g) }

pub sizing_turn : {whole count size n : ℕ} {left later : List Step} {s : Step} → Sizing whole count left size → left ≡ s ∷ later
    → n ≡ length (code_bytes s.written) → n ≤ 4 → Sizing whole count later (size + n)
unfolding backwards
sizing_turn {whole} {count} {size} {n} {left} {later} {s} z e g h =
    let l : length left ≡ suc (length later) = ap length e in
    let m : length (backwards (written left)) ≡ length (backwards (written later)) + length (code_bytes s.written)
    = ap (λ x. length (backwards (written x))) e ∙ length-append (backwards (written later)) (code_bytes s.written) in
    record { few = omega (arith, z.few, l, h); same = omega (arith, z.same, m, g) }

pub sizing_ended : {whole count size : ℕ} {left : List Step} → Sizing whole count left size → left ≡ [] → (size ≡ whole) × (size ≤ 4 * count)
unfolding backwards
sizing_ended {whole} {count} {size} {left} z e =
    let m : length (backwards (written left)) ≡ 0 = ap (λ x. length (backwards (written x))) e in (omega (arith, z.same, m), omega (arith, z.few))

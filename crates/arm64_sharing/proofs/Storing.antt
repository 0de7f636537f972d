-- A run's codes stored from the back: what the loop knows at a turn.
use mathlib.Core.Path.{◌≡◌, refl, sym, ap, ◌∙◌}
use mathlib.Core.Bool.{true}
use mathlib.Core.List.{List, [], ◌∷◌, ◌++◌}
use Prim.Native.Nat.{ℕ, ◌+◌, ◌-◌, ◌≤◌}
use native.Mathlib.Omega.{arith}
use lib.ListN.{length, length-append}
use Rattle.std.specs.List.{list_all}
use Rattle.std.proofs.lemmas.Bool.{and_parts}
use Rattle.format.specs.Put.{put}
use Rattle.format.proofs.Wrote.{Wrote}
use Rattle.format.proofs.PutLaws.{put-append, kept, put-in_front}
use Rattle.arm64.specs.declared.Code.{Code}
use Rattle.arm64.specs.Codes.{code_bytes, code_fits}
use Rattle.arm64.specs.Runs.{no_pair, simplify, run_fits, backwards, run_bytes}
use Rattle.arm64_simple.specs.declared.Run.{Run}
use Rattle.arm64_simple.specs.declared.Step.{Step}
use Rattle.arm64_simple.specs.Saves.{saves}
use Rattle.arm64_simple.specs.Steps.{steps, step_fits}
use Rattle.arm64_simple.proofs.Loops.{written, written_all, fits_all, fits_code}

-- xs₀ is xs by now; of the run's bytes those of the codes that are left are still to be stored, from `at` to `to`
pub record Putting (whole xs₀ xs : List ℕ) (at to : ℕ) (left : List Step) : Type 0 where
  pub same_length : length xs ≡ length xs₀
  pub fits : list_all step_fits left ≡ true
  pub place : to ≡ at + length (backwards (written left))
  pub room : to ≤ length xs
  pub same : put xs at (backwards (written left)) ≡ put xs₀ at whole

pub put_start : (cs : List ℕ) (r : Run) {xs : List ℕ} {at size : ℕ} {left : List Step} → left ≡ steps no_pair (saves cs r)
    → run_fits no_pair (saves cs r) ≡ true → size ≡ length (backwards (simplify no_pair (saves cs r))) → at + size + 1 ≤ length xs
    → Putting (backwards (simplify no_pair (saves cs r))) xs xs at (at + size) left
put_start cs r {xs} {at} {size} {left} l f e h =
    let g : backwards (written left) ≡ backwards (simplify no_pair (saves cs r)) = ap backwards (ap written l ∙ written_all no_pair (saves cs r)) in
    record {
      same_length = refl;
      fits = ap (list_all step_fits) l ∙ fits_all no_pair (saves cs r) ∙ f;
      place = omega (arith, e, ap length g);
      room = omega (arith, h);
      same = ap (put xs at) g;
    }

module _ {whole xs₀ xs : List ℕ} {at to : ℕ} {left later : List Step} {s : Step} (p : Putting whole xs₀ xs at to left) (e : left ≡ s ∷ later) where
  parts : (step_fits s ≡ true) × (list_all step_fits later ≡ true)
  parts = and_parts (step_fits s) (list_all step_fits later) (sym (ap (list_all step_fits) e) ∙ p.fits)

  pub put_fits : code_fits s.written ≡ true
  put_fits = fits_code s parts.0

  cut : backwards (written left) ≡ backwards (written later) ++ code_bytes s.written
  unfolding backwards
  cut = ap (λ x. backwards (written x)) e

  pub put_low : to ≡ at + length (backwards (written later)) + length (code_bytes s.written)
  put_low = let g = ap length cut ∙ length-append (backwards (written later)) (code_bytes s.written) in omega (arith, p.place, g)

  pub put_turn : {ys : List ℕ} {n q : ℕ} → n ≡ length (code_bytes s.written) → Wrote xs ys (to - n) q (code_bytes s.written)
      → Putting whole xs₀ ys at (to - n) later
  put_turn {ys} {n} {q} m w =
      let l : to - n ≡ at + length (backwards (written later)) = omega (arith, put_low, m) in
      record {
        same_length = kept w ∙ p.same_length;
        fits = parts.1;
        place = l;
        room = omega (arith, kept w, p.room);
        same = ap (λ zs. put zs at (backwards (written later))) w.stored ∙ put-in_front xs at (to - n) (backwards (written later)) (code_bytes s.written) (omega (arith, l))
            ∙ ap (λ (i : ℕ). put (put xs at (backwards (written later))) i (code_bytes s.written)) l
            ∙ sym (put-append xs at (backwards (written later)) (code_bytes s.written)) ∙ ap (put xs at) (sym cut) ∙ p.same;
      }

pub put_ended : {whole xs₀ xs : List ℕ} {at to size : ℕ} {left : List Step} → Putting whole xs₀ xs at to left → left ≡ []
    → size ≡ length whole → Wrote xs₀ xs at (at + size) whole
unfolding put backwards
put_ended {whole} {xs₀} {xs} {at} {to} {size} {left} p h e =
    record { past = ap (λ (k : ℕ). at + k) e; stored = ap (λ x. put xs at (backwards (written x))) (sym h) ∙ p.same }

pub run_bytes_lem : (ds : List Code) → backwards ds ++ (0xe4 ∷ []) ≡ run_bytes ds
unfolding run_bytes
run_bytes_lem ds = refl

-- A pass, an operation at a time.
use Rattle.std.proofs.Common.{◌≡◌, refl, sym, ap, ◌∙◌, ℕ, suc, ◌+◌, ◌-◌, ◌≤◌, ◌<◌, true, false, List, length, Some, None, Ok, Err, arith}
use Rattle.std.proofs.lemmas.Bool.Decides.{nat_tests}
use Rattle.cfi_entries.specs.declared.refusal.Question.{Question}
use Rattle.cfi_entries.specs.declared.refusal.Question.TheVariants as question
use Rattle.cfi_entries.specs.declared.refusal.Refusal.{Refusal}
use Rattle.cfi_entries.specs.Refusals.{refused, ◌>>=◌}
use Rattle.cfi_operations.specs.declared.operation.Decoded.{Decoded}
use Rattle.cfi_operations.specs.declared.operation.Units.{Units}
use Rattle.cfi_operations.specs.Operations.{operation_at}
use Rattle.cfi_rules.specs.Registers.{Run}
use Rattle.cfi_rules.specs.Actions.{act}
use Rattle.cfi_rules.specs.Passes.{step_of, is_step, cie_step, cie_run_f, cie_run, fde_step, fde_run_f, fde_run}

fuel : (size n at : ℕ) → n ≤ at → at ≤ size → suc size - n ≡ suc (size - n)
fuel size n at a b = omega arith

-- ---- a CIE's

module _ (u : Units) (s : List ℕ) where
  cie_ends : (f p : ℕ) (r : Run) → length s ≤ p → cie_run_f (suc f) u s p r ≡ Ok r
  unfolding cie_run_f
  cie_ends f p r h = grind (arith, nat_tests)

  cie_turn : (f p : ℕ) (r : Run) → p < length s
      → cie_run_f (suc f) u s p r ≡ (operation_at u s p >>= λ d. cie_step p d.operation r >>= λ t. cie_run_f f u s d.next t)
  unfolding cie_run_f
  cie_turn f p r h = grind (arith, nat_tests)

  -- so many operations are done, and what is left of the run gives what all of it gives
  pub record CieGoing (from : ℕ) (first : Run) (at : ℕ) (r : Run) : Type 0 where
    pub done : ℕ
    pub few : done ≤ at
    pub inside : at ≤ length s
    pub same : cie_run_f (suc (length s) - done) u s at r ≡ cie_run u s from first

  pub cie_start : (from : ℕ) (first : Run) → from ≤ length s → CieGoing from first from first
  unfolding cie_run
  cie_start from first h =
      record {
        done = 0;
        few = omega arith;
        inside = h;
        same = ap (λ (f : ℕ). cie_run_f f u s from first) (omega arith);
      }

  module _ (from : ℕ) (first : Run) (at : ℕ) (r : Run) (g : CieGoing from first at r) where
    left : cie_run u s from first ≡ cie_run_f (suc (length s - g.done)) u s at r
    left = sym g.same ∙ ap (λ (f : ℕ). cie_run_f f u s at r) (fuel (length s) g.done at g.few g.inside)

    pub cie_done : length s ≤ at → cie_run u s from first ≡ Ok r
    cie_done h = left ∙ cie_ends (length s - g.done) at r h

    module _ (h : at < length s) where
      pub cie_unread : (e : Refusal) → Err e ≡ operation_at u s at → cie_run u s from first ≡ Err e
      cie_unread e o = left ∙ cie_turn (length s - g.done) at r h ∙ rw (sym o) refl

      module _ (d : Decoded) (o : Ok d ≡ operation_at u s at) where
        pub cie_steps : true ≡ is_step d.operation → cie_run u s from first ≡ Err (refused question.Operations at)
        cie_steps n = left ∙ cie_turn (length s - g.done) at r h ∙ rw (sym o, sym n) refl

        pub cie_refused : (q : Question) → false ≡ is_step d.operation → act d.operation r ≡ Err q → cie_run u s from first ≡ Err (refused q at)
        cie_refused q n a = left ∙ cie_turn (length s - g.done) at r h ∙ rw (sym o, sym n, a) refl

        pub cie_goes_on : (t : Run) → false ≡ is_step d.operation → act d.operation r ≡ Ok t → at < d.next → d.next ≤ length s → CieGoing from first d.next t
        cie_goes_on t n a b i =
            let e : suc (length s) - (g.done + 1) ≡ length s - g.done = omega arith in
            record {
              done = g.done + 1;
              few = omega (arith, g.few);
              inside = i;
              same =
                  ap (λ (f : ℕ). cie_run_f f u s d.next t) e
                  ∙ sym (left ∙ cie_turn (length s - g.done) at r h ∙ rw (sym o, sym n, a) refl);
            }

-- ---- an FDE's

module _ (u : Units) (function asked : ℕ) (s : List ℕ) where
  fde_ends : (f p location : ℕ) (r : Run) → length s ≤ p → fde_run_f (suc f) u function asked s p location r ≡ Ok r
  unfolding fde_run_f
  fde_ends f p location r h = grind (arith, nat_tests)

  fde_turn : (f p location : ℕ) (r : Run) → p < length s
      → fde_run_f (suc f) u function asked s p location r
      ≡ (operation_at u s p >>= λ d. fde_step asked p location d.operation r (fde_run_f f u function asked s d.next) (step_of function location d.operation))
  unfolding fde_run_f
  fde_turn f p location r h = grind (arith, nat_tests)

  pub record FdeGoing (from : ℕ) (first : Run) (at location : ℕ) (r : Run) : Type 0 where
    pub done : ℕ
    pub few : done ≤ at
    pub inside : at ≤ length s
    pub same : fde_run_f (suc (length s) - done) u function asked s at location r ≡ fde_run u function asked s from first

  pub fde_start : (from : ℕ) (first : Run) → from ≤ length s → FdeGoing from first from 0 first
  unfolding fde_run
  fde_start from first h =
      record {
        done = 0;
        few = omega arith;
        inside = h;
        same = ap (λ (f : ℕ). fde_run_f f u function asked s from 0 first) (omega arith);
      }

  module _ (from : ℕ) (first : Run) (at location : ℕ) (r : Run) (g : FdeGoing from first at location r) where
    all : fde_run u function asked s from first ≡ fde_run_f (suc (length s - g.done)) u function asked s at location r
    all = sym g.same ∙ ap (λ (f : ℕ). fde_run_f f u function asked s at location r) (fuel (length s) g.done at g.few g.inside)

    pub fde_done : length s ≤ at → fde_run u function asked s from first ≡ Ok r
    fde_done h = all ∙ fde_ends (length s - g.done) at location r h

    module _ (h : at < length s) where
      pub fde_unread : (e : Refusal) → Err e ≡ operation_at u s at → fde_run u function asked s from first ≡ Err e
      fde_unread e o = all ∙ fde_turn (length s - g.done) at location r h ∙ rw (sym o) refl

      module _ (d : Decoded) (o : Ok d ≡ operation_at u s at) where
        pub fde_stepless : (q : Question) → Err q ≡ step_of function location d.operation → fde_run u function asked s from first ≡ Err (refused q at)
        fde_stepless q n = all ∙ fde_turn (length s - g.done) at location r h ∙ rw (sym o, sym n) refl

        pub fde_passed : (next : ℕ) → Ok (Some next) ≡ step_of function location d.operation → asked < next → fde_run u function asked s from first ≡ Ok r
        fde_passed next n l = all ∙ fde_turn (length s - g.done) at location r h ∙ rw (sym o, sym n) (grind (arith, nat_tests))

        pub fde_refused : (q : Question) → Ok None ≡ step_of function location d.operation → act d.operation r ≡ Err q
            → fde_run u function asked s from first ≡ Err (refused q at)
        fde_refused q n a = all ∙ fde_turn (length s - g.done) at location r h ∙ rw (sym o, sym n, a) refl

        module _ (b : at < d.next) (i : d.next ≤ length s) where
          pub fde_moves : (next : ℕ) → Ok (Some next) ≡ step_of function location d.operation → next ≤ asked → FdeGoing from first d.next next r
          fde_moves next n l =
              let e : suc (length s) - (g.done + 1) ≡ length s - g.done = omega arith in
              record {
                done = g.done + 1;
                few = omega (arith, g.few);
                inside = i;
                same =
                    ap (λ (f : ℕ). fde_run_f f u function asked s d.next next r) e
                    ∙ sym (all ∙ fde_turn (length s - g.done) at location r h ∙ rw (sym o, sym n) (grind (arith, nat_tests)));
              }

          pub fde_acts : (t : Run) → Ok None ≡ step_of function location d.operation → act d.operation r ≡ Ok t → FdeGoing from first d.next location t
          fde_acts t n a =
              let e : suc (length s) - (g.done + 1) ≡ length s - g.done = omega arith in
              record {
                done = g.done + 1;
                few = omega (arith, g.few);
                inside = i;
                same =
                    ap (λ (f : ℕ). fde_run_f f u function asked s d.next location t) e
                    ∙ sym (all ∙ fde_turn (length s - g.done) at location r h ∙ rw (sym o, sym n, a) refl);
              }

-- what goes on
pub ruleset fde_laws = (fde_start, fde_moves, fde_acts)

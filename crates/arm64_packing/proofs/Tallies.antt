-- The counts of a prologue: what the loop knows at each turn.
use mathlib.Core.Path.{◌≡◌, refl, sym, ap, ◌∙◌}
use mathlib.Core.Bool.{true, ◌||◌}
use mathlib.Core.List.{List, [], ◌∷◌}
use lib.ListN.{length}
use Rattle.std.specs.List.{list_all}
use Rattle.std.proofs.lemmas.Bool.{and_parts}
use Prim.Native.Nat.{ℕ, suc, ◌+◌, ◌*◌, ◌^◌, ◌≤◌, ◌<◌}
use native.Mathlib.Omega.{arith}
use lib.Dec.{eqb}
use Rattle.format.specs.Lists.{most_records}
use Rattle.arm64.specs.declared.Code.{Code}
use Rattle.arm64.specs.declared.Packed.{Packed}
use Rattle.arm64.specs.Codes.{code, k_alloc, k_r19_r20_x, k_fplr_x, k_reg_x, k_fregp_x, k_save_next, code_fits}
use Rattle.arm64.specs.Runs.{no_pair, has_next, next_pair, resolved, simplify, resolve, run_fits}
use Rattle.arm64.specs.Packing.{down_in, tally, tallies, nothing_yet, as_fields, candidate}
use Rattle.arm64.proofs.MeaningLaws.{by_pick}
use Rattle.arm64_spelled.proofs.FitLaws.{fits_low}
use Rattle.arm64_simple.specs.declared.Run.{Run}
use Rattle.arm64_simple.specs.Saves.{saves}
use Rattle.arm64_simple.proofs.OneCode.{next_low}
use Rattle.arm64_simple.specs.declared.Step.{Step}
use Rattle.arm64_simple.specs.Steps.{steps, step_fits}
use Rattle.arm64_simple.proofs.Loops.{steps-length, saves-length, resolves, resolves_all, fits_all, fits_code}
use Rattle.arm64_packing.specs.declared.Chain.TheVariants.{Unchained}
use Rattle.arm64_packing.specs.declared.Counts.{Counts}
use Rattle.arm64_packing.specs.Places.{counted, Low, Counted}

-- ---- how far one code moves the stack pointer

down_most : (c : Code) → down_in c ≤ c.offset
unfolding down_in
down_most c =
    by_pick (λ (n : ℕ). n ≤ c.offset)
    (eqb c.kind k_alloc || eqb c.kind k_r19_r20_x || eqb c.kind k_fplr_x || eqb c.kind k_reg_x || eqb c.kind k_fregp_x) c.offset 0
    (λ t. omega arith) λ t. omega arith

next_near : (b : Code) → (next_pair b).offset < 2 ^ 29
unfolding next_pair
next_near b =
    by_pick (λ (c : Code). c.offset < 2 ^ 29) (has_next b) (code b.kind (b.register + 2) (b.offset + 16)) (code k_save_next 0 0)
    (λ t. omega (arith, (next_low b t).1)) λ t. omega arith

resolved_near : (b c : Code) → code_fits c ≡ true → (resolved b c).offset < 2 ^ 29
unfolding resolved
resolved_near b c e =
    by_pick (λ (d : Code). d.offset < 2 ^ 29) (eqb c.kind k_save_next) (next_pair b) c (λ t. next_near b) λ t. fits_low c e

-- ---- the loop

tallies_next : (p : Packed) (s : Step) (ss : List Step) → tallies p (resolves (s ∷ ss)) ≡ tallies (tally p (resolved s.before s.written)) (resolves ss)
unfolding tallies
tallies_next p s ss = refl

tallies_none : (p : Packed) → tallies p (resolves []) ≡ p
unfolding tallies
tallies_none p = refl

-- of `count` codes, ps as they are written, some are left
pub record Tallying (ps : List Code) (size count : ℕ) (left : List Step) (n : Counts) : Type 0 where
  pub vectors : n.vectors + 2 * length left ≤ 2 * count
  pub registers : n.registers + 2 * length left ≤ 2 * count
  pub frame : n.frame + 2 ^ 29 * length left ≤ 2 ^ 29 * count
  pub fits : list_all step_fits left ≡ true
  pub same : tallies (nothing_yet size) (resolve no_pair ps) ≡ tallies (counted n) (resolves left)

-- no code counted
abbrev pub uncounted : ℕ → Counts
uncounted size = record { length = size; vectors = 0; registers = 0; chain = Unchained; frame = 0 }

pub tallying_start : (cs : List ℕ) (size : ℕ) (r : Run) {left : List Step} → left ≡ steps no_pair (saves cs r) → run_fits no_pair (saves cs r) ≡ true
    → Tallying (simplify no_pair (saves cs r)) size r.count left (uncounted size)
unfolding nothing_yet
tallying_start cs size r {left} l e =
    let n : length left ≡ r.count = ap length l ∙ steps-length no_pair (saves cs r) ∙ saves-length cs r in
    record {
      vectors = omega (arith, n);
      registers = omega (arith, n);
      frame = omega (arith, n);
      fits = ap (list_all step_fits) l ∙ fits_all no_pair (saves cs r) ∙ e;
      same = ap (tallies (nothing_yet size)) (sym (ap resolves l ∙ resolves_all no_pair (saves cs r)));
    }

module _ {ps : List Code} {size count : ℕ} {left : List Step} {n : Counts} (t : Tallying ps size count left n) where
  pub tallying_low : count ≤ most_records → Low n
  tallying_low m = record { vectors = omega (arith, t.vectors, m); registers = omega (arith, t.registers, m); frame = omega (arith, t.frame, m) }

  module _ {later : List Step} {s : Step} (e : left ≡ s ∷ later) {d : Code} (g : d ≡ resolved s.before s.written) where
    parts : (step_fits s ≡ true) × (list_all step_fits later ≡ true)
    parts = and_parts (step_fits s) (list_all step_fits later) (sym (ap (list_all step_fits) e) ∙ t.fits)

    pub tallying_down : down_in d < 2 ^ 29
    tallying_down =
        let n : (resolved s.before s.written).offset < 2 ^ 29 = resolved_near s.before s.written (fits_code s parts.0) in
        let m : down_in d ≡ down_in (resolved s.before s.written) = ap down_in g in
        omega (arith, n, m, down_most (resolved s.before s.written))

    pub tallying_turn : {m : Counts} → counted m ≡ tally (counted n) d → Counted n m → Tallying ps size count later m
    tallying_turn {m} k h =
        let l : length left ≡ suc (length later) = ap length e in
        record {
          vectors = omega (arith, h.vectors, t.vectors, l);
          registers = omega (arith, h.registers, t.registers, l);
          frame = omega (arith, h.frame, t.frame, l);
          fits = parts.1;
          same = t.same ∙ ap (λ x. tallies (counted n) (resolves x)) e ∙ tallies_next (counted n) s later ∙ ap (λ x. tallies x (resolves later)) (sym (k ∙ ap (tally (counted n)) g));
        }

  pub tallying_ended : {q : Packed} → q ≡ as_fields (counted n) → left ≡ [] → q ≡ candidate size ps
  unfolding candidate
  tallying_ended {q} e h = e ∙ ap as_fields (sym (t.same ∙ ap (λ x. tallies (counted n) (resolves x)) h ∙ tallies_none (counted n)))

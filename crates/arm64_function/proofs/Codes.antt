-- The codes of a function stored: the prologue's, and each run of its own.
use mathlib.Core.Path.{◌≡◌, refl, subst, sym, ap, ◌∙◌}
use mathlib.Core.Bool.{Bool, true, false, ◌||◌}
use mathlib.Core.List.{List, [], ◌∷◌, ◌++◌}
use Prim.Native.Nat.{ℕ, ◌+◌, ◌-◌, ◌≤◌, ◌<◌}
use native.Mathlib.Omega.{arith}
use lib.ListN.{length, length-append}
use Rattle.format.specs.Prelude.{pick}
use Rattle.format.proofs.Wrote.{Wrote}
use Rattle.format.proofs.PutLaws.{kept}
use Rattle.format.proofs.Storing.{Storing, stored_next}
use Rattle.format.proofs.Storing as storing
use Rattle.arm64.specs.declared.Code.{Code}
use Rattle.arm64.specs.Runs.{no_pair, simplify, backwards, run_bytes, leads, is_in, runs_bytes}
use Rattle.arm64_simple.specs.Saves.{saves}
use Rattle.arm64_function.specs.declared.Parts.{Parts}
use Rattle.arm64_function.specs.Own.{prologue_in, run_at, seen_at, own_at, own_in, later_at, codes_in, epilogue_at}
use Rattle.arm64_function.proofs.Own.{run_is, run_size_lem, size_is, one_bytes, none_size, later_all, bytes_own, bytes_end}
use Rattle.std.proofs.lemmas.List.{nil_from_length}

-- ---- one run

pub nothing_own : (es cs : List ℕ) (p : Parts) (i : ℕ) {n : ℕ} → n ≡ length (runs_bytes (own_at es cs p i)) → n ≡ 0 → [] ≡ runs_bytes (own_at es cs p i)
nothing_own es cs p i e z = sym (nil_from_length (runs_bytes (own_at es cs p i)) (sym e ∙ z))

cases : (b : Bool) (r : List Code) (n : ℕ) → n ≡ length (runs_bytes (pick b [] (r ∷ []))) → 0 < n
    → (n - 1 ≡ length (backwards r)) × (run_bytes r ≡ runs_bytes (pick b [] (r ∷ [])))
unfolding pick
cases true r n e h = absurd (omega (arith, e, h, none_size refl))
cases false r n e h = (omega (arith, e, ap length (one_bytes r), size_is r, run_size_lem r), sym (one_bytes r))

module _ (es cs : List ℕ) (p : Parts) (i : ℕ) {n : ℕ} {s : List Code} (g : s ≡ saves cs (epilogue_at es i)) (e : n ≡ length (runs_bytes (own_at es cs p i))) (h : 0 < n) where
  both : (n - 1 ≡ length (backwards (run_at es cs i))) × (run_bytes (run_at es cs i) ≡ runs_bytes (own_at es cs p i))
  unfolding own_at
  both = cases (leads (run_at es cs i) (prologue_in cs p) || is_in (run_at es cs i) (seen_at es cs p i)) (run_at es cs i) n e h

  pub own_length : n - 1 ≡ length (backwards (simplify no_pair s))
  own_length = both.0 ∙ ap (λ x. length (backwards x)) (sym (run_is es cs i g))

  pub own_bytes : run_bytes (simplify no_pair s) ≡ runs_bytes (own_at es cs p i)
  own_bytes = ap run_bytes (run_is es cs i g) ∙ both.1

-- ---- all of them

-- the runs in front of epilogue i are stored
pub record Laying (xs₀ xs : List ℕ) (at q : ℕ) (es cs : List ℕ) (p : Parts) (i : ℕ) : Type 0 where
  pub low : p.first ≤ i
  pub left : Storing xs₀ xs at q (runs_bytes (own_in es cs p)) (runs_bytes (later_at es cs p i))

pub codes_start : {xs : List ℕ} {at : ℕ} (es cs : List ℕ) (p : Parts) → at + length (runs_bytes (own_in es cs p)) ≤ length xs → Laying xs xs at at es cs p p.first
codes_start {xs} {at} es cs p h =
    record { low = omega arith; left = subst (Storing xs xs at at (runs_bytes (own_in es cs p))) (ap runs_bytes (later_all es cs p)) (storing.start h) }

module _ {xs₀ xs : List ℕ} {at q : ℕ} {es cs : List ℕ} {p : Parts} {i : ℕ} (s : Laying xs₀ xs at q es cs p i) where
  pub codes_turn : {ys : List ℕ} {r : ℕ} → i < p.end → Wrote xs ys q r (runs_bytes (own_at es cs p i)) → Laying xs₀ ys at r es cs p (i + 1)
  codes_turn h w =
      record {
        low = omega (arith, s.low);
        left = stored_next (runs_bytes (own_at es cs p i)) (subst (Storing xs₀ xs at q (runs_bytes (own_in es cs p))) (bytes_own es cs p i s.low h) s.left) w;
      }

  pub codes_ended : p.end ≤ i → Wrote xs₀ xs at q (runs_bytes (own_in es cs p))
  codes_ended h = storing.ended (subst (Storing xs₀ xs at q (runs_bytes (own_in es cs p))) (bytes_end es cs p i h) s.left)

  -- the next run has room
  pub codes_room : i < p.end → q + length (runs_bytes (own_at es cs p i)) ≤ length xs
  codes_room h =
      omega (arith, s.left.room, ap length (bytes_own es cs p i s.low h) ∙ length-append (runs_bytes (own_at es cs p i)) (runs_bytes (later_at es cs p (i + 1))))

pub codes_parts : (es cs : List ℕ) (p : Parts) → run_bytes (prologue_in cs p) ++ runs_bytes (own_in es cs p) ≡ codes_in es cs p
unfolding codes_in
codes_parts es cs p = refl

pub codes_length : {n : ℕ} (es cs : List ℕ) (p : Parts) → n ≡ length (backwards (prologue_in cs p))
    → length (codes_in es cs p) ≡ n + 1 + length (runs_bytes (own_in es cs p))
codes_length es cs p e =
    let r = prologue_in cs p in
    omega (arith, ap length (sym (codes_parts es cs p)) ∙ length-append (run_bytes r) (runs_bytes (own_in es cs p)), size_is r, run_size_lem r, e)

pub put_room : {xs ys : List ℕ} {at q n : ℕ} (es cs : List ℕ) (p : Parts) → at + length (codes_in es cs p) ≤ length xs
    → Wrote xs ys at q (run_bytes (prologue_in cs p)) → n ≡ length (backwards (prologue_in cs p))
    → q + length (runs_bytes (own_in es cs p)) ≤ length ys
put_room {xs} {ys} {at} {q} {n} es cs p h w e =
    let r = prologue_in cs p in
    omega (arith, h, kept w, w.past, codes_length es cs p e, size_is r, run_size_lem r, e)

-- What a run is at a place, by the code there.
use mathlib.Core.Path.{◌≡◌, refl, sym}
use mathlib.Core.Logic.{◌≢◌}
use mathlib.Core.Option.{Option, none, some}
use mathlib.Core.List.{List, []}
use Prim.Native.Nat.{ℕ, zero, suc, ◌+◌, ◌<◌}
use native.Mathlib.Omega.{arith}
use lib.ListN.{length}
use Rattle.format.specs.Prelude.{after}
use Rattle.format.proofs.Choice.{if-eq, if-ne}
use Rattle.arm64.specs.declared.Code.{Code}
use Rattle.arm64.specs.Codes.{code_at}
use Rattle.arm64.specs.Reader.{in_front, run_f, run_at}
use Rattle.arm64_codes.proofs.Formed.{code_past, ahead}

module _ (s : List ℕ) where
  none_f : (f p : ℕ) → code_at s p ≡ none → run_f f s p ≡ none
  unfolding run_f after
  none_f zero p e = refl
  none_f (suc f) p e = rw e

  -- one turn, where the turns behind it agree
  turn_same : (f g p : ℕ) (x : Option (Code × ℕ)) → code_at s p ≡ x → ((t : Code × ℕ) → x ≡ some t → run_f f s t.1 ≡ run_f g s t.1)
      → run_f (suc f) s p ≡ run_f (suc g) s p
  unfolding run_f after
  turn_same f g p none e h = rw e
  turn_same f g p (some t) e h = rw (e, h t refl)

  -- enough fuel is as good as more
  steady : (f g p : ℕ) → length s < p + f → length s < p + g → run_f f s p ≡ run_f g s p
  unfolding run_f
  steady zero g p h k = sym (none_f g p (code_past s p (omega arith)))
  steady (suc f) zero p h k = none_f (suc f) p (code_past s p (omega arith))
  steady (suc f) (suc g) p h k =
      turn_same f g p (code_at s p) refl (λ t e. steady f g t.1 (omega (arith, ahead s p {c = t.0} {q = t.1} e)) (omega (arith, ahead s p {c = t.0} {q = t.1} e)))

module _ (s : List ℕ) (p : ℕ) where
  pub run_none : code_at s p ≡ none → run_at s p ≡ none
  unfolding run_at
  run_none e = none_f s (suc (length s)) p e

  module _ {c : Code} {q : ℕ} (e : code_at s p ≡ some (c, q)) where
    pub run_on : c.kind ≢ 18 → run_at s p ≡ in_front c (run_at s q)
    unfolding run_at run_f after
    run_on n = rw (e, if-ne c.kind 18, steady s (length s) (suc (length s)) q (omega (arith, ahead s p e)) (omega (arith, ahead s p e)))

    pub run_out : c.kind ≡ 18 → run_at s p ≡ some []
    unfolding run_at run_f after
    run_out k = rw (e, if-eq c.kind 18)

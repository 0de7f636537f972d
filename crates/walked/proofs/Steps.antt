-- The function that holds a frame, as the loop over frames meets it.
use mathlib.Core.Path.{◌≡◌, refl, sym, ap}
use mathlib.Core.Option.{Option, none, some}
use mathlib.Core.List.{List}
use Prim.Native.Nat.{ℕ, ◌≤◌, ◌<◌}
use native.Mathlib.Omega.{arith}
use lib.ListN.{length, take}
use Rattle.std.proofs.lemmas.List.{length-take-le}
use Rattle.std.specs.Prelude.{Some, None}
use Rattle.format.specs.Prelude.{after}
use Rattle.walk.specs.declared.Holder.{Holder}
use Rattle.walk.specs.declared.Frame.{Frame}
use Rattle.walk.specs.Walk.{Fault, Held, Caller, looked_up, held_from, held_at}
use Rattle.walk.specs.Standing.{holder_of}

nobody : (o : Option Held) → None ≡ holder_of o → o ≡ none
nobody none e = refl
nobody (some h) e = let z : ◌≡◌ {A = ℕ} 0 1 = cc in absurd (omega arith)

holding : (o : Option Held) {h : Holder} → Some h ≡ holder_of o → o ≡ some (record { position = h.position; offset = h.offset })
holding none e = let z : ◌≡◌ {A = ℕ} 0 1 = cc in absurd (omega arith)
holding (some x) {h} e =
    let i : h ≡ record { position = x.position; offset = x.offset } = cc in ap (λ (y : Holder). some (record { position = y.position; offset = y.offset })) (sym i)

module _ (e : Fault) (c : Caller) where
  pub unheld : None ≡ holder_of (after (looked_up c.exact c.pc) λ a. held_from a 0 e.functions) → held_at e c ≡ none
  unfolding held_at
  unheld h = nobody _ h

  pub held_by : {h : Holder} → Some h ≡ holder_of (after (looked_up c.exact c.pc) λ a. held_from a 0 e.functions)
      → held_at e c ≡ some (record { position = h.position; offset = h.offset })
  unfolding held_at
  held_by h = holding _ h

-- the frames so far, of an array of 64
module _ (fs : List Frame) (k : ℕ) (full : length fs ≡ 64) where
  pub room : k < 64 → length (take k fs) < 64
  room h = omega (arith, length-take-le k fs (omega arith))

  -- and all of them behind the last turn
  pub no_room : k ≡ 64 → 64 ≤ length (take k fs)
  no_room e = omega (arith, length-take-le k fs (omega arith))

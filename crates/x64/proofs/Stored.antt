-- Loops that store function after function: what is still to be stored.
use mathlib.Core.Path.{◌≡◌, refl}
use Prim.Native.Nat.{ℕ, suc, ◌+◌, ◌-◌, ◌*◌, ◌≤◌, ◌<◌}
use native.Mathlib.Omega.{arith}
use native.Mathlib.Numerals.{add-one}
use mathlib.Core.List.{List, [], ◌∷◌, ◌++◌}
use lib.ListN.{length}
use Rattle.x64.specs.Answers.{runtime_bytes, runtime_numbers}
use Rattle.format.specs.Prelude.{each}
use Rattle.format.proofs.Wrote.{Wrote}
use Rattle.format.specs.Lists.{Prologue, numbers_of}
use Rattle.format.specs.X64.{runtime_relocs, runtime_from}
use Rattle.format.proofs.Storing as storing
use Rattle.format.proofs.Storing.{Storing, stored_next}
use Rattle.format.proofs.ListLaws.{numbers_append}

-- ---- relocations

pub runtime_length : (at : ℕ) (fs : List Prologue) → length (numbers_of (runtime_from at fs)) ≡ runtime_numbers * length fs
unfolding runtime_from runtime_relocs numbers_of
runtime_length at [] = refl
runtime_length at (f ∷ fs) = omega (arith, runtime_length (at + runtime_bytes) fs)

-- those of the functions from k on, of n, are still to be stored, from `to` on
pub record Relating (f : ℕ → Prologue) (n : ℕ) (out₀ out : List ℕ) (k to : ℕ) : Type 0 where
  pub high : k ≤ n
  pub left : Storing out₀ out 0 to (numbers_of (runtime_from 0 (each f 0 n))) (numbers_of (runtime_from (runtime_bytes * k) (each f k (n - k))))

pub relating : (f : ℕ → Prologue) {n : ℕ} {out : List ℕ} → length (numbers_of (runtime_from 0 (each f 0 n))) ≤ length out → Relating f n out out 0 0
relating f {n} h = let e : n - 0 ≡ n = omega arith in record { high = omega arith; left = rw e (storing.start (omega arith)) }

module _ {f : ℕ → Prologue} {n : ℕ} {out₀ out : List ℕ} {k to : ℕ} (r : Relating f n out₀ out k to) where
  pub next : k < n
      → Storing out₀ out 0 to (numbers_of (runtime_from 0 (each f 0 n))) (numbers_of (runtime_relocs (runtime_bytes * k) (f k)) ++ numbers_of (runtime_from (runtime_bytes * (k + 1)) (each f (k + 1) (n - (k + 1)))))
  unfolding runtime_from each
  next h =
      let e : n - k ≡ suc (n - suc k) = omega arith in
      let t : runtime_bytes * k + runtime_bytes ≡ runtime_bytes * suc k = omega arith in
      rw (add-one k) (rw (e, numbers_append, t) at r.left)

  pub related : {new : List ℕ} {q : ℕ} → k < n → Wrote out new to q (numbers_of (runtime_relocs (runtime_bytes * k) (f k))) → Relating f n out₀ new (k + 1) q
  related h w = record { high = omega arith; left = stored_next _ (next h) w }

  pub room : k < n → to + runtime_numbers ≤ length out
  unfolding runtime_relocs numbers_of
  room h = omega (arith, (next h).room)

  pub all_related : n ≤ k → Wrote out₀ out 0 to (numbers_of (runtime_from 0 (each f 0 n)))
  unfolding runtime_from each numbers_of
  all_related h = let e : n - k ≡ 0 = omega arith in storing.ended (rw e at r.left)

-- A machine's numbers at the front of a lent list, where they fit.
use mathlib.Core.Path.{◌≡◌, ap, ◌∙◌}
use Prim.Native.Nat.{ℕ, ◌≤◌, ◌<◌}
use native.Mathlib.Omega.{arith}
use mathlib.Core.List.{List, [], ◌∷◌}
use lib.ListN.{length}
use Rattle.format.specs.Put.{put}
use Rattle.format.proofs.Wrote.{Wrote}
use Rattle.format.specs.declared.Machine.{Machine}
use Rattle.format.proofs.Choice.{if-le, if-gt}
use Rattle.format.proofs.PutLaws.{◌then◌}
use Rattle.machines.specs.Numbers.{machine_numbers, stored}

-- a machine's numbers: six, and the map
long : (m : Machine) → length m.map ≡ 64 → length (machine_numbers m) ≡ 70
unfolding machine_numbers
long m e = omega arith

pub short : (m : Machine) (old : List ℕ) {n : ℕ} → length m.map ≡ 64 → n ≡ 54 → length old < 70 → (n, old) ≡ stored (machine_numbers m) old
unfolding stored
short m old k e h =
    let l : length old < length (machine_numbers m) = omega (arith, long m k) in
    rw (e, if-gt (length (machine_numbers m)) (length old))

pub filled : (m : Machine) {old mid new : List ℕ} {a q : ℕ} → length m.map ≡ 64 → 70 ≤ length old
    → Wrote old mid 0 a (m.word ∷ m.pushed ∷ m.stack ∷ m.ret ∷ m.frame ∷ 0 ∷ []) → Wrote mid new a q m.map
    → (0, new) ≡ stored (machine_numbers m) old
unfolding stored machine_numbers
filled m {old} {mid} {new} k h v w =
    let n : length (machine_numbers m) ≤ length old = omega (arith, long m k) in
    rw (if-le (length (machine_numbers m)) (length old)) (ap (λ (l : List ℕ). (0, l)) (v then w).stored)

-- `apply::number_at` meets its contract.
use mathlib.Core.Logic.{inl, inr}
use Rattle.std.proofs.Common.{◌≡◌, ℕ, ◌+◌, get_or, ap, arith}
use Rattle.apply.specs.Fields.{number_at}
use Rattle.apply.proofs.number_at.Goals as goal

pub returns-in-W6 : goal.returns-in-W6
unfolding number_at
returns-in-W6 c = elim c.in-W6.is [
  | inl e ↦ rw e (omega (arith, c.from.ensures), omega arith)
  | inr e ↦ rw e (omega (arith, c.from.ensures), omega arith)
]

pub returns-in-W16 : goal.returns-in-W16
unfolding number_at
returns-in-W16 c = rw c.in-W16.is (omega (arith, c.from-in-W16.ensures, c.from_le_bytes.ensures), omega arith)

pub returns-in-W32 : goal.returns-in-W32
unfolding number_at
returns-in-W32 c =
    let a = c.args in
    let s = a.copy.now in
    let e : a.p + 2 ≡ a.p + 1 + 1 = omega arith in
    let f : a.p + 3 ≡ a.p + 1 + 1 + 1 = omega arith in
    rw c.in-W32.is (omega (arith, c.from-in-W32.ensures, c.from_le_bytes-in-W32.ensures, ap (λ (k : ℕ). get_or s k 0) e, ap (λ (k : ℕ). get_or s k 0) f), omega arith)

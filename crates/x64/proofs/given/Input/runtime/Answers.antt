-- `given::Input::runtime` meets its contract.
use mathlib.Core.Path.{ap}
use Prim.Native.Nat.{ℕ}
use native.Mathlib.Omega.{arith}
use Rattle.format.specs.Lists.{numbers_of}
use Rattle.format.specs.X64.{runtime_relocs}
use Rattle.format.proofs.PutLaws.{◌then◌, kept}
use Rattle.x64.proofs.given.Input.runtime.Goals as goal

pub relocation-a-requires : goal.relocation-a-requires
relocation-a-requires c = omega (arith, c.requires.1)

pub relocation-b-requires : goal.relocation-b-requires
unfolding numbers_of
relocation-b-requires c = omega (arith, c.requires.1, c.relocation-a.ensures.past, kept c.relocation-a.ensures)

pub relocation-requires : goal.relocation-requires
unfolding numbers_of
relocation-requires c = omega (arith, c.requires.1, c.relocation-b.ensures.past, kept c.relocation-b.ensures, c.relocation-a.ensures.past, kept c.relocation-a.ensures)

pub returns : goal.returns
unfolding numbers_of runtime_relocs
returns c =
    rw (← ap (λ (x : ℕ × ℕ). x.0) c.named-symbol.ensures, ← ap (λ (x : ℕ × ℕ). x.1) c.named-symbol.ensures)
    (c.relocation-a.ensures then c.relocation-b.ensures then c.relocation.ensures)

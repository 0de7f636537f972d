-- `owners::find_owner` meets its contract.
use mathlib.Core.Path.{refl}
use native.Mathlib.Omega.{arith}
use lib.ListN.{length-set}
use Rattle.owners.proofs.OwnerLoop.{inherits}
use Rattle.owners.proofs.find_owner.Goals as goal
use Rattle.owners.proofs.find_owner.Goals.{Start}

pub returns-in-Some : goal.returns-in-Some
returns-in-Some c =
    let s = (goal.at.returns-in-Some c).Start in
    (inherits s.requires.2 s.requires.1 c.in-Some.ensures.0 (λ d. omega (arith, c.in-Some.ensures.1)), record { heads = refl; links = refl; owners = refl; links_long = refl; owners_long = simp length-set })

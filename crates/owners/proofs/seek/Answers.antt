-- `owners::seek` meets its contract.
use mathlib.Core.Path.{refl, sym}
use native.Mathlib.Omega.{arith}
use lib.ListN.{length-set}
use Rattle.owners.proofs.OwnerLoop.{chained, shared, own}
use Rattle.owners.proofs.seek.Goals as goal
use Rattle.owners.proofs.seek.Goals.{Start}

pub choose-requires : goal.choose-requires
choose-requires c =
    let s = (goal.at.choose-requires c).Start in
    (s.requires.0, chained s.requires.2 s.requires.1 c.slot-h.ensures c.from.ensures)

pub returns-in-Some : goal.returns-in-Some
returns-in-Some c =
    let s = (goal.at.returns-in-Some c).Start in
    (shared s.requires.2 s.requires.1 c.slot-h.ensures c.in-Some.ensures.0 (λ d. omega (arith, c.in-Some.ensures.1)), record { heads = refl; links = refl; owners = refl; links_long = simp length-set; owners_long = simp length-set })

pub returns : goal.returns
returns c =
    let s = (goal.at.returns c).Start in
    (own s.requires.2 s.requires.1 c.slot-h.ensures (sym c.in_default.ensures) refl, record { heads = refl; links = refl; owners = refl; links_long = simp length-set; owners_long = simp length-set })

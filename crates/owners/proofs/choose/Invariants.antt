use lib.ListN.{length}
use Rattle.header_keys.specs.Inputs.{inputs_of}
use Rattle.owners.specs.Owners.{leading_in}
use Rattle.owners.proofs.Walking.{Walking, left}
use Rattle.owners.proofs.Comparing.{Comparing}
use Rattle.owners.proofs.choose.Given as goal

abbrev pub invariant-rows : goal.invariant-rows
invariant-rows l =
    Comparing (leading_in l.x.machine l.other l.x.lists.rows.now) (leading_in l.x.machine l.own l.x.lists.rows.now) l.count l.i

abbrev pub invariant-functions : goal.invariant-functions
invariant-functions l = Walking (inputs_of l.x) (length l.chains.heads.now) l.k l.next l.chains.links.now

abbrev pub decreases-functions : goal.decreases-functions
decreases-functions l = left l.next

use Rattle.owners.specs.Owners.{leading_in}
use Rattle.owners.proofs.Digests.{Digesting}
use Rattle.owners.proofs.digest.Given as goal

abbrev pub invariant-loop-i : goal.invariant-loop-i
invariant-loop-i l = Digesting (leading_in l.x.machine l.e l.x.lists.rows.now) l.initial.d l.n l.d l.i

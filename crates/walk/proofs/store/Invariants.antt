use Rattle.walk.proofs.Listing.{Listing}
use Rattle.walk.proofs.store.Given as goal

abbrev pub invariant-loop-i : goal.invariant-loop-i
invariant-loop-i l = Listing l.frames l.initial.out l.out l.i

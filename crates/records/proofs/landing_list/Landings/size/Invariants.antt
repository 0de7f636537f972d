use Rattle.format.specs.Lists.{landing_stride, count}
use Rattle.records.proofs.CallSites.{Counting}
use Rattle.records.proofs.landing_list.Landings.size.Given as goal

abbrev pub invariant-loop-i : goal.invariant-loop-i
invariant-loop-i l = Counting l.self.part.now (count landing_stride l.self.part.now) l.i l.size

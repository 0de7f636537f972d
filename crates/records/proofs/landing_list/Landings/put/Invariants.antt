use Rattle.format.specs.Lists.{landing_stride, count}
use Rattle.records.proofs.CallSites.{Writing}
use Rattle.records.proofs.landing_list.Landings.put.Given as goal

abbrev pub invariant-loop-i : goal.invariant-loop-i
invariant-loop-i l = Writing l.initial.out l.out l.self.part.now l.at (count landing_stride l.self.part.now) l.i l.p

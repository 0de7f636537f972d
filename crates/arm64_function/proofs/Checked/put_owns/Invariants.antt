use Rattle.arm64_function.proofs.Codes.{Laying}
use Rattle.arm64_function.proofs.Checked.put_owns.Given as goal

abbrev pub invariant-loop-i : goal.invariant-loop-i
invariant-loop-i l = Laying l.initial.out l.out l.at l.q l.self.function.epilogues.now l.self.function.codes.now l.self.function.parts l.i

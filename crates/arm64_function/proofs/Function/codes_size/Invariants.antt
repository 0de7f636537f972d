use Rattle.arm64_function.proofs.Own.{Summing}
use Rattle.arm64_function.proofs.Function.codes_size.Given as goal

abbrev pub invariant-loop-i : goal.invariant-loop-i
invariant-loop-i l = Summing l.self.epilogues.now l.self.codes.now l.self.parts l.size l.i

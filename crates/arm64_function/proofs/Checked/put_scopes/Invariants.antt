use Rattle.arm64_function.proofs.Scopes.{Scoping}
use Rattle.arm64_function.proofs.Checked.put_scopes.Given as goal

abbrev pub invariant-loop-i : goal.invariant-loop-i
invariant-loop-i l = Scoping l.initial.out l.out l.to l.q l.self.function.epilogues.now l.self.function.codes.now l.self.function.parts l.next l.i

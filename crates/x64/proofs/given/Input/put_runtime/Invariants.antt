use Rattle.x64.proofs.Stored.{Relating}
use Rattle.x64.specs.Given.{named_in}
use Rattle.x64.proofs.given.Input.put_runtime.Given as goal

abbrev pub invariant-loop-k : goal.invariant-loop-k
invariant-loop-k l = Relating (named_in l.self) l.self.count l.initial.out l.out l.k l.to

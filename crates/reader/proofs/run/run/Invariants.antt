use Prim.Native.Nat.{◌+◌}
use lib.Dec.{eqb}
use Rattle.reader.specs.Spans.{part}
use Rattle.reader.proofs.Reading.{Along}
use Rattle.reader.proofs.Operations.{Inside}
use Rattle.reader.proofs.Both.{left, Between, both}
use Rattle.reader.proofs.run.run.Given as goal

abbrev pub invariant-operations : goal.invariant-operations
invariant-operations l =
    Along (part l.s l.from l.to) l.l.word (λ at. Inside (both l.p l.q l.s l.l) (eqb l.span-index 0) l.l.word l.p l.q l.initial' (part l.s l.from l.to) (left l.s l.l l.l.word l.p (l.span-index + 1)) at l.loc l.state) l.read-iterator

abbrev pub invariant-entries : goal.invariant-entries
invariant-entries l = Between (both l.p l.q l.s l.l) l.p l.q l.s l.l l.span-index l.initial' l.state

use Prim.Native.Nat.{◌+◌}
use lib.Dec.{eqb}
use Rattle.reader.specs.Spans.{part}
use Rattle.reader.proofs.Reading.{Along}
use Rattle.listing.proofs.Doing.{Inside}
use Rattle.listing.proofs.Both.{left, all_lines, more_in, Between}
use Rattle.listing.proofs.run.fill.Given as goal

abbrev pub invariant-operations : goal.invariant-operations
invariant-operations l =
    Along (part l.s l.from l.to) l.l.word (λ at. Inside (all_lines l.s l.l) (eqb l.span-index 0) l.l.word l.q l.initial' (part l.s l.from l.to) (left l.s l.l (l.span-index + 1)) (more_in l.l) l.initial.out l.out l.state l.i l.loc at) l.read-iterator

abbrev pub invariant-entries : goal.invariant-entries
invariant-entries l = Between (all_lines l.s l.l) l.q l.s l.l l.initial.out l.out l.initial' l.state l.i l.loc l.span-index

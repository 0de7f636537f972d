-- `UnwindCodes`' `next` meets its contract.
use mathlib.Core.Path.{◌≡◌, sym, ap, ◌∙◌}
use mathlib.Core.List.{◌++◌}
use Prim.Native.Nat.{◌+◌, ◌-◌}
use lib.ListN.{length}
use mir.Syntax.{w64}
use mir.Val.{of_z, to_z}
use Rattle.std.proofs.Common.{rules}
use Rattle.prologue.proofs.Distances.{short_passed}
use Rattle.prologue.specs.Pieces.{piece_of}
use Rattle.x64.specs.Listed.{records_in}
use Rattle.x64.specs.Sources.{codes_from}
use Rattle.x64.specs.Given.{codes_left}
use Rattle.x64.proofs.Walks.{none_left, some_left}
use Rattle.x64.proofs.UnwindCodesIterator.next.Goals as goal
use Rattle.x64.proofs.UnwindCodesIterator.next.Goals.{After-moved-self}

-- what is left in front of a record, and behind it
step : (c : After-moved-self) → codes_left c.args.self.now
    ≡ piece_of c.piece-piece.result ++ codes_from c.loop-self.self.records (to_z w64 (of_z w64 c.moved-self.result)) (c.loop-self.self.next + 1) (records_in c.loop-self.self.records - (c.loop-self.self.next + 1))
step c =
    sym c.loop-self.invariant
    ∙ some_left c.loop-self.self.records c.loop-self.self.sofar (rw c.len.ensures at c.loop-self-test.true) c.piece-piece.ensures (short_passed _ c.moved-self.ensures.1 ∙ c.moved-self.ensures.0)

pub returns-in-Some-clause-steps : goal.returns-in-Some-clause-steps
unfolding piece_of
returns-in-Some-clause-steps c =
    rw c.in-Some.is at (step (goal.at.returns-in-Some-clause-steps c).After-moved-self)

pub returns-in-Some-clause-goes : goal.returns-in-Some-clause-goes
unfolding piece_of
returns-in-Some-clause-goes c =
    let e = ap length (rw c.in-Some.is at (step (goal.at.returns-in-Some-clause-goes c).After-moved-self)) in
    search (rules, e)

pub loop-self-preserved : goal.loop-self-preserved
unfolding piece_of
loop-self-preserved c =
    sym (rw c.in_default.is at (step (goal.at.loop-self-preserved c).After-moved-self))

pub returns-clause-steps : goal.returns-clause-steps
returns-clause-steps c =
    let n = none_left c.loop-self.self.records c.loop-self.self.sofar (rw c.len.ensures at c.loop-self-test.false) in
    (sym c.loop-self.invariant ∙ n, n)

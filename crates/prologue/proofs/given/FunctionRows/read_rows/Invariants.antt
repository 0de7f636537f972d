use Rattle.prologue.specs.Given.{rows_in}
use Rattle.prologue.proofs.Turns.{Walking}
use Rattle.prologue.proofs.given.FunctionRows.read_rows.Given as goal

abbrev pub invariant-loop-i : goal.invariant-loop-i
invariant-loop-i l = Walking l.m.machine.now l.self.rows.now (rows_in l.self) l.i l.w

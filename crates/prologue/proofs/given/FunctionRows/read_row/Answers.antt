-- `given::FunctionRows::read_row` meets its contract.
use Rattle.prologue.specs.Given.{rows_in}
use mathlib.Core.Path.{sym, ◌∙◌}
use Rattle.prologue.proofs.Walked.{at_third, at_open, at_last}
use Rattle.prologue.proofs.given.FunctionRows.read_row.Goals as goal

pub returns-then-third : goal.returns-then-third
returns-then-third c =
    rw (at_third c.args.m.now.machine.now _ 0 (rows_in c.args.self.now) c.args.i c.args.w (sym c.third.ensures ∙ c.if-third.true))

pub returns-then-joins : goal.returns-then-joins
returns-then-joins c =
    rw (at_open c.args.m.now.machine.now _ 0 (rows_in c.args.self.now) c.args.i c.args.w (sym c.third.ensures ∙ c.if-third.false) (sym c.joins.ensures ∙ c.if-joins.true))

pub returns : goal.returns
returns c =
    rw (at_last c.args.m.now.machine.now _ 0 (rows_in c.args.self.now) c.args.i c.args.w (sym c.third.ensures ∙ c.if-third.false) (sym c.joins.ensures ∙ c.if-joins.false)) c.read_last.ensures

-- `given::FunctionRows::read_last` meets its contract.
use Rattle.prologue.specs.Given.{rows_in}
use mathlib.Core.Path.{sym, ◌∙◌}
use native.Mathlib.Omega.{arith}
use native.Mathlib.Numerals.{add-one}
use Rattle.prologue.proofs.Neighbours.{joined_above}
use Rattle.prologue.proofs.Walked.{at_push, at_lone}
use Rattle.prologue.proofs.given.FunctionRows.read_last.Goals as goal

pub row_at-r-requires : goal.row_at-r-requires
row_at-r-requires c = (omega arith, c.args.self.now.ready.ok c.args.i (omega arith) c.requires)

pub overflow_sub-i : goal.overflow_sub-i
overflow_sub-i c = omega (arith, joined_above _ 0 c.args.i (sym c.joined.ensures ∙ c.if-joined.true))

pub row_at-requires : goal.row_at-requires
row_at-requires c =
    let l = joined_above _ 0 c.args.i (sym c.joined.ensures ∙ c.if-joined.true) in
    (omega arith, c.args.self.now.ready.ok _ (omega arith) (omega arith))

pub returns-then-joined : goal.returns-then-joined
returns-then-joined c =
    let e = sym c.joined.ensures ∙ c.if-joined.true in
    rw (at_push c.args.m.now.machine.now _ 0 (rows_in c.args.self.now) c.args.i c.args.w e) (rw (c.row_at.ensures, c.row_at-r.ensures) at c.push_rows.ensures)

pub returns : goal.returns
returns c =
    let e = sym c.joined.ensures ∙ c.if-joined.false in
    rw (at_lone c.args.m.now.machine.now _ 0 (rows_in c.args.self.now) c.args.i c.args.w e) (rw (c.row_at-r.ensures, add-one, c.len.ensures) at c.lone_row.ensures)

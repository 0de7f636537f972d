-- `dwarf::Lines::fine` meets its contract.
use borrow.Author.Rules.{rules}
use Rattle.rows.proofs.WholeNumbers.{never}
use mathlib.Core.Bool.{not}
use mathlib.Core.Path.{ap}
use Rattle.dwarf.proofs.Rows.{row_ready, near_enough}
use Rattle.dwarf.proofs.Lining.{start, turn, ended}
use Rattle.dwarf.proofs.Lines.fine.Goals as goal

pub loop-i-init : goal.loop-i-init
loop-i-init c = start _ _ _ _

pub offset_at-to-requires : goal.offset_at-to-requires
offset_at-to-requires c = let l = c.loop-i.invariant.stepping in let r = c.args.self.now.ready in search rules

pub returns-then-to-from : goal.returns-then-to-from
returns-then-to-from c = λ p. never p

pub returns-then-not-step_ok : goal.returns-then-not-step_ok
returns-then-not-step_ok c = λ p. never p

pub at-requires : goal.at-requires
at-requires c =
    let l = c.loop-i.invariant.stepping in
    let r = c.args.self.now.ready in
    (search rules, row_ready c.args.self.now.ready _ (search rules) (search rules))

pub surely_whole-requires : goal.surely_whole-requires
surely_whole-requires c = c.args.self.now.is_word

pub returns-then-not-surely_whole : goal.returns-then-not-surely_whole
returns-then-not-surely_whole c = λ p. never p

pub loop-i-preserved : goal.loop-i-preserved
loop-i-preserved c = turn c.loop-i.invariant c.loop-i-test.true c.offset_at-to.ensures c.if-to-from.false (near_enough c.step_ok.ensures (ap not c.if-not-step_ok.false)) (rw c.at.ensures at (c.surely_whole.ensures c.if-not-surely_whole.false))

pub returns : goal.returns
returns c = λ p. ended c.loop-i.invariant c.loop-i-test.false

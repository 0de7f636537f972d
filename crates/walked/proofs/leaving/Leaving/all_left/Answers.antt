-- `leaving::Leaving::all_left` meets its contract.
use borrow.Author.Rules.{rules}
use lib.ListN.{length-set}
use Rattle.std.proofs.lemmas.Result.{err_from_is_err_and}
use Rattle.walk.proofs.Turns.{turn_start, turn_refused, turn, turn_ended}
use Rattle.walked.proofs.Rules.{places}
use Rattle.walked.proofs.Silent.{unnamed_unstated}
use Rattle.walked.proofs.leaving.Leaving.all_left.Goals as goal

pub named-marks-requires : goal.named-marks-requires
named-marks-requires c = let z = c.args.self.now.at in places z.section.now z.located z.p c.args.self.now.readable

pub loop-i-init : goal.loop-i-init
loop-i-init c = turn_start _ _ (search rules)

pub one-requires : goal.one-requires
one-requires c = (
  search rules,
  λ e.
      let z = c.args.self.now.at in
      let m = c.named-marks.ensures c.loop-i.i (search rules) e in
      unnamed_unstated z.section.now z.located z.p c.loop-i.i c.args.self.now.readable m.0 m.1,
)

pub returns-in_err-registers : goal.returns-in_err-registers
returns-in_err-registers c =
    let p = err_from_is_err_and c.from_residual.result c.from_residual.ensures.1 in
    rw (p.1, p.2) (turn_refused c.loop-i.invariant c.loop-i-test.true c.in_err-registers.ensures)

pub loop-i-preserved : goal.loop-i-preserved
loop-i-preserved c = let l = c.loop-i in turn l.invariant c.loop-i-test.true _ c.in_ok-registers.ensures (simp length-set l.invariant.full)

pub returns : goal.returns
returns c = turn_ended c.loop-i.invariant c.loop-i-test.false

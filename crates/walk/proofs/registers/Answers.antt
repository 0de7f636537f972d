-- `walk::registers` meets its contract.
use borrow.Author.Rules.{rules}
use lib.ListN.{length-set}
use Rattle.walk.proofs.Files.{fill_start, fill_turn, fill_ended}
use Rattle.walk.proofs.registers.Goals as goal

pub loop-i-init : goal.loop-i-init
loop-i-init c = fill_start _ _ _ _ (search rules)

pub loop-i-preserved : goal.loop-i-preserved
loop-i-preserved c = let l = c.loop-i in fill_turn l.invariant c.loop-i-test.true c.word_at.ensures c.then_some.ensures (simp length-set l.invariant.full)

pub returns : goal.returns
returns c = fill_ended c.loop-i.invariant c.loop-i-test.false

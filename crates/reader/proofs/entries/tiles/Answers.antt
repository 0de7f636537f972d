-- `reader::entries::tiles` meets its contract.
use mathlib.Core.Path.{sym, ◌∙◌}
use native.Mathlib.Omega.{arith}
use Rattle.reader.proofs.Tiling.{entered, start, stopped, turn, ended}
use Rattle.reader.proofs.entries.tiles.Goals as goal

pub loop-at-init : goal.loop-at-init
loop-at-init c = start c.args.s.now

pub returns-in_default : goal.returns-in_default
returns-in_default c = stopped c.loop-at.invariant c.loop-at-test.true (sym c.entry_end.ensures ∙ c.in_default.is)

pub loop-at-smaller : goal.loop-at-smaller
loop-at-smaller c = omega (arith, (entered c.args.s.now c.loop-at.at (sym c.entry_end.ensures ∙ c.in-Some.is)).long)

pub loop-at-preserved : goal.loop-at-preserved
loop-at-preserved c = turn c.loop-at.invariant c.loop-at-test.true (sym c.entry_end.ensures ∙ c.in-Some.is)

pub returns : goal.returns
returns c = ended c.loop-at.invariant c.loop-at-test.false

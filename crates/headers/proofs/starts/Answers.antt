-- `starts` stores the leading rows.
use native.Mathlib.Omega.{arith}
use Rattle.headers.proofs.Words.{word_bounds}
use Rattle.headers.proofs.Turns.{start, room, turn, ended}
use Rattle.headers.proofs.starts.Goals as goal

pub leading_count-n-requires : goal.leading_count-n-requires
leading_count-n-requires c = c.args.f.now.sound.ready

pub loop-i-init : goal.loop-i-init
loop-i-init c = start c.requires

pub leading_at-row-requires : goal.leading_at-row-requires
leading_at-row-requires c = (c.args.f.now.sound.machine, c.args.f.now.sound.ready, omega (arith, c.leading_count-n.ensures, c.loop-i-test.true))

pub invariant_of-word : goal.invariant_of-word
invariant_of-word c = record { small = word_bounds c.args.f.now.machine.now.word c.args.f.now.sound.machine.is_word }

pub row-p-requires : goal.row-p-requires
row-p-requires c = room c.loop-i.invariant (omega (arith, c.leading_count-n.ensures, c.loop-i-test.true)) c.leading_at-row.ensures

pub loop-i-preserved : goal.loop-i-preserved
loop-i-preserved c = turn c.loop-i.invariant (omega (arith, c.leading_count-n.ensures, c.loop-i-test.true)) c.leading_at-row.ensures c.row-p.ensures

pub shape_of-out : goal.shape_of-out
shape_of-out c = c.loop-i.invariant.bytes.kept

pub returns : goal.returns
returns c = ended c.loop-i.invariant (omega (arith, c.leading_count-n.ensures, c.loop-i-test.false))

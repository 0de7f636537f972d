-- `starts_size` adds the sizes of the leading rows.
use native.Mathlib.Omega.{arith}
use Rattle.headers.proofs.Words.{word_bounds}
use Rattle.headers.proofs.Turns.{size_start, size_turn, size_ended, starts_short}
use Rattle.headers.proofs.starts_size.Goals as goal

pub leading_count-n-requires : goal.leading_count-n-requires
leading_count-n-requires c = c.args.f.now.sound.ready

pub loop-i-init : goal.loop-i-init
loop-i-init c = size_start _ _

pub leading_at-row-requires : goal.leading_at-row-requires
leading_at-row-requires c = (c.args.f.now.sound.machine, c.args.f.now.sound.ready, omega (arith, c.leading_count-n.ensures, c.loop-i-test.true))

pub invariant_of-word : goal.invariant_of-word
invariant_of-word c = record { small = word_bounds c.args.f.now.machine.now.word c.args.f.now.sound.machine.is_word }

pub loop-i-preserved : goal.loop-i-preserved
loop-i-preserved c =
    size_turn c.loop-i.invariant (omega (arith, c.leading_count-n.ensures, c.loop-i-test.true)) c.leading_at-row.ensures c.row_size-size.ensures

pub overflow_add-size : goal.overflow_add-size
overflow_add-size c = omega (arith, (loop-i-preserved c).whole, starts_short c.args.f.now.machine.now c.args.f.now.extent c.args.f.now.rows.now c.args.f.now.sound)

pub returns : goal.returns
returns c = size_ended c.loop-i.invariant (omega (arith, c.leading_count-n.ensures, c.loop-i-test.false))

-- `lookup::registers::fill` meets its contract.
use Rattle.std.proofs.Common.{rules, arith, ◌<◌, length, length-set}
use Rattle.lookup.proofs.Listing.{fits, few, list_start, list_turn, list_ended, room}
use Rattle.lookup.proofs.registers.fill.Goals as goal

pub loop-q-init : goal.loop-q-init
loop-q-init c = list_start _ _ _ (fits (length c.args.rules.now))

pub overflow_cast-q : goal.overflow_cast-q
overflow_cast-q c =
    let h : c.loop-q.q < 65536 = omega (arith, c.registers_in-q-end.ensures, few (length c.args.rules.now)) in
    search rules

pub bounds-rules-q : goal.bounds-rules-q
bounds-rules-q c = omega (arith, room c.loop-q.invariant (omega (arith, c.registers_in-q-end.ensures)))

pub bounds-rules-q-in-loop-q : goal.bounds-rules-q-in-loop-q
bounds-rules-q-in-loop-q c = simp length-set (room c.loop-q.invariant (omega (arith, c.registers_in-q-end.ensures)))

pub loop-q-preserved : goal.loop-q-preserved
loop-q-preserved c = list_turn c.loop-q.invariant (omega (arith, c.registers_in-q-end.ensures)) c.rule_at-rule.ensures

pub returns : goal.returns
returns c = list_ended c.loop-q.invariant (omega (arith, c.registers_in-q-end.ensures))

-- `round_trips::entries::fill` meets its contract.
use Rattle.std.proofs.Common.{refl, ◌∙◌, arith, length-set}
use Rattle.format.proofs.Bits.{flag_number}
use Rattle.round_trips.proofs.Cursor.{gave, refused, filling, room_for, filled_one, filled_all}
use Rattle.round_trips.proofs.entries.fill.Goals as goal

pub loop-entry-init : goal.loop-entry-init
loop-entry-init c = rw (c.new-cursor.ensures.0, c.new-cursor.ensures.1) (filling c.args.debug c.args.section.now c.args.out.now c.requires.0 c.requires.1, refl)

pub bounds-out-i : goal.bounds-out-i
bounds-out-i c =
    let r = room_for c.loop-entry.invariant.0 (gave c.next.ensures c.loop-entry.invariant.1 c.in-Ok.is) in omega (arith, r)

pub bounds-out-i-in-Ok : goal.bounds-out-i-in-Ok
bounds-out-i-in-Ok c =
    let r = room_for c.loop-entry.invariant.0 (gave c.next.ensures c.loop-entry.invariant.1 c.in-Ok.is) in simp length-set (omega (arith, r))

pub bounds-out-i-in-Ok-2 : goal.bounds-out-i-in-Ok-2
bounds-out-i-in-Ok-2 c =
    let r = room_for c.loop-entry.invariant.0 (gave c.next.ensures c.loop-entry.invariant.1 c.in-Ok.is) in simp length-set (omega (arith, r))

pub loop-entry-smaller : goal.loop-entry-smaller
loop-entry-smaller c =
    let k = gave c.next.ensures c.loop-entry.invariant.1 c.in-Ok.is in
    omega (arith, k.ahead, k.inside)

pub loop-entry-preserved : goal.loop-entry-preserved
loop-entry-preserved c =
    let k = gave c.next.ensures c.loop-entry.invariant.1 c.in-Ok.is in
    rw (c.from.ensures ∙ flag_number c.in-Ok.entry.header) (filled_one c.loop-entry.invariant.0 k, c.loop-entry.invariant.1)

pub returns : goal.returns
returns c = filled_all c.loop-entry.invariant.0 (refused c.next.ensures c.loop-entry.invariant.1 c.in_default.is)

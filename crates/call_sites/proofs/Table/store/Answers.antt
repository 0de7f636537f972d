-- `call_sites::Table::store` meets its contract.
use Prim.Native.Nat.{◌+◌}
use native.Mathlib.Omega.{arith}
use Rattle.call_sites.proofs.Runs.{Storing, start, more, none_left, there, none_there, forward, storing, store_turn, room_left, all_stored, never_unread}
use Rattle.call_sites.proofs.Table.store.Goals as goal

pub loop-read-init : goal.loop-read-init
loop-read-init c =
    let e = c.entries-read-items.ensures in
    rw c.into_iter-read-iterator.ensures.into_iter_gives (record { bytes = e.0; going = rw e.1 (start storing) })

pub returns-in_default : goal.returns-in_default
returns-in_default c =
    let r = c.loop-read.invariant in
    let g = rw c.in_default.is at c.in-Some.ensures.steps in
    absurd (never_unread r.going c.requires (more r g.0) (none_there r g.1))

pub put-requires : goal.put-requires
put-requires c =
    let r = c.loop-read.invariant in
    let g = rw c.in-Some-read.is at c.in-Some.ensures.steps in
    room_left r.going c.requires (more r g.0) (there r g.1)

pub overflow_add-at : goal.overflow_add-at
overflow_add-at c =
    let r = c.loop-read.invariant in
    let g = rw c.in-Some-read.is at c.in-Some.ensures.steps in
    omega (arith, room_left r.going c.requires (more r g.0) (there r g.1))

pub loop-read-preserved : goal.loop-read-preserved
loop-read-preserved c =
    let r = c.loop-read.invariant in
    let g = rw c.in-Some-read.is at c.in-Some.ensures.steps in
    forward r (λ p. Storing (c.loop-read.at + 3) c.args.held.now c.put.new.held) g.0 g.1 g.2.0 g.2.1 (store_turn _ c.put.ensures)

pub returns : goal.returns
returns c = let r = c.loop-read.invariant in all_stored r.going (none_left r c.in-None.ensures.steps)

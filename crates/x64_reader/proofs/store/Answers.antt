-- `x64_reader::store` meets its contract.
use Prim.Native.Nat.{◌-◌}
use native.Mathlib.Omega.{arith}
use Rattle.x64_reader.proofs.Runs.{Storing, start, more, at_end, there, none_there, onward, storing, kept, store_turn, some_left, all_stored, never_unread}
use Rattle.x64_reader.proofs.store.Goals as goal

pub loop-code-init : goal.loop-code-init
loop-code-init c =
    let e = c.slots_in-code-items.ensures in
    rw c.into_iter-code-iterator.ensures.into_iter_gives (record { bytes = e.0; mark = e.1; going = rw e.2 (start storing) })

pub shape_of-codes-in_default : goal.shape_of-codes-in_default
shape_of-codes-in_default c = kept c.loop-code.invariant.going.here

pub returns-in_default : goal.returns-in_default
returns-in_default c =
    let r = c.loop-code.invariant in
    let g = rw c.in_default.is at c.in-Some.ensures.steps in
    absurd (never_unread r.going c.requires.1 (more r g.0) (none_there r g.1))

pub overflow_sub-left : goal.overflow_sub-left
overflow_sub-left c =
    let r = c.loop-code.invariant in
    let g = rw c.in-Some-code.is at c.in-Some.ensures.steps in
    some_left r.going c.requires.1 (more r g.0) (there r g.1)

pub overflow_mul-left : goal.overflow_mul-left
overflow_mul-left c = omega (arith, c.requires.0, c.loop-code.invariant.going.here.many)

pub put-requires : goal.put-requires
put-requires c =
    let r = c.loop-code.invariant in
    let g = rw c.in-Some-code.is at c.in-Some.ensures.steps in
    omega (arith, c.requires.0, r.going.here.many, kept r.going.here, some_left r.going c.requires.1 (more r g.0) (there r g.1))

pub loop-code-preserved : goal.loop-code-preserved
loop-code-preserved c =
    let r = c.loop-code.invariant in
    let g = rw c.in-Some-code.is at c.in-Some.ensures.steps in
    onward r (λ p. Storing c.args.n (c.loop-code.left - 1) c.args.codes.now c.put.new.codes) g.0 g.1 g.2.0 g.2.1 g.2.2 (store_turn (some_left r.going c.requires.1 (more r g.0) (there r g.1)) c.put.ensures)

pub shape_of-codes : goal.shape_of-codes
shape_of-codes c = kept c.loop-code.invariant.going.here

pub returns : goal.returns
returns c = let r = c.loop-code.invariant in all_stored r.going c.requires.1 (at_end r c.in-None.ensures.steps)

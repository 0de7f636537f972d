-- `x64_back::undo::Registers::undo_all` meets its contract.
use Prim.Native.Nat.{◌+◌}
use native.Mathlib.Omega.{arith}
use lib.ListN.{drop}
use lib.Seq.{get_or-drop}
use Rattle.x64_reader.proofs.Runs.{start, more, at_end, there, none_there, onward}
use Rattle.walk.specs.Standing.{memory_of}
use Rattle.x64_back.specs.Thread.{undo_slots}
use Rattle.x64_back.proofs.FromHeader.{Bytes, code_from, below_16}
use Rattle.x64_back.proofs.Exits.{gives_none, gives}
use Rattle.x64_back.proofs.Undoing.{Undoing, none_undone, one_undone, stopped, unread_stops, all_undone}
use Rattle.x64_back.proofs.undo.Registers.undo_all.Goals as goal

pub returns-in_err-base : goal.returns-in_err-base
unfolding undo_slots
returns-in_err-base c = rw c.from_residual.ensures (gives_none _ _ c.in_err-base.ensures)

pub loop-code-init : goal.loop-code-init
loop-code-init c =
    let e = c.slots_in-code-items.ensures in
    rw c.into_iter-code-iterator.ensures.into_iter_gives (record { bytes = e.0; mark = e.1; going = rw e.2 (start none_undone) })

pub returns-in_err-code : goal.returns-in_err-code
unfolding undo_slots
returns-in_err-code c =
    let r = c.loop-code.invariant in
    let g = rw c.in_err-code.was at c.in-Some.ensures.steps in
    rw c.from_residual-in_err-code.ensures (gives _ _ c.in_ok-base.ensures (unread_stops _ _ _ r.going (more r g.0) (none_there r g.1)))

pub undo-requires : goal.undo-requires
undo-requires c =
    let r = c.loop-code.invariant in
    let g = rw c.in_ok-code.was at c.in-Some.ensures.steps in
    let t = there r g.1 in
    let bytes : Bytes (drop c.loop-code.code-iterator.at.at c.args.slots.now) =
    λ i. rw (get_or-drop c.loop-code.code-iterator.at.at c.args.slots.now i 0) (omega (arith, c.type_inv.slots (c.loop-code.code-iterator.at.at + i))) in
    below_16 c.args.frame _ (rw t.reads at (code_from c.args.frame _ bytes)).0

pub returns-in_err-before : goal.returns-in_err-before
unfolding undo_slots
returns-in_err-before c =
    let r = c.loop-code.invariant in
    let g = rw c.in_ok-code.was at c.in-Some.ensures.steps in
    rw c.from_residual-in_err-before.ensures
    (gives _ _ c.in_ok-base.ensures (stopped r.going (more r g.0) (there r g.1) c.in_err-before.ensures))

pub loop-code-preserved : goal.loop-code-preserved
loop-code-preserved c =
    let r = c.loop-code.invariant in
    let g = rw c.in_ok-code.was at c.in-Some.ensures.steps in
    onward r (λ p. Undoing (memory_of c.args.memory.now) c.in_ok-base.base c.args.self c.in_ok-before.before) g.0 g.1 g.2.0 g.2.1 g.2.2 (one_undone c.in_ok-before.ensures)

pub returns : goal.returns
unfolding undo_slots
returns c =
    let r = c.loop-code.invariant in
    gives _ _ c.in_ok-base.ensures (all_undone r.going (at_end r c.in-None.ensures.steps))

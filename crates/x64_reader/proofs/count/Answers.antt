-- `x64_reader::count` meets its contract.
use mathlib.Core.Path.{◌∙◌}
use Prim.Native.Nat.{◌+◌}
use native.Mathlib.Omega.{arith}
use Rattle.x64_reader.proofs.Runs.{Counting, start, more, at_end, there, none_there, onward, counting, count_turn, all_counted, none_counted}
use Rattle.x64_reader.proofs.count.Goals as goal

pub loop-code-init : goal.loop-code-init
loop-code-init c =
    let e = c.slots_in-code-items.ensures in
    rw c.into_iter-code-iterator.ensures.into_iter_gives (record { bytes = e.0; mark = e.1; going = rw e.2 (start counting) })

pub returns-in_err-code : goal.returns-in_err-code
returns-in_err-code c =
    let r = c.loop-code.invariant in
    let g = rw c.in_err-code.was at c.in-Some.ensures.steps in
    c.from_residual.ensures ∙ none_counted r.going (more r g.0) (none_there r g.1)

pub overflow_add-n : goal.overflow_add-n
overflow_add-n c =
    let r = c.loop-code.invariant in
    omega (arith, r.going.here.least, r.going.inside)

pub loop-code-preserved : goal.loop-code-preserved
loop-code-preserved c =
    let r = c.loop-code.invariant in
    let g = rw c.in_ok-code.was at c.in-Some.ensures.steps in
    onward r (λ p. Counting (c.loop-code.n + 1) c.or_frame-framed.result p.at) g.0 g.1 g.2.0 g.2.1 g.2.2 (count_turn (there r g.1) c.or_frame-framed.ensures)

pub returns : goal.returns
returns c = let r = c.loop-code.invariant in all_counted r.going (at_end r c.in-None.ensures.steps)

-- `call_sites::Table::count` meets its contract.
use mathlib.Core.Path.{sym, ap}
use Prim.Native.Nat.{◌+◌}
use native.Mathlib.Omega.{arith}
use Rattle.operations.specs.declared.fields.Position.{Position}
use Rattle.call_sites.proofs.Runs.{Counting, start, more, none_left, there, none_there, forward, unread, counting, count_turn, none_counted, all_counted}
use Rattle.call_sites.proofs.Table.count.Goals as goal

pub loop-read-init : goal.loop-read-init
loop-read-init c =
    let e = c.entries-read-items.ensures in
    rw c.into_iter-read-iterator.ensures.into_iter_gives (record { reading = record { bytes = e.0; going = rw e.1 (start counting) }; mark = sym (ap (λ (p : Position). p.shortest) e.1) })

pub returns-in_default : goal.returns-in_default
returns-in_default c =
    let r = c.loop-read.invariant.reading in
    let g = rw c.in_default.is at c.in-Some.ensures.steps in
    none_counted _ _ (unread r.going (more r g.0) (none_there r g.1))

pub overflow_add-sites : goal.overflow_add-sites
overflow_add-sites c = let r = c.loop-read.invariant.reading in omega (arith, r.going.here.least, r.going.inside)

pub loop-read-preserved : goal.loop-read-preserved
loop-read-preserved c =
    let r = c.loop-read.invariant.reading in
    let g = rw c.in-Some-read.is at c.in-Some.ensures.steps in
    record {
      reading = forward r (λ p. Counting (c.loop-read.sites + 1) p.at) g.0 g.1 g.2.0 g.2.1 (count_turn (there r g.1));
      mark = sym (ap (λ (p : Position). p.shortest) g.2.1);
    }

pub returns : goal.returns
returns c = let v = c.loop-read.invariant in all_counted v.reading.going v.mark (none_left v.reading c.in-None.ensures.steps)

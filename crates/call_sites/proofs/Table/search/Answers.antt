-- `call_sites::Table::search` meets its contract.
use mathlib.Core.Path.{sym, ap}
use Rattle.operations.specs.declared.fields.Position.{Position}
use Rattle.call_sites.proofs.Runs.{Covering, start, more, none_left, none_there, forward, unread, none_covering, covering_turn, found_unread, all_found}
use Rattle.call_sites.proofs.Table.search.Goals as goal

pub loop-read-init : goal.loop-read-init
loop-read-init c =
    let e = c.entries-read-items.ensures in
    rw c.into_iter-read-iterator.ensures.into_iter_gives (record { reading = record { bytes = e.0; going = rw e.1 (start none_covering) }; mark = sym (ap (λ (p : Position). p.shortest) e.1) })

pub returns-in_default : goal.returns-in_default
returns-in_default c =
    let r = c.loop-read.invariant.reading in
    let g = rw c.in_default.is at c.in-Some.ensures.steps in
    found_unread _ _ _ (unread r.going (more r g.0) (none_there r g.1))

pub loop-read-preserved : goal.loop-read-preserved
loop-read-preserved c =
    let r = c.loop-read.invariant.reading in
    let g = rw c.in-Some-read.is at c.in-Some.ensures.steps in
    record {
      reading = forward r (λ p. Covering c.args.offset c.or-found.result) g.0 g.1 g.2.0 g.2.1 (covering_turn _ c.covers.ensures c.then_some.ensures c.or-found.ensures);
      mark = sym (ap (λ (p : Position). p.shortest) g.2.1);
    }

pub returns : goal.returns
returns c = let v = c.loop-read.invariant in all_found v.reading.going v.mark (none_left v.reading c.in-None.ensures.steps)

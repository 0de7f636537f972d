-- `arm64_packing::same_places` meets its contract.
use mathlib.Core.Path.{sym, ◌∙◌}
use Rattle.format.proofs.Asked.{none_is, value_is}
use Rattle.arm64_simple.proofs.OneCode.{differing, agreeing}
use Rattle.arm64_packing.specs.Places.{placed}
use Rattle.arm64_packing.proofs.Comparing.{matching_start, matching_empty, matching_short, matching_stopped, matching_turn, matching_ended}
use Rattle.arm64_packing.proofs.same_places.Goals as goal

pub places-init : goal.places-init
places-init c = matching_start c.args.run.now.list.now c.args.run.now.run (placed c.args.part c.args.w.fields) c.steps-steps.ensures

pub places-preserved-in_default-whole : goal.places-preserved-in_default-whole
places-preserved-in_default-whole c = ((tt, tt), matching_empty c.places.invariant c.places-test.true (none_is _ (sym c.place.ensures ∙ c.in_default.is)))

pub next-requires : goal.next-requires
next-requires c = tt

pub returns-in_default-next : goal.returns-in_default-next
returns-in_default-next c = matching_short c.places.invariant c.places-test.true (value_is _ (sym c.place.ensures ∙ c.in-Some.is)) c.in_default-next.ensures.steps.0

pub returns-then-ne : goal.returns-then-ne
returns-then-ne c = matching_stopped c.places.invariant c.places-test.true (value_is _ (sym c.place.ensures ∙ c.in-Some.is)) c.in-Some-next.ensures.steps c.resolved.ensures (differing _ _ c.if-ne.ensures)

pub places-preserved-whole : goal.places-preserved-whole
places-preserved-whole c = ((tt, tt), matching_turn c.places.invariant c.places-test.true (value_is _ (sym c.place.ensures ∙ c.in-Some.is)) c.in-Some-next.ensures.steps c.resolved.ensures (agreeing _ _ c.if-ne.ensures))

pub returns : goal.returns
returns c = matching_ended c.places.invariant c.places-test.false _ _ c.next-2.ensures.steps c.is_none.ensures

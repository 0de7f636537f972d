-- `Word::put_slots` meets its contract.
use mathlib.Core.Path.{refl}
use native.Mathlib.Omega.{arith}
use borrow.Author.Tests.{tests}
use Rattle.std.proofs.Common.{rules}
use Rattle.std.proofs.lemmas.List.{length_push}
use Rattle.std.proofs.lemmas.Iterator.{YieldsList-from_range}
use Rattle.std.proofs.lemmas.Iterator.Consumers.{YieldsList-at, YieldsList-from_filter_map, YieldsList-turn, YieldsList-end}
use Rattle.format.proofs.Asked.{option_of}
use Rattle.arm64.specs.Packed.{slot_at, slots_from}
use Rattle.arm64_packed.proofs.Places.{slots_mapped, put_start, put_room, put_turn, put_ended}
use Rattle.arm64_packed.proofs.Word.put_slots.Goals as goal

pub loop-c-init : goal.loop-c-init
loop-c-init c = put_start (slots_from (slot_at c.args.part c.args.self.fields) 0 19) c.requires

pub put_code-to-requires : goal.put_code-to-requires
put_code-to-requires c =
    let at = slot_at c.args.part c.args.self.fields in
    put_room (slots_from at 0 19) c.loop-c.invariant
    (rw (slots_mapped at 0 19) at (YieldsList-turn (YieldsList-at c.into_iter-c-iterator.ensures.into_iter_gives (YieldsList-from_filter_map _ (λ i. option_of (at i)) (YieldsList-at c.filter_map-c-items.ensures.source (YieldsList-from_range 0 19 19 refl (omega arith))) c.filter_map-c-items.ensures.closure (λ x r q k. search (rules, tests)))) c.loop-c.yielded _ c.loop-c.yielded_by _ _ c.in-Some.c c.in-Some.is c.next.ensures.steps))

pub loop-c-preserved : goal.loop-c-preserved
loop-c-preserved c =
    let at = slot_at c.args.part c.args.self.fields in
    put_turn (slots_from at 0 19) c.loop-c.invariant
    (rw (slots_mapped at 0 19) at (YieldsList-turn (YieldsList-at c.into_iter-c-iterator.ensures.into_iter_gives (YieldsList-from_filter_map _ (λ i. option_of (at i)) (YieldsList-at c.filter_map-c-items.ensures.source (YieldsList-from_range 0 19 19 refl (omega arith))) c.filter_map-c-items.ensures.closure (λ x r q k. search (rules, tests)))) c.loop-c.yielded _ c.loop-c.yielded_by _ _ c.in-Some.c c.in-Some.is c.next.ensures.steps))
    (length_push c.loop-c.yielded c.in-Some.c) c.put_code-to.ensures

pub returns : goal.returns
returns c =
    let at = slot_at c.args.part c.args.self.fields in
    put_ended (slots_from at 0 19) c.loop-c.invariant
    (rw (slots_mapped at 0 19) at (YieldsList-end (YieldsList-at c.into_iter-c-iterator.ensures.into_iter_gives (YieldsList-from_filter_map _ (λ i. option_of (at i)) (YieldsList-at c.filter_map-c-items.ensures.source (YieldsList-from_range 0 19 19 refl (omega arith))) c.filter_map-c-items.ensures.closure (λ x r q k. search (rules, tests)))) c.loop-c.yielded _ c.loop-c.yielded_by _ _ c.in-None.is c.next.ensures.steps).1)

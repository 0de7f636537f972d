-- `Word::count_slots` meets its contract.
use mathlib.Core.Path.{refl, ap, ◌∙◌}
use native.Mathlib.Omega.{arith}
use lib.ListN.{length}
use borrow.Author.Tests.{tests}
use Rattle.std.proofs.Common.{rules}
use Rattle.std.proofs.lemmas.Iterator.{YieldsList-from_range}
use Rattle.std.proofs.lemmas.Iterator.Consumers.{YieldsList-at, YieldsList-from_filter_map, count_from_yields_List}
use Rattle.format.proofs.Asked.{option_of}
use Rattle.arm64.specs.Packed.{slot_at}
use Rattle.arm64_packed.proofs.Places.{slots_mapped, slots_few}
use Rattle.arm64_packed.proofs.Word.count_slots.Goals as goal

pub returns : goal.returns
returns c =
    let at = slot_at c.args.part c.args.self.fields in
    let e = count_from_yields_List c.filter_map.result c.count.result c.count.ensures.ran (YieldsList-from_filter_map _ (λ i. option_of (at i)) (YieldsList-at c.filter_map.ensures.source (YieldsList-from_range 0 19 19 refl (omega arith))) c.filter_map.ensures.closure (λ x r q k. search (rules, tests))) ∙ ap length (slots_mapped at 0 19) in
    (e, omega (arith, slots_few at 0 19))

-- `reader::location::addend_from` meets its contract.
use Rattle.std.proofs.Common.{◌∙◌, arith, rules, tests}
use Rattle.reader.proofs.Seeking.{addend_none, addend_inside, addend_found}
use Rattle.reader.proofs.location.addend_from.Goals as goal

pub returns-in_err-i : goal.returns-in_err-i
returns-in_err-i c = c.from_residual.ensures ∙ addend_none c.args.relocs.now c.args.place c.args.from c.find.new.self c.find.result (λ i b q k. search (rules, tests)) c.requires c.find.ensures.ran c.in_err-i.was

pub returns : goal.returns
returns c = addend_found c.args.relocs.now c.args.place c.args.from c.find.new.self c.find.result (λ i b q k. search (rules, tests)) c.requires c.find.ensures.ran c.in_ok-i.was

pub overflow_mul-result : goal.overflow_mul-result
overflow_mul-result c = omega (arith, addend_inside c.args.relocs.now c.args.place c.args.from c.find.new.self c.find.result (λ i b q k. search (rules, tests)) c.requires c.find.ensures.ran c.in_ok-i.was)

pub overflow_add-result : goal.overflow_add-result
overflow_add-result c = omega (arith, addend_inside c.args.relocs.now c.args.place c.args.from c.find.new.self c.find.result (λ i b q k. search (rules, tests)) c.requires c.find.ensures.ran c.in_ok-i.was)

pub offset_bounds-relocs-i : goal.offset_bounds-relocs-i
offset_bounds-relocs-i c = omega (arith, addend_inside c.args.relocs.now c.args.place c.args.from c.find.new.self c.find.result (λ i b q k. search (rules, tests)) c.requires c.find.ensures.ran c.in_ok-i.was)

pub bounds-relocs-i : goal.bounds-relocs-i
bounds-relocs-i c = omega (arith, addend_inside c.args.relocs.now c.args.place c.args.from c.find.new.self c.find.result (λ i b q k. search (rules, tests)) c.requires c.find.ensures.ran c.in_ok-i.was)

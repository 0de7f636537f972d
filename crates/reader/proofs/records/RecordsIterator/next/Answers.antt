-- `reader::records::Records`' `next` meets its contract.
use Rattle.std.proofs.Common.{refl, rules, tests}
use Rattle.reader.proofs.Searches.{held_serves, found_record}
use Rattle.reader.proofs.records.RecordsIterator.next.Goals as goal

pub find-requires-clause-callable : goal.find-requires-clause-callable
find-requires-clause-callable c = held_serves (λ q x v r. search (rules, tests)) refl (λ x h. search (rules, tests))

pub returns-clause-steps : goal.returns-clause-steps
returns-clause-steps c = found_record c.args.self.now c.find.result c.find.new.self (λ x b q k. search (rules, tests)) c.find.ensures.ran

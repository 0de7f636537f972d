-- `reader::section::Links::header_from` meets its contract.
use Rattle.std.proofs.Common.{rules, tests}
use Rattle.reader.proofs.Searches.{held_serves, found_header}
use Rattle.reader.proofs.section.Links.header_from.Goals as goal

pub starting-requires : goal.starting-requires
starting-requires c = c.requires.0.tiled

pub find-requires-clause-callable : goal.find-requires-clause-callable
find-requires-clause-callable c = held_serves (λ q x v r. search (rules, tests)) c.starting.ensures.0 (λ x h. search (rules, tests))

pub returns : goal.returns
returns c =
    let a = c.args in
    let e = c.starting.ensures in
    found_header a.self.now.debug a.place a.before c.starting.result c.find.new.self c.find.result e.0 e.1 c.requires.0 c.requires.1 (λ x b q k. search (rules, tests)) c.find.ensures.ran

-- `reader::entries::record_span` meets its contract.
use Rattle.reader.proofs.Searches.{kth_given}
use Rattle.reader.proofs.entries.record_span.Goals as goal

pub returns : goal.returns
returns c =
    let e = c.new.ensures in
    kth_given c.new.result c.nth.new.self c.args.k c.nth.result e.0 e.2 c.nth.ensures.ran

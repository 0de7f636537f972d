-- `header_keys::leading_count` meets its contract.
use lib.ListN.{length-append}
use Rattle.format.specs.Headers.{leading}
use Rattle.lists.specs.Extents.{meant}
use Rattle.header_keys.proofs.leading_count.Goals as goal

pub returns : goal.returns
unfolding leading meant
returns c = rw (length-append, ← c.implied_count.ensures.0, ← c.ahead.ensures.0)

-- `operations::fields::signed_value` meets its contract.
use mir.Facts.{to_z-of_z}
use Rattle.operations.specs.Signs.{spelled_to}
use Rattle.operations.proofs.fields.signed_value.Goals as goal

pub returns : goal.returns
unfolding spelled_to
returns c =
    let f = c.ranges.v in
    rw (to_z-of_z f) (rw (c.past.ensures, rw (to_z-of_z f) at c.sleb_size.ensures))

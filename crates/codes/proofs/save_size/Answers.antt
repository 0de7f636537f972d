-- `codes::save_size` meets its contract.
use Rattle.codes.specs.Codes.{save_size}
use Rattle.codes.proofs.save_size.Goals as goal

pub returns-then-vector : goal.returns-then-vector
unfolding save_size
returns-then-vector c = rw c.if-vector.true c.slot_size.ensures

pub returns : goal.returns
unfolding save_size
returns c = rw c.if-vector.false c.slot_size-2.ensures

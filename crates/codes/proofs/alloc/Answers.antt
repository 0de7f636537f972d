-- `codes::alloc` meets its contract.
use Rattle.codes.proofs.Forms.{alloc_small}
use Rattle.codes.proofs.alloc.Goals as goal

pub returns-then-size-le128 : goal.returns-then-size-le128
returns-then-size-le128 c = rw (alloc_small c.args.at c.args.size c.if-size-le128.true) c.form.ensures

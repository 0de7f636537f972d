-- `codes::form` meets its contract.
use Rattle.codes.proofs.Forms.{form_holds}
use Rattle.codes.proofs.form.Goals as goal

pub returns : goal.returns
returns c = form_holds c.args.at c.args.op c.args.info c.args.n c.args.v c.to_le_bytes-b.result c.requires.2 c.to_le_bytes-b.ensures

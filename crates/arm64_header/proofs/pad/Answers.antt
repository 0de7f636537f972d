-- `arm64_header::pad` meets its contract.
use Rattle.arm64_header.proofs.Forms.{nops}
use mathlib.Core.Path.{sym}
use Rattle.arm64_header.proofs.pad.Goals as goal

pub returns : goal.returns
returns c = rw (sym (nops c.args.n c.requires.0)) c.le.ensures

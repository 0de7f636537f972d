-- `rows::frame_offset_size` meets its contract.
use mathlib.Core.Path.{ap, ◌∙◌}
use lib.ListN.{length}
use Rattle.leb.proofs.Signs.{same_cast}
use Rattle.rows.proofs.Factors.{signed_bytes, plain_bytes}
use Rattle.rows.proofs.frame_offset_size.Goals as goal

pub returns-then-z-lt0 : goal.returns-then-z-lt0
returns-then-z-lt0 c =
    let e = signed_bytes c.args.word.bytes c.args.z c.ranges.z c.if-z-lt0.true c.factored.type_inv c.factored.ensures in
    c.sleb_size.ensures ∙ ap length e

pub overflow_cast-z : goal.overflow_cast-z
overflow_cast-z c = same_cast c.args.z c.ranges.z c.if-z-lt0.false

pub returns : goal.returns
returns c =
    let e = plain_bytes c.args.word.bytes c.args.z c.ranges.z c.if-z-lt0.false in
    c.uleb_size.ensures ∙ ap length e

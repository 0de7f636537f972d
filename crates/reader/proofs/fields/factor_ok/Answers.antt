-- `reader::fields::factor_ok` meets its contract.
use mathlib.Core.Path.{◌∙◌, ap}
use lib.Dec.{eqb}
use lib.IntN.{nat_abs}
use mir.Facts.{to_z-of_z}
use Rattle.reader.proofs.Headed.{factor_above, factor_size}
use Rattle.reader.proofs.fields.factor_ok.Goals as goal

pub returns-then-z-gt0 : goal.returns-then-z-gt0
returns-then-z-gt0 c = factor_above c.args.word c.args.z (rw (to_z-of_z c.ranges.z) at c.if-z-gt0.true)

pub returns : goal.returns
returns c =
    let e = to_z-of_z c.ranges.z in
    ap (λ n. eqb n c.args.word) (c.unsigned_abs.ensures.value ∙ ap nat_abs e) ∙ factor_size c.args.word c.args.z (rw e at c.if-z-gt0.false)

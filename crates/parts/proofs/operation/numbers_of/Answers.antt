-- `parts::operation::numbers_of` meets its contract.
use mathlib.Core.Path.{refl}
use Rattle.rows.proofs.Signs.{passed}
use Rattle.parts.specs.Operations.{operation_numbers}
use Rattle.parts.proofs.operation.numbers_of.Goals as goal

pub returns-in-Does : goal.returns-in-Does
unfolding operation_numbers
returns-in-Does c =
    let e = passed c.offset.result c.offset.type_inv in
    rw (c.in-Does.is, c.kind.ensures, c.from.ensures, c.register.ensures, c.cast_unsigned.ensures, e, c.offset.ensures) refl

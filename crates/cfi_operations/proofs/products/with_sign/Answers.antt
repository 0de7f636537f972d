-- `cfi_operations::products::with_sign` meets its contract.
use Rattle.std.proofs.Common.{arith}
use Rattle.cfi_operations.proofs.Signs.{minus_fits, minus_is, minus_over}
use Rattle.cfi_operations.proofs.products.with_sign.Goals as goal

pub returns-then-m-gt9223372036854775808 : goal.returns-then-m-gt9223372036854775808
returns-then-m-gt9223372036854775808 c =
    rw c.if-not-negative.false (minus_over c.args.m (omega (arith, c.if-m-gt9223372036854775808.true)))

pub overflow_sub-result-2 : goal.overflow_sub-result-2
overflow_sub-result-2 c = minus_fits c.args.m (omega arith) (omega arith)

pub returns : goal.returns
returns c = rw c.if-not-negative.false (minus_is c.args.m (omega arith) (omega arith))

-- `rows::factored` meets its contract.
use Rattle.rows.proofs.Factors.{divisor_fits, quotient_fits, quotient_is}
use Rattle.rows.proofs.factored.Goals as goal

pub overflow_sub-result : goal.overflow_sub-result
overflow_sub-result c = divisor_fits c.args.word.bytes c.args.z c.ranges.z c.args.word.small.0 c.args.word.small.1

pub nonzero_div-result : goal.nonzero_div-result
nonzero_div-result c = quotient_fits c.args.word.bytes c.args.z c.ranges.z c.args.word.small.0 c.args.word.small.1

pub returns : goal.returns
returns c = quotient_is c.args.word.bytes c.args.z c.ranges.z c.args.word.small.0 c.args.word.small.1

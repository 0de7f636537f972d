-- `rows::row_numbers::RowNumbers::size` meets its contract.
use native.Mathlib.Omega.{arith}
use Rattle.format.proofs.ListLaws.{row_numbers}
use Rattle.rows.proofs.ShortSizes.{sized}
use Rattle.rows.proofs.row_numbers.RowNumbers.size.Goals as goal

pub scaled-y-requires : goal.scaled-y-requires
scaled-y-requires c = (c.args.word.small.1, (row_numbers c.args.self.kind c.args.self.register c.args.self.operand c.args.self.ok).off_low)

pub short_size-requires : goal.short_size-requires
short_size-requires c =
    (row_numbers c.args.self.kind c.args.self.register c.args.self.operand c.args.self.ok).kind_low

pub overflow_add-result : goal.overflow_add-result
overflow_add-result c = omega (arith, c.short_size.ensures.1, c.second_byte.ensures.1)

pub returns : goal.returns
returns c =
    sized c.args.word.bytes c.args.self.register c.args.self.operand c.args.word.small.0 c.args.word.small.1 c.if-self-gt-MOST_IN_OPCODE.false c.args.self.kind c.args.self.ok c.scaled-y.ensures c.if-word-y.false c.short_size.ensures.0 c.second_byte.ensures.0

-- The numbers of `rows::row_numbers::RowNumbers::row` fit.
use Rattle.format.proofs.ListLaws.{row_numbers}
use Rattle.rows.proofs.row_numbers.RowNumbers.row.Goals as goal

pub overflow_cast-g : goal.overflow_cast-g
overflow_cast-g c = record { fits = (row_numbers c.args.self.kind c.args.self.register c.args.self.operand c.args.self.ok).reg_low }

pub signed32-z-requires : goal.signed32-z-requires
signed32-z-requires c = (row_numbers c.args.self.kind c.args.self.register c.args.self.operand c.args.self.ok).off_low

pub overflow_cast-result : goal.overflow_cast-result
overflow_cast-result c =
    record { fits = (row_numbers c.args.self.kind c.args.self.register c.args.self.operand c.args.self.ok).other_low c.in-10.is }

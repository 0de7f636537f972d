-- The row that its numbers say.
use Rattle.format.specs.declared.Row.{Row}
use Rattle.format.specs.Lists.{row_of}
use Rattle.rows.specs.declared.row_numbers.RowNumbers.{RowNumbers}

abbrev pub means : RowNumbers → Row
means x = row_of x.kind x.register x.operand

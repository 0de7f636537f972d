-- `struct_entries::row_in` meets its contract: what is said of struct i is said of the numbers that all structs mean.
use Rattle.struct_entries.proofs.Meaning.{row_ok, row_at_here}
use Rattle.struct_entries.proofs.row_in.Goals as goal

pub returns : goal.returns
returns c = rw (row_ok c.args.rows.now c.args.i c.requires, row_at_here c.args.rows.now c.args.i c.requires) (rw c.row_numbers.ensures at c.row_in.ensures)

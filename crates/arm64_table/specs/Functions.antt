-- The functions that the code has taken out of the lists.
use Rattle.std.specs.Prelude.{List}
use Rattle.arm64.specs.Lists.{Function}
use Rattle.arm64_table.specs.declared.Functions.{Functions}
use Rattle.arm64_table.specs.Tables.{first_in}

abbrev pub functions_of : Functions → List Function
functions_of f = first_in f.lists f.count

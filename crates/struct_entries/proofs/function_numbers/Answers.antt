-- `struct_entries::function_numbers` meets its contract.
use borrow.Author.Rules.{rules}
use Rattle.struct_entries.specs.Structs.{function_numbers}
use Rattle.struct_entries.proofs.function_numbers.Goals as goal

pub returns : goal.returns
unfolding function_numbers
returns c = search rules

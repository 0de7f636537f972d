-- `struct_entries::all_zero` meets its contract.
use mathlib.Core.Path.{◌∙◌}
use borrow.Author.Rules.{rules}
use borrow.Author.Tests.{tests}
use Rattle.std.proofs.lemmas.Iterator.{YieldsList-from_slice}
use Rattle.std.proofs.lemmas.Iterator.Search.{all_from_yields_List}
use Rattle.struct_entries.specs.Entries.{is_zero}
use Rattle.struct_entries.proofs.all_zero.Goals as goal
use Rattle.format.proofs.Asking.{all_listed}

pub returns : goal.returns
unfolding is_zero
returns c =
    all_from_yields_List is_zero _ _ _ c.all.ensures.ran (YieldsList-from_slice c.args.numbers.now cc) (λ x b q k. search (rules, tests)) ∙ all_listed is_zero c.args.numbers.now

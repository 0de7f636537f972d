-- `dwarf::Lines::row_whole` meets its contract.
use borrow.Author.Rules.{rules}
use mathlib.Core.Path.{ap, ◌∙◌}
use Rattle.format.specs.Rows.{row_whole}
use Rattle.format.proofs.FieldsBack.{word_small}
use Rattle.dwarf.proofs.Rows.{row_ready}
use Rattle.dwarf.proofs.Lines.row_whole.Goals as goal

pub row_at-requires : goal.row_at-requires
row_at-requires c = let r = c.args.self.now.ready in (search rules, row_ready r c.args.i c.requires.0 c.requires.1)

pub row_whole-requires : goal.row_whole-requires
row_whole-requires c = (word_small _ c.args.self.now.is_word).0

pub returns : goal.returns
returns c = c.row_whole.ensures ∙ ap (row_whole _) c.row_at.ensures

-- `rows::surveyed` meets its contract.
use mathlib.Core.Path.{sym, ◌∙◌}
use Rattle.format.proofs.Choice.{is_yes_lem}
use Rattle.format.proofs.FieldsBack.{word_small}
use Rattle.rows.proofs.WholeNumbers.{word_least}
use Rattle.rows.proofs.surveyed.Goals as goal

pub at-numbers-requires : goal.at-numbers-requires
at-numbers-requires c =
    (c.requires.1, is_yes_lem (sym c.row_ok.ensures ∙ c.if-not-row_ok.false))

pub invariant_of-size : goal.invariant_of-size
invariant_of-size c =
    record { small = (word_least c.args.word c.requires.0, (word_small c.args.word c.requires.0).1) }

pub returns : goal.returns
returns c =
    rw (← c.at-numbers.ensures)
    (is_yes_lem (sym c.row_ok.ensures ∙ c.if-not-row_ok.false), c.surely_whole.ensures c.if-not-surely_whole.false, c.size.ensures)

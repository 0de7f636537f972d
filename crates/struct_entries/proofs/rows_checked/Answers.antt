-- `struct_entries::rows_checked` meets its contract.
use mathlib.Core.Path.{◌∙◌}
use Rattle.format.specs.Lists.{row_ok_at, row_at, mark}
use Rattle.struct_entries.proofs.Meaning.{all_of}
use Rattle.struct_entries.proofs.Checked.{unmarked, checked}
use Rattle.struct_entries.proofs.rows_checked.Goals as goal

pub returns-then-simple-gt1 : goal.returns-then-simple-gt1
returns-then-simple-gt1 c = unmarked c.args.simple c.args.rows.now c.if-simple-gt1.true

pub returns : goal.returns
unfolding mark
returns c =
    c.rows_check.ensures (row_ok_at (all_of c.args.rows.now)) (row_at (all_of c.args.rows.now)) (λ i r l h p. p) ∙ checked c.args.simple c.args.rows.now c.if-simple-gt1.false

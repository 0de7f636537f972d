-- `Lists::function_ok` meets its contract.
use mathlib.Core.Bool.{not}
use mathlib.Core.Path.{ap}
use Rattle.lists.proofs.Answers.{accepted, refused}
use Rattle.lists.proofs.Outlines.{function_is, rows_inside}
use Rattle.lists.proofs.Lists.function_ok.Goals as goal

pub returns-then-not-outline_ok : goal.returns-then-not-outline_ok
returns-then-not-outline_ok c = simp (function_is, refused c.outline_ok.ensures (ap not c.if-not-outline_ok.true))

pub rows_ok-requires : goal.rows_ok-requires
rows_ok-requires c = rw (c.number.ensures, c.number-2.ensures) (rows_inside _ _ _ _ _ (accepted c.outline_ok.ensures (ap not c.if-not-outline_ok.false)))

pub returns : goal.returns
returns c = simp (function_is, accepted c.outline_ok.ensures (ap not c.if-not-outline_ok.false)) (rw (c.number.ensures, c.number-2.ensures) at c.rows_ok.ensures)

-- `rules::row_in` meets its contract.
use mathlib.Core.Bool.{not}
use mathlib.Core.Path.{ap, refl}
use Rattle.lists.proofs.Answers.{accepted, refused}
use Rattle.format.specs.Lists.{row_at}
use Rattle.rules.proofs.row_in.Goals as goal

pub returns-then-not-row_ok : goal.returns-then-not-row_ok
returns-then-not-row_ok c = rw (refused c.row_ok.ensures (ap not c.if-not-row_ok.true)) refl

pub returns : goal.returns
unfolding row_at
returns c = rw (accepted c.row_ok.ensures (ap not c.if-not-row_ok.false), c.offset_at.ensures, c.row_at.ensures) refl

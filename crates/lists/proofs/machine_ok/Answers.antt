-- A word of `lists::machine_ok` divides.
use mathlib.Core.Bool.{not}
use mathlib.Core.Path.{ap}
use Rattle.lists.proofs.Answers.{accepted}
use Rattle.lists.proofs.Machines.{word_some}
use Rattle.lists.proofs.machine_ok.Goals as goal

pub nonzero_rem-ms : goal.nonzero_rem-ms
nonzero_rem-ms c = word_some _ (accepted c.is_word.ensures (ap not c.if-not-is_word.false))

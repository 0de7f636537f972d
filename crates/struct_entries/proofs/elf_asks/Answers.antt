-- `struct_entries::elf_asks` meets its contract.
use mathlib.Core.Bool.{not}
use mathlib.Core.Path.{ap, refl}
use Rattle.format.specs.Prelude.{pick}
use Rattle.lists.proofs.Answers.{accepted, refused}
use Rattle.struct_entries.proofs.elf_asks.Goals as goal

pub returns-then-not-machine_ok : goal.returns-then-not-machine_ok
unfolding pick
returns-then-not-machine_ok c = rw (refused c.machine_ok.ensures (ap not c.if-not-machine_ok.true)) refl

pub returns : goal.returns
unfolding pick
returns c = rw (accepted c.machine_ok.ensures (ap not c.if-not-machine_ok.false)) refl

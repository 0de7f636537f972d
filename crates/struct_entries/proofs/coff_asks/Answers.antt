-- `struct_entries::coff_asks` meets its contract.
use mathlib.Core.Bool.{not}
use mathlib.Core.Path.{ap, refl, ◌∙◌}
use lib.Dec.{eqb}
use Rattle.format.specs.declared.Machine.{Machine}
use Rattle.format.specs.Prelude.{pick}
use Rattle.lists.proofs.Answers.{accepted, refused}
use Rattle.struct_entries.proofs.coff_asks.Goals as goal

pub returns-then-not-machine_ok : goal.returns-then-not-machine_ok
unfolding pick
returns-then-not-machine_ok c = rw (refused c.machine_ok.ensures (ap not c.if-not-machine_ok.true)) refl

pub returns-then-not-word_ok : goal.returns-then-not-word_ok
unfolding pick
returns-then-not-word_ok c =
    rw
    (accepted c.machine_ok.ensures (ap not c.if-not-machine_ok.false), refused (c.word_ok.ensures ∙ ap (λ (m : Machine). eqb m.word 8) c.machine_of.ensures) (ap not c.if-not-word_ok.true))
    refl

pub returns : goal.returns
unfolding pick
returns c =
    rw
    (accepted c.machine_ok.ensures (ap not c.if-not-machine_ok.false), accepted (c.word_ok.ensures ∙ ap (λ (m : Machine). eqb m.word 8) c.machine_of.ensures) (ap not c.if-not-word_ok.false))
    refl

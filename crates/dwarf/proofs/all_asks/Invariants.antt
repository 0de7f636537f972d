use Rattle.format.specs.Questions.{dwarf_asks}
use Rattle.header_keys.specs.Inputs.{inputs_of}
use Rattle.dwarf.specs.Asks.{asked_in}
use Rattle.dwarf.proofs.Asking.{Asking}
use Rattle.dwarf.proofs.all_asks.Given as goal

abbrev pub invariant-loop-k : goal.invariant-loop-k
invariant-loop-k l = Asking (dwarf_asks l.x.section l.x.machine.word) (asked_in (inputs_of l.x)) l.n l.k

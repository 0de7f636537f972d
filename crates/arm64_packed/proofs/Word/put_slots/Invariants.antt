use lib.ListN.{length, drop}
use Rattle.format.proofs.Storing.{Storing}
use Rattle.arm64.specs.Lists.{code_numbers}
use Rattle.arm64.specs.Packed.{slot_at, slots_from}
use Rattle.arm64_packed.proofs.Word.put_slots.Given as goal

abbrev pub invariant-loop-c : goal.invariant-loop-c
invariant-loop-c l = let all = slots_from (slot_at l.fn.part l.fn.self.fields) 0 19 in Storing l.initial.out l.out l.at l.to (code_numbers all) (code_numbers (drop (length l.yielded) all))

use Rattle.std.proofs.Common.{◌≡◌, ◌+◌, ◌-◌}
use Rattle.arm64.specs.declared.Part.TheVariants.{Prologue}
use Rattle.arm64.specs.Packed.{slot_at}
use Rattle.arm64_back.proofs.Down.{slots_down}
use Rattle.arm64_back.proofs.packed_down.Given as goal

-- what the places behind have is what is left
abbrev pub invariant-loop-i : goal.invariant-loop-i
invariant-loop-i l =
    l.down + slots_down (slot_at Prologue l.w.fields) l.i (19 - l.i) ≡ slots_down (slot_at Prologue l.w.fields) 0 19

use mathlib.Core.Path.{◌≡◌}
use lib.ListN.{take}
use Rattle.struct_entries.specs.Packed.{stored_all}
use Rattle.struct_entries.proofs.put_all.Given as goal

-- the first i structs are stored
abbrev pub invariant-loop-i : goal.invariant-loop-i
invariant-loop-i g l = l.numbers ≡ stored_all g.R.Record.meaning l.initial.numbers l.at (take l.i l.records)

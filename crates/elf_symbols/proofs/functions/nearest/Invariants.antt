use Rattle.std.proofs.Common.{◌≡◌, ◌-◌}
use Rattle.std.specs.Prelude.{None}
use Rattle.elf_symbols.specs.Functions.{covering, nearest}
use Rattle.elf_symbols.proofs.functions.nearest.Given as goal

abbrev pub invariant-loop-index : goal.invariant-loop-index
invariant-loop-index l =
    nearest (covering l.file l.sections l.symbols l.place) (l.symbols.count - l.index) l.index l.found
    ≡ nearest (covering l.file l.sections l.symbols l.place) l.symbols.count 0 None

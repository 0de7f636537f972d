use Rattle.std.proofs.Common.{◌≡◌, ◌-◌}
use Rattle.elf.specs.Searches.{first}
use Rattle.elf.specs.Section.{has_name}
use Rattle.elf.proofs.sections.Sections.position.Given as goal

abbrev pub invariant-loop-index : goal.invariant-loop-index
invariant-loop-index l =
    first (has_name l.file l.self l.wanted) (l.self.count - l.index) l.index
    ≡ first (has_name l.file l.self l.wanted) l.self.count 0

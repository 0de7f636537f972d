-- `dwarf::size_ok` meets its contract.
use Rattle.std.proofs.Common.{T, rules}
use Rattle.format.specs.Machine.{is_word_size}
use Rattle.format.specs.Questions.{size_bytes}
use Rattle.format.proofs.FieldsBack.{word_small}
use Rattle.dwarf.proofs.Widths.{held}
use Rattle.dwarf.proofs.size_ok.Goals as goal

pub largest-requires-in-Debug : goal.largest-requires-in-Debug
largest-requires-in-Debug c =
    let m = c.args.x.now.machine in
    let t : T (is_word_size m.word) = search rules in
    word_small m.word t

pub returns-in-Elf : goal.returns-in-Elf
unfolding size_bytes
returns-in-Elf c = rw c.in-Elf.is (held 4 _ _ c.largest.ensures)

pub returns-in-Debug : goal.returns-in-Debug
unfolding size_bytes
returns-in-Debug c = rw c.in-Debug.is (held _ _ _ c.largest-in-Debug.ensures)

-- `dwarf::align_for` meets its contract.
use Rattle.dwarf.proofs.Alignment.{at_last, small_word, in_elf, in_debug}
use Rattle.dwarf.proofs.align_for.Goals as goal

pub returns-then-last : goal.returns-then-last
returns-then-last c = at_last _ _ c.if-last.true

pub returns-then-word-lt4 : goal.returns-then-word-lt4
returns-then-word-lt4 c = small_word _ _ _ c.if-word-lt4.true

pub returns-in-Elf : goal.returns-in-Elf
returns-in-Elf c = rw c.in-Elf.is (in_elf _ c.if-last.false c.if-word-lt4.false)

pub returns-in-Debug : goal.returns-in-Debug
returns-in-Debug c = rw c.in-Debug.is (in_debug _ _)

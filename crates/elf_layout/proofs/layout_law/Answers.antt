use Rattle.elf_layout.proofs.WrittenBack.{section_back, segment_back, symbol_back}
use Rattle.elf_layout.proofs.layout_law.Goals as goal

pub returns-clause-section : goal.returns-clause-section
returns-clause-section c = section_back

pub returns-clause-segment : goal.returns-clause-segment
returns-clause-segment c = segment_back

pub returns-clause-symbol : goal.returns-clause-symbol
returns-clause-symbol c = symbol_back

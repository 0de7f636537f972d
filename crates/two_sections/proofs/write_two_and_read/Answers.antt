-- `two_sections::write_two_and_read` meets its contract.
use Rattle.two_sections.proofs.Stories.{promised}
use Rattle.two_sections.proofs.write_two_and_read.Goals as goal

pub returns : goal.returns
returns c =
    let w = rw c.from-elf.ensures at c.write_and_read-eh.ensures in
    let w⁺ = rw c.from-elf.ensures at c.write_and_read-debug.ensures in
    let p = promised _ _ _ _ _ _ _ _ _ _ _ _ _ _ w.writes w.reading_value _ _ _ _ _ _ _ _ _ w⁺.writes w⁺.reading_value in
    record {
      writes = p.0;
      writes_2 = p.1.0;
      of_eh_value = p.1.1.0;
      of_debug_value = p.1.1.1.0;
      one_story = p.1.1.1.1;
    }

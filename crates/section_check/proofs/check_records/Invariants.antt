use Rattle.reader.proofs.Giving.{Over}
use Rattle.section_check.proofs.Pass.{Passing}
use Rattle.section_check.proofs.check_records.Given as goal

abbrev pub invariant-entries : goal.invariant-entries
invariant-entries l = Over l.section.bytes.now (Passing l.section.bytes.now l.section.layout.word l.stretches.marks l.k) l.entry-iterator

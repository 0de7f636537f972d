use Rattle.arm64_records.specs.Parts.{words_from}
use Rattle.arm64_records.proofs.Epilogues.{Totalling}
use Rattle.arm64_records.proofs.Scopes.count_codes.Given as goal

abbrev pub invariant-loop-k : goal.invariant-loop-k
invariant-loop-k l = Totalling (words_from l.self.«record».header.past l.self.«record».section.now) l.self.«record».codes.now l.self.count l.k l.n

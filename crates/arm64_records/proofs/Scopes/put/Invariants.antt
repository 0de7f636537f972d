use Rattle.arm64_records.specs.Parts.{words_from}
use Rattle.arm64_records.specs.Lent.{SameLists}
use Rattle.arm64_records.proofs.Epilogues.{Listing}
use Rattle.arm64_records.proofs.Scopes.put.Given as goal

abbrev pub invariant-loop-k : goal.invariant-loop-k
invariant-loop-k l =
    Listing (words_from l.self.«record».header.past l.self.«record».section.now) l.self.«record».codes.now l.initial.to.epilogues.now l.to.epilogues.now l.initial.to.codes.now l.to.codes.now l.n l.self.count l.k l.at
    × SameLists l.initial.to l.to

-- A record in its section: its epilogues, and the word of each.
use Rattle.std.specs.Prelude.{ℕ, List}
use Rattle.std.proofs.Math.Option.{Option}
use Rattle.arm64.specs.Lists.{Epilogue}
use Rattle.arm64.specs.Reader.{record_epilogues}
use Rattle.arm64_records.specs.declared.Record.{Record}
use Rattle.arm64_records.specs.Parts.{words_from}

abbrev pub epilogues_of : Record → Option (List Epilogue)
epilogues_of r = record_epilogues r.header r.section.now

abbrev pub word_of : Record → ℕ → ℕ
word_of r = words_from r.header.past r.section.now

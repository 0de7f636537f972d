-- `reads::addresses::Loaded::record_holds` meets its contract.
use Rattle.reads.proofs.Addressing.{holds_none, holds_from, holds_later}
use Rattle.reads.specs.Addresses.{function_of}
use Rattle.reader.specs.Spans.{entry_in}
use Rattle.std.proofs.Common.{sym, ◌∙◌}
use Rattle.reads.proofs.addresses.Loaded.record_holds.Goals as goal

pub returns-in_default : goal.returns-in_default
returns-in_default c =
    let a = c.args in
    holds_none a.pc (function_of a.self.now.section.layout.debug a.self.now.section.layout.word a.self.now.address (entry_in a.self.now.section.bytes.now a.fde.at a.fde.end)) (sym c.function_of.ensures ∙ c.in_default.is)

pub returns-then-start-pc : goal.returns-then-start-pc
returns-then-start-pc c =
    let a = c.args in
    holds_from a.pc (function_of a.self.now.section.layout.debug a.self.now.section.layout.word a.self.now.address (entry_in a.self.now.section.bytes.now a.fde.at a.fde.end)) (sym c.function_of.ensures ∙ c.in-Some.is) c.if-start-pc.true

pub returns-else-start-pc : goal.returns-else-start-pc
returns-else-start-pc c =
    let a = c.args in
    holds_later a.pc (function_of a.self.now.section.layout.debug a.self.now.section.layout.word a.self.now.address (entry_in a.self.now.section.bytes.now a.fde.at a.fde.end)) (sym c.function_of.ensures ∙ c.in-Some.is) c.if-start-pc.false

-- `reads::addresses::Loaded::function_at` meets its contract.
use Rattle.reads.proofs.Addressing.{function_missing, function_header, function_short, function_record}
use Rattle.reader.proofs.Tiling.{entered}
use Rattle.std.proofs.Common.{sym, ◌∙◌}
use Rattle.reads.proofs.addresses.Loaded.function_at.Goals as goal

pub returns-in_default : goal.returns-in_default
returns-in_default c = let a = c.args in function_missing a.self.now.section.bytes.now a.self.now.section.layout.debug a.self.now.section.layout.word a.self.now.address a.at (sym c.entry_end.ensures ∙ c.in_default.is)

pub is_header-requires : goal.is_header-requires
is_header-requires c = let e = entered c.args.self.now.section.bytes.now c.args.at (sym c.entry_end.ensures ∙ c.in-Some.is) in (e.long, e.inside)

pub returns-then-is_header : goal.returns-then-is_header
returns-then-is_header c =
    let a = c.args in
    function_header a.self.now.section.bytes.now a.self.now.section.layout.debug a.self.now.section.layout.word a.self.now.address a.at (sym c.entry_end.ensures ∙ c.in-Some.is) (sym c.is_header.ensures ∙ c.if-is_header.true)

pub function_of-requires : goal.function_of-requires
function_of-requires c = let e = entered c.args.self.now.section.bytes.now c.args.at (sym c.entry_end.ensures ∙ c.in-Some.is) in (e.long, e.inside)

pub returns-in_default-function_of : goal.returns-in_default-function_of
returns-in_default-function_of c =
    let a = c.args in
    function_short a.self.now.section.bytes.now a.self.now.section.layout.debug a.self.now.section.layout.word a.self.now.address a.at (sym c.entry_end.ensures ∙ c.in-Some.is) (sym c.is_header.ensures ∙ c.if-is_header.false) (sym c.function_of.ensures ∙ c.in_default-function_of.is)

pub returns : goal.returns
returns c =
    let a = c.args in
    function_record a.self.now.section.bytes.now a.self.now.section.layout.debug a.self.now.section.layout.word a.self.now.address a.at (sym c.entry_end.ensures ∙ c.in-Some.is) (sym c.is_header.ensures ∙ c.if-is_header.false) (sym c.function_of.ensures ∙ c.in-Some-function_of.is)

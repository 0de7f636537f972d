-- `section_check::marks::Passed::answers_at` meets its contract.
use mathlib.Core.Path.{◌∙◌}
use Rattle.section_check.proofs.Entries.{headless, header_stands, unparsed, ok_answers, answered_in}
use Rattle.section_check.proofs.marks.Passed.answers_at.Goals as goal

pub returns-in_default : goal.returns-in_default
returns-in_default c = headless c.args.self.now.section.now.bytes.now c.args.self.now.section.now.layout.word c.args.fde.at c.args.fde.end c.args.p c.header_of.ensures c.in_default.is

pub parse-requires : goal.parse-requires
parse-requires c =
    let h = header_stands c.args.self.now.section.now.bytes.now c.args.self.now.section.now.layout.word c.args.fde.at c.args.fde.end c.args.p c.header_of.ensures c.in-Some.is in
    ((h.long, h.inside), c.requires)

pub returns-in_default-parse : goal.returns-in_default-parse
returns-in_default-parse c = unparsed c.args.self.now.section.now.bytes.now c.args.self.now.section.now.layout.word c.args.fde.at c.args.fde.end c.args.p c.header_of.ensures c.in-Some.is (rw c.args.self.now.eh at c.parse.ensures.located) c.in_default-parse.is

pub returns : goal.returns
returns c =
    c.is_ok.ensures.value
    ∙ ok_answers c.rules_at.result
    ∙ answered_in c.args.self.now.section.now.bytes.now c.args.self.now.section.now.layout.word c.args.fde.at c.args.fde.end c.args.p c.header_of.ensures c.in-Some.is (rw c.args.self.now.eh at c.parse.ensures.located) c.in-Ok.is c.rules_at.ensures

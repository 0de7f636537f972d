-- `section_check::marks::Passed::passes` meets its contract.
use mathlib.Core.Path.{◌∙◌}
use Rattle.section_check.proofs.Entries.{no_size, size_zero, size_more}
use Rattle.section_check.proofs.marks.Passed.passes.Goals as goal

pub returns-in_default : goal.returns-in_default
returns-in_default c = no_size c.args.self.now.section.now.bytes.now c.args.self.now.section.now.layout.word c.args.fde.at c.args.fde.end c.size_of.ensures c.in_default.is

pub returns-then-n-eq0 : goal.returns-then-n-eq0
returns-then-n-eq0 c = size_zero c.args.self.now.section.now.bytes.now c.args.self.now.section.now.layout.word c.args.fde.at c.args.fde.end c.size_of.ensures c.in-Some.is c.if-n-eq0.true

pub returns : goal.returns
returns c = c.answers_at.ensures ∙ size_more c.args.self.now.section.now.bytes.now c.args.self.now.section.now.layout.word c.args.fde.at c.args.fde.end c.size_of.ensures c.in-Some.is c.if-n-eq0.false

-- `codes::UnwindCode::code_no` meets its contract.
use mathlib.Core.Path.{◌∙◌}
use Rattle.codes.proofs.Questions.{no_register, no_offset, no_operand}
use Rattle.codes.proofs.UnwindCode.code_no.Goals as goal

pub returns-then-not-register_ok : goal.returns-then-not-register_ok
returns-then-not-register_ok c = no_register c.args.self.offset c.args.self.code c.register_ok.ensures c.if-not-register_ok.true

pub returns-then-self-gt255 : goal.returns-then-self-gt255
returns-then-self-gt255 c = no_offset c.args.self.offset c.args.self.code c.register_ok.ensures c.if-not-register_ok.false c.if-self-gt255.true

pub returns : goal.returns
returns c = c.operand_no.ensures ∙ no_operand c.args.self.offset c.args.self.code c.register_ok.ensures c.if-not-register_ok.false c.if-self-gt255.false

-- `passed::Passed::info_size` meets its contract.
use Rattle.x64.proofs.Infos.{agreed}
use Rattle.codes.proofs.Sizes.{info_parts}
use Rattle.x64.specs.Given.{codes_by}
use mathlib.Core.Path.{sym}
use borrow.Author.Rules.{rules}
use Rattle.x64.proofs.passed.Passed.info_size.Goals as goal

pub overflow_mul-result : goal.overflow_mul-result
overflow_mul-result c = let a = agreed _ _ c.args.self.now.passed in let e = c.slots-held.ensures in search rules

pub overflow_add-result : goal.overflow_add-result
overflow_add-result c = let a = agreed _ _ c.args.self.now.passed in let e = c.slots-held.ensures in search rules

pub overflow_add-result-2 : goal.overflow_add-result-2
overflow_add-result-2 c = let a = agreed _ _ c.args.self.now.passed in let e = c.slots-held.ensures in search rules

pub returns : goal.returns
returns c = sym (info_parts c.args.self.now.span.end (codes_by c.args.self.now.span) c.slots-held.ensures).0

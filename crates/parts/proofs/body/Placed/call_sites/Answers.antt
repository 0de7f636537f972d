-- `parts::body::Placed::call_sites` meets its contract.
use mathlib.Core.Path.{sym, ◌∙◌}
use native.Mathlib.Omega.{arith}
use Rattle.operations.proofs.PositionLaws.{uleb_ahead}
use Rattle.parts.proofs.Recorded.{sites_debug, sites_none, sites_bad, sites_there}
use Rattle.parts.proofs.body.Placed.call_sites.Goals as goal

pub returns-then-self : goal.returns-then-self
returns-then-self c = sym (sites_debug c.args.self.now.body.bytes.now c.args.self.now.base c.args.at c.args.self.now.body.layout.debug c.args.pointer c.if-self.true)

pub returns-then-pointer-eq0 : goal.returns-then-pointer-eq0
returns-then-pointer-eq0 c = sym (sites_none c.args.self.now.body.bytes.now c.args.self.now.base c.args.at c.args.self.now.body.layout.debug c.args.pointer c.if-self.false c.if-pointer-eq0.true)

pub returns-in_default : goal.returns-in_default
returns-in_default c = sym (sites_bad c.args.self.now.body.bytes.now c.args.self.now.base c.args.at c.args.self.now.body.layout.debug c.args.pointer c.if-self.false c.if-pointer-eq0.false (sym c.read_uleb.ensures ∙ c.in_default.is))

pub overflow_add-result : goal.overflow_add-result
overflow_add-result c = omega (arith, (uleb_ahead c.args.self.now.body.bytes.now c.args.at (sym c.read_uleb.ensures ∙ c.in-Some.is)).1)

pub returns : goal.returns
returns c = sym (sites_there c.args.self.now.body.bytes.now c.args.self.now.base c.args.at c.args.self.now.body.layout.debug c.args.pointer c.if-self.false c.if-pointer-eq0.false (sym c.read_uleb.ensures ∙ c.in-Some.is))

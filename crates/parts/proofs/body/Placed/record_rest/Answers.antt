-- `parts::body::Placed::record_rest` meets its contract.
use mathlib.Core.Path.{sym}
use native.Mathlib.Omega.{arith}
use Rattle.parts.proofs.Recorded.{rest_bad, recording, rest_there}
use Rattle.parts.proofs.body.Placed.record_rest.Goals as goal

pub returns-in_default : goal.returns-in_default
returns-in_default c = sym (rest_bad c.args.self.now.body.bytes.now c.args.self.now.base c.args.at c.args.self.now.body.layout.debug c.args.pointer c.args.f.header c.args.f.function c.args.f.length _ c.record_tail.ensures c.in_default.is)

pub overflow_add-result : goal.overflow_add-result
overflow_add-result c = omega (arith, (recording c.args.self.now.body.bytes.now c.args.self.now.base c.args.at c.args.self.now.body.layout.debug c.args.pointer c.args.f.header c.args.f.function c.args.f.length _ c.record_tail.ensures c.in-Some.is).inside)

pub returns : goal.returns
returns c = rw (c.end.ensures, c.call_sites.ensures) (sym (rest_there c.args.self.now.body.bytes.now c.args.self.now.base c.args.at c.args.self.now.body.layout.debug c.args.pointer c.args.f.header c.args.f.function c.args.f.length _ c.record_tail.ensures c.in-Some.is))

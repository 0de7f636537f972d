-- `parts::body::Placed::header_rest` meets its contract.
use mathlib.Core.Path.{sym}
use native.Mathlib.Omega.{arith}
use Rattle.format.proofs.Bits.{flag_number}
use Rattle.reader.specs.Fields.{letters_of}
use Rattle.parts.proofs.Headed.{rest_bad, heading, rest_there}
use Rattle.parts.proofs.body.Placed.header_rest.Goals as goal

pub returns-in_default : goal.returns-in_default
returns-in_default c = sym (rest_bad c.args.self.now.body.bytes.now c.args.self.now.base c.args.at c.args.self.now.body.layout.debug (letters_of c.args.p) c.args.self.now.body.layout.word c.args.reg _ c.header_tail.ensures c.in_default.is)

pub overflow_add-result : goal.overflow_add-result
overflow_add-result c = omega (arith, (heading c.args.self.now.body.bytes.now c.args.self.now.base c.args.at c.args.self.now.body.layout.debug (letters_of c.args.p) c.args.self.now.body.layout.word c.args.reg _ c.header_tail.ensures c.in-Some.is).inside)

pub returns : goal.returns
returns c = rw (c.end.ensures, c.from.ensures, c.from-2.ensures, c.from-3.ensures, flag_number c.args.p.personality, flag_number c.args.p.lsda, flag_number c.in-Some.field-0.signal) (sym (rest_there c.args.self.now.body.bytes.now c.args.self.now.base c.args.at c.args.self.now.body.layout.debug (letters_of c.args.p) c.args.self.now.body.layout.word c.args.reg _ c.header_tail.ensures c.in-Some.is))

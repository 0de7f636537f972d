-- `records::fields_size` meets its contract.
use native.Mathlib.Omega.{arith}
use Rattle.headers.proofs.Lengths.{uleb_most}
use Rattle.records.proofs.FieldLaws.{debug_length, eh_length}
use Rattle.format.proofs.FieldsBack.{word_small}
use Rattle.records.proofs.fields_size.Goals as goal

pub returns-then-f : goal.returns-then-f
returns-then-f c = rw (c.if-f.true, debug_length) (omega arith, omega (arith, (word_small _ c.args.f.now.sound.machine.is_word).1))

pub overflow_add-result-2 : goal.overflow_add-result-2
overflow_add-result-2 c = omega (arith, uleb_most c.lsda_blank-n.result)

pub overflow_add-result-3 : goal.overflow_add-result-3
overflow_add-result-3 c = omega (arith, uleb_most c.lsda_blank-n.result)

pub returns : goal.returns
returns c = rw (c.if-f.false, eh_length, ← c.lsda_blank-n.ensures.0) (omega arith, omega (arith, uleb_most c.lsda_blank-n.result))

pub overflow_mul-result : goal.overflow_mul-result
overflow_mul-result c = omega (arith, (word_small _ c.args.f.now.sound.machine.is_word).1)

pub overflow_add-result : goal.overflow_add-result
overflow_add-result c = omega (arith, (word_small _ c.args.f.now.sound.machine.is_word).1)

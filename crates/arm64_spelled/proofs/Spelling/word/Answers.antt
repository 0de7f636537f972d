-- `Spelling::word` meets its contract.
use native.Mathlib.Omega.{arith}
use Rattle.arm64.specs.Codes.{offset_field}
use Rattle.arm64_spelled.proofs.FitLaws.{fields, word_1, word_2, word_4}
use Rattle.arm64_spelled.proofs.Spelling.word.Goals as goal

pub overflow_mul-field : goal.overflow_mul-field
overflow_mul-field c = rw c.register_field.ensures.0 (omega (arith, (fields c.args.self.form c.args.self.code c.args.self.good c.requires (omega (arith, c.register_field.ensures.0, c.register_field.ensures.1))).product))

pub overflow_add-field : goal.overflow_add-field
unfolding offset_field
overflow_add-field c = rw c.register_field.ensures.0 (omega (arith, (fields c.args.self.form c.args.self.code c.args.self.good c.requires (omega (arith, c.register_field.ensures.0, c.register_field.ensures.1))).product, (fields c.args.self.form c.args.self.code c.args.self.good c.requires (omega (arith, c.register_field.ensures.0, c.register_field.ensures.1))).below, c.args.self.good.opcode))

pub overflow_add-result : goal.overflow_add-result
unfolding offset_field
overflow_add-result c = rw c.register_field.ensures.0 (omega (arith, (fields c.args.self.form c.args.self.code c.args.self.good c.requires (omega (arith, c.register_field.ensures.0, c.register_field.ensures.1))).product, (fields c.args.self.form c.args.self.code c.args.self.good c.requires (omega (arith, c.register_field.ensures.0, c.register_field.ensures.1))).below, c.args.self.good.opcode))

pub overflow_add-result-in-2 : goal.overflow_add-result-in-2
unfolding offset_field
overflow_add-result-in-2 c = rw c.register_field.ensures.0 (omega (arith, (fields c.args.self.form c.args.self.code c.args.self.good c.requires (omega (arith, c.register_field.ensures.0, c.register_field.ensures.1))).product, (fields c.args.self.form c.args.self.code c.args.self.good c.requires (omega (arith, c.register_field.ensures.0, c.register_field.ensures.1))).below, c.args.self.good.opcode))

pub overflow_add-result-in_default : goal.overflow_add-result-in_default
unfolding offset_field
overflow_add-result-in_default c = rw c.register_field.ensures.0 (omega (arith, (fields c.args.self.form c.args.self.code c.args.self.good c.requires (omega (arith, c.register_field.ensures.0, c.register_field.ensures.1))).product, (fields c.args.self.form c.args.self.code c.args.self.good c.requires (omega (arith, c.register_field.ensures.0, c.register_field.ensures.1))).below, c.args.self.good.opcode))

pub returns-in-1 : goal.returns-in-1
unfolding offset_field
returns-in-1 c = rw c.register_field.ensures.0 (word_1 c.args.self.form c.args.self.code c.in-1.is)

pub returns-in-2 : goal.returns-in-2
unfolding offset_field
returns-in-2 c = rw c.register_field.ensures.0 (word_2 c.args.self.form c.args.self.code c.in-2.is)

pub returns-in_default : goal.returns-in_default
unfolding offset_field
returns-in_default c = rw c.register_field.ensures.0 (word_4 c.args.self.form c.args.self.code (omega (arith, c.args.self.good.some_bytes, c.args.self.good.few_bytes, c.args.self.good.not_three)))

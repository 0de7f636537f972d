-- `Checked::shape` meets its contract.
use Rattle.arm64_function.proofs.Record.{held_there, shape_codes, shape_only, shape_many}
use mathlib.Core.Path.{refl, sym, ◌∙◌}
use Rattle.arm64_function.proofs.Checked.shape.Goals as goal

pub unwrap-codes-requires : goal.unwrap-codes-requires
unwrap-codes-requires c = rw (c.codes_size.ensures ∙ held_there c.args.self.now.whole) refl

pub single_index-requires : goal.single_index-requires
single_index-requires c = shape_codes c.args.self.now.whole (sym c.codes_size.ensures ∙ c.unwrap-codes.ensures)

pub returns-in-Some : goal.returns-in-Some
returns-in-Some c = shape_only c.args.self.now.whole (sym c.codes_size.ensures ∙ c.unwrap-codes.ensures) c.single_index.ensures c.in-Some.is

pub returns-in-None : goal.returns-in-None
returns-in-None c = shape_many c.args.self.now.whole (sym c.codes_size.ensures ∙ c.unwrap-codes.ensures) c.single_index.ensures c.in-None.is

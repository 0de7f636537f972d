-- `Checked::single_index` meets its contract.
use mathlib.Core.Path.{sym, ◌∙◌}
use native.Mathlib.Omega.{arith}
use Rattle.arm64_function.proofs.Record.{single_many, single_long, single_far, single_ends, start_held, index_no, index_yes}
use Rattle.arm64_function.proofs.Checked.single_index.Goals as goal

pub returns-then-p-ne1 : goal.returns-then-p-ne1
returns-then-p-ne1 c = index_no c.args.self.now.function.epilogues.now c.args.self.now.function.codes.now c.args.self.now.function.parts c.args.self.now.function.size (single_many c.args.self.now.function.epilogues.now c.args.self.now.function.codes.now c.args.self.now.function.parts c.args.self.now.function.size c.if-p-ne1.true)

pub returns-then-codes-gt-SHORT_CODES : goal.returns-then-codes-gt-SHORT_CODES
returns-then-codes-gt-SHORT_CODES c = index_no c.args.self.now.function.epilogues.now c.args.self.now.function.codes.now c.args.self.now.function.parts c.args.self.now.function.size (single_long c.args.self.now.function.epilogues.now c.args.self.now.function.codes.now c.args.self.now.function.parts c.args.self.now.function.size c.requires c.if-codes-gt-SHORT_CODES.true)

pub returns-then-index-gt-SHORT_INDEX : goal.returns-then-index-gt-SHORT_INDEX
returns-then-index-gt-SHORT_INDEX c = index_no c.args.self.now.function.epilogues.now c.args.self.now.function.codes.now c.args.self.now.function.parts c.args.self.now.function.size (single_far c.args.self.now.function.epilogues.now c.args.self.now.function.codes.now c.args.self.now.function.parts c.args.self.now.function.size c.requires c.if-p-ne1.false c.if-codes-gt-SHORT_CODES.false c.only_index-index.ensures c.if-index-gt-SHORT_INDEX.true)

pub epilogue-requires : goal.epilogue-requires
epilogue-requires c = (omega arith, omega (arith, c.if-p-ne1.false))

pub ends-requires : goal.ends-requires
ends-requires c = rw (c.epilogue.ensures.0, c.epilogue.ensures.1) (start_held c.args.self.now.whole c.if-p-ne1.false)

pub returns-then-not-ends : goal.returns-then-not-ends
returns-then-not-ends c = index_no c.args.self.now.function.epilogues.now c.args.self.now.function.codes.now c.args.self.now.function.parts c.args.self.now.function.size (sym c.if-not-ends.true ∙ (rw (c.epilogue.ensures.0, c.epilogue.ensures.1) at c.ends.ensures) ∙ single_ends c.args.self.now.function.epilogues.now c.args.self.now.function.codes.now c.args.self.now.function.parts c.args.self.now.function.size c.requires c.if-p-ne1.false c.if-codes-gt-SHORT_CODES.false c.only_index-index.ensures c.if-index-gt-SHORT_INDEX.false)

pub returns : goal.returns
returns c = index_yes c.args.self.now.function.epilogues.now c.args.self.now.function.codes.now c.args.self.now.function.parts c.args.self.now.function.size (sym c.if-not-ends.false ∙ (rw (c.epilogue.ensures.0, c.epilogue.ensures.1) at c.ends.ensures) ∙ single_ends c.args.self.now.function.epilogues.now c.args.self.now.function.codes.now c.args.self.now.function.parts c.args.self.now.function.size c.requires c.if-p-ne1.false c.if-codes-gt-SHORT_CODES.false c.only_index-index.ensures c.if-index-gt-SHORT_INDEX.false) c.only_index-index.ensures

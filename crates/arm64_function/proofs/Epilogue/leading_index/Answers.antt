-- `Epilogue::leading_index` meets its contract.
use Rattle.arm64_function.proofs.Indexes.{index_leading, leading_low}
use Rattle.arm64_function.proofs.Epilogue.leading_index.Goals as goal

pub overflow_sub-result : goal.overflow_sub-result
overflow_sub-result c = leading_low c.args.self.now.function.epilogues.now c.args.self.now.function.codes.now c.args.self.now.function.parts c.args.self.now.i c.requires c.prologue_size.ensures.0 c.size.ensures.0

pub returns : goal.returns
returns c = index_leading c.args.self.now.function.epilogues.now c.args.self.now.function.codes.now c.args.self.now.function.parts c.args.self.now.i c.requires c.prologue_size.ensures.0 c.size.ensures.0

-- `Function::only_index` meets its contract.
use native.Mathlib.Omega.{arith}
use mathlib.Core.Path.{sym, ◌∙◌}
use Rattle.arm64_function.proofs.Record.{index_only}
use Rattle.arm64_function.proofs.Function.only_index.Goals as goal

pub epilogue-only-requires : goal.epilogue-only-requires
epilogue-only-requires c = (omega arith, omega (arith, c.requires))

pub leading_index-requires : goal.leading_index-requires
leading_index-requires c = sym c.leads.ensures ∙ c.if-leads.true

pub returns-then-leads : goal.returns-then-leads
returns-then-leads c = rw (c.epilogue-only.ensures.0, c.epilogue-only.ensures.1) at c.leading_index.ensures

pub returns : goal.returns
returns c = index_only c.args.self.now.epilogues.now c.args.self.now.codes.now c.args.self.now.parts c.requires (rw (c.epilogue-only.ensures.0, c.epilogue-only.ensures.1) at (sym c.leads.ensures ∙ c.if-leads.false)) c.prologue_size.ensures.0

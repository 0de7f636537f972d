-- `Epilogue::shares` meets its contract.
use mathlib.Core.Path.{sym, ◌∙◌}
use Prim.Native.Nat.{◌-◌}
use native.Mathlib.Omega.{arith}
use Rattle.format.specs.Lists.{field}
use Rattle.arm64.specs.Lists.{epilogue_stride}
use Rattle.arm64.specs.Writer.{instructions}
use Rattle.arm64_function.specs.Own.{epilogue_at, prologue_in, run_at}
use Rattle.arm64_function.proofs.PackedWord.{not_last, not_leading, too_long, no_longer, by_index}
use Rattle.arm64_function.proofs.Epilogue.shares.Goals as goal

pub returns-then-not-ends : goal.returns-then-not-ends
unfolding epilogue_at
returns-then-not-ends c = not_last c.args.self.now.function.codes.now (instructions (c.args.self.now.function.size - field epilogue_stride c.args.self.now.function.epilogues.now c.args.self.now.i 0)) c.args.self.now.function.parts.prologue (epilogue_at c.args.self.now.function.epilogues.now c.args.self.now.i) (sym c.ends.ensures ∙ c.if-not-ends.true)

pub returns-then-not-leads : goal.returns-then-not-leads
unfolding epilogue_at prologue_in run_at
returns-then-not-leads c = not_leading c.args.self.now.function.codes.now (instructions (c.args.self.now.function.size - field epilogue_stride c.args.self.now.function.epilogues.now c.args.self.now.i 0)) c.args.self.now.function.parts.prologue (epilogue_at c.args.self.now.function.epilogues.now c.args.self.now.i) (sym c.ends.ensures ∙ c.if-not-ends.false) (sym c.leads.ensures ∙ c.if-not-leads.true)

pub returns-then-whole-gt-SHORT_PROLOGUE : goal.returns-then-whole-gt-SHORT_PROLOGUE
unfolding epilogue_at prologue_in run_at
returns-then-whole-gt-SHORT_PROLOGUE c = too_long c.args.self.now.function.codes.now (instructions (c.args.self.now.function.size - field epilogue_stride c.args.self.now.function.epilogues.now c.args.self.now.i 0)) c.args.self.now.function.parts.prologue (epilogue_at c.args.self.now.function.epilogues.now c.args.self.now.i) (sym c.ends.ensures ∙ c.if-not-ends.false) (sym c.leads.ensures ∙ c.if-not-leads.false) c.prologue_size-whole.ensures.0 c.if-whole-gt-SHORT_PROLOGUE.true

pub overflow_sub-result : goal.overflow_sub-result
unfolding epilogue_at prologue_in run_at
overflow_sub-result c = no_longer c.args.self.now.function.codes.now (instructions (c.args.self.now.function.size - field epilogue_stride c.args.self.now.function.epilogues.now c.args.self.now.i 0)) c.args.self.now.function.parts.prologue (epilogue_at c.args.self.now.function.epilogues.now c.args.self.now.i) (sym c.ends.ensures ∙ c.if-not-ends.false) (sym c.leads.ensures ∙ c.if-not-leads.false) c.prologue_size-whole.ensures.0 c.size.ensures.0

pub returns : goal.returns
unfolding epilogue_at prologue_in run_at
returns c = by_index c.args.self.now.function.codes.now (instructions (c.args.self.now.function.size - field epilogue_stride c.args.self.now.function.epilogues.now c.args.self.now.i 0)) c.args.self.now.function.parts.prologue (epilogue_at c.args.self.now.function.epilogues.now c.args.self.now.i) (sym c.ends.ensures ∙ c.if-not-ends.false) (sym c.leads.ensures ∙ c.if-not-leads.false) c.prologue_size-whole.ensures.0 c.size.ensures.0 (omega (arith, c.if-whole-gt-SHORT_PROLOGUE.false))

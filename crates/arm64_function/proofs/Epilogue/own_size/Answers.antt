-- `Epilogue::own_size` meets its contract.
use native.Mathlib.Omega.{arith}
use Prim.Native.Nat.{ℕ, ◌+◌}
use mathlib.Core.Path.{sym, ap, ◌∙◌}
use Rattle.arm64_function.proofs.Own.{none_size, one_size, own_leading, own_shared, own_alone, near_some, near_none}
use Rattle.arm64_function.proofs.Epilogue.own_size.Goals as goal

pub returns-then-leads : goal.returns-then-leads
returns-then-leads c = (none_size (own_leading c.args.self.now.function.epilogues.now c.args.self.now.function.codes.now c.args.self.now.function.parts c.args.self.now.i (sym c.leads.ensures ∙ c.if-leads.true)), omega arith)

pub returns-then-is_some : goal.returns-then-is_some
returns-then-is_some c = (none_size (own_shared c.args.self.now.function.epilogues.now c.args.self.now.function.codes.now c.args.self.now.function.parts c.args.self.now.i c.nearest.ensures.0 (sym c.leads.ensures ∙ c.if-leads.false) (near_some _ _ c.nearest.ensures.1 (sym c.is_some.ensures ∙ c.if-is_some.true))), omega arith)

pub returns : goal.returns
returns c = (ap (λ (n : ℕ). n + 1) c.size.ensures.0 ∙ one_size (own_alone c.args.self.now.function.epilogues.now c.args.self.now.function.codes.now c.args.self.now.function.parts c.args.self.now.i c.nearest.ensures.0 (sym c.leads.ensures ∙ c.if-leads.false) (near_none _ _ (sym c.is_some.ensures ∙ c.if-is_some.false))), omega (arith, c.size.ensures.1))

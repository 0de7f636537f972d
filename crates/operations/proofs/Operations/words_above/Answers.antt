-- `Operations::words_above` meets its contract.
use mathlib.Core.Path.{ap, ◌∙◌}
use Prim.Native.Nat.{ℕ}
use lib.IntN.{pos}
use Rattle.operations.specs.Reads.{held}
use Rattle.operations.proofs.Products.{above_none, to_signed, not_signed}
use Rattle.operations.proofs.Operations.words_above.Goals as goal

pub returns-in_err-n : goal.returns-in_err-n
returns-in_err-n c = c.from_residual.ensures ∙ above_none c.args.self.now.word c.args.m c.args.past c.in_err-n.ensures

pub returns-in_err-ok : goal.returns-in_err-ok
returns-in_err-ok c =
    c.from_residual-in_err-ok.ensures ∙ not_signed c.in_ok-n.n c.args.past _ c.try_from.ensures c.in_err-ok.ensures.value
    ∙ ap (λ (n : ℕ). held (pos n) c.args.past) c.in_ok-n.ensures.1

pub returns : goal.returns
returns c =
    to_signed c.in_ok-n.n c.args.past _ c.try_from.ensures c.in_ok-ok.field-0 c.in_ok-ok.ensures.value
    ∙ ap (λ (n : ℕ). held (pos n) c.args.past) c.in_ok-n.ensures.1

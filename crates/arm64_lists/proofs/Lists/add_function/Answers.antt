-- `Lists::add_function` meets its contract.
use native.Mathlib.Omega.{arith}
use Prim.Native.Nat.{ℕ, ◌+◌}
use mathlib.Core.Path.{◌≡◌, ◌∙◌}
use Rattle.format.specs.Lists.{field, sum_of}
use Rattle.std.specs.Prelude.{Some, None}
use Rattle.arm64_lists.specs.Sums.{up_to}
use Rattle.arm64.specs.Lists.{epilogue_stride}
use Rattle.arm64_lists.proofs.Totals.{up_some, function_over, function_sum, adding, add_turn, add_stopped, add_ended}
use Rattle.arm64_lists.proofs.Lists.add_function.Goals as goal

pub returns-in_err-start : goal.returns-in_err-start
returns-in_err-start c = c.from_residual.ensures ∙ function_over c.args.function.list.now c.args.self.now.epilogues.now c.args.function.k c.args.sum (rw c.number.ensures at c.add.ensures) c.in_err-start.was

pub loop-i-init : goal.loop-i-init
loop-i-init c =
    let s = up_some (rw c.number.ensures at c.add.ensures) c.in_ok-start.was in
    (adding (λ (i : ℕ). field epilogue_stride c.args.self.now.epilogues.now i 2) _ _ _ (omega (arith, s.0, s.1)), s.0)

pub returns-in_err-total : goal.returns-in_err-total
returns-in_err-total c =
    let e : None ≡ up_to (c.in_ok-start.start + sum_of (λ (i : ℕ). field epilogue_stride c.args.self.now.epilogues.now i 2) c.number-at.result c.number-n.result) = add_stopped c.loop-i.invariant.0 c.loop-i-test.true (rw (c.number-in-loop-i.ensures, c.record-epilogue.ensures.0, c.record-epilogue.ensures.1) at c.add-in-loop-i.ensures) c.in_err-total.was in
    c.from_residual-in_err-total.ensures ∙ (rw (c.number-at.ensures, c.number-n.ensures) at e) ∙ function_sum c.args.function.list.now c.args.self.now.epilogues.now c.args.function.k c.args.sum c.loop-i.invariant.1

pub loop-i-preserved : goal.loop-i-preserved
loop-i-preserved c = (add_turn c.loop-i.invariant.0 c.loop-i-test.true (rw (c.number-in-loop-i.ensures, c.record-epilogue.ensures.0, c.record-epilogue.ensures.1) at c.add-in-loop-i.ensures) c.in_ok-total.was, c.loop-i.invariant.1)

pub returns : goal.returns
returns c =
    let e : Some c.loop-i.total ≡ up_to (c.in_ok-start.start + sum_of (λ (i : ℕ). field epilogue_stride c.args.self.now.epilogues.now i 2) c.number-at.result c.number-n.result) = add_ended c.loop-i.invariant.0 (omega (arith, c.loop-i-test.false)) in
    (rw (c.number-at.ensures, c.number-n.ensures) at e) ∙ function_sum c.args.function.list.now c.args.self.now.epilogues.now c.args.function.k c.args.sum c.loop-i.invariant.1

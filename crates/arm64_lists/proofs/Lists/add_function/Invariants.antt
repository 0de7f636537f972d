use mathlib.Core.Path.{◌≡◌}
use Prim.Native.Nat.{ℕ, ◌+◌}
use Rattle.format.specs.Lists.{field}
use Rattle.arm64.specs.Lists.{function_stride, epilogue_stride}
use Rattle.arm64_lists.proofs.Totals.{Adding}
use Rattle.arm64_lists.proofs.Lists.add_function.Given as goal

abbrev pub invariant-loop-i : goal.invariant-loop-i
invariant-loop-i l =
    Adding (λ (i : ℕ). field epilogue_stride l.self.epilogues.now i 2) l.at l.n l.start l.i l.total × (l.start ≡ l.sum + field function_stride l.fn.function.list.now l.fn.function.k 3)

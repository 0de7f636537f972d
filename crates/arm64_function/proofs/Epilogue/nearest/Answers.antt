-- `Epilogue::nearest` meets its contract.
use mathlib.Core.Path.{refl, ap, ◌∙◌}
use Prim.Native.Nat.{◌-◌}
use native.Mathlib.Omega.{arith}
use Rattle.std.proofs.Common.{rules}
use borrow.Author.Tests.{tests}
use Rattle.arm64_function.specs.Own.{run_at}
use Rattle.std.proofs.lemmas.Iterator.Search.{find_from_yields_List}
use Rattle.arm64_function.proofs.Backwards.{range_back}
use Rattle.arm64_function.proofs.Own.{same_at, near_found}
use Rattle.arm64_function.proofs.Epilogue.nearest.Goals as goal

pub returns : goal.returns
unfolding run_at
returns c =
    let p = c.args.self.now.function.parts in
    let i = c.args.self.now.i in
    near_found c.args.self.now.function.epilogues.now c.args.self.now.function.codes.now p i c.args.self.now.among.0 c.find.result
    (find_from_yields_List (same_at c.args.self.now.function.epilogues.now c.args.self.now.function.codes.now p i) _ _ _ c.find.ensures.ran
    (range_back (λ a b. refl) (λ a b h. h) p.first (i - p.first) (ap (λ r. r.start) c.rev.ensures.source) (ap (λ r. r.end) c.rev.ensures.source ∙ omega (arith, c.args.self.now.among.0)))
    (λ x b q k. let e = c.run-run.ensures.0 in search (rules, tests, e)))

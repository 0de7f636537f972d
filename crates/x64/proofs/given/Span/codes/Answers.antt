-- `given::Span::codes` meets its contract.
use native.Mathlib.Omega.{arith}
use Rattle.prologue.proofs.Distances.{short_passed}
use Rattle.prologue.specs.Readable.{Short}
use Rattle.x64.proofs.Walks.{pushed_small, from_start}
use Rattle.x64.proofs.given.Span.codes.Goals as goal

pub invariant_of-result : goal.invariant_of-result
invariant_of-result c =
    let k : Short c.start.result = rw c.start.ensures (pushed_small c.args.self.now.records) in
    record { high = omega arith; short = rw (short_passed c.start.result k) k }

pub returns : goal.returns
returns c =
    let k : Short c.start.result = rw c.start.ensures (pushed_small c.args.self.now.records) in
    rw (short_passed c.start.result k, c.start.ensures) (from_start c.args.self.now.records)

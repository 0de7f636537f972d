-- `Counts::and` meets its contract.
use native.Mathlib.Omega.{arith}
use Rattle.arm64_packing.proofs.CountsLaws.{tally_by}
use Rattle.arm64_packing.proofs.Counts.and.Goals as goal

pub returns : goal.returns
returns c = (tally_by c.args.self c.args.c c.behind.result c.vectors_in.ensures.0 c.integers_in.ensures.0 c.behind.ensures c.down_in.ensures, record { vectors = omega (arith, c.vectors_in.ensures.1); registers = omega (arith, c.integers_in.ensures.1); frame = omega (arith, c.down_in.ensures, c.requires.1) })

-- `arm64_spelled::put_code` meets its contract.
use native.Mathlib.Omega.{arith}
use Rattle.arm64.proofs.CodeBytes.{code-length}
use Rattle.arm64_spelled.proofs.FitLaws.{fits_ranges, code_bytes_lem}
use Rattle.arm64_spelled.proofs.put_code.Goals as goal

pub word-requires : goal.word-requires
word-requires c = rw (c.of-s.ensures.0, c.of-s.ensures.1) (fits_ranges c.args.c c.requires.0)

pub put_big-requires : goal.put_big-requires
put_big-requires c = (c.of-s.result.good.some_bytes, c.of-s.result.good.few_bytes, c.of-s.result.good.not_three, rw c.of-s.ensures.1 (omega (arith, code-length c.args.c, c.requires.1)))

pub returns : goal.returns
returns c = rw (c.word.ensures, c.of-s.ensures.0, c.of-s.ensures.1, code_bytes_lem c.args.c) at c.put_big.ensures

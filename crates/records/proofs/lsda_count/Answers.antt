-- `records::lsda_count` meets its contract.
use native.Mathlib.Omega.{arith}
use Rattle.header_keys.specs.Kinds.{asked_kind}
use Rattle.headers.proofs.Lengths.{bit_low}
use Rattle.records.specs.Fields.{lsda_in}
use Rattle.records.proofs.Pointed.{count_by}
use Rattle.records.proofs.lsda_count.Goals as goal

pub returns : goal.returns
unfolding lsda_in
returns c = (
  rw (count_by (asked_kind c.args.f.now.extent), ← c.lsda.ensures, ← c.is_some.ensures) c.from.ensures,
  omega (arith, c.from.ensures, bit_low c.is_some.result),
)

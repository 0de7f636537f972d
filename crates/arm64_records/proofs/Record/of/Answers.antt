-- `Record::of` meets its contract.
use native.Mathlib.Omega.{arith}
use Rattle.arm64.specs.Records.{codes_from}
use Rattle.arm64_records.proofs.Whole.{codes_taken}
use Rattle.arm64_records.proofs.Record.of.Goals as goal

pub invariant_of-result : goal.invariant_of-result
unfolding codes_from
invariant_of-result c = record { inside = c.requires; spelled = codes_taken c.args.header c.args.section.now (omega (arith, c.scopes_in.ensures)) }

-- `Counts::as_fields` meets its contract.
use mathlib.Core.Path.{refl}
use Rattle.arm64_packing.proofs.CountsLaws.{fields_by}
use Rattle.arm64_packing.proofs.Counts.as_fields.Goals as goal

pub returns : goal.returns
returns c = (fields_by c.args.self c.saturating_sub.ensures c.number.ensures.0, refl, refl, c.number.ensures.1)

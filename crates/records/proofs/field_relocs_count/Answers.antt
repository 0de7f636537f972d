-- `records::field_relocs_count` meets its contract.
use native.Mathlib.Omega.{arith}
use Rattle.format.specs.Prelude.{pick}
use Rattle.records.specs.Fields.{field_relocs}
use Rattle.records.proofs.FieldRelocs.{debug_count, eh_count}
use Rattle.records.proofs.field_relocs_count.Goals as goal

pub returns-then-f : goal.returns-then-f
unfolding field_relocs pick
returns-then-f c = (rw (c.if-f.true, debug_count) (omega (arith, c.sum_count.ensures.0)), omega (arith, c.sum_count.ensures.1))

pub returns : goal.returns
unfolding field_relocs pick
returns c = (rw (c.if-f.false, eh_count) (omega (arith, c.lsda_count.ensures.0, c.sum_count-2.ensures.0)), omega (arith, c.lsda_count.ensures.1, c.sum_count-2.ensures.1))

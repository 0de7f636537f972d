-- `arm64_table::put_row_relocs` meets its contract.
use mathlib.Core.Path.{sym, ◌∙◌}
use native.Mathlib.Omega.{arith}
use Rattle.format.specs.Lists.{numbers_of}
use Rattle.format.proofs.PutLaws.{◌then◌, kept}
use Rattle.arm64_table.specs.Tables.{relocs_by}
use Rattle.arm64_table.proofs.Rows.{alone, with_record}
use Rattle.arm64_table.proofs.put_row_relocs.Goals as goal

pub relocation-a-requires : goal.relocation-a-requires
unfolding relocs_by
relocation-a-requires c = omega (arith, c.requires.0)

pub returns-then-is_some : goal.returns-then-is_some
returns-then-is_some c = rw (alone c.args.place c.args.symbol c.args.word (sym c.is_some.ensures ∙ c.if-is_some.true)) c.relocation-a.ensures

pub relocation-requires : goal.relocation-requires
unfolding numbers_of
relocation-requires c = let h = rw (with_record c.args.place c.args.symbol c.args.word (sym c.is_some.ensures ∙ c.if-is_some.false)) at c.requires.0 in omega (arith, h, c.relocation-a.ensures.past, kept c.relocation-a.ensures)

pub returns : goal.returns
unfolding numbers_of
returns c = rw (with_record c.args.place c.args.symbol c.args.word (sym c.is_some.ensures ∙ c.if-is_some.false)) (c.relocation-a.ensures then c.relocation.ensures)

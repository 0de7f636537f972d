-- `records::debug_record` meets its contract.
use Prim.Native.Nat.{ℕ}
use lib.ListN.{length-replicate}
use Rattle.leb.proofs.Fields.{little_zeros}
use Rattle.format.proofs.PutLaws.{◌then◌}
use Rattle.records.specs.Fields.{fields_in}
use borrow.Author.Rules.{rules}
use Rattle.records.proofs.debug_record.Goals as goal

pub le-requires : goal.le-requires
le-requires c = let k = length-replicate {A = ℕ} c.args.f.now.machine.now.word 0 in search rules

pub returns : goal.returns
unfolding fields_in
returns c =
    rw (little_zeros 4) (c.fill-a.ensures then c.fill-b.ensures then (rw c.size_field.ensures at c.le.ensures))

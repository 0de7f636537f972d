-- `records::eh_record` meets its contract.
use Prim.Native.Nat.{ℕ}
use lib.ListN.{length-replicate}
use Rattle.format.proofs.LebBack.{little-length}
use Rattle.format.proofs.PutLaws.{◌then◌}
use Rattle.records.specs.Fields.{fields_in}
use borrow.Author.Rules.{rules}
use Rattle.records.proofs.eh_record.Goals as goal

pub fill-b-requires : goal.fill-b-requires
fill-b-requires c = let l = little-length 4 c.args.distance in search rules

pub le-c-requires : goal.le-c-requires
le-c-requires c = let l = little-length 4 c.args.distance in let k = length-replicate {A = ℕ} 4 0 in search rules

pub blanks-requires : goal.blanks-requires
blanks-requires c =
    let l = little-length 4 c.args.distance in
    let k = length-replicate {A = ℕ} 4 0 in
    let j = little-length 4 c.size_field.result in
    rw c.lsda_blank.ensures.0 (search rules)

pub returns : goal.returns
unfolding fields_in
returns c =
    c.le-a.ensures then c.fill-b.ensures then (rw c.size_field.ensures at c.le-c.ensures) then (rw c.lsda_blank.ensures.0 at c.blanks.ensures)

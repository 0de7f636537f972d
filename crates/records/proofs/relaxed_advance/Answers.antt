-- `records::relaxed_advance` meets its contract.
use native.Mathlib.Numerals.{add-one}
use borrow.Author.Rules.{rules}
use Rattle.format.specs.Lists.{numbers_of}
use Rattle.format.specs.Records.{set_pair}
use Rattle.format.proofs.PutLaws.{◌then◌, idle}
use Rattle.records.specs.Labels.{found_pair}
use Rattle.records.proofs.relaxed_advance.Goals as goal

pub returns-in_default : goal.returns-in_default
unfolding found_pair set_pair numbers_of
returns-in_default c = rw c.in_default.is idle

pub relocation-a-requires : goal.relocation-a-requires
unfolding found_pair set_pair numbers_of
relocation-a-requires c = let h = rw c.in-Some.is at c.requires.1 in search rules

pub relocation-requires : goal.relocation-requires
unfolding found_pair set_pair numbers_of
relocation-requires c = let h = rw c.in-Some.is at c.requires.1 in search rules

pub returns : goal.returns
unfolding found_pair set_pair numbers_of
returns c =
    rw (c.in-Some.is, ← c.set_place-at.ensures, ← c.set_kind-kind.ensures.0, ← c.set_bytes-bytes.ensures)
    (c.relocation-a.ensures then (rw (add-one c.set_kind-kind.result) at c.relocation.ensures))

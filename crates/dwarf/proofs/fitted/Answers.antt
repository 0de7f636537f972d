-- `dwarf::fitted` meets its contract.
use Rattle.header_keys.specs.Inputs.{inputs_of}
use Rattle.std.proofs.Common.{sym, ◌∙◌}
use Rattle.dwarf.proofs.Outcomes.{no_error, room_for_lem}
use Rattle.dwarf.proofs.fitted.Goals as goal
use Rattle.dwarf.proofs.fitted.Goals.{Start}

pub owners-requires : goal.owners-requires
owners-requires c =
    rw c.count-n.ensures (c.requires.0.listed, c.requires.1)

pub most-requires : goal.most-requires
most-requires c = c.requires.0.sums

pub invariant_of-entries : goal.invariant_of-entries
invariant_of-entries c = record { cleared = c.requires.0; owned = rw c.count-n.ensures at c.owners.ensures.0 }

pub roomed-requires : goal.roomed-requires
roomed-requires c = c.sizes-t.ensures

pub returns-then-is_err : goal.returns-then-is_err
returns-then-is_err c = c.roomed.ensures

pub stored-requires : goal.stored-requires
stored-requires c =
    let s = (goal.at.stored-requires c).Start in
    room_for_lem (inputs_of s.args.x.now) s.args.to.now.places.now s.args.to.now.bytes.now s.args.to.now.relocations.now s.args.to.now.sites.now (rw (c.lent.ensures, c.count-n.ensures) at c.room.ensures) (no_error _ (sym c.is_err.ensures.value ∙ c.if-is_err.false)) (rw c.most.ensures s.requires.0.covered)

pub returns : goal.returns
returns c = c.stored.ensures

-- `dwarf::Entries::roomed` meets its contract.
use Rattle.std.proofs.lemmas.Result.{err_from_is_err_and}
use mathlib.Core.Path.{ap}
use Rattle.format.specs.Coded.{numbered_at}
use Rattle.lists.proofs.Lent.{same}
use Rattle.header_keys.specs.Inputs.{inputs_of}
use Rattle.dwarf.proofs.Outcomes.{refuses, room_for_lem, sizes_cover}
use Rattle.dwarf.proofs.Entries.roomed.Goals as goal

pub returns-in_err-room : goal.returns-in_err-room
returns-in_err-room c = let p = err_from_is_err_and c.from_residual.result c.from_residual.ensures.1 in rw (p.1, p.2)
    (refuses (inputs_of c.args.self.now.input.now) c.requires c.args.to.now.places.now c.args.to.now.bytes.now c.args.to.now.relocations.now c.args.to.now.sites.now (rw (c.lent.ensures, c.count-n.ensures) at c.room.ensures) (ap numbered_at c.in_err-room.was), same)

pub stored-requires : goal.stored-requires
stored-requires c =
    room_for_lem (inputs_of c.args.self.now.input.now) c.args.to.now.places.now c.args.to.now.bytes.now c.args.to.now.relocations.now c.args.to.now.sites.now (rw (c.lent.ensures, c.count-n.ensures) at c.room.ensures) (ap numbered_at c.in_ok-room.was) (sizes_cover (inputs_of c.args.self.now.input.now) c.requires)

pub returns : goal.returns
returns c = c.stored.ensures

-- `dwarf::front` meets its contract.
use Rattle.std.proofs.Common.{refl}
use Rattle.dwarf.proofs.OwnHeaders.{header_room, relocs_room}
use Rattle.dwarf.proofs.front.Goals as goal

pub header-at-requires : goal.header-at-requires
header-at-requires c = header_room c.requires

pub header_relocs-i-requires : goal.header_relocs-i-requires
header_relocs-i-requires c = let r = relocs_room c.requires in (c.args.f.now.sound.machine, r.0, r.1)

pub returns : goal.returns
returns c = record {
  stored = record {
    bytes_stored = c.header-at.ensures;
    relocs_stored = c.header_relocs-i.ensures;
    behind = rw (c.header-at.ensures.past, c.header_relocs-i.ensures.past);
  };
  sites_kept = refl;
  places_kept = refl;
  same = record { places = refl; bytes = refl; relocations = refl; sites = refl };
}

-- `dwarf::Entries::part` meets its contract.
use Rattle.std.proofs.Common.{◌∙◌}
use native.Mathlib.Omega.{arith}
use mir.Facts.{eqb_yes}
use Rattle.format.proofs.Choice.{is_yes_lem}
use Rattle.dwarf.proofs.Owners.{looked, own_looked, found_looked}
use Rattle.dwarf.proofs.Writing.{owned_next, front_ready, chosen_ready, chosen_added}
use Rattle.dwarf.proofs.Entries.part.Goals as goal

pub written-f-requires : goal.written-f-requires
written-f-requires c = c.requires.coming.writable

pub header_place-cie-requires : goal.header_place-cie-requires
header_place-cie-requires c = λ n.
    let i = looked _ c.from-o.ensures (owned_next c.requires c.args.self.now.owned) in
    omega (arith, i, found_looked _ i n, c.requires.fit.places_fit)

pub headed-u-requires : goal.headed-u-requires
headed-u-requires c = λ y.
    let w = c.written-f.ensures in
    let i = looked _ c.from-o.ensures (owned_next c.requires c.args.self.now.owned) in
    rw (w.machine, w.rows) (front_ready c.requires w.debug w.align w.extent (own_looked _ i (eqb_yes (is_yes_lem y))))

pub piece-requires : goal.piece-requires
piece-requires c =
    let w = c.written-f.ensures in
    let h = c.headed-u.ensures in
    let i = looked _ c.from-o.ensures (owned_next c.requires c.args.self.now.owned) in
    rw (w.machine, w.rows, h.sites_kept, c.header_place-cie.ensures)
    (chosen_ready c.requires w.debug w.align w.extent i (λ y. rw (w.machine, w.rows) at h.stored.written y) h.stored.behind h.stored.bytes_kept h.stored.relocations_kept)

pub returns : goal.returns
returns c =
    let w = c.written-f.ensures in
    let h = c.headed-u.ensures in
    let i = looked _ c.from-o.ensures (owned_next c.requires c.args.self.now.owned) in
    let p = rw (w.machine, w.rows, h.sites_kept, c.header_place-cie.ensures) at c.piece.ensures.stored in (
      rw (c.piece.ensures.places_kept, h.places_kept, c.header_place-cie.ensures)
          (chosen_added c.requires w.debug w.align w.extent i (λ y. rw (w.machine, w.rows) at h.stored.written y) h.stored.behind h.stored.bytes_kept h.stored.relocations_kept p),
      let g = h.same in
          let k = c.piece.ensures.same in
          record { places = k.places ∙ g.places; bytes = k.bytes ∙ g.bytes; relocations = k.relocations ∙ g.relocations; sites = k.sites ∙ g.sites },
    )

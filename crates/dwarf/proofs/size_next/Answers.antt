-- `dwarf::size_next` meets its contract.
use Rattle.std.proofs.Common.{◌∙◌}
use mir.Facts.{eqb_yes}
use Rattle.format.proofs.Choice.{is_yes_lem}
use Rattle.dwarf.proofs.Owners.{own_looked}
use Rattle.dwarf.proofs.Sizing.{own_next, chosen_next, size_ready, low}
use Rattle.dwarf.proofs.size_next.Goals as goal

pub written-f-requires : goal.written-f-requires
written-f-requires c = c.requires.0.writable

pub headed_sized-u-requires : goal.headed_sized-u-requires
headed_sized-u-requires c = λ y.
    let w = c.written-f.ensures in
    let o = own_looked _ c.requires.1 (eqb_yes (is_yes_lem y)) in
    rw (w.machine, w.rows) (low c.requires.0 w.debug w.align w.extent _ (own_next c.requires.0 w.debug w.align w.extent o))

pub sized-requires : goal.sized-requires
sized-requires c =
    let w = c.written-f.ensures in
    rw (c.headed_sized-u.ensures, w.machine, w.rows)
    (size_ready c.requires.0 w.debug w.align w.extent _ (chosen_next c.requires.0 w.debug w.align w.extent c.requires.1), rw w.extent c.requires.2)

pub returns : goal.returns
returns c =
    let w = c.written-f.ensures in
    (rw (c.headed_sized-u.ensures, w.machine, w.rows) at c.sized.ensures) ∙ chosen_next c.requires.0 w.debug w.align w.extent c.requires.1

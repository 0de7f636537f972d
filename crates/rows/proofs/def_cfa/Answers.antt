-- `rows::def_cfa` meets its contract.
use lib.ListN.{length-append}
use mir.Facts.{to_z-of_z}
use borrow.Author.Rules.{rules}
use Rattle.format.specs.Leb.{uleb}
use Rattle.format.proofs.PutLaws.{◌then◌}
use Rattle.rows.proofs.Factors.{frame_bytes}
use Rattle.rows.proofs.def_cfa.Goals as goal

pub byte-a-requires : goal.byte-a-requires
byte-a-requires c =
    let h = simp (frame_bytes c.args.word.bytes 0x0c 0x12 (uleb c.args.reg) c.args.z, length-append) at c.requires in
    search rules

pub uleb-b-requires : goal.uleb-b-requires
uleb-b-requires c =
    let h = simp (frame_bytes c.args.word.bytes 0x0c 0x12 (uleb c.args.reg) c.args.z, length-append) at c.requires in
    search rules

pub frame_offset-requires : goal.frame_offset-requires
frame_offset-requires c =
    let h = simp (frame_bytes c.args.word.bytes 0x0c 0x12 (uleb c.args.reg) c.args.z, length-append) at c.requires in
    rw (to_z-of_z c.ranges.z) (search rules)

pub returns : goal.returns
returns c =
    rw (frame_bytes c.args.word.bytes 0x0c 0x12 (uleb c.args.reg) c.args.z)
    ((rw (c.by_sign.ensures, to_z-of_z c.ranges.z) at c.byte-a.ensures) then (rw c.from.ensures at c.uleb-b.ensures) then (rw (to_z-of_z c.ranges.z) at c.frame_offset.ensures))

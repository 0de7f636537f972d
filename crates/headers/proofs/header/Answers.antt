-- `header` stores the bytes of a header.
use native.Mathlib.Omega.{arith}
use borrow.Author.Rules.{rules}
use Rattle.format.proofs.PutLaws.{◌then◌}
use Rattle.headers.proofs.Entries.{closes, closed}
use Rattle.headers.proofs.Keys.{header_shape, header_length, kind_fits}
use Rattle.headers.proofs.header.Goals as goal

pub fill-a-requires : goal.fill-a-requires
fill-a-requires c = omega (arith, header_length c.args.f.now.machine.now c.args.f.now.extent c.args.f.now.rows.now c.args.f.now.debug c.args.f.now.align c.args.at, c.requires.1)

pub fields-b-requires : goal.fields-b-requires
fields-b-requires c =
    let h = header_length c.args.f.now.machine.now c.args.f.now.extent c.args.f.now.rows.now c.args.f.now.debug c.args.f.now.align c.args.at in
    let s = c.fill-a.ensures.past in (
      kind_fits c.args.f.now.machine.now c.args.f.now.extent c.args.f.now.rows.now c.args.f.now.sound c.requires.0,
      search rules,
    )

pub starts-c-requires : goal.starts-c-requires
starts-c-requires c =
    let h = header_length c.args.f.now.machine.now c.args.f.now.extent c.args.f.now.rows.now c.args.f.now.debug c.args.f.now.align c.args.at in
    let s = c.fill-a.ensures.past in
    search rules

pub pad-requires : goal.pad-requires
pad-requires c =
    let k = closes c.args.f.now.align _ (c.fill-a.ensures then c.fields-b.ensures then c.starts-c.ensures) (rw (header_shape c.args.f.now.machine.now c.args.f.now.extent c.args.f.now.rows.now c.args.f.now.debug c.args.f.now.align c.args.at) at c.requires.1) in
    (c.args.f.now.aligned, k.0, k.1)

pub returns : goal.returns
returns c =
    rw (header_shape c.args.f.now.machine.now c.args.f.now.extent c.args.f.now.rows.now c.args.f.now.debug c.args.f.now.align c.args.at)
    (closed c.args.f.now.align _ (c.fill-a.ensures then c.fields-b.ensures then c.starts-c.ensures) c.pad.ensures)

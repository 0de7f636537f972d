-- `fields` stores the fields in front of the rows.
use native.Mathlib.Omega.{arith}
use lib.ListN.{length-append}
use borrow.Author.Rules.{rules}
use Rattle.format.proofs.LebBack.{little-length}
use Rattle.format.proofs.PutLaws.{◌then◌}
use Rattle.headers.specs.Kinds.{head_in}
use Rattle.headers.proofs.Tails.{fields_debug, fields_eh, fields_long}
use Rattle.headers.proofs.fields.Goals as goal

pub le-a-requires : goal.le-a-requires
le-a-requires c = omega (arith, fields_long c.args.f.now.debug c.args.f.now.machine.now (head_in c.args.f.now.extent), c.requires.1)

pub byte-b-requires : goal.byte-b-requires
byte-b-requires c =
    let h = fields_long c.args.f.now.debug c.args.f.now.machine.now (head_in c.args.f.now.extent) in
    let s = rw little-length at c.le-a.ensures.past in
    search rules

pub middle-requires : goal.middle-requires
unfolding head_in
middle-requires c =
    let h = simp (c.if-f.true, fields_debug c.args.f.now.machine.now (head_in c.args.f.now.extent), length-append, little-length) at c.requires.1 in
    let s = rw little-length at c.le-a.ensures.past in
    search rules

pub returns-then-f : goal.returns-then-f
unfolding head_in
returns-then-f c =
    rw (c.if-f.true, fields_debug c.args.f.now.machine.now (head_in c.args.f.now.extent))
    ((rw (c.header_id.ensures, c.if-f.true) at c.le-a.ensures) then c.byte-b.ensures then c.middle.ensures)

pub tail-requires : goal.tail-requires
unfolding head_in
tail-requires c =
    let h = simp (c.if-f.false, fields_eh c.args.f.now.machine.now (head_in c.args.f.now.extent), length-append, little-length) at c.requires.1 in
    let s = rw little-length at c.le-a.ensures.past in
    (c.requires.0, search rules)

pub returns : goal.returns
unfolding head_in
returns c =
    rw (c.if-f.false, fields_eh c.args.f.now.machine.now (head_in c.args.f.now.extent))
    ((rw (c.header_id.ensures, c.if-f.false) at c.le-a.ensures) then c.byte-b.ensures then c.tail.ensures)

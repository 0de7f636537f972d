-- `plain_header` stores the fields of a plain header behind the version.
use native.Mathlib.Omega.{arith}
use lib.ListN.{length-append}
use borrow.Author.Rules.{rules}
use Rattle.format.proofs.PutLaws.{◌then◌}
use Rattle.headers.proofs.Tails.{plain_tail}
use Rattle.headers.proofs.plain_header.Goals as goal

pub text-a-requires : goal.text-a-requires
text-a-requires c =
    omega (arith, simp (plain_tail c.args.f.now.machine.now.word c.args.f.now.machine.now.ret c.args.f.now.extent.signal, length-append) at c.requires)

pub middle-b-requires : goal.middle-b-requires
middle-b-requires c =
    let h = simp (plain_tail c.args.f.now.machine.now.word c.args.f.now.machine.now.ret c.args.f.now.extent.signal, length-append) at c.requires in
    search rules

pub byte-c-requires : goal.byte-c-requires
byte-c-requires c =
    let h = simp (plain_tail c.args.f.now.machine.now.word c.args.f.now.machine.now.ret c.args.f.now.extent.signal, length-append) at c.requires in
    search rules

pub byte-requires : goal.byte-requires
byte-requires c =
    let h = simp (plain_tail c.args.f.now.machine.now.word c.args.f.now.machine.now.ret c.args.f.now.extent.signal, length-append) at c.requires in
    search rules

pub returns : goal.returns
returns c =
    rw (plain_tail c.args.f.now.machine.now.word c.args.f.now.machine.now.ret c.args.f.now.extent.signal)
    (c.text-a.ensures then c.middle-b.ensures then c.byte-c.ensures then c.byte.ensures)

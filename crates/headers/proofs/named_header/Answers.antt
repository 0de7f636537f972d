-- `named_header` stores the fields of a named personality behind the version.
use native.Mathlib.Omega.{arith}
use lib.ListN.{length-append}
use borrow.Author.Rules.{rules}
use Rattle.format.proofs.PutLaws.{◌then◌}
use Rattle.headers.proofs.Lengths.{bit_low}
use Rattle.headers.proofs.Words.{word_bounds}
use Rattle.headers.proofs.Tails.{named_tail}
use Rattle.headers.proofs.named_header.Goals as goal

pub named_letters-a-requires : goal.named_letters-a-requires
named_letters-a-requires c =
    let h = simp (named_tail c.args.f.now.machine.now.word c.args.f.now.machine.now.ret c.args.f.now.extent.signal c.args.p.now, ← c.is_some-has_lsda.ensures, length-append) at c.requires.1 in
    omega arith

pub middle-b-requires : goal.middle-b-requires
middle-b-requires c =
    let h = simp (named_tail c.args.f.now.machine.now.word c.args.f.now.machine.now.ret c.args.f.now.extent.signal c.args.p.now, ← c.is_some-has_lsda.ensures, length-append) at c.requires.1 in
    search rules

pub overflow_add-size : goal.overflow_add-size
overflow_add-size c = omega (arith, c.pointer_bytes-size.ensures.1 (word_bounds c.args.f.now.machine.now.word c.args.f.now.sound.machine.is_word).1)

pub overflow_add-size-2 : goal.overflow_add-size-2
overflow_add-size-2 c = omega (arith, c.pointer_bytes-size.ensures.1 (word_bounds c.args.f.now.machine.now.word c.args.f.now.sound.machine.is_word).1, c.from.ensures, bit_low c.is_some-has_lsda.result)

pub uleb-c-requires : goal.uleb-c-requires
uleb-c-requires c =
    let h = simp (named_tail c.args.f.now.machine.now.word c.args.f.now.machine.now.ret c.args.f.now.extent.signal c.args.p.now, ← c.is_some-has_lsda.ensures, length-append) at c.requires.1 in
    rw (c.pointer_bytes-size.ensures.0, c.from.ensures) (search rules)

pub named_data-requires : goal.named_data-requires
named_data-requires c =
    let h = simp (named_tail c.args.f.now.machine.now.word c.args.f.now.machine.now.ret c.args.f.now.extent.signal c.args.p.now, ← c.is_some-has_lsda.ensures, length-append) at c.requires.1 in
    let s = rw (c.pointer_bytes-size.ensures.0, c.from.ensures) at c.uleb-c.ensures in
    (c.requires.0, rw c.pointer_bytes-size.ensures.0 (search rules))

pub returns : goal.returns
returns c =
    rw (named_tail c.args.f.now.machine.now.word c.args.f.now.machine.now.ret c.args.f.now.extent.signal c.args.p.now, ← c.is_some-has_lsda.ensures)
    (c.named_letters-a.ensures
    then c.middle-b.ensures
    then (rw (c.pointer_bytes-size.ensures.0, c.from.ensures) at c.uleb-c.ensures)
    then (rw c.pointer_bytes-size.ensures.0 at c.named_data.ensures))

-- `reads::addresses::start_of` meets its contract.
use mathlib.Core.Path.{refl}
use Rattle.reads.proofs.Addressing.{start_above, start_below}
use Rattle.reads.specs.Addresses.{start_of}
use Rattle.reads.proofs.addresses.start_of.Goals as goal

pub returns-then-l : goal.returns-then-l
unfolding start_of
returns-then-l c = simp c.if-l.true

pub returns-then-field-lt-NEGATIVE : goal.returns-then-field-lt-NEGATIVE
returns-then-field-lt-NEGATIVE c =
    let a = c.args in
    rw c.if-l.false (start_above a.l.word a.l.is_word a.address a.at a.field refl refl c.if-field-lt-NEGATIVE.true c.address_of.ensures)

pub returns : goal.returns
returns c =
    let a = c.args in
    rw c.if-l.false
    (start_below a.l.word a.l.is_word a.address a.at a.field refl refl c.if-field-lt-NEGATIVE.false refl c.address_of-2.ensures)

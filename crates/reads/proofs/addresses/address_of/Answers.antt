-- `reads::addresses::address_of` meets its contract.
use Rattle.reads.proofs.Addressing.{word_two}
use Rattle.std.proofs.Common.{sym, mod-eq_of_lt, arith}
use Rattle.reads.proofs.addresses.address_of.Goals as goal

pub returns-then-l-eq8 : goal.returns-then-l-eq8
returns-then-l-eq8 c = rw c.if-l-eq8.true (sym (mod-eq_of_lt (omega arith)))

pub returns-then-l-eq4 : goal.returns-then-l-eq4
returns-then-l-eq4 c = rw c.if-l-eq4.true

pub returns : goal.returns
returns c = rw (word_two _ c.args.l.is_word c.if-l-eq8.false c.if-l-eq4.false)

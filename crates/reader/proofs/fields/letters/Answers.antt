-- `reader::fields::letters` meets its contract.
use Rattle.format.specs.Reader.{spellings}
use Rattle.reader.proofs.Strings.{first_two, next_two, past_four}
use Rattle.reader.proofs.fields.letters.Goals as goal

pub returns-then-debug : goal.returns-then-debug
unfolding spellings
returns-then-debug c = rw c.if-debug.true c.marked.ensures

pub returns-in-Some : goal.returns-in-Some
returns-in-Some c = rw c.if-debug.false (first_two c.args.s.now c.args.at c.marked-2.ensures c.in-Some.is)

pub returns-in-Some-marked : goal.returns-in-Some-marked
returns-in-Some-marked c = rw c.if-debug.false (next_two c.args.s.now c.args.at c.marked-2.ensures c.in_default.is c.marked-3.ensures c.in-Some-marked.is)

pub returns : goal.returns
returns c = rw (c.if-debug.false, past_four c.args.s.now c.args.at c.marked-2.ensures c.in_default.is c.marked-3.ensures c.in_default-marked.is) c.marked-4.ensures

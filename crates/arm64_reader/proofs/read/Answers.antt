-- `arm64_reader::read` meets its contract.
use mathlib.Core.Path.{refl}
use native.Mathlib.Omega.{arith}
use Rattle.arm64_records.proofs.Lent.{same}
use Rattle.arm64_reader.proofs.Answers.{refuses, word_record, word_no, word_packed}
use Rattle.arm64_reader.proofs.read.Goals as goal

pub returns-then-word-eq0 : goal.returns-then-word-eq0
returns-then-word-eq0 c = (rw (word_record c.args.word c.args.info.now c.args.place c.args.to.now.epilogues.now c.args.to.now.codes.now c.if-word-eq0.true) c.«record».ensures.0, c.«record».ensures.1)

pub returns-then-word-eq3 : goal.returns-then-word-eq3
returns-then-word-eq3 c = (refuses (word_no c.args.word c.args.info.now c.args.place c.args.to.now.epilogues.now c.args.to.now.codes.now c.if-word-eq0.false (λ l. omega (arith, c.then-word-eq3.either))) refl, same)

pub returns : goal.returns
returns c = (rw (word_packed c.args.word c.args.info.now c.args.place c.args.to.now.epilogues.now c.args.to.now.codes.now c.if-word-eq0.false c.if-word-eq3.false c.if-word-ge4294967296.false) c.packed.ensures.0, c.packed.ensures.1)

-- `Scopes::word` meets its contract.
use native.Mathlib.Omega.{arith}
use Rattle.arm64_records.specs.Parts.{words_from}
use Rattle.arm64_records.proofs.Whole.{words_inside}
use Rattle.arm64_records.proofs.Scopes.word.Goals as goal

pub overflow_add-self : goal.overflow_add-self
overflow_add-self c = omega (arith, words_inside c.args.self.now.«record».section.now c.args.self.now.«record».header c.args.self.now.«record».inside c.args.self.now.by_words, c.requires)

pub word_at-requires : goal.word_at-requires
word_at-requires c = omega (arith, words_inside c.args.self.now.«record».section.now c.args.self.now.«record».header c.args.self.now.«record».inside c.args.self.now.by_words, c.requires)

pub returns : goal.returns
unfolding words_from
returns c = c.word_at.ensures.0

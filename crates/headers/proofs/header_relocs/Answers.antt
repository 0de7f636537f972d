-- `header_relocs` goes by the personality.
use mathlib.Core.Path.{◌∙◌}
use borrow.Author.Rules.{rules}
use Rattle.format.specs.Lists.{numbers_of}
use Rattle.format.proofs.PutLaws.{idle}
use Rattle.headers.proofs.Words.{word_bounds}
use Rattle.headers.proofs.Personalities.{names, names_none, count_is, relocs_debug, relocs_plain, relocs_named}
use Rattle.headers.proofs.header_relocs.Goals as goal

pub returns-then-debug : goal.returns-then-debug
unfolding numbers_of
returns-then-debug c = rw (relocs_debug c.args.debug c.args.m.now c.args.at c.args.e.now c.if-debug.true) idle

pub returns-in_default : goal.returns-in_default
unfolding numbers_of
returns-in_default c = rw (relocs_plain c.args.debug c.args.m.now c.args.at c.args.e.now c.if-debug.false (names_none c.args.e.now c.personality.ensures c.in_default.is).0) idle

pub invariant_of-head : goal.invariant_of-head
invariant_of-head c = record { small = (word_bounds c.args.m.now.word c.requires.0.is_word).1 }

pub pointer-requires : goal.pointer-requires
pointer-requires c = let h = rw (count_is c.args.debug c.args.e.now c.if-debug.false ∙ (names c.args.e.now c.personality.ensures c.in-Some.is).count) at c.requires.2 in search rules

pub returns : goal.returns
returns c = rw (relocs_named c.args.debug c.args.m.now c.args.at c.args.e.now c.if-debug.false (names c.args.e.now c.personality.ensures c.in-Some.is), ← c.pointer_place.ensures) c.pointer.ensures

-- `Scopes::put` meets its contract.
use native.Mathlib.Omega.{arith}
use Rattle.arm64_records.specs.Parts.{words_from}
use Rattle.arm64_records.proofs.Lent.{same, then}
use Rattle.arm64_records.proofs.Epilogues.{list_start, here, numbers_room, codes_room, list_turn, list_ended, index_is, start_is}
use Rattle.arm64_records.proofs.Scopes.put.Goals as goal

pub loop-k-init : goal.loop-k-init
loop-k-init c = (list_start (words_from c.args.self.now.«record».header.past c.args.self.now.«record».section.now) c.args.self.now.«record».codes.now c.requires.0 c.requires.1 c.requires.2, same)

pub at-run-requires : goal.at-run-requires
at-run-requires c = rw (index_is c.args.self.now.«record».header.past c.loop-k.k c.args.self.now.«record».section.now c.word-w.ensures) (here (words_from c.args.self.now.«record».header.past c.args.self.now.«record».section.now) c.args.self.now.«record».codes.now c.loop-k.invariant.0 c.loop-k-test.true).run

pub put_one-at-requires : goal.put_one-at-requires
put_one-at-requires c = rw (c.at-run.ensures, index_is c.args.self.now.«record».header.past c.loop-k.k c.args.self.now.«record».section.now c.word-w.ensures) (numbers_room (words_from c.args.self.now.«record».header.past c.args.self.now.«record».section.now) c.args.self.now.«record».codes.now c.loop-k.invariant.0 c.loop-k-test.true, codes_room (words_from c.args.self.now.«record».header.past c.args.self.now.«record».section.now) c.args.self.now.«record».codes.now c.loop-k.invariant.0 c.loop-k-test.true)

pub loop-k-preserved : goal.loop-k-preserved
loop-k-preserved c = (list_turn (words_from c.args.self.now.«record».header.past c.args.self.now.«record».section.now) c.args.self.now.«record».codes.now c.loop-k.invariant.0 c.loop-k-test.true (rw (c.at-run.ensures, index_is c.args.self.now.«record».header.past c.loop-k.k c.args.self.now.«record».section.now c.word-w.ensures, start_is c.args.self.now.«record».header.past c.loop-k.k c.args.self.now.«record».section.now c.word-w.ensures) at c.put_one-at.ensures.0), then c.loop-k.invariant.1 c.put_one-at.ensures.1)

pub returns : goal.returns
returns c = (list_ended (words_from c.args.self.now.«record».header.past c.args.self.now.«record».section.now) c.args.self.now.«record».codes.now c.loop-k.invariant.0 (omega arith), c.loop-k.invariant.1)

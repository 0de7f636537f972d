-- `reads::addresses::Loaded::holder_in` meets its contract.
use Rattle.std.proofs.Common.{sym, ◌∙◌}
use Rattle.reads.proofs.Passing.{holding, held, passed, here, nobody, holder_untiled, holder_none, holder_there}
use Rattle.reads.proofs.addresses.Loaded.holder_in.Goals as goal

pub returns-then-not-tiles : goal.returns-then-not-tiles
returns-then-not-tiles c =
    let a = c.args in
    holder_untiled a.self.now.section.bytes.now a.self.now.section.layout.debug a.self.now.section.layout.word a.self.now.address a.pc (sym c.tiles.ensures ∙ c.if-not-tiles.true)

pub loop-k-init : goal.loop-k-init
loop-k-init c = rw (c.into_iter-k-iterator.ensures.into_iter_gives, c.enumerate-k-items.ensures.count, c.enumerate-k-items.ensures.source) (holding c.new.ensures.0 c.new.ensures.2)

pub record_holds-requires : goal.record_holds-requires
record_holds-requires c = held c.loop-k.invariant c.in-Some.ensures.steps.0

pub returns-then-record_holds : goal.returns-then-record_holds
returns-then-record_holds c =
    let a = c.args in
    rw c.in-Some.ensures.steps.1
    (holder_there a.self.now.section.bytes.now a.self.now.section.layout.debug a.self.now.section.layout.word a.self.now.address a.pc (sym c.tiles.ensures ∙ c.if-not-tiles.false)
    (here c.loop-k.invariant c.in-Some.ensures.steps.0 (sym c.record_holds.ensures ∙ c.if-record_holds.true)))

pub loop-k-preserved : goal.loop-k-preserved
loop-k-preserved c = rw c.in-Some.ensures.steps.2 (passed c.loop-k.invariant c.in-Some.ensures.steps.0 (sym c.record_holds.ensures ∙ c.if-record_holds.false))

pub returns : goal.returns
returns c =
    let a = c.args in
    holder_none a.self.now.section.bytes.now a.self.now.section.layout.debug a.self.now.section.layout.word a.self.now.address a.pc (sym c.tiles.ensures ∙ c.if-not-tiles.false)
    (nobody c.loop-k.invariant c.in-None.ensures.steps.0)

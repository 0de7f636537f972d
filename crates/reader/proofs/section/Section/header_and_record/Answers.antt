-- `reader::section::Section::header_and_record` meets its contract.
use mathlib.Core.Path.{sym, ◌∙◌}
use Rattle.format.specs.Lists.{relocations_of}
use Rattle.reader.proofs.Whole.{untiled, missing, record_stands, headless, both_stand}
use Rattle.reader.proofs.section.Section.header_and_record.Goals as goal

pub returns-then-not-tiles : goal.returns-then-not-tiles
returns-then-not-tiles c = untiled c.args.self.now.bytes.now (relocations_of c.args.self.now.relocations.now) c.args.self.now.layout.debug c.args.k (sym c.tiles.ensures ∙ c.if-not-tiles.true)

pub record_span-requires : goal.record_span-requires
record_span-requires c = rw (sym c.tiles.ensures ∙ c.if-not-tiles.false) tt

pub returns-in_default : goal.returns-in_default
returns-in_default c = missing c.args.self.now.bytes.now (relocations_of c.args.self.now.relocations.now) c.args.self.now.layout.debug c.args.k (sym c.tiles.ensures ∙ c.if-not-tiles.false) c.record_span.ensures c.in_default.is

pub header_of-requires : goal.header_of-requires
header_of-requires c =
    let p = record_stands c.args.self.now.bytes.now (relocations_of c.args.self.now.relocations.now) c.args.self.now.layout.debug c.args.k (sym c.tiles.ensures ∙ c.if-not-tiles.false) c.record_span.ensures c.in-Some.is in
    rw c.links.ensures.0 ((p.long, p.inside), rw (sym c.tiles.ensures ∙ c.if-not-tiles.false) tt)

pub returns-in_default-header_of : goal.returns-in_default-header_of
returns-in_default-header_of c = headless c.args.self.now.bytes.now (relocations_of c.args.self.now.relocations.now) c.args.self.now.layout.debug c.args.k (sym c.tiles.ensures ∙ c.if-not-tiles.false) c.record_span.ensures c.in-Some.is (rw (c.links.ensures.0, c.links.ensures.1, c.links.ensures.2) at c.header_of.ensures) c.in_default-header_of.is

pub returns : goal.returns
returns c = both_stand c.args.self.now.bytes.now (relocations_of c.args.self.now.relocations.now) c.args.self.now.layout.debug c.args.k (sym c.tiles.ensures ∙ c.if-not-tiles.false) c.record_span.ensures c.in-Some.is (rw (c.links.ensures.0, c.links.ensures.1, c.links.ensures.2) at c.header_of.ensures) c.in-Some-header_of.is

-- `reads::index::index_in` meets its contract.
use Rattle.reads.proofs.Indexing.{index_untiled, twice, index_short, index_there}
use Rattle.format.specs.Lists.{relocations_of}
use Rattle.std.proofs.Common.{sym, ◌∙◌, arith}
use Rattle.reads.proofs.index.index_in.Goals as goal

pub returns-then-not-tiles : goal.returns-then-not-tiles
returns-then-not-tiles c =
    let a = c.args in
    index_untiled a.links.now.bytes.now (relocations_of a.links.now.relocations.now) a.links.now.debug a.places.now (sym c.tiles.ensures ∙ c.if-not-tiles.true)

pub count-n-requires : goal.count-n-requires
count-n-requires c = rw (sym c.tiles.ensures ∙ c.if-not-tiles.false) tt

pub returns-then-places-n : goal.returns-then-places-n
returns-then-places-n c =
    let a = c.args in
    index_short a.links.now.bytes.now (relocations_of a.links.now.relocations.now) a.links.now.debug a.places.now (sym c.tiles.ensures ∙ c.if-not-tiles.false) c.count-n.ensures c.if-places-n.true

pub fill-requires : goal.fill-requires
fill-requires c =
    let a = c.args in
    let t = sym c.tiles.ensures ∙ c.if-not-tiles.false in
    (rw t tt, omega (arith, twice a.links.now.bytes.now (relocations_of a.links.now.relocations.now) a.links.now.debug a.places.now t c.count-n.ensures, c.if-places-n.false))

pub returns : goal.returns
returns c =
    let a = c.args in
    index_there a.links.now.bytes.now (relocations_of a.links.now.relocations.now) a.links.now.debug a.places.now (sym c.tiles.ensures ∙ c.if-not-tiles.false) c.count-n.ensures (omega (arith, c.if-places-n.false)) c.fill.ensures

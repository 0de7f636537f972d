-- `lookup::holder::holding` meets its contract.
use Rattle.std.proofs.lemmas.Result.{err_from_is_err_and}
use Rattle.format.specs.Lists.{relocations_of}
use Rattle.lookup.proofs.Held.{no_holder, no_header, both}
use Rattle.lookup.proofs.holder.holding.Goals as goal

pub returns-in_err-k : goal.returns-in_err-k
returns-in_err-k c =
    let x = c.args.section.now in
    let p = err_from_is_err_and c.from_residual.result c.from_residual.ensures.1 in
    rw (p.1, p.2) (no_holder x.layout.debug x.layout.word (relocations_of x.relocations.now) c.args.address c.args.pc x.bytes.now c.in_err-k.ensures)

pub returns-in_err-header : goal.returns-in_err-header
returns-in_err-header c =
    let x = c.args.section.now in
    let p = err_from_is_err_and c.from_residual-in_err-header.result c.from_residual-in_err-header.ensures.1 in
    rw (p.1, p.2) (no_header x.layout.debug x.layout.word (relocations_of x.relocations.now) c.args.address c.args.pc x.bytes.now c.in_ok-k.ensures c.in_err-header.ensures)

pub returns : goal.returns
returns c =
    let x = c.args.section.now in
    both x.layout.debug x.layout.word (relocations_of x.relocations.now) c.args.address c.args.pc x.bytes.now c.in_ok-k.ensures c.in_ok-header.ensures.2

-- `round_trips::entries::list_entries` meets its contract.
use Rattle.std.proofs.Common.{ap, sym, ◌∙◌}
use Rattle.std.proofs.lemmas.Result.{err_from_is_err_and}
use Rattle.format.specs.Coded.{numbered}
use Rattle.round_trips.proofs.Cursor.{unkinded, untiled, roomless, room, listed_all}
use Rattle.round_trips.proofs.entries.list_entries.Goals as goal

pub returns-then-kind-gt1 : goal.returns-then-kind-gt1
returns-then-kind-gt1 c = unkinded c.args.section.now c.args.kind c.args.out.now c.if-kind-gt1.true

pub returns-in_err-n : goal.returns-in_err-n
returns-in_err-n c =
    let p = err_from_is_err_and c.from_residual.result c.from_residual.ensures.1 in
    rw (p.1, p.2) (untiled c.args.section.now c.args.kind c.args.out.now c.if-kind-gt1.false (sym (ap numbered c.in_err-n.was) ∙ c.count.ensures))

pub returns-then-out-n : goal.returns-then-out-n
returns-then-out-n c =
    roomless c.args.section.now c.args.kind c.args.out.now c.if-kind-gt1.false (sym (ap numbered c.in_ok-n.was) ∙ c.count.ensures) c.if-out-n.true

pub fill-requires : goal.fill-requires
fill-requires c =
    room c.args.section.now c.args.kind c.args.out.now c.if-kind-gt1.false (sym (ap numbered c.in_ok-n.was) ∙ c.count.ensures) c.if-out-n.false

pub returns : goal.returns
returns c =
    listed_all c.args.section.now c.args.kind c.args.out.now c.if-kind-gt1.false (sym (ap numbered c.in_ok-n.was) ∙ c.count.ensures) c.if-out-n.false c.fill.ensures

-- `passed::Cleared::write` meets its contract.
use Rattle.std.proofs.lemmas.Result.{err_from_is_err_and}
use Rattle.format.specs.Coded.{numbered_at}
use Rattle.lists.proofs.Lent.{same}
use Rattle.x64.proofs.Writing.{room_same}
use Rattle.x64.specs.Given.{table_in}
use Rattle.lists.specs.Lent.{room_of}
use Rattle.format.specs.Questions.{accepted, room_asks, fitting}
use Rattle.format.proofs.Asked.{question_of, said_yes}
use Rattle.lists.proofs.Rooms.{stays, goes, room_says}
use mathlib.Core.Path.{sym, ap, ◌∙◌}
use Rattle.x64.proofs.passed.Cleared.write.Goals as goal

pub put_all-requires : goal.put_all-requires
put_all-requires c =
    let h = room_says _ _ (said_yes _ (sym (rw c.lent.ensures at c.room.ensures) ∙ ap numbered_at c.in_ok-room.was)) in
    (c.total-sites.ensures, h.0, h.1, h.2, h.3)

pub returns : goal.returns
unfolding fitting
returns c =
    let x = c.args.self.now.input in
    let r = room_of c.args.to.now in
    let e = rw (c.total-sites.ensures, c.lent.ensures) at c.room.ensures in
    (goes (room_asks r (table_in x)) (ap question_of (sym (room_same x.source x.functions.now x.list.now x.count r)) ∙ sym e ∙ ap numbered_at c.in_ok-room.was) c.put_all.ensures.0, c.put_all.ensures.1)

pub returns-in_err-room : goal.returns-in_err-room
unfolding fitting
returns-in_err-room c =
    let x = c.args.self.now.input in
    let r = room_of c.args.to.now in
    let e = rw (c.total-sites.ensures, c.lent.ensures) at c.room.ensures in
    let p = err_from_is_err_and c.from_residual.result c.from_residual.ensures.1 in
    rw (p.1, p.2)
    (stays (room_asks r (table_in x)) (accepted (table_in x)) (ap question_of (sym (room_same x.source x.functions.now x.list.now x.count r)) ∙ sym e ∙ ap numbered_at c.in_err-room.was), same)

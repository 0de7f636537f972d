-- `Checked::write` meets its contract.
use Rattle.std.proofs.lemmas.Result.{err_from_is_err_and}
use Rattle.format.specs.Coded.{numbered_at}
use mathlib.Core.Path.{sym, ap, ◌∙◌}
use native.Mathlib.Omega.{arith}
use Rattle.format.specs.Questions.{accepted, room_asks, fitting}
use Rattle.format.proofs.Asked.{question_of, said_yes}
use Rattle.lists.proofs.Rooms.{stays, goes, room_says}
use Rattle.arm64_function.specs.Listed.{function_in}
use Rattle.arm64.specs.Writer.{arm64}
use Rattle.arm64_table.specs.Tables.{first_in}
use Rattle.lists.specs.Lent.{room_of}
use Rattle.lists.proofs.Lent.{same}
use Rattle.arm64_table.proofs.Results.{room_same}
use Rattle.arm64_table.proofs.Checked.write.Goals as goal

pub overflow_mul-counts : goal.overflow_mul-counts
overflow_mul-counts c = omega (arith, c.args.self.now.fine.most)

pub overflow_mul-counts-2 : goal.overflow_mul-counts-2
overflow_mul-counts-2 c = omega (arith, c.sizes-needed.ensures.2)

pub put_all-requires : goal.put_all-requires
put_all-requires c = let h = room_says _ _ (said_yes _ (sym (rw c.lent.ensures at c.room.ensures) ∙ ap numbered_at c.in_ok-room.was)) in (c.sizes-needed.ensures.0, c.sizes-needed.ensures.1, h.0, h.1, h.2, h.3)

pub returns : goal.returns
unfolding fitting
returns c = let a = c.args in (goes (room_asks (room_of a.to.now) (arm64 (first_in a.self.now.functions.lists a.self.now.functions.count))) (ap question_of (sym (room_same (function_in a.self.now.functions.lists) a.self.now.functions.count c.sizes-needed.ensures.0 c.sizes-needed.ensures.1 (room_of a.to.now))) ∙ sym (rw c.lent.ensures at c.room.ensures) ∙ ap numbered_at c.in_ok-room.was) c.put_all.ensures.0, c.put_all.ensures.1)

pub returns-in_err-room : goal.returns-in_err-room
unfolding fitting
returns-in_err-room c = let a = c.args in let p = err_from_is_err_and c.from_residual.result c.from_residual.ensures.1 in (rw (p.1, p.2) (stays (room_asks (room_of a.to.now) (arm64 (first_in a.self.now.functions.lists a.self.now.functions.count))) (accepted (arm64 (first_in a.self.now.functions.lists a.self.now.functions.count))) (ap question_of (sym (room_same (function_in a.self.now.functions.lists) a.self.now.functions.count c.sizes-needed.ensures.0 c.sizes-needed.ensures.1 (room_of a.to.now))) ∙ sym (rw c.lent.ensures at c.room.ensures) ∙ ap numbered_at c.in_err-room.was)), same)

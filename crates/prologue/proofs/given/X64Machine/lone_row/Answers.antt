-- `given::X64Machine::lone_row` meets its contract.
use borrow.Enum.Refused.{opened}
use mathlib.Core.Path.{ap, ◌∙◌}
use Rattle.std.specs.Prelude.{Ok}
use native.Mathlib.Omega.{arith}
use Rattle.format.specs.X64.{is_push}
use Rattle.rows.proofs.Signs.{passed}
use Rattle.prologue.specs.Groups.{known, added, lone_in}
use Rattle.prologue.proofs.Arms.{high_kind}
use Rattle.prologue.proofs.Frames.{lone_other}
use Rattle.prologue.proofs.given.X64Machine.lone_row.Goals as goal

pub returns-in-DefCfa : goal.returns-in-DefCfa
unfolding lone_in
returns-in-DefCfa c =
    let e = passed c.in-DefCfa.z (omega (arith, c.in-DefCfa.known_told-1-own.given)) in
    rw c.in-DefCfa.is (rw (e, c.from.ensures) at c.frame_set.ensures)

pub returns-in-DefCfaOffset : goal.returns-in-DefCfaOffset
unfolding lone_in added is_push known
returns-in-DefCfaOffset c =
    let e = passed c.in-DefCfaOffset.z (omega (arith, c.in-DefCfaOffset.known_told-in-DefCfaOffset-1-own.given)) in
    rw c.in-DefCfaOffset.is (ap Ok (rw e at c.stepped.ensures))

pub returns-in-DefCfaRegister : goal.returns-in-DefCfaRegister
returns-in-DefCfaRegister c = rw c.in-DefCfaRegister.is (rw c.from-in-DefCfaRegister.ensures at c.frame_early.ensures)

pub returns-in-Offset : goal.returns-in-Offset
unfolding lone_in added is_push known
returns-in-Offset c =
    let e = passed c.args.w.below (omega (arith, c.struct_told-1.given)) in
    rw c.in-Offset.is (ap Ok (c.stepped-in-Offset.ensures ∙ rw (e, c.knows-known.ensures, c.registers.ensures, c.from-in-Offset.ensures)))

pub returns-in_default : goal.returns-in_default
returns-in_default c =
    rw (lone_other c.args.self.now.machine.now c.args.last c.args.r c.args.w (high_kind c.args.r (opened c.in_default.in_default-own.keys5)))

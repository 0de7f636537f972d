-- `given::X64Machine::push_rows` meets its contract.
use borrow.Enum.Refused.{opened}
use native.Mathlib.Omega.{arith}
use Rattle.rows.proofs.Signs.{passed}
use Rattle.prologue.proofs.Frames.{push_first, push_second}
use Rattle.prologue.proofs.given.X64Machine.push_rows.Goals as goal

pub returns-in_default : goal.returns-in_default
returns-in_default c = rw (← push_first c.args.self.now.machine.now c.args.a c.args.b c.args.w (opened c.in_default.in_default-own.keys2))

pub returns-in_default-b : goal.returns-in_default-b
returns-in_default-b c = rw (← push_second c.args.self.now.machine.now c.args.a c.args.b c.args.w (opened c.in_default-b.in_default-b-own.keys2))

pub returns : goal.returns
returns c =
    let e = passed c.in-DefCfaOffset.z (omega (arith, c.in-DefCfaOffset.known_told-1-own.given)) in
    let f = passed c.in-Offset.y (omega (arith, c.in-Offset.known_told-in-Offset-1-own.given)) in
    rw (c.in-DefCfaOffset.is, c.in-Offset.is) (rw (e, f, c.from.ensures) at c.pushed.ensures)

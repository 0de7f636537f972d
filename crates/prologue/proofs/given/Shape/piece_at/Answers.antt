-- `given::Shape::piece_at` meets its contract.
use Rattle.prologue.specs.Given.{rows_in}
use borrow.Enum.Refused.{opened}
use native.Mathlib.Omega.{arith}
use borrow.Author.Rules.{rules}
use Rattle.format.specs.Rows.{offset_of}
use Rattle.rows.proofs.Signs.{passed}
use Rattle.prologue.specs.Pieces.{piece_of}
use Rattle.prologue.proofs.Distances.{short_passed}
use Rattle.prologue.proofs.Rows.{row_at_short}
use Rattle.prologue.proofs.Pieced.{set_piece, early_piece, alloc_piece, slot_piece, no_piece}
use Rattle.prologue.proofs.Arms.{high_kind}
use Rattle.prologue.proofs.given.Shape.piece_at.Goals as goal

pub row_at-requires : goal.row_at-requires
row_at-requires c = (omega arith, c.args.self.now.rows.ready.ok c.args.i (omega arith) c.requires.0)

pub alloc_code-requires : goal.alloc_code-requires
unfolding offset_of
alloc_code-requires c =
    let e = passed c.in-DefCfaOffset.z (omega (arith, c.in-DefCfaOffset.known_told-1-own.given)) in
    let h = row_at_short _ c.args.i (c.args.self.now.rows.ready.ok c.args.i (omega arith) c.requires.0) in
    (search rules, search rules, rw e (rw (← c.row_at.ensures, c.in-DefCfaOffset.is) at h))

pub slot_code-requires : goal.slot_code-requires
unfolding offset_of
slot_code-requires c =
    let e = passed c.in-Offset.z (omega (arith, c.in-Offset.known_told-in-Offset-1-own.given)) in
    let h = row_at_short _ c.args.i (c.args.self.now.rows.ready.ok c.args.i (omega arith) c.requires.0) in
    (search rules, search rules, rw e (rw (← c.row_at.ensures, c.in-Offset.is) at h))

pub returns-in-DefCfa : goal.returns-in-DefCfa
returns-in-DefCfa c =
    rw (set_piece c.args.m.now.machine.now c.args.self.now.below c.args.sofar _ 0 c.args.i (rows_in c.args.self.now.rows) c.row_at.ensures c.offset_at-off.ensures _ _ c.in-DefCfa.is) c.frame_code.ensures

pub returns-in-DefCfaOffset : goal.returns-in-DefCfaOffset
returns-in-DefCfaOffset c =
    let e = passed c.in-DefCfaOffset.z (omega (arith, c.in-DefCfaOffset.known_told-1-own.given)) in
    rw (alloc_piece c.args.m.now.machine.now c.args.self.now.below c.args.sofar _ 0 c.args.i (rows_in c.args.self.now.rows) c.row_at.ensures c.offset_at-off.ensures c.in-DefCfaOffset.z c.in-DefCfaOffset.is) (rw (short_passed c.args.sofar c.requires.1, e) at c.alloc_code.ensures)

pub returns-in-DefCfaRegister : goal.returns-in-DefCfaRegister
returns-in-DefCfaRegister c =
    rw (early_piece c.args.m.now.machine.now c.args.self.now.below c.args.sofar _ 0 c.args.i (rows_in c.args.self.now.rows) c.row_at.ensures c.offset_at-off.ensures _ c.in-DefCfaRegister.is) c.frame_code-in-DefCfaRegister.ensures

pub returns-in-Offset : goal.returns-in-Offset
returns-in-Offset c =
    let e = passed c.in-Offset.z (omega (arith, c.in-Offset.known_told-in-Offset-1-own.given)) in
    rw (slot_piece c.args.m.now.machine.now c.args.self.now.below c.args.sofar _ 0 c.args.i (rows_in c.args.self.now.rows) c.row_at.ensures c.offset_at-off.ensures c.in-Offset.reg c.in-Offset.z c.in-Offset.is) (rw (short_passed c.args.self.now.below c.args.self.now.short, e, c.from.ensures) at c.slot_code.ensures)

pub returns-in_default : goal.returns-in_default
unfolding piece_of
returns-in_default c =
    rw (no_piece c.args.m.now.machine.now c.args.self.now.below c.args.sofar _ 0 c.args.i (rows_in c.args.self.now.rows) c.row_at.ensures c.offset_at-off.ensures (high_kind c.row_at.result (opened c.in_default.in_default-own.keys5)))

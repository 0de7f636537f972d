-- `given::UnwindCodes::piece` meets its contract.
use native.Mathlib.Omega.{arith}
use Rattle.prologue.proofs.Distances.{short_passed}
use Rattle.prologue.specs.Pieces.{piece_of}
use Rattle.x64.specs.Listed.{records_in}
use Rattle.x64.specs.Sources.{piece_at}
use Rattle.x64.proofs.given.UnwindCodes.piece.Goals as goal

pub code_offset_at-requires : goal.code_offset_at-requires
unfolding records_in
code_offset_at-requires c = let h = rw c.in-Codes.is at c.requires in omega (arith, h)

pub code_at-requires : goal.code_at-requires
unfolding records_in
code_at-requires c = let h = rw c.in-Codes.is at c.requires in omega (arith, h)

pub returns-in-Codes : goal.returns-in-Codes
unfolding piece_of piece_at
returns-in-Codes c = simp (c.code_offset_at.ensures, c.code_at.ensures, c.in-Codes.is)

pub piece_at-requires : goal.piece_at-requires
unfolding records_in
piece_at-requires c = (rw c.in-ByRows.is at c.requires, rw (short_passed c.args.self.now.sofar c.args.self.now.short) c.args.self.now.short)

pub returns-in-ByRows : goal.returns-in-ByRows
unfolding piece_at
returns-in-ByRows c = simp c.in-ByRows.is (rw (c.registers.ensures, short_passed c.args.self.now.sofar c.args.self.now.short) at c.piece_at.ensures)

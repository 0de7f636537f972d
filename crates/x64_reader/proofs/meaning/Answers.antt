-- `x64_reader::meaning` meets its contract.
use Prim.Native.Nat.{◌+◌, ◌*◌, ◌/◌}
use native.Mathlib.Omega.{arith}
use lib.IntN.{pos}
use mir.Facts.{to_z_pos, to_z-of_z}
use mir.Syntax.{w64}
use Rattle.format.specs.Prelude.{pick}
use Rattle.format.specs.X64Reader.{meaning}
use borrow.Author.Tests.{ne_eqb}
use Rattle.x64_reader.proofs.meaning.Goals as goal

pub returns-in-0 : goal.returns-in-0
unfolding meaning pick
returns-in-0 c = rw c.in-0.is

pub returns-in-1 : goal.returns-in-1
unfolding meaning pick
returns-in-1 c = rw (c.in-1.is, to_z_pos w64 {n = c.large_size.result} (omega (arith, c.large_size.ensures.1)), c.large_size.ensures.0)

pub returns-in-2 : goal.returns-in-2
unfolding meaning pick
returns-in-2 c = rw (c.in-2.is, to_z_pos w64 {n = 8 * c.args.info + 8} (omega (arith, c.requires.0)))

pub returns-in-3 : goal.returns-in-3
unfolding meaning pick
returns-in-3 c = rw (c.in-3.is, c.from.ensures, c.from-in-3.ensures, to_z-of_z {w = w64} {z = pos (16 * (c.args.frame / 16))} (record { sfits = omega (arith, c.ranges.frame) }))

pub returns-in-4 : goal.returns-in-4
unfolding meaning pick
returns-in-4 c = rw (c.in-4.is, to_z_pos w64 {n = 8 * c.args.v} (omega (arith, c.requires.1)))

pub returns-in-5 : goal.returns-in-5
unfolding meaning pick
returns-in-5 c = rw (c.in-5.is, to_z_pos w64 {n = c.args.v} (omega (arith, c.requires.1)))

pub returns-in-8 : goal.returns-in-8
unfolding meaning pick
returns-in-8 c = rw (c.in-8.is, to_z_pos w64 {n = 16 * c.args.v} (omega (arith, c.requires.1)))

pub returns-in_default : goal.returns-in_default
unfolding meaning pick
returns-in_default c =
    let k = c.args.op in
    let n = c.in_default.in_default-own.rest in
    rw (to_z_pos w64 {n = c.args.v} (omega (arith, c.requires.1))) (simp (ne_eqb k 0 n.0.0.0.0.0.0.1, ne_eqb k 1 n.0.0.0.0.0.1, ne_eqb k 2 n.0.0.0.0.1, ne_eqb k 3 n.0.0.0.1, ne_eqb k 4 n.0.0.1, ne_eqb k 5 n.0.1, ne_eqb k 8 n.1))

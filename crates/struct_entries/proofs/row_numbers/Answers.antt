-- `struct_entries::row_numbers` meets its contract.
use native.Mathlib.Omega.{arith}
use mir.Syntax.{w32}
use mir.Facts.{to_z-of_z}
use Rattle.struct_entries.specs.Structs.{row_numbers}
use Rattle.struct_entries.proofs.row_numbers.Goals as goal

pub returns : goal.returns
unfolding row_numbers
returns c =
    let same = to_z-of_z {w = w32} {z = c.args.x.value} (record { sfits = omega (arith, c.struct_told-1.given) }) in
    rw (c.from.ensures, c.from-2.ensures, c.from-3.ensures, c.cast_unsigned.ensures, same)

-- `x64_reader::Code::numbers` meets its contract.
use mathlib.Core.Path.{◌∙◌}
use native.Mathlib.Omega.{arith}
use Rattle.format.specs.X64Reader.{fields_of}
use Rattle.format.proofs.Bits.{flag_number}
use mir.Facts.{to_z-of_z}
use mir.Syntax.{w64}
use Rattle.x64_reader.proofs.Code.numbers.Goals as goal

pub returns-in-Push : goal.returns-in-Push
unfolding fields_of
returns-in-Push c = rw c.in-Push.is

pub returns-in-Alloc : goal.returns-in-Alloc
unfolding fields_of
returns-in-Alloc c = rw (c.in-Alloc.is, c.cast_unsigned.ensures, to_z-of_z {w = w64} {z = c.in-Alloc.z} (record { sfits = omega arith }))

pub returns-in-Frame : goal.returns-in-Frame
unfolding fields_of
returns-in-Frame c = rw (c.in-Frame.is, c.cast_unsigned-in-Frame.ensures, to_z-of_z {w = w64} {z = c.in-Frame.z} (record { sfits = omega arith }))

pub returns-in-Save : goal.returns-in-Save
unfolding fields_of
returns-in-Save c =
    rw (c.in-Save.is, c.from.ensures ∙ flag_number c.in-Save.vector, c.cast_unsigned-in-Save.ensures, to_z-of_z {w = w64} {z = c.in-Save.z} (record { sfits = omega arith }))

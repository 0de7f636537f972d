-- What holds of a packed word's fields: their widths.
use Rattle.std.specs.Prelude.{◌<◌}
use Rattle.arm64.specs.declared.Packed.{Packed}

pub record Small (p : Packed) : Type 0 where
  pub low_length : p.length < 2048
  pub low_vectors : p.vectors < 8
  pub low_registers : p.registers < 16
  pub low_homes : p.homes < 2
  pub low_chain : p.chain < 4
  pub low_frame : p.frame < 512

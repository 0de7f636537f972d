-- The byte of an encoding (LSB Core, "DWARF Exception Header Encoding", tables 10-5 and 10-6; 0x50 and 0x80
-- as the GNU tools have them).
use Rattle.std.specs.Prelude.{ℕ, ◌/◌, ◌%◌, ◌==◌, nat_le, if◌then◌else◌, Option, Some, None}
use Rattle.cfi_pointers.specs.declared.encoding.Format.{Format}
use Rattle.cfi_pointers.specs.declared.encoding.Format.TheVariants as format
use Rattle.cfi_pointers.specs.declared.encoding.Base.{Base}
use Rattle.cfi_pointers.specs.declared.encoding.Base.TheVariants as base
use Rattle.cfi_pointers.specs.declared.encoding.Encoding.{Encoding}
use Rattle.cfi_entries.specs.Refusals.{◌>>?◌}

-- the low four bits: DW_EH_PE_absptr, uleb128, udata2, udata4, udata8, sleb128, sdata2, sdata4, sdata8
abbrev pub format_of : ℕ → Option Format
format_of n =
    if n == 0x0 then Some format.Address
    else if n == 0x1 then Some format.Uleb
    else if n == 0x2 then Some format.Udata2
    else if n == 0x3 then Some format.Udata4
    else if n == 0x4 then Some format.Udata8
    else if n == 0x9 then Some format.Sleb
    else if n == 0xa then Some format.Sdata2
    else if n == 0xb then Some format.Sdata4
    else if n == 0xc then Some format.Sdata8
    else None

-- the next three: absolute, DW_EH_PE_pcrel, textrel, datarel, funcrel, aligned
abbrev pub base_of : ℕ → Option Base
base_of n =
    if n == 0 then Some base.Absolute
    else if n == 1 then Some base.Place
    else if n == 2 then Some base.Text
    else if n == 3 then Some base.Data
    else if n == 4 then Some base.Function
    else if n == 5 then Some base.Aligned
    else None

-- and DW_EH_PE_indirect
unfoldable pub encoding_of : ℕ → Option Encoding
encoding_of n =
    format_of (n % 16) >>? λ f. base_of (n / 16 % 8) >>? λ b.
    Some (record { format = f; base = b; indirect = nat_le 128 n })

-- the same bytes without a sign
abbrev pub unsigned_format : Format → Format
unsigned_format format.Address = format.Address
unsigned_format format.Uleb = format.Uleb
unsigned_format format.Udata2 = format.Udata2
unsigned_format format.Udata4 = format.Udata4
unsigned_format format.Udata8 = format.Udata8
unsigned_format format.Sleb = format.Uleb
unsigned_format format.Sdata2 = format.Udata2
unsigned_format format.Sdata4 = format.Udata4
unsigned_format format.Sdata8 = format.Udata8

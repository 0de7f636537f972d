-- The size of an address in bytes (DWARF 5, 6.4.1, address_size).
use Rattle.std.specs.Prelude.{ℕ, ◌^◌, ◌==◌, if◌then◌else◌, Option, Some, None}
use Rattle.cfi_pointers.specs.declared.size.AddressSize.{AddressSize}
use Rattle.cfi_pointers.specs.declared.size.AddressSize.TheVariants.{Two, Four, Eight}

abbrev pub size_of : ℕ → Option AddressSize
size_of n = if n == 2 then Some Two else if n == 4 then Some Four else if n == 8 then Some Eight else None

abbrev pub bytes_of : AddressSize → ℕ
bytes_of Two = 2
bytes_of Four = 4
bytes_of Eight = 8

-- addresses wrap there
abbrev pub modulus : AddressSize → ℕ
modulus Two = 2 ^ 16
modulus Four = 2 ^ 32
modulus Eight = 2 ^ 64

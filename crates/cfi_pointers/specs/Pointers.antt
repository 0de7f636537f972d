-- A pointer at a place of a section (LSB Core, "DWARF Exception Header Encoding"). Addresses wrap at their
-- size.
use Rattle.std.specs.Prelude.{ℕ, ◌+◌, ◌-◌, ◌*◌, ◌%◌, ◌^◌, nat_lt, nat_le, if◌then◌else◌, List, length, Option, Some, None, Ok, Err}
use Rattle.std.specs.Int.{w64, cast_unsigned}
use Rattle.cfi_entries.specs.declared.refusal.Question.TheVariants as question
use Rattle.cfi_entries.specs.Places.{field_at, uleb_at, sleb_at}
use Rattle.cfi_entries.specs.Refusals.{Answer, refused, or_refused, ◌>>=◌, ◌>>?◌}
use Rattle.cfi_pointers.specs.declared.size.AddressSize.{AddressSize}
use Rattle.cfi_pointers.specs.declared.encoding.Format.{Format}
use Rattle.cfi_pointers.specs.declared.encoding.Format.TheVariants as format
use Rattle.cfi_pointers.specs.declared.encoding.Base.{Base}
use Rattle.cfi_pointers.specs.declared.encoding.Base.TheVariants as base
use Rattle.cfi_pointers.specs.declared.encoding.Encoding.{Encoding}
use Rattle.cfi_pointers.specs.declared.pointer.Bases.{Bases}
use Rattle.cfi_pointers.specs.declared.pointer.Pointer.{Pointer}
use Rattle.cfi_pointers.specs.Sizes.{bytes_of, modulus}
use Rattle.cfi_pointers.specs.Encodings.{unsigned_format}

-- a number whose sign bit is `half`, in two's complement of 64 bits
unfoldable pub extended : (half v : ℕ) → ℕ
extended half v = if nat_le half v then (v + (2 ^ 64 - 2 * half)) % 2 ^ 64 else v

abbrev pub signed_field_at : (n half : ℕ) → List ℕ → ℕ → Option (ℕ × ℕ)
signed_field_at n half s p = field_at n s p >>? λ x. Some (extended half x.0, x.1)

abbrev pub signed_leb_at : List ℕ → ℕ → Option (ℕ × ℕ)
signed_leb_at s p = sleb_at s p >>? λ x. Some (cast_unsigned w64 x.0, x.1)

-- the number, and the place behind it
abbrev pub number_at : Format → AddressSize → List ℕ → ℕ → Option (ℕ × ℕ)
number_at format.Address a s p = field_at (bytes_of a) s p
number_at format.Uleb a s p = uleb_at s p
number_at format.Udata2 a s p = field_at 2 s p
number_at format.Udata4 a s p = field_at 4 s p
number_at format.Udata8 a s p = field_at 8 s p
number_at format.Sleb a s p = signed_leb_at s p
number_at format.Sdata2 a s p = signed_field_at 2 (2 ^ 15) s p
number_at format.Sdata4 a s p = signed_field_at 4 (2 ^ 31) s p
number_at format.Sdata8 a s p = signed_field_at 8 (2 ^ 63) s p

-- the address at which a place of the section stands
abbrev pub address_at : Bases → ℕ → ℕ
address_at b p = (b.section + p) % 2 ^ 64

-- what a pointer at a place is relative to, where it is known
abbrev pub base_address : Bases → Base → ℕ → Option ℕ
base_address b base.Absolute p = Some 0
base_address b base.Place p = Some (address_at b p)
base_address b base.Text p = b.text
base_address b base.Data p = b.data
base_address b base.Function p = b.function
base_address b base.Aligned p = Some 0

-- the bytes up to the next address that is a multiple of the address size
abbrev pub gap : Bases → Base → AddressSize → ℕ → ℕ
gap b base.Absolute a p = 0
gap b base.Place a p = 0
gap b base.Text a p = 0
gap b base.Data a p = 0
gap b base.Function a p = 0
gap b base.Aligned a p = (bytes_of a - address_at b p % bytes_of a) % bytes_of a

unfoldable pub pointer_at : Encoding → AddressSize → Bases → List ℕ → ℕ → Answer Pointer
pointer_at e a b s p =
    if nat_lt (length s - p) (gap b e.base a p) then Err (refused question.Fields p)
    else or_refused question.Fields p (number_at e.format a s (p + gap b e.base a p)) >>= λ n.
    or_refused question.Base p (base_address b e.base p) >>= λ x.
    Ok (record { number = n.0; address = (n.0 + x) % modulus a; next = n.1 })

-- the length of a function has the format of its start, without a sign and relative to nothing
unfoldable pub size_at : Encoding → AddressSize → List ℕ → ℕ → Answer (ℕ × ℕ)
size_at e a s p = or_refused question.Fields p (number_at (unsigned_format e.format) a s p)

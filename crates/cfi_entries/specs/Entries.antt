-- An entry at a place of a section (DWARF 5, 6.4.1, 7.2.2 and 7.4; LSB Core, "The Common Information Entry
-- Format" and "The Frame Description Entry Format").
use Rattle.std.specs.Prelude.{◌≡◌, ℕ, ◌+◌, ◌≤◌, ◌-◌, Bool, true, false, ◌&&◌, ◌==◌, nat_lt, nat_le, if◌then◌else◌, List, length, Option, Some, None, Ok, Err}
use Rattle.cfi_entries.specs.declared.refusal.Question.TheVariants.{Tiling, Record, Header}
use Rattle.cfi_entries.specs.declared.entries.Kind.{Kind}
use Rattle.cfi_entries.specs.declared.entries.Kind.TheVariants.{Terminator, Cie, Fde}
use Rattle.cfi_entries.specs.declared.entries.Entry.{Entry}
use Rattle.cfi_entries.specs.declared.entries.Extent.{Extent}
use Rattle.cfi_entries.specs.Places.{field_at}
use Rattle.cfi_entries.specs.Refusals.{Answer, refused, or_refused, ◌>>=◌, ◌>>?◌}

-- 4 bytes below 0xfffffff0 are the length; behind 0xffffffff it has 8 bytes (7.4, 64-bit DWARF); the others
-- are reserved
unfoldable pub length_at : List ℕ → ℕ → Option Extent
length_at s p =
    field_at 4 s p >>? λ n.
    if nat_lt n.0 0xfffffff0 then Some (record { wide = false; from = n.1; size = n.0 })
    else if n.0 == 0xffffffff
    then (field_at 8 s n.1 >>? λ m. Some (record { wide = true; from = m.1; size = m.0 }))
    else None

-- the second field, CIE_id or CIE_pointer: in debug_frame an offset of the format (7.4), in eh_frame always
-- of 4 bytes
abbrev pub id_size : (debug wide : Bool) → ℕ
id_size debug wide = if debug && wide then 8 else 4

-- what it is in a CIE: in debug_frame all ones (7.24), in eh_frame 0
abbrev pub cie_id : (debug wide : Bool) → ℕ
cie_id false wide = 0
cie_id true false = 0xffffffff
cie_id true true = 0xffffffffffffffff

-- the place in front of another by a distance
abbrev pub back : (place distance : ℕ) → Option ℕ
back place distance = if nat_le distance place then Some (place - distance) else None

-- in an FDE it is the place of the CIE; in eh_frame the distance from there back to the CIE
unfoldable pub kind_of : (debug wide : Bool) → (place id : ℕ) → Kind
kind_of debug wide place id =
    if id == cie_id debug wide then Cie
    else if debug then Fde (Some id)
    else Fde (back place id)

-- an entry whose contents are not empty holds its second field
unfoldable pub identified : (debug : Bool) → List ℕ → ℕ → Extent → Answer Entry
identified debug s p x =
    if nat_lt x.size (id_size debug x.wide) then Err (refused Tiling p)
    else or_refused Tiling p (field_at (id_size debug x.wide) s x.from) >>= λ id.
    Ok (record {
      at = p;
      wide = x.wide;
      kind = kind_of debug x.wide x.from id.0;
      fields = id.1;
      end = x.from + x.size;
    })

-- an entry without contents is a terminator, and reading goes on behind it
unfoldable pub entry_at : (debug : Bool) → List ℕ → ℕ → Answer Entry
entry_at debug s p =
    if nat_le (length s) p then Err (refused Record p)
    else or_refused Tiling p (length_at s p) >>= λ x.
    if nat_lt (length s - x.from) x.size then Err (refused Tiling p)
    else if x.size == 0
    then Ok (record { at = p; wide = x.wide; kind = Terminator; fields = x.from; end = x.from })
    else identified debug s p x

-- an entry that was read at a place has its length and its fields in front of its end, inside the section
abbrev pub Ahead : (size p : ℕ) → Entry → Type 0
Ahead size p e = (e.at ≡ p) × (p + 4 ≤ e.fields) × (e.fields ≤ e.end) × (e.end ≤ size)

-- where the CIE of an FDE stands
abbrev pub cie_place : Kind → Option ℕ
cie_place Terminator = None
cie_place Cie = None
cie_place (Fde p) = p

abbrev pub is_cie : Kind → Bool
is_cie Terminator = false
is_cie Cie = true
is_cie (Fde p) = false

-- an entry that is a CIE
abbrev pub only_cie : (at : ℕ) → Answer Entry → Answer Entry
only_cie at (Ok e) = if is_cie e.kind then Ok e else Err (refused Header at)
only_cie at (Err r) = Err (refused Header at)

unfoldable pub cie_of : (debug : Bool) → List ℕ → Entry → Answer Entry
cie_of debug s e = or_refused Header e.at (cie_place e.kind) >>= λ p. only_cie e.at (entry_at debug s p)

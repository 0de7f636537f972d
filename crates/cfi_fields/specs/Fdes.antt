-- The fields of an FDE (DWARF 5, 6.4.1; LSB Core, "The Frame Description Entry Format").
use Rattle.std.specs.Prelude.{ℕ, ◌+◌, ◌-◌, ◌≤◌, Bool, true, false, not, ◌==◌, nat_lt, if◌then◌else◌, List, length, take, Option, Some, None, Ok, Err}
use Rattle.cfi_entries.specs.declared.refusal.Question.TheVariants.{Record, Fields}
use Rattle.cfi_entries.specs.declared.entries.Kind.{Kind}
use Rattle.cfi_entries.specs.declared.entries.Kind.TheVariants as kind
use Rattle.cfi_entries.specs.declared.entries.Entry.{Entry}
use Rattle.cfi_entries.specs.Places.{uleb_at}
use Rattle.cfi_entries.specs.Entries.{entry_at, cie_of}
use Rattle.cfi_entries.specs.Refusals.{Answer, refused, or_refused, ◌>>=◌}
use Rattle.cfi_pointers.specs.declared.size.AddressSize.{AddressSize}
use Rattle.cfi_pointers.specs.declared.encoding.Format.TheVariants.{Address}
use Rattle.cfi_pointers.specs.declared.encoding.Base.TheVariants.{Absolute}
use Rattle.cfi_pointers.specs.declared.encoding.Encoding.{Encoding}
use Rattle.cfi_pointers.specs.declared.pointer.Bases.{Bases}
use Rattle.cfi_pointers.specs.Pointers.{pointer_at, size_at}
use Rattle.cfi_fields.specs.declared.cie.Cie.{Cie}
use Rattle.cfi_fields.specs.declared.fde.Lsda.{Lsda}
use Rattle.cfi_fields.specs.declared.fde.Tail.{Tail}
use Rattle.cfi_fields.specs.declared.fde.Fde.{Fde}
use Rattle.cfi_fields.specs.Cies.{cie_of_entry}

-- the operations of an FDE and of its CIE stand inside the section
abbrev pub Holds : ℕ → Fde → Type 0
Holds size f = (f.operations ≤ f.end) × (f.end ≤ size) × (f.cie.operations ≤ f.cie.end) × (f.cie.end ≤ size)

-- initial_location is an address, where no R says otherwise
abbrev pub or_address : Option Encoding → Encoding
or_address (Some e) = e
or_address None = record { format = Address; base = Absolute; indirect = false }

abbrev pub encoding_of_cie : Cie → Encoding
encoding_of_cie c = or_address c.augmentation.pointers

-- the pointer to call sites, where the CIE's L gives its encoding; one whose number is 0 is none
abbrev pub call_sites_by : Option Encoding → AddressSize → Bases → List ℕ → ℕ → Answer (Option Lsda)
call_sites_by None a b s p = Ok None
call_sites_by (Some e) a b s p =
    pointer_at e a b s p >>= λ q.
    if q.number == 0 then Ok None else Ok (Some (record { address = q.address; indirect = e.indirect }))

unfoldable pub call_sites_at : Cie → Bases → List ℕ → ℕ → Answer (Option Lsda)
call_sites_at c b s p = call_sites_by c.augmentation.lsda c.size b s p

-- augmentation data has a length, and the operations start behind it
unfoldable pub tail_at : Cie → Bases → List ℕ → ℕ → Answer Tail
tail_at c b s p =
    if not c.augmentation.augmented then Ok (record { lsda = None; operations = p })
    else (or_refused Fields p (uleb_at s p) >>= λ n.
    if nat_lt (length s - n.1) n.0 then Err (refused Fields p)
    else (call_sites_at c b (take (n.1 + n.0) s) n.1 >>= λ l.
    Ok (record { lsda = l; operations = n.1 + n.0 })))

-- in pointers of the data the function is known
abbrev pub within : ℕ → Bases → Bases
within start b = record { section = b.section; text = b.text; «data» = b.data; function = Some start }

-- the fields in the bytes up to the end of the entry
unfoldable pub fde_fields : Cie → Bases → List ℕ → Entry → Answer Fde
fde_fields c b s e =
    pointer_at (encoding_of_cie c) c.size b s e.fields >>= λ start.
    size_at (encoding_of_cie c) c.size s start.next >>= λ n.
    tail_at c (within start.address b) s n.1 >>= λ t.
    Ok (record {
      at = e.at;
      cie = c;
      start = start.address;
      size = n.0;
      lsda = t.lsda;
      operations = t.operations;
      end = e.end;
    })

unfoldable pub fde_of_entry : Cie → Bases → List ℕ → Entry → Answer Fde
fde_of_entry c b s e = fde_fields c b (take e.end s) e

abbrev pub is_fde : Kind → Bool
is_fde kind.Terminator = false
is_fde kind.Cie = false
is_fde (kind.Fde p) = true

unfoldable pub fde_at : (debug : Bool) → AddressSize → Bases → List ℕ → ℕ → Answer Fde
fde_at debug a b s p =
    entry_at debug s p >>= λ e.
    if not (is_fde e.kind) then Err (refused Record p)
    else (cie_of debug s e >>= λ h. cie_of_entry a b s h >>= λ c. fde_of_entry c b s e)

-- The fields of a CIE (DWARF 5, 6.4.1; LSB Core, "The Common Information Entry Format").
use Rattle.std.specs.Prelude.{ℕ, ◌+◌, not, Bool, ◌||◌, ◌==◌, nat_lt, if◌then◌else◌, List, take, drop, Option, Some, None, Ok, Err}
use Rattle.std.specs.List.{position}
use Rattle.cfi_entries.specs.declared.refusal.Question.TheVariants.{Record, Fields}
use Rattle.cfi_entries.specs.declared.entries.Entry.{Entry}
use Rattle.cfi_entries.specs.Places.{uleb_at, sleb_at}
use Rattle.cfi_entries.specs.Entries.{entry_at, is_cie}
use Rattle.cfi_entries.specs.Refusals.{Answer, refused, or_refused, ◌>>=◌}
use Rattle.cfi_pointers.specs.declared.size.AddressSize.{AddressSize}
use Rattle.cfi_pointers.specs.declared.pointer.Bases.{Bases}
use Rattle.cfi_pointers.specs.Sizes.{size_of}
use Rattle.cfi_fields.specs.declared.cie.Cie.{Cie}
use Rattle.cfi_fields.specs.declared.cie.Text.{Text}
use Rattle.cfi_fields.specs.declared.cie.Factors.{Factors}
use Rattle.cfi_fields.specs.Augmentations.{byte_at, augmentation_at}

-- 1 in eh_frame and DWARF 2, 3 and 4 in DWARF 3 to 5
unfoldable pub version_at : List ℕ → ℕ → Answer ℕ
version_at s p =
    byte_at s p >>= λ v. if (v == 1) || (v == 3) || (v == 4) then Ok v else Err (refused Fields p)

-- the bytes in front of a 0
abbrev pub text_of : ℕ → Option ℕ → Answer Text
text_of p (Some n) = Ok (record { at = p; size = n })
text_of p None = Err (refused Fields p)

unfoldable pub text_at : List ℕ → ℕ → Answer Text
text_at s p = text_of p (position (λ b. b == 0) (drop p s))

-- address_size and segment_selector_size stand in version 4 alone
unfoldable pub address_at : List ℕ → ℕ → (version : ℕ) → AddressSize → Answer (AddressSize × ℕ)
address_at s p v a =
    if not (v == 4) then Ok (a, p)
    else (byte_at s p >>= λ n. or_refused Fields p (size_of n) >>= λ own.
    byte_at s (p + 1) >>= λ k. if not (k == 0) then Err (refused Fields (p + 1)) else Ok (own, p + 2))

-- code_alignment_factor, data_alignment_factor, return_address_register: a register has 16 bits
unfoldable pub factors_at : List ℕ → ℕ → Answer Factors
factors_at s p =
    or_refused Fields p (uleb_at s p) >>= λ c.
    or_refused Fields c.1 (sleb_at s c.1) >>= λ d.
    or_refused Fields d.1 (uleb_at s d.1) >>= λ r.
    if nat_lt 0xffff r.0 then Err (refused Fields d.1)
    else Ok (record { code_factor = c.0; data_factor = d.0; register = r.0; next = r.1 })

-- the fields in the bytes up to the end of the entry
unfoldable pub cie_fields : AddressSize → Bases → List ℕ → Entry → Answer Cie
cie_fields a b s e =
    version_at s e.fields >>= λ v.
    text_at s (e.fields + 1) >>= λ t.
    address_at s (t.at + t.size + 1) v a >>= λ own.
    factors_at s own.1 >>= λ f.
    augmentation_at own.0 b s t.at (take t.size (drop t.at s)) f.next >>= λ x.
    Ok (record {
      at = e.at;
      version = v;
      size = own.0;
      code_factor = f.code_factor;
      data_factor = f.data_factor;
      register = f.register;
      augmentation = x.says;
      operations = x.next;
      end = e.end;
    })

unfoldable pub cie_of_entry : AddressSize → Bases → List ℕ → Entry → Answer Cie
cie_of_entry a b s e = cie_fields a b (take e.end s) e

unfoldable pub cie_at : (debug : Bool) → AddressSize → Bases → List ℕ → ℕ → Answer Cie
cie_at debug a b s p =
    entry_at debug s p >>= λ e. if not (is_cie e.kind) then Err (refused Record p) else cie_of_entry a b s e

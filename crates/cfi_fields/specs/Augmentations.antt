-- The augmentation of a CIE: its string, and the data that its letters announce (LSB Core, "Augmentation
-- String Format" and "CIE Augmentation Section Content"; `B` and `G` of the AArch64 DWARF ABI and of the GNU
-- tools).
use Rattle.std.specs.Prelude.{ℕ, ◌+◌, ◌-◌, ◌≤◌, Bool, true, false, not, ◌&&◌, ◌||◌, ◌==◌, nat_lt, nat_le, if◌then◌else◌, List, [], ◌∷◌, length, take, drop, slice_index, is_some, Option, Some, None, Ok, Err}
use Rattle.cfi_entries.specs.declared.refusal.Question.TheVariants.{Fields}
use Rattle.cfi_entries.specs.Places.{uleb_at}
use Rattle.cfi_entries.specs.Refusals.{Answer, refused, or_refused, ◌>>=◌}
use Rattle.cfi_pointers.specs.declared.size.AddressSize.{AddressSize}
use Rattle.cfi_pointers.specs.declared.encoding.Encoding.{Encoding}
use Rattle.cfi_pointers.specs.declared.pointer.Bases.{Bases}
use Rattle.cfi_pointers.specs.Encodings.{encoding_of}
use Rattle.cfi_pointers.specs.Pointers.{pointer_at}
use Rattle.cfi_fields.specs.declared.augmentation.Personality.{Personality}
use Rattle.cfi_fields.specs.declared.augmentation.Augmentation.{Augmentation}
use Rattle.cfi_fields.specs.declared.augmentation.Augmented.{Augmented}

-- the data goes on inside that many bytes
abbrev pub Inside : ℕ → Augmented → Type 0
Inside size x = x.next ≤ size

abbrev pub byte_at : List ℕ → ℕ → Answer ℕ
byte_at s p = if nat_le (length s) p then Err (refused Fields p) else Ok (slice_index s p)

-- the byte of an encoding
unfoldable pub encoding_at : List ℕ → ℕ → Answer Encoding
encoding_at s p = byte_at s p >>= λ n. or_refused Fields p (encoding_of n)

-- R: the encoding of pointers in FDEs, which are not indirect
unfoldable pub pointers_at : List ℕ → ℕ → Answer Encoding
pointers_at s p = encoding_at s p >>= λ e. if e.indirect then Err (refused Fields p) else Ok e

-- P: an encoding, and the pointer; DW_EH_PE_omit is no personality
unfoldable pub personality_at : AddressSize → Bases → List ℕ → ℕ → Answer (Option Personality × ℕ)
personality_at a b s p =
    byte_at s p >>= λ n.
    if n == 0xff then Ok (None, p + 1)
    else (encoding_at s p >>= λ e. pointer_at e a b s (p + 1) >>= λ q.
    Ok (Some (record { address = q.address; indirect = e.indirect }), q.next))

-- L: the encoding of the pointers to call sites, or DW_EH_PE_omit
unfoldable pub lsda_at : List ℕ → ℕ → Answer (Option Encoding)
lsda_at s p = byte_at s p >>= λ n. if n == 0xff then Ok None else (encoding_at s p >>= λ e. Ok (Some e))

-- each stands once, behind a z; the string stands at t
unfoldable pub with_pointers : List ℕ → (t : ℕ) → Augmented → Answer Augmented
with_pointers s t x =
    if not x.says.augmented || is_some x.says.pointers then Err (refused Fields t)
    else (pointers_at s x.next >>= λ e.
    Ok (record { says = record x.says { pointers = Some e }; next = x.next + 1 }))

unfoldable pub with_personality : AddressSize → Bases → List ℕ → (t : ℕ) → Augmented → Answer Augmented
with_personality a b s t x =
    if not x.says.augmented || x.says.has_personality then Err (refused Fields t)
    else (personality_at a b s x.next >>= λ q.
    Ok (record { says = record x.says { has_personality = true; personality = q.0 }; next = q.1 }))

unfoldable pub with_lsda : List ℕ → (t : ℕ) → Augmented → Answer Augmented
with_lsda s t x =
    if not x.says.augmented || x.says.has_lsda then Err (refused Fields t)
    else (lsda_at s x.next >>= λ e.
    Ok (record { says = record x.says { has_lsda = true; lsda = e }; next = x.next + 1 }))

-- S, B and G have no data
abbrev pub flagged : (t : ℕ) → (given : Bool) → Augmentation → ℕ → Answer Augmented
flagged t given says next = if given then Err (refused Fields t) else Ok (record { says = says; next = next })

-- what a letter adds: R, P, L, S, B, G
unfoldable pub with_letter : AddressSize → Bases → List ℕ → (t l : ℕ) → Augmented → Answer Augmented
with_letter a b s t l x =
    if l == 0x52 then with_pointers s t x
    else if l == 0x50 then with_personality a b s t x
    else if l == 0x4c then with_lsda s t x
    else if l == 0x53 then flagged t x.says.signal (record x.says { signal = true }) x.next
    else if l == 0x42 then flagged t x.says.b_key (record x.says { b_key = true }) x.next
    else if l == 0x47 then flagged t x.says.tagged (record x.says { tagged = true }) x.next
    else Err (refused Fields t)

unfoldable pub with_letters : AddressSize → Bases → List ℕ → (t : ℕ) → List ℕ → Augmented → Answer Augmented
with_letters a b s t [] x = Ok x
with_letters a b s t (l ∷ ls) x = with_letter a b s t l x >>= with_letters a b s t ls

-- nothing said yet
abbrev pub nothing : (z : Bool) → Augmentation
nothing z = record {
  augmented = z;
  pointers = None;
  has_personality = false;
  personality = None;
  has_lsda = false;
  lsda = None;
  signal = false;
  b_key = false;
  tagged = false;
}

-- z stands first
abbrev pub has_data : List ℕ → Bool
has_data text = nat_lt 0 (length text) && (slice_index text 0 == 0x7a)

-- with a z the data has a length, and the operations start behind it
unfoldable pub augmentation_at : AddressSize → Bases → List ℕ → (t : ℕ) → (text : List ℕ) → ℕ
    → Answer Augmented
augmentation_at a b s t text p =
    if not (has_data text)
    then (with_letters a b s t text (record { says = nothing false; next = p }) >>= λ x.
    Ok (record { says = x.says; next = p }))
    else (or_refused Fields p (uleb_at s p) >>= λ n.
    if nat_lt (length s - n.1) n.0 then Err (refused Fields p)
    else (with_letters a b (take (n.1 + n.0) s) t (drop 1 text)
    (record { says = nothing true; next = n.1 }) >>= λ x.
    Ok (record { says = x.says; next = n.1 + n.0 })))

-- The personality that a header names: whether there is one, and its letters, data and relocation.
use mathlib.Core.Path.{◌≡◌, refl, sym, ◌∙◌}
use mathlib.Core.Bool.{Bool, true, false}
use mathlib.Core.List.{List, [], ◌∷◌}
use Prim.Native.Nat.{ℕ}
use native.Mathlib.Omega.{arith}
use mir.Val.{bool_byte}
use lib.ListN.{length}
use Rattle.std.specs.Prelude as code
use Rattle.std.specs.Prelude.{Some, None, MatchOption, is_some}
use Rattle.format.specs.Prelude.{pick}
use Rattle.format.specs.declared.Machine.{Machine}
use Rattle.format.specs.Headers.{plain, size_of, size_or0, pointer_bytes, letters, lsda_letter, augmentation_data, pointer_reloc, pointer_place, kind_relocs, header_relocs}
use Rattle.lists.specs.declared.Personality.{Personality}
use Rattle.lists.specs.declared.Extent.{Extent}
use Rattle.header_keys.specs.Functions.{key_in}
use Rattle.header_keys.specs.Kinds.{lsda_of, named_by, kind_meant, asked_kind, kind_in}
use Rattle.header_keys.specs.declared.Kind as declared
use Rattle.header_keys.specs.declared.Kind.TheVariants as variants
use Rattle.headers.specs.Kinds.{head_in, personality_for, personality_in, NamedFits, KindFits, tail_of, kind_reloc_count, header_reloc_count}
use Rattle.headers.proofs.Keys.{relocs_head}

-- ---- how many there are

kind_count : (word place : ℕ) (k : declared.Kind) → length (kind_relocs word place (kind_meant k)) ≡ kind_reloc_count k
unfolding kind_relocs kind_meant kind_reloc_count
kind_count word place variants.Plain = refl
kind_count word place variants.Personal = refl
kind_count word place (variants.Named p) = refl

count_some : (k : declared.Kind) → bool_byte (is_some (personality_for k)) ≡ kind_reloc_count k
unfolding personality_for kind_reloc_count
count_some variants.Plain = refl
count_some variants.Personal = refl
count_some (variants.Named p) = refl

head_count : (debug : Bool) (m : Machine) (at : ℕ) (e : Extent) → length (header_relocs debug m at (head_in e)) ≡ header_reloc_count debug e
unfolding header_relocs header_reloc_count head_in pick
head_count true m at e = refl
head_count false m at e = kind_count m.word (pointer_place m at (head_in e)) (asked_kind e)

pub header_relocs_count : (debug : Bool) (m : Machine) (at : ℕ) (e : Extent) (rows : List ℕ)
    → length (header_relocs debug m at (key_in m e rows)) ≡ header_reloc_count debug e
header_relocs_count debug m at e rows = rw (relocs_head m e rows debug at) (head_count debug m at e)

-- the rows do not matter
pub header_relocs_any : (debug : Bool) (m : Machine) (at : ℕ) (e : Extent) (rows : List ℕ)
    → header_relocs debug m at (key_in m e rows) ≡ header_relocs debug m at (key_in m e [])
header_relocs_any debug m at e rows = relocs_head m e rows debug at ∙ sym (relocs_head m e [] debug at)

-- ---- by the code's answer

-- what a header of a kind is where it names personality p
pub record Naming (k : declared.Kind) (p : Personality) : Type 0 where
  pub lettered : letters (kind_meant k) ≡ letters (named_by p)
  pub bytes : (word : ℕ) → augmentation_data word (kind_meant k) ≡ augmentation_data word (named_by p)
  pub relocs : (word place : ℕ) → kind_relocs word place (kind_meant k) ≡ pointer_reloc word place p.routine p.encoding ∷ []
  pub count : kind_reloc_count k ≡ 1
  pub fits : KindFits k → NamedFits p

named_or_plain : (k : declared.Kind) → MatchOption (personality_for k) ((kind_meant k ≡ plain) × (kind_reloc_count k ≡ 0)) (Naming k)
unfolding personality_for letters augmentation_data lsda_letter lsda_of pointer_bytes size_of size_or0 kind_relocs pointer_reloc kind_meant kind_reloc_count pick
named_or_plain variants.Plain = (refl, refl)
named_or_plain variants.Personal = record { lettered = refl; bytes = λ word. refl; relocs = λ word place. refl; count = refl; fits = λ f. (omega arith, omega arith) }
named_or_plain (variants.Named p) = record { lettered = refl; bytes = λ word. refl; relocs = λ word place. refl; count = refl; fits = λ f. f }

module _ (e : Extent) {o : code.Option Personality} (a : o ≡ personality_in e) where
  pub names : {p : Personality} → o ≡ Some p → Naming (asked_kind e) p
  names q = rw (sym a ∙ q) at (named_or_plain (asked_kind e))

  pub names_none : o ≡ None → (kind_in e ≡ plain) × (kind_reloc_count (asked_kind e) ≡ 0)
  names_none q = rw (sym a ∙ q) at (named_or_plain (asked_kind e))

  pub counted : bool_byte (is_some o) ≡ kind_reloc_count (asked_kind e)
  counted = rw a (count_some (asked_kind e))

pub tail_named : (word ret : ℕ) (signal : Bool) {k : declared.Kind} {p : Personality} → Naming k p
    → tail_of word ret signal (kind_meant k) ≡ tail_of word ret signal (named_by p)
unfolding tail_of
tail_named word ret signal n = rw (n.lettered, n.bytes word)

module _ (debug : Bool) (e : Extent) (eh : debug ≡ false) where
  pub count_is : header_reloc_count debug e ≡ kind_reloc_count (asked_kind e)
  unfolding header_reloc_count pick
  count_is = rw eh

-- ---- which it is

module _ (debug : Bool) (m : Machine) (at : ℕ) (e : Extent) where
  pub relocs_debug : debug ≡ true → header_relocs debug m at (key_in m e []) ≡ []
  unfolding header_relocs pick
  relocs_debug d = rw d

  module _ (eh : debug ≡ false) where
    by_kind : header_relocs debug m at (key_in m e []) ≡ kind_relocs m.word (pointer_place m at (head_in e)) (kind_in e)
    unfolding header_relocs head_in pick
    by_kind = relocs_head m e [] debug at ∙ rw eh

    pub relocs_plain : kind_in e ≡ plain → header_relocs debug m at (key_in m e []) ≡ []
    unfolding kind_relocs
    relocs_plain k = by_kind ∙ rw k

    pub relocs_named : {p : Personality} → Naming (asked_kind e) p
        → header_relocs debug m at (key_in m e []) ≡ pointer_reloc m.word (pointer_place m at (head_in e)) p.routine p.encoding ∷ []
    relocs_named n = by_kind ∙ n.relocs m.word (pointer_place m at (head_in e))

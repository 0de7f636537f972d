-- The parts of a header's fields.
use Rattle.std.specs.Prelude.{ℕ, ◌<◌, Bool, List, [], ◌∷◌, ◌++◌, replicate, IfSome, Some, None}
use Rattle.std.specs.Prelude as code
use Rattle.std.proofs.Math.Option.{Option}
use Rattle.format.specs.Prelude.{pick}
use Rattle.format.specs.Leb.{uleb, sleb}
use Rattle.format.specs.Constants.{pcrel_sdata4, indirect_pcrel_sdata4, personality_symbol, except_table}
use Rattle.format.specs.Headers.{Kind, Key, letters, lsda_letter, augmentation_data, counted, data_factor}
use Rattle.lists.specs.declared.Extent.{Extent}
use Rattle.lists.specs.declared.Personality.{Personality}
use Rattle.header_keys.specs.Kinds.{asked_kind, kind_in}
use Rattle.header_keys.specs.declared.Kind as declared
use Rattle.header_keys.specs.declared.Kind.TheVariants as variants

-- the key without its rows: all that the fields and the relocations depend on
unfoldable pub head_in : Extent → Key
head_in e = record { kind = kind_in e; signal = e.signal; rows = [] }

-- the personality that a header names: that of functions with landings has its own encodings and symbols
unfoldable pub personality_for : declared.Kind → code.Option Personality
personality_for variants.Plain = None
personality_for variants.Personal =
    Some (record { encoding = indirect_pcrel_sdata4; routine = personality_symbol; lsda = Some (record { encoding = pcrel_sdata4; symbol = except_table }) })
personality_for (variants.Named p) = Some p

abbrev pub personality_in : Extent → code.Option Personality
personality_in e = personality_for (asked_kind e)

-- a personality's encoding is a byte
abbrev pub EncodingFits : Extent → Type 0
EncodingFits e = IfSome e.personality (λ p. p.encoding < 256)

-- and so is the LSDA's
abbrev pub NamedFits : Personality → Type 0
NamedFits p = (p.encoding < 256) × IfSome p.lsda (λ l. l.encoding < 256)

-- where a header names a personality
abbrev pub KindFits : declared.Kind → Type 0
KindFits variants.Plain = Unit
KindFits variants.Personal = Unit
KindFits (variants.Named p) = NamedFits p

-- the end of the augmentation string: the signal mark and a 0
unfoldable pub ending : Bool → List ℕ
ending signal = pick signal (0x53 ∷ 0 ∷ []) (0 ∷ [])

-- between the letters and the augmentation data: the string's end, the factors and the return address register
unfoldable pub middle : (word ret : ℕ) → Bool → List ℕ
middle word ret signal = ending signal ++ (uleb 1 ++ (sleb (data_factor word) ++ uleb ret))

-- the letters and the augmentation data of a named personality, whose pointer has `size` bytes
unfoldable pub named_letters : Bool → List ℕ
named_letters lsda = pick lsda (0x7a ∷ 0x50 ∷ 0x4c ∷ 0x52 ∷ []) (0x7a ∷ 0x50 ∷ 0x52 ∷ [])

unfoldable pub named_data : (e size : ℕ) → Option ℕ → List ℕ
named_data e size lsda = e ∷ (replicate size 0 ++ (lsda_letter lsda ++ (pcrel_sdata4 ∷ [])))

-- what follows the version in eh_frame
unfoldable pub tail_of : (word ret : ℕ) → Bool → Kind → List ℕ
tail_of word ret signal k = letters k ++ (middle word ret signal ++ counted (augmentation_data word k))

-- how many relocations a header has: one where it has a personality, none in debug_frame
unfoldable pub kind_reloc_count : declared.Kind → ℕ
kind_reloc_count variants.Plain = 0
kind_reloc_count variants.Personal = 1
kind_reloc_count (variants.Named p) = 1

unfoldable pub header_reloc_count : (debug : Bool) → Extent → ℕ
header_reloc_count debug e = pick debug 0 (kind_reloc_count (asked_kind e))

-- Of a function's landings and pairs, headers and records only look at whether there are any, and a record's relocations at the pairs.
use mathlib.Core.Path.{◌≡◌, refl, sym, ◌∙◌}
use Prim.Native.Nat.{ℕ, zero, suc, ◌+◌, ◌-◌}
use mathlib.Core.Bool.{Bool, true, false}
use mathlib.Core.Option.{Option, none, some}
use mathlib.Core.List.{List, []}
use Rattle.std.specs.Prelude as code
use Rattle.std.specs.Prelude.{Some, None}
use Rattle.format.specs.Prelude.{each}
use Rattle.format.specs.declared.Machine.{Machine}
use Rattle.format.specs.Lists.{Landing, Named, Relaxed, landing_at}
use Rattle.format.specs.Headers.{key_of, kind_for, leading}
use Rattle.format.specs.Records.{lsda_blank, lsda_reloc, size_field, sum_pair, record_fields, record_bytes, record_relocs}
use Rattle.format.specs.declared.Section.{Section}
use Rattle.format.specs.Questions.{encodings_ok, dwarf_asks}
use Rattle.lists.specs.declared.Labels.{Labels}
use Rattle.lists.specs.declared.Extent.{Extent}
use Rattle.lists.specs.Extents.{meant_labels, meant}
use Rattle.header_keys.specs.Functions.{body_of, key_in}

-- ---- landings

module _ (f g : ℕ → Landing) (at : ℕ) where
  kind_any : (n : ℕ) (o : Option Named) → kind_for (each f at n) o ≡ kind_for (each g at n) o
  unfolding kind_for each
  kind_any zero o = refl
  kind_any (suc n) o = refl

  pub encodings_any : (word n : ℕ) (o : Option Named) → encodings_ok word (each f at n) o ≡ encodings_ok word (each g at n) o
  unfolding encodings_ok each
  encodings_any word zero o = refl
  encodings_any word (suc n) o = refl

  blank_any : (word n : ℕ) (o : Option Named) → lsda_blank word (each f at n) o ≡ lsda_blank word (each g at n) o
  unfolding lsda_blank each
  blank_any word zero o = refl
  blank_any word (suc n) o = refl

  reloc_any : (word place table n : ℕ) (o : Option Named) → lsda_reloc word place table (each f at n) o ≡ lsda_reloc word place table (each g at n) o
  unfolding lsda_reloc each
  reloc_any word place table zero o = refl
  reloc_any word place table (suc n) o = refl

size_any : (size : ℕ) (o : code.Option Labels) (ps qs : List ℕ) → size_field size (meant_labels o ps) ≡ size_field size (meant_labels o qs)
unfolding size_field meant_labels
size_any size (Some l) ps qs = refl
size_any size None ps qs = refl

-- ---- a function's header and record

module _ (e : Extent) (rows landings pairs : List ℕ) where
  pub key_body : (m : Machine) → key_of m (meant e rows landings pairs) ≡ key_in m e rows
  unfolding key_of meant leading
  key_body m = rw (kind_any (landing_at landings) (landing_at []) e.landings_at e.landings)

  pub rows_body : (meant e rows landings pairs).rows ≡ (body_of e rows).rows
  unfolding meant
  rows_body = refl

  size_body : size_field e.length (meant e rows landings pairs).relaxed ≡ size_field e.length (body_of e rows).relaxed
  unfolding meant
  size_body = size_any e.length e.relaxed pairs []

  blank_body : (word : ℕ) → lsda_blank word (meant e rows landings pairs).landings (meant e rows landings pairs).named
      ≡ lsda_blank word (body_of e rows).landings (body_of e rows).named
  unfolding meant
  blank_body word = blank_any (landing_at landings) (landing_at []) e.landings_at word e.landings _

  fields_body : (debug : Bool) (word distance : ℕ)
      → record_fields debug word distance (meant e rows landings pairs) ≡ record_fields debug word distance (body_of e rows)
  unfolding record_fields meant
  fields_body true word distance = rw size_body
  fields_body false word distance = rw (size_body, blank_body word)

  pub encodings_body : (word : ℕ) → encodings_ok word (meant e rows landings pairs).landings (meant e rows landings pairs).named
      ≡ encodings_ok word (body_of e rows).landings (body_of e rows).named
  unfolding meant
  encodings_body word = encodings_any (landing_at landings) (landing_at []) e.landings_at word e.landings _

  pub record_body : (debug : Bool) (m : Machine) (align at cie : ℕ)
      → record_bytes debug m align at cie (meant e rows landings pairs) ≡ record_bytes debug m align at cie (body_of e rows)
  unfolding record_bytes
  record_body debug m align at cie = rw (fields_body, rows_body)

  sum_body : (place bytes : ℕ) (o : Option Relaxed)
      → sum_pair place bytes (meant e rows landings pairs) o ≡ sum_pair place bytes (meant e rows [] pairs) o
  unfolding sum_pair meant
  sum_body place bytes none = refl
  sum_body place bytes (some r) = refl

module _ (e : Extent) (rows landings pairs : List ℕ) (m : Machine) (at cie table : ℕ) where
  fields_same : (debug : Bool) → record_fields debug m.word (at + 4 - cie) (meant e rows landings pairs)
      ≡ record_fields debug m.word (at + 4 - cie) (meant e rows [] pairs)
  fields_same debug =
      fields_body e rows landings pairs debug m.word (at + 4 - cie) ∙ sym (fields_body e rows [] pairs debug m.word (at + 4 - cie))

  lsda_same : (word place : ℕ) → lsda_reloc word place table (meant e rows landings pairs).landings (meant e rows landings pairs).named
      ≡ lsda_reloc word place table (meant e rows [] pairs).landings (meant e rows [] pairs).named
  unfolding meant
  lsda_same word place = reloc_any (landing_at landings) (landing_at []) e.landings_at word place table e.landings _

  pub relocs_body : (debug : Bool)
      → record_relocs debug m at cie table (meant e rows landings pairs) ≡ record_relocs debug m at cie table (meant e rows [] pairs)
  unfolding record_relocs meant
  relocs_body debug =
      rw (
        fields_same debug,
        lsda_same m.word (at + 17),
        sum_body e rows landings pairs (at + 8 + m.word) m.word,
        sum_body e rows landings pairs (at + 12) 4,
      )

-- ---- questions 21 to 25

pub asks_body : (s : Section) (word k : ℕ) (e : Extent) (rows landings pairs : List ℕ)
    → dwarf_asks s word k (meant e rows landings pairs) ≡ dwarf_asks s word k (meant e rows [] pairs)
unfolding dwarf_asks meant
asks_body s word k e rows landings pairs = rw (encodings_any (landing_at landings) (landing_at []) e.landings_at word e.landings)

-- The whole DWARF sections: headers and records one behind the other, with their relocations, call sites and header places.
use Rattle.std.specs.Prelude.{ℕ, ◌+◌, min, Bool, true, false, List, [], ◌∷◌, ◌++◌, map, length}
use Rattle.std.proofs.Math.Option.{Option, none, some}
use Rattle.format.specs.Prelude.{pick}
use Rattle.format.specs.declared.Machine.{Machine}
use Rattle.format.specs.declared.Section.{Section}
use Rattle.format.specs.declared.Section.TheVariants.{Elf, Debug}
use Rattle.format.specs.Lists.{Function, Relocation}
use Rattle.format.specs.Headers.{Key, key_of, same_key, header_bytes, header_relocs}
use Rattle.format.specs.Records.{record_bytes, record_relocs}
use Rattle.format.specs.CallSites.{site_pad, site_added}

unfoldable pub is_debug : Section → Bool
is_debug Elf = false
is_debug Debug = true

-- what a section takes of a function: debug_frame drops landings and personalities (document 01, "Header")
unfoldable pub without_exceptions : Function → Function
without_exceptions f =
    record { symbol = f.symbol; size = f.size; rows = f.rows; landings = []; simple = f.simple; signal = f.signal; named = none; relaxed = f.relaxed }

unfoldable pub taken : Section → Function → Function
taken Elf f = f
taken Debug f = without_exceptions f

-- ELF's eh_frame pads to the smaller of word and 4, but to word for the last function's header and record; debug_frame pads to word
unfoldable pub align_for : Section → ℕ → (last : Bool) → ℕ
align_for Elf word last = pick last word (min word 4)
align_for Debug word last = word

-- what one function adds: its header's place, bytes, relocations and call sites
pub record Part : Type 0 where
  pub place : ℕ
  pub bytes : List ℕ
  pub relocations : List Relocation
  pub sites : List ℕ

-- an earlier function's key and its header's place
pub record Seen : Type 0 where
  pub key : Key
  pub place : ℕ

-- the header place of the first earlier function of equal key
unfoldable pub place_in : Key → List Seen → Option ℕ
place_in k [] = none
place_in k (s ∷ ss) = pick (same_key s.key k) (some s.place) (place_in k ss)

-- A function's part at `at`, where `sites` call-site bytes stand already: its record behind a header found earlier, or behind its own.
-- Its table of call sites stands behind the padding.
unfoldable pub part_with : Option ℕ → Section → Machine → (align at sites : ℕ) → Function → Part
part_with (some cie) s m align at sites f =
    record {
      place = cie;
      bytes = record_bytes (is_debug s) m align at cie f;
      relocations = record_relocs (is_debug s) m at cie (sites + site_pad sites) f;
      sites = site_added sites f.landings;
    }
part_with none s m align at sites f =
    let head : List ℕ = header_bytes (is_debug s) m align at (key_of m f) in
    record {
      place = at;
      bytes = head ++ record_bytes (is_debug s) m align (at + length head) at f;
      relocations =
          header_relocs (is_debug s) m at (key_of m f)
          ++ record_relocs (is_debug s) m (at + length head) at (sites + site_pad sites) f;
      sites = site_added sites f.landings;
    }

unfoldable pub part_of : Section → Machine → (last : Bool) → (at sites : ℕ) → List Seen → Function → Part
part_of s m last at sites seen f = part_with (place_in (key_of m f) seen) s m (align_for s m.word last) at sites f

unfoldable pub is_empty : {A : Type 0} → List A → Bool
is_empty [] = true
is_empty (x ∷ xs) = false

-- the parts of functions from `at` on; the earlier ones' keys stand in `seen`, the first first
unfoldable pub parts_from : Section → Machine → (at sites : ℕ) → List Seen → List Function → List Part
parts_from s m at sites seen [] = []
parts_from s m at sites seen (f ∷ fs) =
    let p : Part = part_of s m (is_empty fs) at sites seen f in
    p ∷ parts_from s m (at + length p.bytes) (sites + length p.sites) (seen ++ (record { key = key_of m f; place = p.place } ∷ [])) fs

-- the four results of a writer: header places (or markers), bytes, relocations, call sites (or x64 info)
pub record Written : Type 0 where
  pub places : List ℕ
  pub bytes : List ℕ
  pub relocations : List Relocation
  pub sites : List ℕ

-- lists one behind the other
unfoldable pub joined : {A : Type 0} → List (List A) → List A
joined [] = []
joined (x ∷ xs) = x ++ joined xs

unfoldable pub parts_of : Section → Machine → List Function → List Part
parts_of s m fs = parts_from s m 0 0 [] (map (taken s) fs)

unfoldable pub dwarf : Section → Machine → List Function → Written
dwarf s m fs =
    let ps : List Part = parts_of s m fs in
    record {
      places = map (λ p. p.place) ps;
      bytes = joined (map (λ p. p.bytes) ps);
      relocations = joined (map (λ p. p.relocations) ps);
      sites = joined (map (λ p. p.sites) ps);
    }

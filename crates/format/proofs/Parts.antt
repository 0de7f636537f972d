-- What one function adds to a section, said in one way with a header of its own and without one.
use mathlib.Core.Path.{◌≡◌, refl}
use Prim.Native.Nat.{ℕ, ◌+◌, ◌-◌, ◌≤◌}
use native.Mathlib.Omega.{arith}
use native.Mathlib.Nat.{add-zero}
use mathlib.Core.Bool.{Bool}
use mathlib.Core.Option.{Option, none, some}
use mathlib.Core.List.{List, [], ◌∷◌, ◌++◌, map}
use lib.ListN.{length}
use Rattle.format.specs.declared.Machine.{Machine}
use Rattle.format.specs.Rows.{rows_bytes, stepped_bytes}
use Rattle.format.specs.Lists.{Function, Relocation}
use Rattle.format.specs.Headers.{Key, key_of, others, padded, entry, header_fields, header_bytes, header_relocs}
use Rattle.format.specs.Records.{record_fields, record_bytes, record_relocs}
use Rattle.format.specs.CallSites.{site_pad, site_added}
use Rattle.format.specs.declared.Section.{Section}
use Rattle.format.specs.Writer.{is_debug, align_for, Seen, place_in, part_with, part_of, is_empty, parts_from, joined}

-- ---- an entry's bytes behind its length

unfoldable pub header_body : (debug : Bool) → Machine → (align at : ℕ) → Key → List ℕ
header_body debug m align at k = padded align at (header_fields debug m k ++ rows_bytes m.word k.rows)

unfoldable pub record_body : (debug : Bool) → Machine → (align at cie : ℕ) → Function → List ℕ
record_body debug m align at cie f =
    padded align at (record_fields debug m.word (at + 4 - cie) f ++ stepped_bytes m.word 0 (others f.rows))

pub header_entry_lem : (debug : Bool) (m : Machine) (align at : ℕ) (k : Key) → header_bytes debug m align at k ≡ entry (header_body debug m align at k)
unfolding header_bytes header_body
header_entry_lem debug m align at k = refl

pub record_entry_lem : (debug : Bool) (m : Machine) (align at cie : ℕ) (f : Function)
    → record_bytes debug m align at cie f ≡ entry (record_body debug m align at cie f)
unfolding record_bytes record_body
record_entry_lem debug m align at cie f = refl

-- ---- where a function's part stands

-- its alignment, its start and, where an earlier function has the same key, the place of that one's header
pub record Spot : Type 0 where
  pub align : ℕ
  pub start : ℕ
  pub earlier : Option ℕ

unfoldable pub place_or : Option ℕ → ℕ → ℕ
place_or none at = at
place_or (some cie) at = cie

-- the place of its header
unfoldable pub cie_of : Spot → ℕ
cie_of x = place_or x.earlier x.start

unfoldable pub next_sites : ℕ → Function → ℕ
next_sites sites f = sites + length (site_added sites f.landings)

module _ (s : Section) (m : Machine) where
  -- of f in front of the functions fs, with `seen` behind it
  unfoldable pub spot_of : (at : ℕ) → List Seen → Function → List Function → Spot
  spot_of at seen f fs = record { align = align_for s m.word (is_empty fs); start = at; earlier = place_in (key_of m f) seen }

  -- the header in front of its record, or nothing; and its relocations
  unfoldable pub front_for : Option ℕ → (align at : ℕ) → Key → List ℕ
  front_for none align at k = header_bytes (is_debug s) m align at k
  front_for (some cie) align at k = []

  unfoldable pub relocs_for : Option ℕ → (at : ℕ) → Key → List Relocation
  relocs_for none at k = header_relocs (is_debug s) m at k
  relocs_for (some cie) at k = []

  unfoldable pub front_of : Spot → Function → List ℕ
  front_of x f = front_for x.earlier x.align x.start (key_of m f)

  -- the record's place
  unfoldable pub place_of : Spot → Function → ℕ
  place_of x f = x.start + length (front_of x f)

  -- the record's bytes behind its length
  abbrev pub body_of : Spot → Function → List ℕ
  body_of x f = record_body (is_debug s) m x.align (place_of x f) (cie_of x) f

  pub place_from : (x : Spot) (f : Function) → x.start ≤ place_of x f
  unfolding place_of
  place_from x f = omega arith

  unfoldable pub part_bytes : Spot → Function → List ℕ
  part_bytes x f = front_of x f ++ record_bytes (is_debug s) m x.align (place_of x f) (cie_of x) f

  unfoldable pub part_relocs : Spot → (sites : ℕ) → Function → List Relocation
  part_relocs x sites f =
      relocs_for x.earlier x.start (key_of m f) ++ record_relocs (is_debug s) m (place_of x f) (cie_of x) (sites + site_pad sites) f

  pub part_with_lem : (o : Option ℕ) (align at sites : ℕ) (f : Function)
      → part_with o s m align at sites f
      ≡ (let x : Spot = record { align = align; start = at; earlier = o } in
      record { place = cie_of x; bytes = part_bytes x f; relocations = part_relocs x sites f; sites = site_added sites f.landings })
  unfolding part_with cie_of place_or front_for relocs_for front_of place_of part_bytes part_relocs
  part_with_lem none align at sites f = refl
  part_with_lem (some cie) align at sites f = simp add-zero

  -- ---- the bytes and the relocations of functions

  unfoldable pub bytes_of : (at sites : ℕ) → List Seen → List Function → List ℕ
  bytes_of at sites seen fs = joined (map (λ p. p.bytes) (parts_from s m at sites seen fs))

  unfoldable pub relocs_of : (at sites : ℕ) → List Seen → List Function → List Relocation
  relocs_of at sites seen fs = joined (map (λ p. p.relocations) (parts_from s m at sites seen fs))

  -- what f leaves to the functions fs behind it: their place, the count of call-site bytes, and its key with its header's place
  unfoldable pub next_at : (at : ℕ) → List Seen → Function → List Function → ℕ
  next_at at seen f fs = at + length (part_bytes (spot_of at seen f fs) f)

  unfoldable pub next_seen : (at : ℕ) → List Seen → Function → List Function → List Seen
  next_seen at seen f fs = seen ++ (record { key = key_of m f; place = cie_of (spot_of at seen f fs) } ∷ [])

  pub bytes_none : (at sites : ℕ) (seen : List Seen) → bytes_of at sites seen [] ≡ []
  unfolding bytes_of parts_from joined
  bytes_none at sites seen = refl

  pub bytes_more : (at sites : ℕ) (seen : List Seen) (f : Function) (fs : List Function) → bytes_of at sites seen (f ∷ fs)
      ≡ part_bytes (spot_of at seen f fs) f ++ bytes_of (next_at at seen f fs) (next_sites sites f) (next_seen at seen f fs) fs
  unfolding bytes_of parts_from part_of joined spot_of next_at next_sites next_seen
  bytes_more at sites seen f fs = rw (part_with_lem (place_in (key_of m f) seen) (align_for s m.word (is_empty fs)) at sites f)

  pub relocs_more : (at sites : ℕ) (seen : List Seen) (f : Function) (fs : List Function) → relocs_of at sites seen (f ∷ fs)
      ≡ part_relocs (spot_of at seen f fs) sites f ++ relocs_of (next_at at seen f fs) (next_sites sites f) (next_seen at seen f fs) fs
  unfolding relocs_of parts_from part_of joined spot_of next_at next_sites next_seen
  relocs_more at sites seen f fs = rw (part_with_lem (place_in (key_of m f) seen) (align_for s m.word (is_empty fs)) at sites f)

-- A section put in place: its entries, one for each that was written, with the same places and lengths.
use mathlib.Core.Path.{◌≡◌, refl, sym, ap, ◌∙◌}
use mathlib.Core.Bool.{false}
use mathlib.Core.Option.{Option, none, some}
use mathlib.Core.List.{List, [], ◌∷◌, ◌++◌, append_assoc, append-nil}
use Prim.Native.Nat.{ℕ, ◌+◌}
use native.Mathlib.Omega.{arith}
use lib.ListN.{length, length-append}
use Rattle.format.specs.declared.Machine.{Machine}
use Rattle.format.specs.declared.Section.TheVariants.{Elf}
use Rattle.format.specs.Lists.{Function}
use Rattle.format.specs.Headers.{Key, key_of, entry}
use Rattle.format.specs.Records.{record_bytes, record_relocs}
use Rattle.format.specs.CallSites.{site_pad}
use Rattle.format.specs.Writer.{is_debug, Seen, parts_from, joined}
use Rattle.format.specs.Reader.{Entry}
use Rattle.format.proofs.EntryBack.{entry_length}
use Rattle.format.proofs.HeaderBack.{HeaderOk}
use Rattle.format.proofs.Fits.{MachineFits, FunctionFits, AllFit}
use Rattle.format.proofs.Parts.{header_entry_lem, record_entry_lem, Spot, cie_of, spot_of, front_for, relocs_for, front_of, place_of, part_bytes, part_relocs, bytes_of, relocs_of, next_at, next_sites, next_seen, bytes_none, bytes_more, relocs_more}
use Rattle.format.proofs.SectionSize.{header_ok}
use Rattle.apply.specs.Values.{Layout}
use Rattle.apply_back.proofs.Fills.{Fills, fills_none, fills_join}
use Rattle.apply_back.proofs.RecordPlaced.{placed_body, record_fills, record_length}
use Rattle.apply_back.proofs.HeaderPlaced.{placed_header, header_fills, same_length}

-- entries as bytes
unfoldable pub flat : List Entry → List ℕ
flat [] = []
flat (e ∷ es) = entry e.body ++ flat es

flat_join : (es ds : List Entry) → flat (es ++ ds) ≡ flat es ++ flat ds
unfolding flat
flat_join [] ds = refl
flat_join (e ∷ es) ds = ap (λ (bs : List ℕ). entry e.body ++ bs) (flat_join es ds) ∙ sym (append_assoc (entry e.body) (flat es) (flat ds))

module _ (l : Layout) (size : ℕ) (m : Machine) (fit : MachineFits m) where
  pub header_fits : (f : Function) → FunctionFits Elf m f → HeaderOk false m (key_of m f)
  unfolding is_debug
  header_fits f ok = header_ok Elf m fit f ok

  -- the header that a function makes, if it makes one
  unfoldable pub front_placed : Option ℕ → (align at : ℕ) (k : Key) → HeaderOk false m k → List Entry
  front_placed none align at k ok = record { at = at; body = placed_header l size m align at k ok } ∷ []
  front_placed (some cie) align at k ok = []

  unfoldable pub record_placed : Spot → (sites : ℕ) (f : Function) → FunctionFits Elf m f → Entry
  record_placed x sites f ok =
      record { at = place_of Elf m x f; body = placed_body l size m fit x.align (place_of Elf m x f) (cie_of x) (sites + site_pad sites) f ok }

  unfoldable pub placed_entries : (at sites : ℕ) (seen : List Seen) (fs : List Function) → AllFit Elf m fs → List Entry
  placed_entries at sites seen [] ok = []
  placed_entries at sites seen (f ∷ fs) ok =
      let x : Spot = spot_of Elf m at seen f fs in
      front_placed x.earlier x.align x.start (key_of m f) (header_fits f ok.0)
      ++ (record_placed x sites f ok.0 ∷ placed_entries (next_at Elf m at seen f fs) (next_sites sites f) (next_seen Elf m at seen f fs) fs ok.1)

  -- ---- as many bytes as were written

  front_length : (o : Option ℕ) (align at : ℕ) (k : Key) (ok : HeaderOk false m k) → length (flat (front_placed o align at k ok)) ≡ length (front_for Elf m o align at k)
  unfolding is_debug flat front_placed front_for
  front_length none align at k ok =
      rw (append-nil, entry_length, header_entry_lem, entry_length) (omega (arith, same_length l size m align at k ok))
  front_length (some cie) align at k ok = refl

  record_same : (x : Spot) (sites : ℕ) (f : Function) (ok : FunctionFits Elf m f)
      → length (entry (record_placed x sites f ok).body) ≡ length (record_bytes (is_debug Elf) m x.align (place_of Elf m x f) (cie_of x) f)
  unfolding is_debug record_placed
  record_same x sites f ok =
      rw (entry_length, record_entry_lem, entry_length)
      (omega (arith, record_length l size m fit x.align (place_of Elf m x f) (cie_of x) (sites + site_pad sites) f ok))

  -- ---- the relocations make these entries

  front_fills : (o : Option ℕ) (align at : ℕ) (k : Key) (ok : HeaderOk false m k)
      → Fills l size (relocs_for Elf m o at k) at (front_for Elf m o align at k) (flat (front_placed o align at k ok))
  unfolding is_debug flat front_placed front_for relocs_for
  front_fills none align at k ok = rw append-nil (header_fills l size m align at k ok)
  front_fills (some cie) align at k ok = fills_none l size at []

  part_fills : (x : Spot) (sites : ℕ) (f : Function) (ok : FunctionFits Elf m f)
      → Fills l size (part_relocs Elf m x sites f) x.start (part_bytes Elf m x f)
      (flat (front_placed x.earlier x.align x.start (key_of m f) (header_fits f ok)) ++ entry (record_placed x sites f ok).body)
  unfolding is_debug part_relocs part_bytes front_of place_of record_placed
  part_fills x sites f ok =
      let h = header_fits f ok in
      let front : List ℕ = front_for Elf m x.earlier x.align x.start (key_of m f) in
      let at : ℕ = x.start + length front in
      fills_join l size (relocs_for Elf m x.earlier x.start (key_of m f)) (record_relocs false m at (cie_of x) (sites + site_pad sites) f) x.start at
      front (flat (front_placed x.earlier x.align x.start (key_of m f) h))
      (record_bytes false m x.align at (cie_of x) f) (entry (placed_body l size m fit x.align at (cie_of x) (sites + site_pad sites) f ok))
      (front_length x.earlier x.align x.start (key_of m f) h) refl
      (front_fills x.earlier x.align x.start (key_of m f) h)
      (record_fills l size m fit x.align at (cie_of x) (sites + site_pad sites) f ok)

  part_length : (x : Spot) (sites : ℕ) (f : Function) (ok : FunctionFits Elf m f)
      → length (flat (front_placed x.earlier x.align x.start (key_of m f) (header_fits f ok)) ++ entry (record_placed x sites f ok).body) ≡ length (part_bytes Elf m x f)
  unfolding part_bytes front_of
  part_length x sites f ok =
      let a = front_length x.earlier x.align x.start (key_of m f) (header_fits f ok) in
      let b = record_same x sites f ok in
      rw (length-append, length-append) (omega (arith, a, b))

  next_is : (at : ℕ) (seen : List Seen) (f : Function) (fs : List Function) → next_at Elf m at seen f fs ≡ at + length (part_bytes Elf m (spot_of Elf m at seen f fs) f)
  unfolding next_at
  next_is at seen f fs = refl

  relocs_none : (at sites : ℕ) (seen : List Seen) → relocs_of Elf m at sites seen [] ≡ []
  unfolding relocs_of parts_from joined
  relocs_none at sites seen = refl

  pub section_fills : (at sites : ℕ) (seen : List Seen) (fs : List Function) (ok : AllFit Elf m fs)
      → Fills l size (relocs_of Elf m at sites seen fs) at (bytes_of Elf m at sites seen fs) (flat (placed_entries at sites seen fs ok))
  unfolding flat placed_entries spot_of
  section_fills at sites seen [] ok = rw (relocs_none, bytes_none) (fills_none l size at [])
  section_fills at sites seen (f ∷ fs) ok =
      let x : Spot = spot_of Elf m at seen f fs in
      let later : ℕ = next_at Elf m at seen f fs in
      let front : List Entry = front_placed x.earlier x.align x.start (key_of m f) (header_fits f ok.0) in
      let own : Entry = record_placed x sites f ok.0 in
      let rest : List Entry = placed_entries later (next_sites sites f) (next_seen Elf m at seen f fs) fs ok.1 in
      let shape : flat (front ++ (own ∷ rest)) ≡ (flat front ++ entry own.body) ++ flat rest =
      flat_join front (own ∷ rest) ∙ sym (append_assoc (flat front) (entry own.body) (flat rest)) in
      rw (relocs_more Elf m at sites seen f fs, bytes_more Elf m at sites seen f fs, shape)
      (fills_join l size (part_relocs Elf m x sites f) (relocs_of Elf m later (next_sites sites f) (next_seen Elf m at seen f fs) fs) at later
      (part_bytes Elf m x f) (flat front ++ entry own.body) (bytes_of Elf m later (next_sites sites f) (next_seen Elf m at seen f fs) fs) (flat rest)
      (part_length x sites f ok.0) (next_is at seen f fs) (part_fills x sites f ok.0)
      (section_fills later (next_sites sites f) (next_seen Elf m at seen f fs) fs ok.1))

-- The sizing pass: what stands behind each function, whatever the place of an earlier header is.
use mathlib.Core.Path.{◌≡◌, refl, sym, ap, ◌∙◌}
use Prim.Native.Nat.{ℕ, suc, ◌+◌, ◌*◌, ◌^◌, ◌≤◌, ◌<◌}
use native.Mathlib.Omega.{arith}
use native.Mathlib.Numerals.{add-one}
use mathlib.Core.Bool.{Bool}
use mathlib.Core.List.{List, [], ◌++◌}
use lib.ListN.{length, get_or, length-append}
use Rattle.format.specs.declared.Machine.{Machine}
use Rattle.format.specs.Lists.{row_at, numbers_of}
use Rattle.format.specs.Records.{record_bytes, record_relocs}
use Rattle.format.specs.CallSites.{site_pad, site_added}
use Rattle.format.specs.Writer.{Part, is_debug}
use Rattle.lists.specs.declared.Extent.{Extent}
use Rattle.lists.specs.Extents.{meant}
use Rattle.header_keys.specs.Functions.{body_of, Sound}
use Rattle.owners.specs.Owners.{owner}
use Rattle.format.proofs.ListLaws.{each-length, numbers_length, numbers_append}
use Rattle.records.proofs.RecordLaws.{record_length}
use Rattle.records.proofs.RelocLaws.{relocs_count}
use Rattle.dwarf.specs.declared.Table.{Table}
use Rattle.header_keys.specs.Inputs.{Inputs, extent_in}
use Rattle.dwarf.specs.Parts.{align_in, places_in, part_behind, parts_to}
use Rattle.dwarf.specs.Pieces.{part_in, header_in, header_relocs_in, headed_in}
use Rattle.headers.specs.Kinds.{header_reloc_count}
use Rattle.headers.proofs.Personalities.{header_relocs_count}
use Rattle.dwarf.specs.Tables.{totals_in, grown_by, behind_header, SizeReady}
use Rattle.dwarf.proofs.Bounds.{record_few, labelled_low}
use Rattle.dwarf.proofs.Fronts.{bytes_next, relocs_next, sites_next}
use Rattle.dwarf.proofs.Pieces.{own_part, found_part}

pub totals_next : (x : Inputs) (k : ℕ) → grown_by (totals_in (parts_to x k)) (part_behind x k (parts_to x k)) ≡ totals_in (parts_to x (suc k))
unfolding grown_by totals_in
totals_next x k = simp (bytes_next, relocs_next, sites_next, numbers_append, length-append)

-- ---- the place of an earlier header does not matter

module _ (debug : Bool) (m : Machine) (align at sites : ℕ) (e : Extent) (rows landings pairs : List ℕ) where
  abbrev piece : ℕ → Part
  piece cie = part_in debug m align at cie sites e rows landings pairs

  bytes_size : (cie : ℕ) → length (piece cie).bytes ≡ length (record_bytes debug m align at 0 (body_of e rows))
  unfolding part_in
  bytes_size cie = record_length debug m align at cie (body_of e rows)

  relocs_size : (cie : ℕ) → length (numbers_of (piece cie).relocations) ≡ 5 * length (record_relocs debug m 0 0 0 (meant e rows [] pairs))
  unfolding part_in
  relocs_size cie = rw (numbers_length (piece cie).relocations, relocs_count debug m at cie (sites + site_pad sites) (meant e rows [] pairs))

  sites_size : (cie : ℕ) → length (piece cie).sites ≡ length (site_added sites (meant e [] landings []).landings)
  unfolding part_in
  sites_size cie = refl

  pub same_size : (t : Table) (cie : ℕ) → grown_by t (piece 0) ≡ grown_by t (piece cie)
  unfolding grown_by
  same_size t cie = rw (bytes_size cie, bytes_size 0, relocs_size cie, relocs_size 0, sites_size cie, sites_size 0)

-- ---- behind a header of its own

module _ (debug : Bool) (m : Machine) (align : ℕ) (e : Extent) (t : Table) (rows landings pairs : List ℕ) where
  abbrev front : Table
  front = behind_header debug m align e t rows

  abbrev record_in : Part
  record_in = part_in debug m align front.bytes t.bytes front.sites e rows landings pairs

  pub headed_whole : grown_by front record_in ≡ grown_by t (headed_in debug m align t.bytes t.sites e rows landings pairs)
  unfolding grown_by headed_in
  headed_whole =
      let b : front.bytes + length record_in.bytes ≡ t.bytes + length (header_in debug m align t.bytes e rows ++ record_in.bytes) =
      omega (arith, length-append (header_in debug m align t.bytes e rows) record_in.bytes) in
      let r : front.relocations + length (numbers_of record_in.relocations) ≡ t.relocations + length (numbers_of (header_relocs_in debug m t.bytes e ++ record_in.relocations)) =
      omega (
        arith,
        ap length (numbers_append (header_relocs_in debug m t.bytes e) record_in.relocations),
        length-append (numbers_of (header_relocs_in debug m t.bytes e)) (numbers_of record_in.relocations),
      ) in
      rw (b, r)

  pub headed_size : grown_by front (part_in debug m align front.bytes 0 front.sites e rows landings pairs)
      ≡ grown_by t (headed_in debug m align t.bytes t.sites e rows landings pairs)
  headed_size = same_size debug m align front.bytes front.sites e rows landings pairs front t.bytes ∙ headed_whole

-- its relocation's numbers
pub header_numbers : (debug : Bool) (m : Machine) (at : ℕ) (e : Extent) {h : ℕ} → h ≡ header_reloc_count debug e
    → 5 * h ≡ length (numbers_of (header_relocs_in debug m at e))
header_numbers debug m at e c = omega (arith, numbers_length (header_relocs_in debug m at e), header_relocs_count debug m at e [])

-- ---- function k

module _ (x : Inputs) (k : ℕ) (t : Table) (h : t ≡ totals_in (parts_to x k)) where
  abbrev d : Bool
  d = is_debug x.section

  on : grown_by (totals_in (parts_to x k)) (part_behind x k (parts_to x k)) ≡ totals_in (parts_to x (k + 1))
  on = rw (add-one k) (totals_next x k)

  -- with a header of its own
  pub headed_next : owner x k ≡ k
      → grown_by t (headed_in d x.machine (align_in x k) t.bytes t.sites (extent_in x k) x.rows x.landings x.pairs) ≡ totals_in (parts_to x (k + 1))
  unfolding totals_in
  headed_next o = rw (h, sym (own_part x k o)) on

  -- with that of an earlier one
  pub found_next : owner x k < k
      → grown_by t (part_in d x.machine (align_in x k) t.bytes 0 t.sites (extent_in x k) x.rows x.landings x.pairs) ≡ totals_in (parts_to x (k + 1))
  unfolding totals_in
  found_next o =
      rw h
      (same_size d x.machine (align_in x k) _ _ (extent_in x k) x.rows x.landings x.pairs _ (get_or (places_in (parts_to x k)) (owner x k) 0) ∙ rw (sym (found_part x k o)) on)

-- ---- one function's sizes

-- its relocations: few
pub relocs_few : (debug : Bool) (m : Machine) (e : Extent) (rows pairs : List ℕ) {n : ℕ}
    → n ≡ length (record_relocs debug m 0 0 0 (meant e rows [] pairs)) → Sound m e rows → n ≤ 2097156
unfolding meant
relocs_few debug m e rows pairs q s =
    omega (
      arith,
      s.few,
      record_few debug m 0 0 0 (meant e rows [] pairs),
      labelled_low (meant e rows [] pairs).relaxed (length (meant e rows [] pairs).rows),
      each-length (row_at rows) e.rows_at e.rows,
    )

module _ {debug : Bool} {m : Machine} {align : ℕ} {e : Extent} {t : Table} {rows landings pairs : List ℕ}
    (r : SizeReady debug m align e t rows landings pairs) where
  abbrev whole : Table
  whole = grown_by t (part_in debug m align t.bytes 0 t.sites e rows landings pairs)

  whole_bytes : whole.bytes ≡ t.bytes + length (record_bytes debug m align t.bytes 0 (body_of e rows))
  unfolding grown_by
  whole_bytes = omega (arith, bytes_size debug m align t.bytes t.sites e rows landings pairs 0)

  whole_relocs : whole.relocations ≡ t.relocations + 5 * length (record_relocs debug m 0 0 0 (meant e rows [] pairs))
  unfolding grown_by
  whole_relocs = omega (arith, relocs_size debug m align t.bytes t.sites e rows landings pairs 0)

  whole_sites : whole.sites ≡ t.sites + length (site_added t.sites (meant e [] landings []).landings)
  unfolding grown_by
  whole_sites = omega (arith, sites_size debug m align t.bytes t.sites e rows landings pairs 0)

  pub near : t.bytes < 2 ^ 32
  near = omega (arith, r.small.bytes, whole_bytes)

  pub sites_near : t.sites < 2 ^ 32
  sites_near = omega (arith, r.small.sites, whole_sites)

  pub end_near : {b : ℕ} → b ≡ length (record_bytes debug m align t.bytes 0 (body_of e rows)) → t.bytes + b < 2 ^ 32
  end_near c = omega (arith, r.small.bytes, whole_bytes)

  pub relocs_near : {n : ℕ} → n ≡ length (record_relocs debug m 0 0 0 (meant e rows [] pairs)) → t.relocations + 5 * n < 2 ^ 32
  relocs_near d = omega (arith, r.small.relocations, whole_relocs)

  pub sites_end : {s : ℕ} → s ≡ length (site_added t.sites (meant e [] landings []).landings) → t.sites + s < 2 ^ 32
  sites_end g = omega (arith, r.small.sites, whole_sites)

  pub sized_is : {b n s : ℕ} → b ≡ length (record_bytes debug m align t.bytes 0 (body_of e rows))
      → n ≡ length (record_relocs debug m 0 0 0 (meant e rows [] pairs)) → s ≡ length (site_added t.sites (meant e [] landings []).landings)
      → record { bytes = t.bytes + b; relocations = t.relocations + 5 * n; sites = t.sites + s } ≡ whole
  sized_is {b} {n} {s} c d g =
      let i : t.bytes + b ≡ whole.bytes = omega (arith, whole_bytes) in
      let j : t.relocations + 5 * n ≡ whole.relocations = omega (arith, whole_relocs) in
      let k : t.sites + s ≡ whole.sites = omega (arith, whole_sites) in
      rw (i, j, k)

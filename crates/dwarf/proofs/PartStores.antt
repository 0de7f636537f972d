-- One function's part stored behind the table: its record and its call sites.
use mathlib.Core.Path.{◌≡◌, refl}
use Prim.Native.Nat.{ℕ, ◌+◌, ◌*◌, ◌^◌, ◌≤◌, ◌<◌}
use native.Mathlib.Omega.{arith}
use mathlib.Core.Bool.{Bool}
use mathlib.Core.List.{List, []}
use lib.ListN.{length}
use Rattle.format.proofs.Wrote.{Wrote}
use Rattle.format.specs.declared.Machine.{Machine}
use Rattle.format.specs.Lists.{Relocation, numbers_of}
use Rattle.format.specs.Headers.{padding}
use Rattle.format.specs.Records.{record_bytes, record_relocs}
use Rattle.format.specs.CallSites.{site_pad, site_added}
use Rattle.format.specs.Writer.{Part}
use Rattle.format.proofs.EntryBack.{padding_small}
use Rattle.lists.specs.declared.Extent.{Extent}
use Rattle.lists.specs.Extents.{meant}
use Rattle.header_keys.specs.Functions.{body_of, LandingsReady, LabelsReady}
use Rattle.format.proofs.ListLaws.{numbers_length}
use Rattle.records.proofs.RelocLaws.{relocs_count}
use Rattle.dwarf.specs.declared.Table.{Table}
use Rattle.dwarf.specs.Pieces.{part_in}
use Rattle.dwarf.specs.Tables.{grown_by, PieceReady, Stored}

module _ {debug : Bool} {m : Machine} {align cie : ℕ} {e : Extent} {t : Table} {rows landings pairs bytes relocs sites : List ℕ}
    (r : PieceReady debug m align cie e t rows landings pairs bytes relocs sites) where
  abbrev piece : Part
  piece = part_in debug m align t.bytes cie t.sites e rows landings pairs

  abbrev relocs_at : ℕ → List Relocation
  relocs_at table = record_relocs debug m t.bytes cie table (meant e rows [] pairs)

  bytes_are : piece.bytes ≡ record_bytes debug m align t.bytes cie (body_of e rows)
  unfolding part_in
  bytes_are = refl

  relocs_are : piece.relocations ≡ relocs_at (t.sites + padding 4 t.sites)
  unfolding part_in site_pad
  relocs_are = refl

  sites_are : piece.sites ≡ site_added t.sites (meant e [] landings []).landings
  unfolding part_in
  sites_are = refl

  pub sites_near : t.sites < 2 ^ 32
  unfolding grown_by
  sites_near = omega (arith, r.small.sites)

  pub table_fits : {pad : ℕ} → pad ≡ padding 4 t.sites → t.sites + pad < 2 ^ 33
  table_fits p = omega (arith, sites_near, padding_small 4 t.sites (omega arith))

  pub sites_ready : LandingsReady e landings × (t.sites + length (site_added t.sites (meant e [] landings []).landings) ≤ length sites)
  sites_ready = (r.landings_ready, rw sites_are at r.sites_fit)

  pub record_ready : (cie ≤ t.bytes + 4) × (t.bytes + length (record_bytes debug m align t.bytes cie (body_of e rows)) ≤ length bytes)
  record_ready = (omega (arith, r.near), rw bytes_are at r.bytes_fit)

  pub relocs_ready : (table : ℕ) → LabelsReady e pairs × (t.bytes < 2 ^ 32) × (t.relocations + 5 * length (relocs_at table) ≤ length relocs)
  unfolding grown_by
  relocs_ready table = (
    r.pairs_ready,
    omega (arith, r.small.bytes),
    omega (
      arith,
      rw relocs_are at r.relocs_fit,
      numbers_length (relocs_at (t.sites + padding 4 t.sites)),
      relocs_count debug m t.bytes cie (t.sites + padding 4 t.sites) (meant e rows [] pairs),
      relocs_count debug m t.bytes cie table (meant e rows [] pairs),
    ),
  )

  pub stored : {pad b i q : ℕ} {bytes' relocs' sites' : List ℕ} → pad ≡ padding 4 t.sites
      → Wrote bytes bytes' t.bytes b (record_bytes debug m align t.bytes cie (body_of e rows))
      → Wrote relocs relocs' t.relocations i (numbers_of (relocs_at (t.sites + pad)))
      → Wrote sites sites' t.sites q (site_added t.sites (meant e [] landings []).landings)
      → Stored piece t (record { bytes = b; relocations = i; sites = q }) bytes bytes' relocs relocs' sites sites'
  stored {pad} p a b c = record {
    bytes_stored = rw bytes_are a;
    relocs_stored = rw (relocs_are, ← p) b;
    sites_stored = rw sites_are c;
  }

-- A function's own header stored behind the table, and its part behind that.
use mathlib.Core.Path.{◌≡◌, refl, sym, ap}
use Prim.Native.Nat.{ℕ, ◌+◌, ◌*◌, ◌^◌, ◌≤◌, ◌<◌}
use native.Mathlib.Omega.{arith}
use mathlib.Core.Bool.{Bool}
use mathlib.Core.List.{List}
use lib.ListN.{length}
use Rattle.format.proofs.ListLaws.{numbers_append}
use Rattle.format.proofs.PutLaws.{◌then◌}
use Rattle.format.specs.declared.Machine.{Machine}
use Rattle.lists.specs.declared.Extent.{Extent}
use Rattle.headers.specs.Kinds.{EncodingFits, header_reloc_count}
use Rattle.dwarf.specs.declared.Table.{Table}
use Rattle.dwarf.specs.Pieces.{part_in, header_in, headed_in}
use Rattle.dwarf.specs.Tables.{FrontReady, FrontStored, Stored}
use Rattle.dwarf.proofs.Totals.{header_numbers}

module _ {debug : Bool} {m : Machine} {align : ℕ} {e : Extent} {t : Table} {rows bytes relocs : List ℕ}
    (r : FrontReady debug m align e t rows bytes relocs) where
  pub header_room : EncodingFits e × (t.bytes + length (header_in debug m align t.bytes e rows) ≤ length bytes)
  header_room = (r.encoding_fits, r.bytes_fit)

  pub relocs_room : (t.bytes < 2 ^ 32) × (t.relocations + 5 * header_reloc_count debug e ≤ length relocs)
  relocs_room = (r.near, omega (arith, r.relocs_fit, header_numbers debug m t.bytes e refl))

module _ {debug : Bool} {m : Machine} {align : ℕ} {e : Extent} {t u v : Table} (rows landings pairs : List ℕ) {bytes bytes₁ bytes₂ relocs relocs₁ relocs₂ sites sites₁ : List ℕ} where
  pub headed_stored : FrontStored debug m align e t u rows bytes bytes₁ relocs relocs₁
      → Stored (part_in debug m align u.bytes t.bytes u.sites e rows landings pairs) u v bytes₁ bytes₂ relocs₁ relocs₂ sites sites₁
      → Stored (headed_in debug m align t.bytes t.sites e rows landings pairs) t v bytes bytes₂ relocs relocs₂ sites sites₁
  unfolding headed_in
  headed_stored f w =
      let b : t.bytes + length (header_in debug m align t.bytes e rows) ≡ u.bytes = sym f.bytes_stored.past in
      let s : t.sites ≡ u.sites = ap (λ (a : Table). a.sites) (sym f.behind) in
      record {
        bytes_stored = rw (b, s) (f.bytes_stored then w.bytes_stored);
        relocs_stored = rw (numbers_append, b, s) (f.relocs_stored then w.relocs_stored);
        sites_stored = rw (b, s) w.sites_stored;
      }

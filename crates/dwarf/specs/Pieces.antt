-- One function's part by its record: what stands behind its header, and a header of its own in front of that.
use Rattle.std.specs.Prelude.{ℕ, ◌+◌, Bool, List, [], ◌++◌, length}
use Rattle.format.specs.declared.Machine.{Machine}
use Rattle.format.specs.Lists.{Relocation}
use Rattle.format.specs.Headers.{header_bytes, header_relocs}
use Rattle.format.specs.Records.{record_bytes, record_relocs}
use Rattle.format.specs.CallSites.{site_pad, site_added}
use Rattle.format.specs.Writer.{Part}
use Rattle.lists.specs.declared.Extent.{Extent}
use Rattle.lists.specs.Extents.{meant}
use Rattle.header_keys.specs.Functions.{body_of, key_in}

-- a function at `at`, where `sites` call-site bytes stand already, with its header at `cie`
unfoldable pub part_in : (debug : Bool) → Machine → (align at cie sites : ℕ) → Extent → (rows landings pairs : List ℕ) → Part
part_in debug m align at cie sites e rows landings pairs =
    record {
      place = cie;
      bytes = record_bytes debug m align at cie (body_of e rows);
      relocations = record_relocs debug m at cie (sites + site_pad sites) (meant e rows [] pairs);
      sites = site_added sites (meant e [] landings []).landings;
    }

-- its own header at `at`, and the relocations of that, which its rows do not matter to
abbrev pub header_in : (debug : Bool) → Machine → (align at : ℕ) → Extent → (rows : List ℕ) → List ℕ
header_in debug m align at e rows = header_bytes debug m align at (key_in m e rows)

abbrev pub header_relocs_in : (debug : Bool) → Machine → (at : ℕ) → Extent → List Relocation
header_relocs_in debug m at e = header_relocs debug m at (key_in m e [])

-- the function with its own header in front of it, at `at`
unfoldable pub headed_in : (debug : Bool) → Machine → (align at sites : ℕ) → Extent → (rows landings pairs : List ℕ) → Part
headed_in debug m align at sites e rows landings pairs =
    let p : Part = part_in debug m align (at + length (header_in debug m align at e rows)) at sites e rows landings pairs in
    record {
      place = at;
      bytes = header_in debug m align at e rows ++ p.bytes;
      relocations = header_relocs_in debug m at e ++ p.relocations;
      sites = p.sites;
    }

-- A function's part by its record is its part behind those of the functions in front of it.
use mathlib.Core.Path.{◌≡◌, refl}
use Prim.Native.Nat.{ℕ, ◌<◌}
use mathlib.Core.Option.{none, some}
use mathlib.Core.List.{List, []}
use lib.ListN.{length, get_or}
use Rattle.format.specs.declared.Machine.{Machine}
use Rattle.format.specs.declared.Section.{Section}
use Rattle.format.specs.Writer.{is_debug, part_with}
use Rattle.lists.specs.declared.Extent.{Extent}
use Rattle.lists.specs.Extents.{meant}
use Rattle.owners.specs.Owners.{owner}
use Rattle.headers.proofs.Personalities.{header_relocs_any}
use Rattle.header_keys.specs.Inputs.{Inputs, extent_in}
use Rattle.dwarf.specs.Parts.{align_in, places_in, bytes_in, sites_in, part_behind, parts_to}
use Rattle.dwarf.specs.Pieces.{part_in, headed_in}
use Rattle.dwarf.proofs.Bodies.{key_body, record_body, relocs_body}
use Rattle.dwarf.proofs.Owners.{own_header, found_header}

-- ---- a part

module _ (s : Section) (m : Machine) (align at sites : ℕ) (e : Extent) (rows landings pairs : List ℕ) where
  landings_body : (meant e rows landings pairs).landings ≡ (meant e [] landings []).landings
  unfolding meant
  landings_body = refl

  with_own : part_with none s m align at sites (meant e rows landings pairs) ≡ headed_in (is_debug s) m align at sites e rows landings pairs
  unfolding part_with part_in headed_in
  with_own =
      rw (
        key_body e rows landings pairs m,
        record_body e rows landings pairs,
        relocs_body e rows landings pairs,
        landings_body,
        header_relocs_any (is_debug s) m at e rows,
      )

  with_earlier : (cie : ℕ) → part_with (some cie) s m align at sites (meant e rows landings pairs) ≡ part_in (is_debug s) m align at cie sites e rows landings pairs
  unfolding part_with part_in
  with_earlier cie = rw (record_body e rows landings pairs, relocs_body e rows landings pairs, landings_body)

-- the part of function k with its own header, or with the header of its owner
module _ (x : Inputs) (k : ℕ) where
  pub own_part : owner x k ≡ k
      → part_behind x k (parts_to x k) ≡ headed_in (is_debug x.section) x.machine (align_in x k) (length (bytes_in (parts_to x k))) (length (sites_in (parts_to x k))) (extent_in x k) x.rows x.landings x.pairs
  unfolding part_behind
  own_part e = rw (own_header x k e) (with_own x.section x.machine (align_in x k) _ _ (extent_in x k) x.rows x.landings x.pairs)

  pub found_part : owner x k < k
      → part_behind x k (parts_to x k) ≡ part_in (is_debug x.section) x.machine (align_in x k) (length (bytes_in (parts_to x k))) (get_or (places_in (parts_to x k)) (owner x k) 0) (length (sites_in (parts_to x k))) (extent_in x k) x.rows x.landings x.pairs
  unfolding part_behind
  found_part h = rw (found_header x k h) (with_earlier x.section x.machine (align_in x k) _ _ (extent_in x k) x.rows x.landings x.pairs _)

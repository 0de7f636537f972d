-- The writing pass: function k from what is ready to what it adds.
use mathlib.Core.Path.{◌≡◌, refl, sym, ap}
use Prim.Native.Nat.{ℕ, ◌+◌, ◌≤◌, ◌<◌}
use native.Mathlib.Omega.{arith}
use native.Mathlib.Numerals.{add-one}
use mathlib.Core.Bool.{Bool, true, false, not}
use mathlib.Core.List.{List}
use lib.Dec.{T, eqb}
use mir.Facts.{eqb_yes, eqb_no}
use Rattle.format.specs.Prelude.{pick}
use Rattle.format.proofs.Choice.{pick_yes, pick_no, tested, is_true, is_false}
use lib.ListN.{length, get_or, set, length-append}
use Rattle.format.specs.Lists.{Relocation, numbers_of}
use Rattle.format.specs.Writer.{Part, is_debug, align_for}
use Rattle.format.proofs.PutLaws.{put_one, kept}
use Rattle.format.proofs.ListLaws.{numbers_append}
use Rattle.lists.specs.declared.Extent.{Extent}
use Rattle.owners.specs.Owners.{owner}
use Rattle.dwarf.specs.declared.Table.{Table}
use Rattle.header_keys.specs.Inputs.{Inputs, count_in, extent_in}
use Rattle.dwarf.specs.Parts.{bytes_in, relocs_in, sites_in, part_behind, parts_to}
use Rattle.dwarf.specs.Pieces.{part_in, header_in, header_relocs_in, headed_in}
use Rattle.dwarf.specs.Tables.{totals_in, grown_by, behind_header, Small, FrontReady, FrontStored, PieceReady, nothing, Stored, Added, Written, Holds}
use Rattle.dwarf.specs.Writable.{Cleared, PartReady}
use Rattle.dwarf.proofs.Owners.{own_looked, found_looked}
use Rattle.dwarf.proofs.Pieces.{own_part, found_part}
use Rattle.dwarf.proofs.OwnHeaders.{headed_stored}
use Rattle.dwarf.proofs.Fronts.{bytes_next, relocs_next, sites_next}
use Rattle.dwarf.proofs.Totals.{totals_next, headed_whole}
use Rattle.owners.specs.Chains.{Owned}
use Rattle.dwarf.proofs.Sizing.{align_is, small_next, owned_to}
use Rattle.dwarf.proofs.Stores.{places_below}
use Rattle.dwarf.proofs.Stores as stores

module _ {x : Inputs} {k n : ℕ} {t : Table} {places bytes relocs sites : List ℕ} (r : PartReady x k n t places bytes relocs sites) where
  abbrev part : Part
  part = part_behind x k (parts_to x k)

  pub owned_next : {owners : List ℕ} → Owned x (count_in x) owners → Owned x (k + 1) owners
  owned_next o = owned_to (omega (arith, r.coming.writable.listed.within)) o

  bytes_behind : t.bytes ≡ length (bytes_in (parts_to x k))
  unfolding totals_in
  bytes_behind = ap (λ (u : Table). u.bytes) r.coming.behind

  relocs_behind : t.relocations ≡ length (numbers_of (relocs_in (parts_to x k)))
  unfolding totals_in
  relocs_behind = ap (λ (u : Table). u.relocations) r.coming.behind

  sites_behind : t.sites ≡ length (sites_in (parts_to x k))
  unfolding totals_in
  sites_behind = ap (λ (u : Table). u.sites) r.coming.behind

  -- a part that is function k's is small and has room
  module _ {p : Part} (i : p ≡ part) where
    small : Small (grown_by t p)
    small = rw (i, r.coming.behind, totals_next x k, ← add-one k) (small_next r.coming)

    bytes_fit : t.bytes + length p.bytes ≤ length bytes
    bytes_fit = rw i (omega (arith, bytes_behind, r.fit.bytes_fit, ap length (bytes_next x k), length-append (bytes_in (parts_to x k)) part.bytes))

    relocs_fit : t.relocations + length (numbers_of p.relocations) ≤ length relocs
    relocs_fit =
        rw i
        (omega (
          arith,
          relocs_behind,
          r.fit.relocs_fit,
          ap (λ rs. length (numbers_of rs)) (relocs_next x k),
          ap length (numbers_append (relocs_in (parts_to x k)) part.relocations),
          length-append (numbers_of (relocs_in (parts_to x k))) (numbers_of part.relocations),
        ))

    sites_fit : t.sites + length p.sites ≤ length sites
    sites_fit = rw i (omega (arith, sites_behind, r.fit.sites_fit, ap length (sites_next x k), length-append (sites_in (parts_to x k)) part.sites))

    added : {u : Table} {bytes' relocs' sites' : List ℕ} → Stored p t u bytes bytes' relocs relocs' sites sites'
        → Added x k t u places (set places k p.place) bytes bytes' relocs relocs' sites sites'
    added s = record {
      place_stored = record { past = refl; stored = rw (sym i) (sym (put_one places k p.place)) };
      rest_stored = rw i at s;
    }

  module _ {debug : Bool} {align : ℕ} {e : Extent} (d : debug ≡ is_debug x.section)
      (a : align ≡ align_for x.section x.machine.word (eqb (k + 1) n)) (q : e ≡ extent_in x k) where
    abbrev piece : (cie : ℕ) → Table → Part
    piece cie u = part_in debug x.machine align u.bytes cie u.sites e x.rows x.landings x.pairs

    -- with the header of an earlier function
    module _ (o : owner x k < k) where
      abbrev cie : ℕ
      cie = get_or places (owner x k) 0

      found_is : piece cie t ≡ part
      found_is = rw (d, align_is r.coming a, q, bytes_behind, sites_behind, r.held (owner x k) o) (sym (found_part x k o))

      pub found_ready : PieceReady debug x.machine align cie e t x.rows x.landings x.pairs bytes relocs sites
      found_ready = record {
        landings_ready = rw q r.coming.writable.landings_ready;
        pairs_ready = rw q r.coming.writable.pairs_ready;
        near = rw (bytes_behind, r.held (owner x k) o) (places_below x k (owner x k) o);
        small = small found_is;
        bytes_fit = bytes_fit found_is;
        relocs_fit = relocs_fit found_is;
        sites_fit = sites_fit found_is;
      }

      pub found_added : {u : Table} {bytes' relocs' sites' : List ℕ} → Stored (piece cie t) t u bytes bytes' relocs relocs' sites sites'
          → Added x k t u places (set places k cie) bytes bytes' relocs relocs' sites sites'
      unfolding part_in
      found_added = added found_is

    -- with a header of its own
    module _ (o : owner x k ≡ k) where
      abbrev headed : Part
      headed = headed_in debug x.machine align t.bytes t.sites e x.rows x.landings x.pairs

      headed_is : headed ≡ part
      headed_is = rw (d, align_is r.coming a, q, bytes_behind, sites_behind) (sym (own_part x k o))

      pub front_ready : FrontReady debug x.machine align e t x.rows bytes relocs
      unfolding headed_in grown_by
      front_ready =
          let f : List ℕ = header_in debug x.machine align t.bytes e x.rows in
          let h : Table = behind_header debug x.machine align e t x.rows in
          let g : List Relocation = header_relocs_in debug x.machine t.bytes e in
          record {
            encoding_fits = rw q r.coming.writable.encoding_fits;
            near = omega (arith, (small headed_is).bytes);
            bytes_fit = omega (arith, bytes_fit headed_is, length-append f (piece t.bytes h).bytes);
            relocs_fit =
                omega (
                  arith,
                  relocs_fit headed_is,
                  ap length (numbers_append g (piece t.bytes h).relocations),
                  length-append (numbers_of g) (numbers_of (piece t.bytes h).relocations),
                );
          }

      module _ {u : Table} {bytes₁ relocs₁ : List ℕ} (f : FrontStored debug x.machine align e t u x.rows bytes bytes₁ relocs relocs₁) where
        grown_is : grown_by u (piece t.bytes u) ≡ grown_by t headed
        grown_is = rw f.behind (headed_whole debug x.machine align e t x.rows x.landings x.pairs)

        pub own_ready : PieceReady debug x.machine align t.bytes e u x.rows x.landings x.pairs bytes₁ relocs₁ sites
        unfolding grown_by
        own_ready =
            let b : u.bytes + length (piece t.bytes u).bytes ≡ t.bytes + length headed.bytes = ap (λ (v : Table). v.bytes) grown_is in
            let i : u.relocations + length (numbers_of (piece t.bytes u).relocations) ≡ t.relocations + length (numbers_of headed.relocations) =
            ap (λ (v : Table). v.relocations) grown_is in
            let s : u.sites + length (piece t.bytes u).sites ≡ t.sites + length headed.sites = ap (λ (v : Table). v.sites) grown_is in
            record {
              landings_ready = rw q r.coming.writable.landings_ready;
              pairs_ready = rw q r.coming.writable.pairs_ready;
              near = omega (arith, f.bytes_stored.past);
              small = rw grown_is (small headed_is);
              bytes_fit = omega (arith, b, bytes_fit headed_is, kept f.bytes_stored);
              relocs_fit = omega (arith, i, relocs_fit headed_is, kept f.relocs_stored);
              sites_fit = omega (arith, s, sites_fit headed_is);
            }

        pub own_added : {v : Table} {bytes' relocs' sites' : List ℕ} → Stored (piece t.bytes u) u v bytes₁ bytes' relocs₁ relocs' sites sites'
            → Added x k t v places (set places k t.bytes) bytes bytes' relocs relocs' sites sites'
        unfolding headed_in
        own_added s = added headed_is (headed_stored x.rows x.landings x.pairs f s)

    -- with the one or the other, by whether its owner is the function itself
    module _ {i : ℕ} (h : i ≡ owner x k) {u : Table} {bytes₁ relocs₁ : List ℕ} (f : eqb i k ≡ true → FrontStored debug x.machine align e t u x.rows bytes bytes₁ relocs relocs₁)
        (l : eqb i k ≡ false → u ≡ t) (b : eqb i k ≡ false → bytes₁ ≡ bytes) (v : eqb i k ≡ false → relocs₁ ≡ relocs) where
      abbrev place : ℕ
      place = pick (eqb i k) t.bytes (get_or places i 0)

      own_place : T (eqb i k) → place ≡ t.bytes
      own_place y = pick_yes (eqb i k) t.bytes (get_or places i 0) y

      other_place : T (not (eqb i k)) → place ≡ get_or places i 0
      other_place y = pick_no (eqb i k) t.bytes (get_or places i 0) y

      pub chosen_ready : PieceReady debug x.machine align place e u x.rows x.landings x.pairs bytes₁ relocs₁ sites
      chosen_ready =
          tested (eqb i k)
          (λ y. rw (own_place y) (own_ready (own_looked x h (eqb_yes y)) (f (is_true (eqb i k) y))))
          (λ y.
          let n = is_false (eqb i k) y in
          rw (other_place y, l n, b n, v n, h) (found_ready (found_looked x h (eqb_no y))))

      pub chosen_added : {w : Table} {bytes' relocs' sites' : List ℕ} → Stored (piece place u) u w bytes₁ bytes' relocs₁ relocs' sites sites'
          → Added x k t w places (set places k place) bytes bytes' relocs relocs' sites sites'
      chosen_added s =
          tested (eqb i k)
          (λ y. rw (own_place y) (own_added (own_looked x h (eqb_yes y)) (f (is_true (eqb i k) y)) (rw (own_place y) at s)))
          (λ y.
          let n = is_false (eqb i k) y in
          rw (other_place y, h) (found_added (found_looked x h (eqb_no y)) (rw (other_place y, l n, b n, v n, h) at s)))

-- ---- all of them

-- k of n functions have been written into lists with room for all
pub record Going (x : Inputs) (n k : ℕ) (t : Table) (places places' bytes bytes' relocs relocs' sites sites' : List ℕ) : Type 0 where
  pub counted : n ≡ count_in x
  pub high : k ≤ n
  pub fit : Holds x n places bytes relocs sites
  pub done : Written x k t places places' bytes bytes' relocs relocs' sites sites'

pub start : (x : Inputs) {places bytes relocs sites : List ℕ} → Holds x (count_in x) places bytes relocs sites
    → Going x (count_in x) 0 nothing places places bytes bytes relocs relocs sites sites
start x h = record { counted = refl; high = omega arith; fit = h; done = stores.start x _ _ _ _ }

module _ {x : Inputs} {n k : ℕ} {t : Table} {places places' bytes bytes' relocs relocs' sites sites' : List ℕ}
    (g : Going x n k t places places' bytes bytes' relocs relocs' sites sites') where
  pub ready : Cleared x → k < n → PartReady x k n t places' bytes' relocs' sites'
  ready s h = record {
    coming = record { writable = s.each_one k (omega (arith, g.counted)); counted = g.counted; behind = stores.behind x g.done };
    fit = stores.fewer x h (stores.holds x g.done g.fit);
    held = stores.held x g.done (omega (arith, g.fit.places_fit));
  }

  pub turn : {u : Table} {places'' bytes'' relocs'' sites'' : List ℕ} → k < n → Added x k t u places' places'' bytes' bytes'' relocs' relocs'' sites' sites''
      → Going x n (k + 1) u places places'' bytes bytes'' relocs relocs'' sites sites''
  turn h a = record { counted = g.counted; high = omega arith; fit = g.fit; done = stores.turn x g.done a }

  pub ended : n ≤ k → Written x (count_in x) t places places' bytes bytes' relocs relocs' sites sites'
  ended h =
      let e : k ≡ count_in x = omega (arith, g.high, g.counted) in
      rw e at g.done

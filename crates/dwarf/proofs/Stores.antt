-- The writing pass: what each function stores behind those in front of it.
use mathlib.Core.Path.{◌≡◌, refl, ◌∙◌}
use Prim.Native.Nat.{ℕ, zero, suc, ◌+◌, ◌≤◌, ◌<◌}
use native.Mathlib.Omega.{arith}
use native.Mathlib.Numerals.{add-one}
use mathlib.Core.List.{List, [], ◌∷◌, ◌++◌}
use lib.ListN.{length, get_or, set, length-set, get_or-append}
use lib.Seq.{get_or-append-add, get_or-set_same}
use Rattle.format.specs.Put.{put}
use Rattle.format.specs.Lists.{numbers_of}
use Rattle.format.specs.Writer.{Part, joined}
use Rattle.format.proofs.Choice.{either}
use Rattle.format.proofs.PutLaws.{◌then◌, idle, kept, put_before}
use Rattle.owners.specs.Owners.{owner}
use Rattle.dwarf.specs.declared.Table.{Table}
use Rattle.header_keys.specs.Inputs.{Inputs}
use Rattle.dwarf.specs.Parts.{places_in, bytes_in, relocs_in, sites_in, part_behind, parts_to}
use Rattle.dwarf.specs.Pieces.{part_in, headed_in}
use Rattle.dwarf.specs.Tables.{nothing, totals_in, Added, Written, Holds}
use Rattle.format.proofs.ListLaws.{numbers_length, numbers_append}
use Rattle.dwarf.proofs.Fronts.{bytes_next, relocs_next, sites_next, places_next, places_length, bytes_grow, relocs_grow, sites_grow}
use Rattle.dwarf.proofs.Owners.{owner_bound}
use Rattle.dwarf.proofs.Pieces.{own_part, found_part}

-- ---- what was stored can be read

put-read : (xs : List ℕ) (p : ℕ) (ys : List ℕ) (j : ℕ) → p + length ys ≤ length xs → j < length ys → get_or (put xs p ys) (p + j) 0 ≡ get_or ys j 0
unfolding put
put-read xs p [] j l h = absurd (omega arith)
put-read xs p (y ∷ ys) zero l h =
    let e : p + 0 ≡ p = omega arith in
    rw e (put_before (set xs p y) (p + 1) ys p (omega arith) ∙ get_or-set_same xs p y 0 (omega arith))
put-read xs p (y ∷ ys) (suc j) l h =
    let e : p + suc j ≡ p + 1 + j = omega arith in
    rw e (put-read (set xs p y) (p + 1) ys j (simp length-set (omega arith)) (omega arith))

-- ---- the header of function k

-- a header stands in front of what is behind it
place_near : (x : Inputs) (k : ℕ) → ((j : ℕ) → j < k → get_or (places_in (parts_to x k)) j 0 ≤ length (bytes_in (parts_to x k)))
    → (part_behind x k (parts_to x k)).place ≤ length (bytes_in (parts_to x k))
unfolding part_in headed_in
place_near x k h =
    let o : ℕ = owner x k in
    either k o (λ l. rw (own_part x k (omega (arith, owner_bound x k))) (omega arith)) (λ l. rw (found_part x k l) (h o l))

pub places_below : (x : Inputs) (k j : ℕ) → j < k → get_or (places_in (parts_to x k)) j 0 ≤ length (bytes_in (parts_to x k))
places_below x zero j h = absurd (omega arith)
places_below x (suc k) j h =
    let more : length (bytes_in (parts_to x k)) ≤ length (bytes_in (parts_to x (suc k))) = bytes_grow x k (suc k) (omega arith) in
    either k j
    (λ l.
    let e : j ≡ length (places_in (parts_to x k)) + 0 = omega (arith, places_length x k) in
    rw (places_next x k, e, get_or-append-add) (omega (arith, place_near x k (places_below x k))))
    (λ l.
    let e : j < length (places_in (parts_to x k)) = omega (arith, places_length x k) in
    rw (places_next x k, get_or-append) (omega (arith, places_below x k j l)))

-- ---- function by function

table_from : (bytes relocations sites : ℕ) → Table
table_from bytes relocations sites = record { bytes = bytes; relocations = relocations; sites = sites }

table_again : (t : Table) → table_from t.bytes t.relocations t.sites ≡ t
unfolding table_from
table_again t = refl

module _ (x : Inputs) where
  pub start : (places bytes relocs sites : List ℕ) → Written x 0 nothing places places bytes bytes relocs relocs sites sites
  unfolding parts_to places_in bytes_in relocs_in sites_in joined numbers_of
  start places bytes relocs sites = record { places_stored = idle; bytes_stored = idle; relocs_stored = idle; sites_stored = idle }

  module _ {k : ℕ} {t : Table} {places places' bytes bytes' relocs relocs' sites sites' : List ℕ}
      (w : Written x k t places places' bytes bytes' relocs relocs' sites sites') where
    pub turn : {u : Table} {places'' bytes'' relocs'' sites'' : List ℕ} → Added x k t u places' places'' bytes' bytes'' relocs' relocs'' sites' sites''
        → Written x (k + 1) u places places'' bytes bytes'' relocs relocs'' sites sites''
    turn a =
        let p : Part = part_behind x k (parts_to x k) in
        let es : places_in (parts_to x (k + 1)) ≡ places_in (parts_to x k) ++ (p.place ∷ []) = rw (add-one k) (places_next x k) in
        let bs : bytes_in (parts_to x (k + 1)) ≡ bytes_in (parts_to x k) ++ p.bytes = rw (add-one k) (bytes_next x k) in
        let rs : numbers_of (relocs_in (parts_to x (k + 1))) ≡ numbers_of (relocs_in (parts_to x k)) ++ numbers_of p.relocations =
        rw (add-one k, relocs_next x k) (numbers_append (relocs_in (parts_to x k)) p.relocations) in
        let ss : sites_in (parts_to x (k + 1)) ≡ sites_in (parts_to x k) ++ p.sites = rw (add-one k) (sites_next x k) in
        record {
          places_stored = rw es (w.places_stored then a.place_stored);
          bytes_stored = rw bs (w.bytes_stored then a.rest_stored.bytes_stored);
          relocs_stored = rw rs (w.relocs_stored then a.rest_stored.relocs_stored);
          sites_stored = rw ss (w.sites_stored then a.rest_stored.sites_stored);
        }

    -- the places of the functions in front can be read
    pub held : k ≤ length places → (j : ℕ) → j < k → get_or places' j 0 ≡ get_or (places_in (parts_to x k)) j 0
    held h j l =
        let e : 0 + j ≡ j = omega arith in
        rw w.places_stored.stored (rw e at (put-read places 0 (places_in (parts_to x k)) j (omega (arith, places_length x k)) (omega (arith, places_length x k))))

    -- what stands behind function k
    pub behind : t ≡ totals_in (parts_to x k)
    unfolding totals_in table_from
    behind =
        let b : t.bytes ≡ length (bytes_in (parts_to x k)) = omega (arith, w.bytes_stored.past) in
        let r : t.relocations ≡ length (numbers_of (relocs_in (parts_to x k))) = omega (arith, w.relocs_stored.past) in
        let s : t.sites ≡ length (sites_in (parts_to x k)) = omega (arith, w.sites_stored.past) in
        cc (table_again t)

    pub holds : {n : ℕ} → Holds x n places bytes relocs sites → Holds x n places' bytes' relocs' sites'
    holds h = record {
      places_fit = omega (arith, h.places_fit, kept w.places_stored);
      bytes_fit = omega (arith, h.bytes_fit, kept w.bytes_stored);
      relocs_fit = omega (arith, h.relocs_fit, kept w.relocs_stored);
      sites_fit = omega (arith, h.sites_fit, kept w.sites_stored);
    }

  pub fewer : {k n : ℕ} {places bytes relocs sites : List ℕ} → k ≤ n → Holds x n places bytes relocs sites → Holds x k places bytes relocs sites
  fewer {k} {n} l h = record {
    places_fit = omega (arith, h.places_fit);
    bytes_fit = omega (arith, h.bytes_fit, bytes_grow x k n l);
    relocs_fit = omega (arith, h.relocs_fit, relocs_grow x k n l, numbers_length (relocs_in (parts_to x k)), numbers_length (relocs_in (parts_to x n)));
    sites_fit = omega (arith, h.sites_fit, sites_grow x k n l);
  }

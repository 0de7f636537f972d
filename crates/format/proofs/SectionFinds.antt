-- Function k's record is record k of a section, and its header is found from it: in eh_frame by its distance, in debug_frame by a relocation.
use mathlib.Core.Path.{◌≡◌, refl, ◌∙◌}
use Prim.Native.Nat.{ℕ, zero, suc, ◌+◌, ◌-◌, ◌≤◌, ◌<◌}
use native.Mathlib.Omega.{arith}
use mathlib.Core.Bool.{Bool, true, false, not, ◌&&◌}
use mathlib.Core.Logic.{◌≢◌}
use mathlib.Core.Option.{Option, none, some}
use mathlib.Core.List.{List, [], ◌∷◌, ◌++◌, append_assoc, map}
use lib.ListN.{length, get_elem?, drop}
use lib.Dec.{T, eqb, ltb, eqb_refl}
use mir.Facts.{yes_and, yes_ltb, no_eqb}
use Rattle.format.specs.Prelude.{after}
use Rattle.format.specs.declared.Machine.{Machine}
use Rattle.format.specs.Lists.{Function, Relocation}
use Rattle.format.specs.Constants.{debug_frame}
use Rattle.format.specs.Headers.{Key, key_of, reloc, header_relocs}
use Rattle.format.specs.Records.{record_relocs}
use Rattle.format.specs.Reader.{Entry, is_header, records, distance_back, first_addend, header_at}
use Rattle.format.specs.declared.Section.{Section}
use Rattle.format.specs.Writer.{is_debug, Seen, place_in, parts_from, joined}
use Rattle.format.proofs.Choice.{pick_yes, pick_no, if-le, is_false}
use Rattle.format.proofs.Each.{Each, each_join, each_then, first_behind}
use Rattle.format.proofs.EntryBack.{padded_behind}
use Rattle.format.proofs.HeaderBack.{header_is}
use Rattle.format.proofs.RecordBack.{record_second_eh, record_is_none}
use Rattle.format.proofs.SameKey.{place_in_lem}
use Rattle.format.proofs.Fits.{MachineFits, AllFit, Bounded}
use Rattle.format.proofs.Parts.{header_body, record_body, Spot, place_or, cie_of, spot_of, relocs_for, place_of, part_bytes, part_relocs, relocs_of, place_from, next_at, next_sites, next_seen, relocs_more}
use Rattle.format.proofs.SectionTiles.{header_entry, front_entries, record_entry, entries_of, Holds, FieldsHold, fields_hold, place_next}
use Rattle.format.proofs.RelocsInside.{Inside, relocations_inside}

no_and : (a b c : Bool) → T (not a) → T (not (a && b && c))
no_and true b c t = absurd t
no_and false b c t = tt

pub header_entry_is : (debug : Bool) (m : Machine) (align at : ℕ) (k : Key) → T (is_header debug (header_entry debug m align at k))
unfolding header_entry header_body
header_entry_is debug m align at k = rw padded_behind (header_is debug m k at _)

module _ (s : Section) (m : Machine) where
  -- where function k's part stands
  unfoldable pub spot_at : (at : ℕ) → List Seen → List Function → ℕ → Spot
  spot_at at seen [] k = record { align = 0; start = at; earlier = none }
  spot_at at seen (f ∷ fs) zero = spot_of s m at seen f fs
  spot_at at seen (f ∷ fs) (suc k) = spot_at (next_at s m at seen f fs) (next_seen s m at seen f fs) fs k

  holds_at : (at : ℕ) (seen : List Seen) (fs : List Function) (k : ℕ) (f : Function) → FieldsHold s m at seen fs → get_elem? fs k ≡ some f
      → Holds s m (spot_at at seen fs k) f
  unfolding spot_at
  holds_at at seen [] k f h e = let z : ◌≡◌ {A = ℕ} 0 1 = cc in absurd (omega arith)
  holds_at at seen (g ∷ fs) zero f h e = let e' : g ≡ f = cc in rw (← e') h.0
  holds_at at seen (g ∷ fs) (suc k) f h e = holds_at (next_at s m at seen g fs) (next_seen s m at seen g fs) fs k f h.1 e

  -- ---- the record

  pub record_entry_is : (x : Spot) (f : Function) → Holds s m x f → T (not (is_header (is_debug s) (record_entry s m x f)))
  unfolding record_entry record_body
  record_entry_is x f h = rw padded_behind (record_is_none (is_debug s) m.word (place_of s m x f + 4 - cie_of x) f (place_of s m x f) _ (omega arith) h.distance)

  front_no_record : (o : Option ℕ) (align at : ℕ) (k : Key) (es : List Entry) → records (is_debug s) (front_entries s m o align at k ++ es) ≡ records (is_debug s) es
  unfolding front_entries records
  front_no_record none align at k es = pick_yes (is_header (is_debug s) (header_entry (is_debug s) m align at k)) _ _ (header_entry_is (is_debug s) m align at k)
  front_no_record (some cie) align at k es = refl

  record_kept : (x : Spot) (f : Function) (es : List Entry) → Holds s m x f
      → records (is_debug s) (record_entry s m x f ∷ es) ≡ record_entry s m x f ∷ records (is_debug s) es
  unfolding records
  record_kept x f es h = pick_no (is_header (is_debug s) (record_entry s m x f)) _ _ (record_entry_is x f h)

  found_at : (at : ℕ) (seen : List Seen) (fs : List Function) (k : ℕ) (f : Function) → FieldsHold s m at seen fs → get_elem? fs k ≡ some f
      → get_elem? (records (is_debug s) (entries_of s m at seen fs)) k ≡ some (record_entry s m (spot_at at seen fs k) f)
  unfolding spot_at entries_of
  found_at at seen [] k f h e = cc
  found_at at seen (g ∷ fs) zero f h e = rw (front_no_record, record_kept (spot_of s m at seen g fs) g _ h.0) (let e' : g ≡ f = cc in rw e')
  found_at at seen (g ∷ fs) (suc k) f h e =
      rw (front_no_record, record_kept (spot_of s m at seen g fs) g _ h.0) (found_at (next_at s m at seen g fs) (next_seen s m at seen g fs) fs k f h.1 e)

  none_at : (at : ℕ) (seen : List Seen) (fs : List Function) (k : ℕ) → FieldsHold s m at seen fs → get_elem? fs k ≡ none
      → get_elem? (records (is_debug s) (entries_of s m at seen fs)) k ≡ none
  unfolding entries_of records
  none_at at seen [] zero h e = refl
  none_at at seen [] (suc k) h e = refl
  none_at at seen (g ∷ fs) zero h e = let z : ◌≡◌ {A = ℕ} 0 1 = cc in absurd (omega arith)
  none_at at seen (g ∷ fs) (suc k) h e =
      rw (front_no_record, record_kept (spot_of s m at seen g fs) g _ h.0) (none_at (next_at s m at seen g fs) (next_seen s m at seen g fs) fs k h.1 e)

  -- ---- the header

  -- a header of this key at this place is what is found there
  abbrev Stands : List Entry → Key → ℕ → Type 0
  Stands es k place =
      (align : ℕ) × ((before : ℕ) → place < before → header_at (is_debug s) place before es ≡ some (header_entry (is_debug s) m align place k))

  stands_here : (pre rest : List Entry) (align at : ℕ) (k : Key) → Each (λ e. e.at < at) pre → Stands (pre ++ (header_entry (is_debug s) m align at k ∷ rest)) k at
  unfolding header_at header_entry
  stands_here pre rest align at k h = (
    align,
    λ before l. first_behind (λ e. eqb e.at at && ltb at before && is_header (is_debug s) e) pre (header_entry (is_debug s) m align at k) rest
        (each_then (λ e. e.at < at) _ pre (λ e b. let n : e.at ≢ at = λ z. omega arith in no_and (eqb e.at at) (ltb at before) (is_header (is_debug s) e) (no_eqb n)) h)
        (yes_and (eqb at at && ltb at before) (is_header (is_debug s) (header_entry (is_debug s) m align at k))
        (yes_and (eqb at at) (ltb at before) (eqb_refl at) (yes_ltb l)) (header_entry_is (is_debug s) m align at k)),
  )

  -- a function's header is its own, or an earlier one's
  stands_one : (o : Option ℕ) (align at : ℕ) (k : Key) (seen : List Seen) (pre rest es : List Entry) → place_in k seen ≡ o
      → es ≡ pre ++ (front_entries s m o align at k ++ rest) → Each (λ e. e.at < at) pre → Each (λ n. Stands es n.key n.place) seen
      → Stands es k (place_or o at)
  unfolding front_entries place_or
  stands_one none align at k seen pre rest es o e b known = rw e (stands_here pre rest align at k b)
  stands_one (some cie) align at k seen pre rest es o e b known = place_in_lem (Stands es) k cie seen o known

  front_before : (o : Option ℕ) (align at later : ℕ) (k : Key) → at < later → Each (λ e. e.at < later) (front_entries s m o align at k)
  unfolding front_entries header_entry
  front_before none align at later k h = (h, tt)
  front_before (some cie) align at later k h = tt

  stands_at : (at : ℕ) (seen : List Seen) (fs : List Function) (k : ℕ) (f : Function) (pre es : List Entry) → es ≡ pre ++ entries_of s m at seen fs
      → Each (λ e. e.at < at) pre → Each (λ n. Stands es n.key n.place) seen → FieldsHold s m at seen fs → get_elem? fs k ≡ some f
      → Stands es (key_of m f) (cie_of (spot_at at seen fs k))
  unfolding spot_at entries_of spot_of next_at next_seen cie_of record_entry
  stands_at at seen [] k f pre es e b known h f≡ = let z : ◌≡◌ {A = ℕ} 0 1 = cc in absurd (omega arith)
  stands_at at seen (g ∷ fs) zero f pre es e b known h f≡ =
      let x : Spot = spot_of s m at seen g fs in
      let g≡ : g ≡ f = cc in
      rw (← g≡) (stands_one x.earlier x.align at (key_of m g) seen pre _ es refl e b known)
  stands_at at seen (g ∷ fs) (suc k) f pre es e b known h f≡ =
      let x : Spot = spot_of s m at seen g fs in
      let later : ℕ = next_at s m at seen g fs in
      let front : List Entry = front_entries s m x.earlier x.align at (key_of m g) in
      let own : List Entry = front ++ (record_entry s m x g ∷ []) in
      let here : Stands es (key_of m g) (cie_of x) = stands_one x.earlier x.align at (key_of m g) seen pre _ es refl e b known in
      let a = place_from s m x g in
      let l = place_next s m x g in
      stands_at later (next_seen s m at seen g fs) fs k f (pre ++ own) es (e ∙ simp append_assoc)
      (each_join (λ r. r.at < later) pre own (each_then (λ r. r.at < at) _ pre (λ r c. omega arith) b)
      (each_join (λ r. r.at < later) front (record_entry s m x g ∷ []) (front_before x.earlier x.align at later (key_of m g) (omega arith)) (omega arith, tt)))
      (each_join (λ n. Stands es n.key n.place) seen (record { key = key_of m g; place = cie_of x } ∷ []) known (here, tt))
      h.1 f≡

  -- ---- the relocation

  front_bare : (o : Option ℕ) (at : ℕ) (k : Key) → T (is_debug s) → relocs_for s m o at k ≡ []
  unfolding relocs_for header_relocs
  front_bare none at k d = pick_yes (is_debug s) _ _ d
  front_bare (some cie) at k d = refl

  -- the first relocation of a part of debug_frame fills the record's second field
  field_first : (x : Spot) (sites : ℕ) (f : Function) → T (is_debug s)
      → part_relocs s m x sites f ≡ reloc (place_of s m x f + 4) debug_frame 1 4 (cie_of x) ∷ drop 1 (part_relocs s m x sites f)
  unfolding part_relocs record_relocs
  field_first x sites f d = rw (front_bare x.earlier x.start (key_of m f) d, pick_yes (is_debug s) _ _ d)

  addend_found : (pre later : List Relocation) (place cie : ℕ) → Each (λ r. r.place < place) pre
      → first_addend place (pre ++ (reloc place debug_frame 1 4 cie ∷ later)) ≡ some cie
  unfolding first_addend after
  addend_found pre later place cie b =
      rw (first_behind (λ r. eqb r.place place) pre (reloc place debug_frame 1 4 cie) later
      (each_then (λ r. r.place < place) _ pre (λ r c. let n : r.place ≢ place = λ z. omega arith in no_eqb n) b) (eqb_refl place))

  module _ (fit : MachineFits m) (d : T (is_debug s)) where
    addend_at : (at sites : ℕ) (seen : List Seen) (fs : List Function) (k : ℕ) (f : Function) (pre rs : List Relocation)
        → rs ≡ pre ++ relocs_of s m at sites seen fs → Each (λ r. r.place < at) pre → AllFit s m fs → get_elem? fs k ≡ some f
        → first_addend (place_of s m (spot_at at seen fs k) f + 4) rs ≡ some (cie_of (spot_at at seen fs k))
    unfolding spot_at spot_of next_at
    addend_at at sites seen [] k f pre rs e b ok f≡ = let z : ◌≡◌ {A = ℕ} 0 1 = cc in absurd (omega arith)
    addend_at at sites seen (g ∷ fs) zero f pre rs e b ok f≡ =
        let x : Spot = spot_of s m at seen g fs in
        let place : ℕ = place_of s m x g + 4 in
        let a = place_from s m x g in
        let g≡ : g ≡ f = cc in
        rw (← g≡, e, relocs_more s m at sites seen g fs, field_first x sites g d)
        (addend_found pre _ place (cie_of x) (each_then (λ r. r.place < at) _ pre (λ r c. omega arith) b))
    addend_at at sites seen (g ∷ fs) (suc k) f pre rs e b ok f≡ =
        let x : Spot = spot_of s m at seen g fs in
        let own : List Relocation = part_relocs s m x sites g in
        let next : ℕ = next_at s m at seen g fs in
        let later : List Relocation = relocs_of s m next (next_sites sites g) (next_seen s m at seen g fs) fs in
        let e' : rs ≡ pre ++ (own ++ later) = rw (relocs_more s m at sites seen g fs) at e in
        addend_at next (next_sites sites g) (next_seen s m at seen g fs) fs k f (pre ++ own) rs (e' ∙ simp append_assoc)
        (each_join (λ r. r.place < next) pre own (each_then (λ r. r.place < at) _ pre (λ r c. omega arith) b)
        (each_then (Inside at (at + length (part_bytes s m x g))) _ own (λ r i. omega arith) (relocations_inside s m fit x sites g ok.0)))
        ok.1 f≡

  distance_back_lem : (x : Spot) (f : Function) → T (not (is_debug s)) → Holds s m x f → distance_back (record_entry s m x f) ≡ some (cie_of x)
  unfolding distance_back record_entry record_body
  distance_back_lem x f n h =
      let at : ℕ = place_of s m x f in
      let d : ℕ = at + 4 - cie_of x in
      let near : d ≤ at + 4 = omega arith in
      let there : at + 4 - d ≡ cie_of x = omega arith in
      rw (is_false (is_debug s) n, padded_behind, record_second_eh m.word d f _ h.distance, if-le d (at + 4), there)

-- ---- the laws of a section

module _ (s : Section) (m : Machine) (fs : List Function) (fit : MachineFits m) (ok : AllFit s m fs) (bound : Bounded fs) where
  -- past the functions there is no record
  pub record_missing : (k : ℕ) → get_elem? fs k ≡ none → get_elem? (records (is_debug s) (entries_of s m 0 [] fs)) k ≡ none
  record_missing k past = none_at s m 0 [] fs k (fields_hold s m fs fit ok bound) past

  module _ (k : ℕ) (f : Function) (at_k : get_elem? fs k ≡ some f) where
    pub record_holds : Holds s m (spot_at s m 0 [] fs k) f
    record_holds = holds_at s m 0 [] fs k f (fields_hold s m fs fit ok bound) at_k

    -- record k is function k's
    pub record_found : get_elem? (records (is_debug s) (entries_of s m 0 [] fs)) k ≡ some (record_entry s m (spot_at s m 0 [] fs k) f)
    record_found = found_at s m 0 [] fs k f (fields_hold s m fs fit ok bound) at_k

    -- the function's header is what stands at its place, in front of the record
    pub header_found : (align : ℕ)
        × (header_at (is_debug s) (cie_of (spot_at s m 0 [] fs k)) (place_of s m (spot_at s m 0 [] fs k) f) (entries_of s m 0 [] fs)
        ≡ some (header_entry (is_debug s) m align (cie_of (spot_at s m 0 [] fs k)) (key_of m f)))
    header_found =
        let h = stands_at s m 0 [] fs k f [] (entries_of s m 0 [] fs) refl tt tt (fields_hold s m fs fit ok bound) at_k in
        (h.0, h.1 (place_of s m (spot_at s m 0 [] fs k) f) record_holds.behind)

    -- in eh_frame that place is the distance before the record's second field
    pub header_by_distance : T (not (is_debug s)) → distance_back (record_entry s m (spot_at s m 0 [] fs k) f) ≡ some (cie_of (spot_at s m 0 [] fs k))
    header_by_distance n = distance_back_lem s m (spot_at s m 0 [] fs k) f n record_holds

    -- in debug_frame it is what the first relocation of that field adds
    pub header_by_relocation : T (is_debug s)
        → first_addend (place_of s m (spot_at s m 0 [] fs k) f + 4) (joined (map (λ p. p.relocations) (parts_from s m 0 0 [] fs)))
        ≡ some (cie_of (spot_at s m 0 [] fs k))
    unfolding relocs_of
    header_by_relocation d = addend_at s m fit d 0 0 [] fs k f [] (relocs_of s m 0 0 [] fs) refl tt ok at_k

-- Two lists of entries that are alike: the same places, lengths and second fields, and headers of which the reader makes the same.
use mathlib.Core.Path.{◌≡◌, refl, sym, ap, subst, ◌∙◌}
use mathlib.Core.Bool.{Bool, false, ◌&&◌}
use mathlib.Core.Option.{Option, none, some}
use mathlib.Core.List.{List, [], ◌∷◌, ◌++◌}
use Prim.Native.Nat.{ℕ, ◌+◌, ◌-◌, ◌^◌, ◌<◌, ◌≤◌}
use native.Mathlib.Nat.{le_refl, add-zero}
use native.Mathlib.Omega.{arith}
use lib.Dec.{T, eqb, ltb}
use lib.ListN.{length}
use Rattle.format.specs.Prelude.{first}
use Rattle.format.specs.declared.Machine.{Machine}
use Rattle.format.specs.declared.Section.{Section}
use Rattle.format.specs.Headers.{Key, key_of, header_id}
use Rattle.format.specs.Lists.{Function}
use Rattle.format.specs.Writer.{is_debug, Seen}
use Rattle.format.specs.Reader.{Entry, entries, second, is_header, distance_back, header_at, parse_header}
use Rattle.format.proofs.Choice.{pick_yes, pick_no, tested}
use Rattle.format.proofs.EntryBack.{entry_length, padded_behind}
use Rattle.format.proofs.HeaderBack.{header_long}
use Rattle.format.proofs.RecordBack.{record_long}
use Rattle.format.proofs.Parts.{header_body, record_body, header_entry_lem, Spot, cie_of, spot_of, front_for, front_of, place_of, body_of, next_at, next_seen}
use Rattle.format.proofs.SectionTiles.{header_entry, front_entries, record_entry, entries_of, FieldsHold, place_next, Tiles, tile, ends}
use Rattle.apply_back.proofs.SectionPlaced.{flat}

pub record Alike (word : ℕ) (e d : Entry) : Type 0 where
  pub same_place : d.at ≡ e.at
  pub same_length : length d.body ≡ length e.body
  pub same_second : second d.body ≡ second e.body
  pub same_header : T (is_header false e) → parse_header false word d.body ≡ parse_header false word e.body

abbrev pub AllAlike : ℕ → List Entry → List Entry → Type 0
AllAlike word [] [] = Unit {0}
AllAlike word [] (d ∷ ds) = ⊥
AllAlike word (e ∷ es) [] = ⊥
AllAlike word (e ∷ es) (d ∷ ds) = Alike word e d × AllAlike word es ds

module _ (word : ℕ) where
  pub all_alike_join : (es ds es' ds' : List Entry) → AllAlike word es ds → AllAlike word es' ds' → AllAlike word (es ++ es') (ds ++ ds')
  all_alike_join [] [] es' ds' a b = b
  all_alike_join [] (d ∷ ds) es' ds' a b = absurd a
  all_alike_join (e ∷ es) [] es' ds' a b = absurd a
  all_alike_join (e ∷ es) (d ∷ ds) es' ds' a b = (a.0, all_alike_join es ds es' ds' a.1 b)

  pub header_same : (e d : Entry) → Alike word e d → is_header false d ≡ is_header false e
  unfolding is_header
  header_same e d a = ap (λ (n : ℕ). eqb n (header_id false)) a.same_second

  -- a test that says the same of both finds the same
  first_alike : (test : Entry → Bool) → ((e d : Entry) → Alike word e d → test d ≡ test e) → (es ds : List Entry) (h : Entry) → AllAlike word es ds
      → first test es ≡ some h → (d : Entry) × ((first test ds ≡ some d) × Alike word h d)
  unfolding first
  first_alike test same [] [] h a q = let z : ◌≡◌ {A = ℕ} 0 1 = cc in absurd (omega arith)
  first_alike test same [] (d ∷ ds) h a q = absurd a
  first_alike test same (e ∷ es) [] h a q = absurd a
  first_alike test same (e ∷ es) (d ∷ ds) h a q =
      let s : test d ≡ test e = same e d a.0 in
      tested (test e)
      (λ t.
      let found : some e ≡ some h = sym (pick_yes (test e) (some e) (first test es) t) ∙ q in
      let e≡ : e ≡ h = cc in
      (d, (rw s (pick_yes (test e) (some d) (first test ds) t), rw e≡ at a.0)))
      (λ t.
      let i = first_alike test same es ds h a.1 (sym (pick_no (test e) (some e) (first test es) t) ∙ q) in
      (i.0, (rw s (pick_no (test e) (some d) (first test ds) t ∙ i.1.0), i.1.1)))

  pub header_alike : (place before : ℕ) (es ds : List Entry) (h : Entry) → AllAlike word es ds → header_at false place before es ≡ some h
      → (d : Entry) × ((header_at false place before ds ≡ some d) × Alike word h d)
  unfolding header_at
  header_alike place before es ds h a q =
      first_alike (λ e. eqb e.at place && ltb place before && is_header false e)
      (λ e d b. rw (header_same e d b, b.same_place)) es ds h a q

  pub distance_same : (e d : Entry) → Alike word e d → distance_back d ≡ distance_back e
  unfolding distance_back
  distance_same e d a = rw (a.same_second, a.same_place)

  -- ---- entries that stand one behind the other

  abbrev pub Chain : ℕ → List Entry → Type 0
  Chain at [] = Unit {0}
  Chain at (e ∷ es) = (e.at ≡ at) × (4 ≤ length e.body) × (length e.body < 2 ^ 32) × Chain (at + 4 + length e.body) es

  pub chain_alike : (at : ℕ) (es ds : List Entry) → AllAlike word es ds → Chain at es → Chain at ds
  chain_alike at [] [] a c = tt
  chain_alike at [] (d ∷ ds) a c = absurd a
  chain_alike at (e ∷ es) [] a c = absurd a
  chain_alike at (e ∷ es) (d ∷ ds) a c =
      let n : length d.body ≡ length e.body = a.0.same_length in
      let later : at + 4 + length d.body ≡ at + 4 + length e.body = omega arith in (
        a.0.same_place ∙ c.0,
        omega (arith, n, c.1),
        omega (arith, n, c.2),
        rw later (chain_alike (at + 4 + length e.body) es ds a.1 c.3),
      )

  module _ (s : Section) (m : Machine) where
    chain_tiles : (at : ℕ) (es : List Entry) → Chain at es → Tiles s m at (flat es) es
    unfolding flat
    chain_tiles at [] c = ends s m at
    chain_tiles at (e ∷ es) c = rw c.0 (tile s m at e.body (flat es) es c.1 c.2 (chain_tiles (at + 4 + length e.body) es c.3))

    pub chain_entries : (es : List Entry) → Chain 0 es → entries (flat es) ≡ some es
    unfolding entries
    chain_entries es c = chain_tiles 0 es c _ (le_refl _)

    -- those that were written do
    front_chain : (o : Option ℕ) (align at : ℕ) (k : Key) (es : List Entry) → (o ≡ none → length (header_body (is_debug s) m align at k) < 2 ^ 32)
        → Chain (at + length (front_for s m o align at k)) es → Chain at (front_entries s m o align at k ++ es)
    unfolding front_for front_entries header_entry header_body
    front_chain none align at k es h c =
        let body : List ℕ = header_body (is_debug s) m align at k in
        let n : length (front_for s m none align at k) ≡ 4 + length body = ap length (header_entry_lem (is_debug s) m align at k) ∙ entry_length body in
        let later : at + length (front_for s m none align at k) ≡ at + 4 + length body = omega arith in
        (refl, rw padded_behind (header_long (is_debug s) m k _), h refl, rw later at c)
    front_chain (some cie) align at k es h c = rw add-zero at c

    pub written_chain : (at : ℕ) (seen : List Seen) (fs : List Function) → FieldsHold s m at seen fs → Chain at (entries_of s m at seen fs)
    unfolding entries_of spot_of next_at place_of front_of record_entry record_body
    written_chain at seen [] h = tt
    written_chain at seen (f ∷ fs) h =
        let x : Spot = spot_of s m at seen f fs in
        let rest : List Entry = entries_of s m (next_at s m at seen f fs) (next_seen s m at seen f fs) fs in
        let moved : Chain (place_of s m x f + 4 + length (body_of s m x f)) rest =
        subst (λ (n : ℕ). Chain n rest) (place_next s m x f) (written_chain (next_at s m at seen f fs) (next_seen s m at seen f fs) fs h.1) in
        front_chain x.earlier x.align x.start (key_of m f) _ h.0.header_length
        (refl, rw padded_behind (record_long (is_debug s) m.word (place_of s m x f + 4 - cie_of x) f _), h.0.record_length, moved)

-- The lengths of a section's entries tile it, and every field holds its value.
use mathlib.Core.Path.{◌≡◌, refl}
use Prim.Native.Nat.{ℕ, zero, suc, ◌+◌, ◌-◌, ◌^◌, ◌≤◌, ◌<◌}
use native.Mathlib.Omega.{arith}
use native.Mathlib.Nat.{le_refl, add-zero}
use mathlib.Core.Bool.{Bool}
use mathlib.Core.Option.{Option, none, some}
use mathlib.Core.List.{List, [], ◌∷◌, ◌++◌, append_assoc, map}
use lib.ListN.{length, length-append}
use Rattle.format.specs.Prelude.{next, after}
use Rattle.format.specs.Leb.{little}
use Rattle.format.specs.declared.Machine.{Machine}
use Rattle.format.specs.Lists.{Function, Relaxed}
use Rattle.format.specs.Headers.{Key, key_of, entry, header_bytes}
use Rattle.format.specs.Records.{size_field, record_bytes}
use Rattle.format.specs.Reader.{Entry, entries_f, entries}
use Rattle.format.specs.Questions.{size_bytes}
use Rattle.format.specs.declared.Section.{Section}
use Rattle.format.specs.Writer.{is_debug, Seen, parts_from, joined}
use Rattle.format.proofs.Each.{Each, each_join, each_then}
use Rattle.format.proofs.EntryBack.{entry_back, entry_length, padded_behind}
use Rattle.format.proofs.HeaderBack.{header_long}
use Rattle.format.proofs.RecordBack.{record_long}
use Rattle.format.proofs.SameKey.{place_in_lem}
use Rattle.format.proofs.Fits.{MachineFits, FunctionFits, AllFit, Bounded}
use Rattle.format.proofs.Parts.{header_body, record_body, header_entry_lem, record_entry_lem, Spot, place_or, cie_of, spot_of, front_for, front_of, place_of, body_of, part_bytes, bytes_of, next_at, next_sites, next_seen, bytes_none, bytes_more}
use Rattle.format.proofs.SectionSize.{section_short}

-- ---- the entries

unfoldable pub header_entry : (debug : Bool) → Machine → (align at : ℕ) → Key → Entry
header_entry debug m align at k = record { at = at; body = header_body debug m align at k }

module _ (s : Section) (m : Machine) where
  unfoldable pub front_entries : Option ℕ → (align at : ℕ) → Key → List Entry
  front_entries none align at k = header_entry (is_debug s) m align at k ∷ []
  front_entries (some cie) align at k = []

  unfoldable pub record_entry : Spot → Function → Entry
  record_entry x f = record { at = place_of s m x f; body = body_of s m x f }

  -- the header (where one is made) and the record of each function, in order
  unfoldable pub entries_of : (at : ℕ) → List Seen → List Function → List Entry
  entries_of at seen [] = []
  entries_of at seen (f ∷ fs) =
      let x : Spot = spot_of s m at seen f fs in
      front_entries x.earlier x.align x.start (key_of m f)
      ++ (record_entry x f ∷ entries_of (next_at s m at seen f fs) (next_seen s m at seen f fs) fs)

  -- ---- the fields

  -- those of one function: the two lengths, the distance back to the header, which is not 0, and the function's length
  pub record Holds (x : Spot) (f : Function) : Type 0 where
    pub header_length : x.earlier ≡ none → length (header_body (is_debug s) m x.align x.start (key_of m f)) < 2 ^ 32
    pub record_length : length (body_of s m x f) < 2 ^ 32
    pub behind : cie_of x < place_of s m x f
    pub distance : place_of s m x f + 4 - cie_of x < 2 ^ 32
    pub size : size_field f.size f.relaxed < 256 ^ size_bytes s m.word

  abbrev pub FieldsHold : (at : ℕ) → List Seen → List Function → Type 0
  FieldsHold at seen [] = Unit {0}
  FieldsHold at seen (f ∷ fs) = Holds (spot_of s m at seen f fs) f × FieldsHold (next_at s m at seen f fs) (next_seen s m at seen f fs) fs

  size_holds : (n : ℕ) (r : Option Relaxed) → n < 256 ^ size_bytes s m.word → size_field n r < 256 ^ size_bytes s m.word
  unfolding size_field
  size_holds n none h = h
  size_holds n (some r) h = omega arith

  front_length : (o : Option ℕ) (align at : ℕ) (k : Key) → o ≡ none → length (front_for s m o align at k) ≡ 4 + length (header_body (is_debug s) m align at k)
  unfolding front_for
  front_length none align at k e = rw header_entry_lem (entry_length (header_body (is_debug s) m align at k))
  front_length (some cie) align at k e = cc

  part_length : (x : Spot) (f : Function)
      → length (part_bytes s m x f) ≡ length (front_of s m x f) + 4 + length (body_of s m x f)
  unfolding part_bytes
  part_length x f = rw (length-append, record_entry_lem, entry_length) (omega arith)

  pub place_next : (x : Spot) (f : Function)
      → x.start + length (part_bytes s m x f) ≡ place_of s m x f + 4 + length (body_of s m x f)
  unfolding place_of
  place_next x f = omega (arith, part_length x f)

  -- a header of one's own, or one that stands before `at`
  front_behind : (o : Option ℕ) (align at : ℕ) (k : Key) → ((cie : ℕ) → o ≡ some cie → cie < at) → place_or o at < at + length (front_for s m o align at k)
  unfolding place_or
  front_behind none align at k h = omega (arith, front_length none align at k refl)
  front_behind (some cie) align at k h = omega (arith, h cie refl)

  function_holds : (x : Spot) (f : Function) → FunctionFits s m f → ((cie : ℕ) → x.earlier ≡ some cie → cie < x.start) → x.start + length (part_bytes s m x f) + 4 < 2 ^ 32 → Holds x f
  unfolding place_of cie_of front_of
  function_holds x f ok e h =
      let n = part_length x f in
      let b = front_behind x.earlier x.align x.start (key_of m f) e in
      record {
        header_length = λ e. omega (arith, front_length x.earlier x.align x.start (key_of m f) e);
        record_length = omega arith;
        behind = b;
        distance = omega arith;
        size = size_holds f.size f.relaxed ok.size_small;
      }

  fields_from : (at sites : ℕ) (seen : List Seen) (fs : List Function) → AllFit s m fs → Each (λ n. n.place < at) seen
      → at + length (bytes_of s m at sites seen fs) + 4 < 2 ^ 32
      → FieldsHold at seen fs
  unfolding spot_of next_at next_seen
  fields_from at sites seen [] ok before h = tt
  fields_from at sites seen (f ∷ fs) ok before h =
      let x : Spot = spot_of s m at seen f fs in
      let later : List ℕ = bytes_of s m (next_at s m at seen f fs) (next_sites sites f) (next_seen s m at seen f fs) fs in
      let n : at + length (part_bytes s m x f ++ later) + 4 < 2 ^ 32 = rw (bytes_more s m at sites seen f fs) at h in
      let l = length-append (part_bytes s m x f) later in
      let here : Holds x f = function_holds x f ok.0 (λ cie e. place_in_lem (λ k n. n < at) (key_of m f) cie seen e before) (omega arith) in (
        here,
        fields_from (next_at s m at seen f fs) (next_sites sites f) (next_seen s m at seen f fs) fs ok.1
            (each_join (λ n. n.place < next_at s m at seen f fs) seen _ (each_then _ _ seen (λ n b. omega arith) before) (omega (arith, here.behind, place_next x f), tt)) (omega arith),
      )

  pub fields_hold : (fs : List Function) → MachineFits m → AllFit s m fs → Bounded fs → FieldsHold 0 [] fs
  unfolding bytes_of
  fields_hold fs fit ok b = fields_from 0 0 [] fs ok tt (omega (arith, section_short s m fit 0 0 [] fs ok b))

  -- ---- tiling

  header_body_long : (align at : ℕ) (k : Key) → 4 ≤ length (header_body (is_debug s) m align at k)
  unfolding header_body
  header_body_long align at k = rw padded_behind (header_long (is_debug s) m k _)

  record_body_long : (align at cie : ℕ) (f : Function) → 4 ≤ length (record_body (is_debug s) m align at cie f)
  unfolding record_body
  record_body_long align at cie f = rw padded_behind (record_long (is_debug s) m.word (at + 4 - cie) f _)

  -- bytes from `at` on are entries, with fuel for each byte
  abbrev pub Tiles : ℕ → List ℕ → List Entry → Type 0
  Tiles at bs es = (fuel : ℕ) → length bs < fuel → entries_f fuel at bs ≡ some es

  pub tile : (at : ℕ) (body rest : List ℕ) (es : List Entry) → 4 ≤ length body → length body < 2 ^ 32 → Tiles (at + 4 + length body) rest es
      → Tiles at (entry body ++ rest) (record { at = at; body = body } ∷ es)
  unfolding entries_f entry little next after
  tile at body rest es l h t zero len = absurd (omega arith)
  tile at body rest es l h t (suc fuel) len =
      let n : length (entry body ++ rest) ≡ 4 + length body + length rest = rw (length-append, entry_length) in
      rw (entry_back body rest l h, t fuel (omega arith))

  pub ends : (at : ℕ) → Tiles at [] []
  unfolding entries_f
  ends at zero len = absurd (omega arith)
  ends at (suc fuel) len = refl

  front_tiles : (o : Option ℕ) (align at : ℕ) (k : Key) (rest : List ℕ) (es : List Entry)
      → (o ≡ none → length (header_body (is_debug s) m align at k) < 2 ^ 32)
      → Tiles (at + length (front_for s m o align at k)) rest es → Tiles at (front_for s m o align at k ++ rest) (front_entries o align at k ++ es)
  unfolding front_for front_entries header_entry
  front_tiles none align at k rest es h t =
      let body : List ℕ = header_body (is_debug s) m align at k in
      let there : at + length (header_bytes (is_debug s) m align at k) ≡ at + 4 + length body = rw (header_entry_lem, entry_length) (omega arith) in
      rw header_entry_lem (tile at body rest es (header_body_long align at k) (h refl) (rw there at t))
  front_tiles (some cie) align at k rest es h t = rw add-zero at t

  record_tiles : (x : Spot) (f : Function) (rest : List ℕ) (es : List Entry)
      → length (body_of s m x f) < 2 ^ 32
      → Tiles (x.start + length (part_bytes s m x f)) rest es
      → Tiles (place_of s m x f) (record_bytes (is_debug s) m x.align (place_of s m x f) (cie_of x) f ++ rest) (record_entry x f ∷ es)
  unfolding record_entry
  record_tiles x f rest es h t =
      let there : x.start + length (part_bytes s m x f) ≡ place_of s m x f + 4 + length (body_of s m x f) = place_next x f in
      rw record_entry_lem (tile (place_of s m x f) (body_of s m x f) rest es (record_body_long x.align (place_of s m x f) (cie_of x) f) h (rw there at t))

  part_tiles : (x : Spot) (f : Function) (rest : List ℕ) (es : List Entry) → Holds x f
      → Tiles (x.start + length (part_bytes s m x f)) rest es
      → Tiles x.start (part_bytes s m x f ++ rest) (front_entries x.earlier x.align x.start (key_of m f) ++ (record_entry x f ∷ es))
  unfolding part_bytes front_of place_of
  part_tiles x f rest es h t =
      rw append_assoc
      (front_tiles x.earlier x.align x.start (key_of m f) _ _ h.header_length (record_tiles x f rest es h.record_length t))

  tiles_from : (at sites : ℕ) (seen : List Seen) (fs : List Function) → FieldsHold at seen fs
      → Tiles at (bytes_of s m at sites seen fs) (entries_of at seen fs)
  unfolding entries_of spot_of next_at
  tiles_from at sites seen [] ok = rw (bytes_none s m at sites seen) (ends at)
  tiles_from at sites seen (f ∷ fs) ok =
      rw (bytes_more s m at sites seen f fs)
      (part_tiles (spot_of s m at seen f fs) f _ _ ok.0
      (tiles_from (next_at s m at seen f fs) (next_sites sites f) (next_seen s m at seen f fs) fs ok.1))

  pub section_tiles : (fs : List Function) → MachineFits m → AllFit s m fs → Bounded fs
      → entries (joined (map (λ p. p.bytes) (parts_from s m 0 0 [] fs))) ≡ some (entries_of 0 [] fs)
  unfolding entries bytes_of
  section_tiles fs fit ok b = tiles_from 0 0 [] fs (fields_hold fs fit ok b) _ (le_refl _)

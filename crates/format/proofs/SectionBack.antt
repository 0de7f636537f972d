-- Reading a section that was written gives what the rows say.
use mathlib.Core.Path.{◌≡◌, refl}
use Prim.Native.Nat.{ℕ, zero, suc, ◌+◌, ◌-◌, ◌^◌, ◌≤◌, ◌<◌}
use native.Mathlib.Omega.{arith}
use mathlib.Core.Bool.{Bool, true, false, not}
use mathlib.Core.Option.{Option, none, some}
use mathlib.Core.List.{List, [], ◌∷◌, ◌++◌, map}
use lib.ListN.{length, replicate, get_elem?}
use lib.Dec.{T}
use Rattle.format.specs.Prelude.{pick, after, Result, good, onward, or_else, bad}
use Rattle.format.specs.declared.Machine.{Machine}
use Rattle.format.specs.Rows.{rows_bytes, stepped_bytes}
use Rattle.format.specs.Lists.{Function, Relaxed, Relocation}
use Rattle.format.specs.Headers.{key_of, kind_for, leading, others, padding, header_fields}
use Rattle.format.specs.Records.{size_field, record_fields}
use Rattle.format.specs.Rules.{blank}
use Rattle.format.specs.Reader.{Entry, distance_back, first_addend, header_place, Found, parsed, locate, run_to, read_section, shortest_to, shortest_of}
use Rattle.format.proofs.RowsRun.{run_rows}
use Rattle.format.specs.Questions.{size_bytes}
use Rattle.format.specs.declared.Section.{Section}
use Rattle.format.specs.declared.Section.TheVariants.{Elf, Debug}
use Rattle.format.specs.Writer.{is_debug, parts_from, joined}
use Rattle.format.proofs.Choice.{if-le}
use Rattle.format.proofs.EntryBack.{padded_behind}
use Rattle.format.proofs.FieldsBack.{word_small}
use Rattle.format.proofs.HeaderBack.{pointer_in, header_back}
use Rattle.format.proofs.RecordBack.{record_back, pointer_within, blank_small}
use Rattle.format.proofs.WalkBack.{rows_at_back, rows_back}
use Rattle.format.proofs.ShortBack.{rows_shortest, stepped_shortest, header_shortest, record_shortest}
use Rattle.format.proofs.Fits.{MachineFits, FunctionFits, AllFit, Bounded}
use Rattle.format.proofs.Leading.{others_ok, leading_ok}
use Rattle.format.proofs.Parts.{header_body, record_body, Spot, cie_of, place_of}
use Rattle.format.proofs.SectionSize.{header_ok}
use Rattle.format.proofs.SectionTiles.{header_entry, record_entry, Holds, section_tiles}
use Rattle.format.proofs.SectionFinds.{spot_at, record_missing, record_holds, record_found, header_found, header_by_distance, header_by_relocation}
use Rattle.format.proofs.Onward.{onward_ext}

size_bytes_lem : (s : Section) (word : ℕ) → pick (is_debug s) word 4 ≡ size_bytes s word
unfolding is_debug size_bytes pick
size_bytes_lem Elf word = refl
size_bytes_lem Debug word = refl

-- without relaxing labels the length field is the function's length
pub size_said : (n : ℕ) (r : Option Relaxed) → r ≡ none → size_field n r ≡ n
unfolding size_field
size_said n none e = refl
size_said n (some r) e = cc

place_found : (debug : Bool) (rs : List Relocation) (e : Entry) (place : ℕ) → (T debug → first_addend (e.at + 4) rs ≡ some place)
    → (T (not debug) → distance_back e ≡ some place) → header_place debug rs e ≡ some place
unfolding header_place
place_found true rs e place a b = a tt
place_found false rs e place a b = b tt

pub fits_at : (s : Section) (m : Machine) (fs : List Function) (k : ℕ) (f : Function) → AllFit s m fs → get_elem? fs k ≡ some f → FunctionFits s m f
fits_at s m [] k f ok e = let z : ◌≡◌ {A = ℕ} 0 1 = cc in absurd (omega arith)
fits_at s m (g ∷ fs) zero f ok e = let g≡ : g ≡ f = cc in rw (← g≡) ok.0
fits_at s m (g ∷ fs) (suc k) f ok e = fits_at s m fs k f ok.1 e

module _ (s : Section) (m : Machine) (fit : MachineFits m) (f : Function) (ok : FunctionFits s m f) where
  -- what is parsed of the function's header and record, with a and b zeros behind their operations
  what_found : (a b : ℕ) → Found
  what_found a b =
      record {
        header =
            record {
              pointer = pointer_in (is_debug s) m.word (key_of m f).kind;
              signal = f.signal;
              operations = rows_bytes m.word (leading m f) ++ replicate a 0;
            };
        found = record { size = size_field f.size f.relaxed; operations = stepped_bytes m.word 0 (others f.rows) ++ replicate b 0 };
        shortest = true;
      }

  parsed_back : (align at : ℕ) (x : Spot) → Holds s m x f
      → (a b : ℕ) × (parsed (is_debug s) m.word (header_entry (is_debug s) m align at (key_of m f)) (record_entry s m x f) ≡ good (what_found a b))
  unfolding parsed onward or_else header_entry header_body record_entry record_body what_found key_of
  parsed_back align at x h =
      let w : (0 < m.word) × (m.word ≤ 8) = word_small m.word fit.is_word in
      let d : ℕ = place_of s m x f + 4 - cie_of x in
      let rows : List ℕ = rows_bytes m.word (leading m f) in
      let lines : List ℕ = stepped_bytes m.word 0 (others f.rows) in
      let hs : size_field f.size f.relaxed < 256 ^ pick (is_debug s) m.word 4 = rw size_bytes_lem h.size in (
        padding align (at + 4 + length (header_fields (is_debug s) m (key_of m f) ++ rows)),
        padding x.align (place_of s m x f + 4 + length (record_fields (is_debug s) m.word d f ++ lines)),
        rw (
          padded_behind align at,
          header_back (is_debug s) m (key_of m f) _ (header_ok s m fit f ok),
          header_shortest (is_debug s) m (key_of m f) _ (header_ok s m fit f ok),
          padded_behind,
          record_back (is_debug s) m.word d (pointer_in (is_debug s) m.word (kind_for f.landings f.named)) f _ h.distance hs
              (pointer_within (is_debug s) m.word f.landings f.named) (omega (arith, blank_small m.word f.landings f.named w.1)),
          record_shortest (is_debug s) m.word d f _ (omega (arith, blank_small m.word f.landings f.named w.1)),
        ),
      )

  run_to_back : (a b p : ℕ) → f.relaxed ≡ none → p < f.size → run_to m.word p (what_found a b) ≡ run_rows m f p
  unfolding run_to what_found run_rows
  run_to_back a b p r h =
      let l : p < size_field f.size f.relaxed = rw (size_said f.size f.relaxed r) h in
      rw (if-le (suc p) (size_field f.size f.relaxed), rows_back m.word p blank.current.rules (leading m f) a blank (leading_ok m f fit ok.lines))
      (onward_ext _ _ _ λ t. rows_at_back m.word p t.current.rules (others f.rows) b t (others_ok m.word f.rows ok.lines))

  -- at every p
  shortest_to_back : (a b p : ℕ) → shortest_to m.word p (what_found a b) ≡ true
  unfolding shortest_to what_found
  shortest_to_back a b p =
      rw (
        rows_shortest m.word p (leading m f) a (leading_ok m f fit ok.lines),
        stepped_shortest m.word p (others f.rows) b (others_ok m.word f.rows ok.lines),
      )

-- what is located of a function's record: its header's signal mark is the function's, the run of its operations is that of the rows, and its numbers are spelled shortest
pub record LocatedBack (m : Machine) (f : Function) (r : Result Found) : Type 0 where
  pub found : Found
  pub located : r ≡ good found
  pub signal : found.header.signal ≡ f.signal
  pub runs : (p : ℕ) → f.relaxed ≡ none → p < f.size → run_to m.word p found ≡ run_rows m f p
  pub shortest : (p : ℕ) → shortest_to m.word p found ≡ true

-- For the functions that a section takes, relaxed or not, whatever the other functions hold.
module _ (s : Section) (m : Machine) (fs : List Function) (fit : MachineFits m) (ok : AllFit s m fs) (bound : Bounded fs) (k : ℕ) (f : Function) (at_k : get_elem? fs k ≡ some f) where
  -- The record of every function is located.
  pub section_located : LocatedBack m f
      (locate (is_debug s) (joined (map (λ a. a.relocations) (parts_from s m 0 0 [] fs))) m.word k (joined (map (λ a. a.bytes) (parts_from s m 0 0 [] fs))))
  unfolding locate onward or_else after record_entry what_found
  section_located =
      let x : Spot = spot_at s m 0 [] fs k in
      let h : Holds s m x f = record_holds s m fs fit ok bound k f at_k in
      let head = header_found s m fs fit ok bound k f at_k in
      let fits = fits_at s m fs k f ok at_k in
      let fields = parsed_back s m fit f fits head.0 (cie_of x) x h in
      record {
        found = what_found s m fit f fits fields.0 fields.1;
        located =
            rw (
              section_tiles s m fs fit ok bound,
              record_found s m fs fit ok bound k f at_k,
              place_found (is_debug s) _ (record_entry s m x f) (cie_of x) (header_by_relocation s m fs fit ok bound k f at_k) (header_by_distance s m fs fit ok bound k f at_k),
              head.1,
            )
            fields.2;
        signal = refl;
        runs = λ p relaxed below. run_to_back s m fit f fits fields.0 fields.1 p relaxed below;
        shortest = λ p. shortest_to_back s m fit f fits fields.0 fields.1 p;
      }

  -- Where the function that is asked about has no relaxing labels, and for a p below its length, reading what was written is running the rows.
  pub section_read : (p : ℕ) → f.relaxed ≡ none → p < f.size
      → read_section (is_debug s) (joined (map (λ a. a.relocations) (parts_from s m 0 0 [] fs))) m.word k p (joined (map (λ a. a.bytes) (parts_from s m 0 0 [] fs)))
      ≡ run_rows m f p
  unfolding read_section onward
  section_read p relaxed below = rw section_located.located (section_located.runs p relaxed below)

  -- Every number that is read is spelled shortest, at every p.
  pub section_shortest : (p : ℕ)
      → shortest_of m.word p (locate (is_debug s) (joined (map (λ a. a.relocations) (parts_from s m 0 0 [] fs))) m.word k (joined (map (λ a. a.bytes) (parts_from s m 0 0 [] fs))))
      ≡ true
  unfolding shortest_of
  section_shortest p = rw section_located.located (section_located.shortest p)

-- Past the functions no record is found.
pub section_past : (s : Section) (m : Machine) (fs : List Function) → MachineFits m → AllFit s m fs → Bounded fs → (k p : ℕ) → get_elem? fs k ≡ none
    → read_section (is_debug s) (joined (map (λ a. a.relocations) (parts_from s m 0 0 [] fs))) m.word k p (joined (map (λ a. a.bytes) (parts_from s m 0 0 [] fs)))
    ≡ bad 62
unfolding read_section locate onward or_else
section_past s m fs fit ok bound k p past = rw (section_tiles s m fs fit ok bound, record_missing s m fs fit ok bound k past)

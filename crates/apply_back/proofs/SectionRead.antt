-- A section put in place, read: the rules of the leading rows and then of the other rows moved.
use mathlib.Core.Path.{◌≡◌, refl, sym, ap, ◌∙◌}
use mathlib.Core.Bool.{Bool, true, false}
use mathlib.Core.Option.{Option, none, some}
use mathlib.Core.List.{List, [], ◌∷◌, ◌++◌}
use Prim.Native.Nat.{ℕ, zero, suc, ◌+◌, ◌-◌, ◌^◌, ◌<◌, ◌≤◌}
use native.Mathlib.Omega.{arith}
use lib.Dec.{T_not}
use lib.ListN.{length, get_elem?, replicate}
use Rattle.format.specs.Prelude.{after, Result, onward, or_else}
use Rattle.format.specs.declared.Machine.{Machine}
use Rattle.format.specs.declared.Section.TheVariants.{Elf}
use Rattle.format.specs.Lists.{Function, Relocation}
use Rattle.format.specs.Rows.{rows_bytes, stepped_bytes}
use Rattle.format.specs.Headers.{Key, key_of, kind_for, leading, others, padding, header_fields}
use Rattle.format.specs.Records.{record_fields}
use Rattle.format.specs.CallSites.{site_pad}
use Rattle.format.specs.Writer.{is_debug, Seen}
use Rattle.format.specs.Rules.{State, blank}
use Rattle.format.specs.Reader.{Entry, second, is_header, records, distance_back, header_place, parsed, locate, run_to, read_section, parse_header, parse_record}
use Rattle.format.proofs.Choice.{pick_yes, pick_no, if-le}
use Rattle.format.proofs.EntryBack.{padded_behind}
use Rattle.format.proofs.FieldsBack.{word_small}
use Rattle.format.proofs.HeaderBack.{HeaderOk, pointer_in, header_back}
use Rattle.format.proofs.RecordBack.{pointer_within, blank_small}
use Rattle.format.proofs.RowsRun.{act_all, while}
use Rattle.format.proofs.WalkBack.{rows_back}
use Rattle.format.proofs.Fits.{MachineFits, FunctionFits, AllFit, Bounded}
use Rattle.format.proofs.Leading.{leading_ok}
use Rattle.format.proofs.Parts.{header_body, Spot, cie_of, spot_of, place_of, next_at, next_sites, next_seen}
use Rattle.format.proofs.SectionTiles.{header_entry, front_entries, record_entry, entries_of, Holds, FieldsHold, fields_hold}
use Rattle.format.proofs.SectionFinds.{header_entry_is, record_entry_is, spot_at, record_holds, header_found, header_by_distance}
use Rattle.format.proofs.Onward.{onward_ext}
use Rattle.apply.specs.Values.{Layout}
use Rattle.apply_back.specs.Moved.{new_length, moved_rows, pairs_of}
use Rattle.apply_back.proofs.StepsBack.{stepped_with, StepsHold, moved_back}
use Rattle.apply_back.proofs.RecordPlaced.{place_filled, pointer_filled, placed_body, body_is, record_length, fields_read, fields_second}
use Rattle.apply_back.proofs.HeaderPlaced.{same_length, same_second, same_fields}
use Rattle.apply_back.proofs.SectionPlaced.{flat, header_fits, front_placed, record_placed, placed_entries}
use Rattle.apply_back.proofs.Alike.{Alike, AllAlike, all_alike_join, header_same, header_alike, distance_same, chain_alike, chain_entries, written_chain}

module _ (l : Layout) (size : ℕ) (m : Machine) (fit : MachineFits m) where
  abbrev word : ℕ
  word = m.word

  -- ---- the entries put in place are like those that were written

  front_alike : (o : Option ℕ) (align at : ℕ) (k : Key) (ok : HeaderOk false m k)
      → AllAlike word (front_entries Elf m o align at k) (front_placed l size m fit o align at k ok)
  unfolding is_debug front_entries front_placed header_entry
  front_alike none align at k ok = (
    record {
      same_place = refl;
      same_length = same_length l size m align at k ok;
      same_second = same_second l size m align at k ok;
      same_header = λ t. same_fields l size m align at k ok;
    },
    tt,
  )
  front_alike (some cie) align at k ok = tt

  record_alike : (x : Spot) (sites : ℕ) (f : Function) (ok : FunctionFits Elf m f) → Holds Elf m x f → Alike word (record_entry Elf m x f) (record_placed l size m fit x sites f ok)
  unfolding is_debug record_entry record_placed placed_body
  record_alike x sites f ok h =
      let at : ℕ = place_of Elf m x f in
      let table : ℕ = sites + site_pad sites in
      record {
        same_place = refl;
        same_length = record_length l size m fit x.align at (cie_of x) table f ok;
        same_second =
            fields_second (at + 4 - cie_of x) _ _ _ _ h.distance
            ∙ sym (ap second (body_is l size m fit x.align at (cie_of x) table f ok) ∙ fields_second (at + 4 - cie_of x) _ _ _ _ h.distance);
        same_header = λ t. absurd (T_not (is_header false (record_entry Elf m x f)) (record_entry_is Elf m x f h) t);
      }

  pub placed_alike : (at sites : ℕ) (seen : List Seen) (fs : List Function) (ok : AllFit Elf m fs) → FieldsHold Elf m at seen fs
      → AllAlike word (entries_of Elf m at seen fs) (placed_entries l size m fit at sites seen fs ok)
  unfolding entries_of placed_entries
  placed_alike at sites seen [] ok h = tt
  placed_alike at sites seen (f ∷ fs) ok h =
      let x : Spot = spot_of Elf m at seen f fs in
      all_alike_join word (front_entries Elf m x.earlier x.align x.start (key_of m f)) _ _ _
      (front_alike x.earlier x.align x.start (key_of m f) (header_fits l size m fit f ok.0))
      (record_alike x sites f ok.0 h.0, placed_alike (next_at Elf m at seen f fs) (next_sites sites f) (next_seen Elf m at seen f fs) fs ok.1 h.1)

  -- ---- record k is function k's

  front_skipped : (o : Option ℕ) (align at : ℕ) (k : Key) (ok : HeaderOk false m k) (es : List Entry)
      → records false (front_placed l size m fit o align at k ok ++ es) ≡ records false es
  unfolding is_debug front_placed front_entries records
  front_skipped none align at k ok es =
      let a = front_alike none align at k ok in
      pick_yes _ _ _ (rw (header_same word _ _ a.0) (header_entry_is false m align at k))
  front_skipped (some cie) align at k ok es = refl

  record_kept : (x : Spot) (sites : ℕ) (f : Function) (ok : FunctionFits Elf m f) (es : List Entry) → Holds Elf m x f
      → records false (record_placed l size m fit x sites f ok ∷ es) ≡ record_placed l size m fit x sites f ok ∷ records false es
  unfolding is_debug records
  record_kept x sites f ok es h =
      pick_no _ _ _ (rw (header_same word (record_entry Elf m x f) (record_placed l size m fit x sites f ok) (record_alike x sites f ok h)) (record_entry_is Elf m x f h))

  found_placed : (at sites : ℕ) (seen : List Seen) (fs : List Function) (ok : AllFit Elf m fs) (k : ℕ) (f : Function) → FieldsHold Elf m at seen fs
      → get_elem? fs k ≡ some f
      → (n : ℕ) × ((o : FunctionFits Elf m f) × (get_elem? (records false (placed_entries l size m fit at sites seen fs ok)) k ≡ some (record_placed l size m fit (spot_at Elf m at seen fs k) n f o)))
  unfolding spot_at placed_entries
  found_placed at sites seen [] ok k f h e = let z : ◌≡◌ {A = ℕ} 0 1 = cc in absurd (omega arith)
  found_placed at sites seen (g ∷ fs) ok zero f h e =
      let e' : g ≡ f = cc in
      rw (← e')
      (sites, (ok.0, rw (front_skipped, record_kept (spot_of Elf m at seen g fs) sites g ok.0 _ h.0)))
  found_placed at sites seen (g ∷ fs) ok (suc k) f h e =
      rw (front_skipped, record_kept (spot_of Elf m at seen g fs) sites g ok.0 _ h.0)
      (found_placed (next_at Elf m at seen g fs) (next_sites sites g) (next_seen Elf m at seen g fs) fs ok.1 k f h.1 e)

  -- ---- the run

  -- the leading rows from the blank state, then the others moved while their offset is at most p
  unfoldable pub run_moved : Function → (p : ℕ) → Result State
  run_moved f p =
      onward (act_all true blank.current.rules (leading m f) blank) λ s. act_all false s.current.rules (while p (moved_rows l.symbols f)) s

  run_back : (f : Function) (ok : FunctionFits Elf m f) (p a b pointer : ℕ) (signal shortest : Bool) → p < new_length l.symbols f
      → StepsHold word l.symbols (pairs_of f.relaxed) 0 (others f.rows)
      → run_to word p (record {
        header = record { pointer = pointer; signal = signal; operations = rows_bytes word (leading m f) ++ replicate a 0 };
        found = record { size = new_length l.symbols f; operations = stepped_with word l.symbols (pairs_of f.relaxed) 0 (others f.rows) ++ replicate b 0 };
        shortest = shortest;
      }) ≡ run_moved f p
  unfolding run_to run_moved moved_rows
  run_back f ok p a b pointer signal shortest h steps =
      rw (if-le (suc p) (new_length l.symbols f), rows_back word p blank.current.rules (leading m f) a blank (leading_ok m f fit ok.lines))
      (onward_ext _ _ _ λ t. moved_back word p t.current.rules l.symbols (pairs_of f.relaxed) (others f.rows) b t steps)

  -- ---- the whole

  record_read : (x : Spot) (sites : ℕ) (f : Function) (ok : FunctionFits Elf m f) → Holds Elf m x f → new_length l.symbols f < 2 ^ 32
      → (b : ℕ) × (parse_record false word (pointer_in false word (kind_for f.landings f.named)) (record_placed l size m fit x sites f ok).body
      ≡ some (record { size = new_length l.symbols f; operations = stepped_with word l.symbols (pairs_of f.relaxed) 0 (others f.rows) ++ replicate b 0 }))
  unfolding record_placed placed_body
  record_read x sites f ok h small =
      let at : ℕ = place_of Elf m x f in
      let table : ℕ = sites + site_pad sites in
      let place = place_filled l size m fit x.align at (cie_of x) table f ok in
      let pointer = pointer_filled l size m fit x.align at (cie_of x) table f ok in
      let w : (0 < word) × (word ≤ 8) = word_small word fit.is_word in (
        padding x.align (at + 4 + length (record_fields false word (at + 4 - cie_of x) f ++ stepped_bytes word 0 (others f.rows))),
        fields_read word (pointer_in false word (kind_for f.landings f.named)) (at + 4 - cie_of x) (new_length l.symbols f) place.0 pointer.0 _ place.1.0 h.distance small
            (omega (arith, pointer.1.0, pointer_within false word f.landings f.named))
            (omega (arith, pointer.1.0, blank_small word f.landings f.named w.1)),
      )

  header_read : (align at : ℕ) (f : Function) → FunctionFits Elf m f
      → (a : ℕ) × (parse_header false word (header_entry false m align at (key_of m f)).body
      ≡ some (record { pointer = pointer_in false word (kind_for f.landings f.named); signal = f.signal; operations = rows_bytes word (leading m f) ++ replicate a 0 }))
  unfolding header_entry header_body key_of
  header_read align at f ok = (
    padding align (at + 4 + length (header_fields false m (key_of m f) ++ rows_bytes word (leading m f))),
    rw (padded_behind align at) (header_back false m (key_of m f) _ (header_fits l size m fit f ok)),
  )

  -- For the functions of a section that is put in place, and a p below a function's new length.
  pub section_moved : (fs : List Function) (ok : AllFit Elf m fs) (bound : Bounded fs) (rs : List Relocation) (k p : ℕ) (f : Function) → get_elem? fs k ≡ some f
      → p < new_length l.symbols f → new_length l.symbols f < 2 ^ 32 → StepsHold word l.symbols (pairs_of f.relaxed) 0 (others f.rows)
      → read_section false rs word k p (flat (placed_entries l size m fit 0 0 [] fs ok)) ≡ run_moved f p
  unfolding read_section locate parsed onward or_else after header_place is_debug record_placed
  section_moved fs ok bound rs k p f at_k below small steps =
      let x : Spot = spot_at Elf m 0 [] fs k in
      let hold = fields_hold Elf m fs fit ok bound in
      let h : Holds Elf m x f = record_holds Elf m fs fit ok bound k f at_k in
      let es : List Entry = entries_of Elf m 0 [] fs in
      let ds : List Entry = placed_entries l size m fit 0 0 [] fs ok in
      let alike : AllAlike word es ds = placed_alike 0 0 [] fs ok hold in
      let found = found_placed 0 0 [] fs ok k f hold at_k in
      let own : Entry = record_placed l size m fit x found.0 f found.1.0 in
      let same : Alike word (record_entry Elf m x f) own = record_alike x found.0 f found.1.0 h in
      let head = header_found Elf m fs fit ok bound k f at_k in
      let there = header_alike word (cie_of x) (place_of Elf m x f) es ds (header_entry false m head.0 (cie_of x) (key_of m f)) alike head.1 in
      let back : distance_back own ≡ some (cie_of x) = distance_same word (record_entry Elf m x f) own same ∙ header_by_distance Elf m fs fit ok bound k f at_k tt in
      let written = header_read head.0 (cie_of x) f found.1.0 in
      let fields = there.1.1.same_header (header_entry_is false m head.0 (cie_of x) (key_of m f)) ∙ written.1 in
      let read = record_read x found.0 f found.1.0 h small in
      rw (
        chain_entries word Elf m ds (chain_alike word 0 es ds alike (written_chain word Elf m 0 [] fs hold)),
        found.1.1,
        back,
        there.1.0,
        fields,
        read.1,
      )
      (run_back f found.1.0 p written.0 read.0 (pointer_in false word (kind_for f.landings f.named)) f.signal _ below steps)

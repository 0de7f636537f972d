-- Law `moved_back` (request W-211): an eh_frame section that was written and put in place is read as its rows moved.
use mathlib.Core.Path.{◌≡◌, refl, sym, ap, subst, ◌∙◌}
use mathlib.Core.Bool.{Bool, true, false, not, ◌&&◌}
use mathlib.Core.Option.{none, some}
use mathlib.Core.List.{List, [], ◌∷◌, ◌++◌, append_assoc, append-nil, map}
use Prim.Native.Nat.{ℕ, zero, suc, ◌+◌, ◌-◌, ◌^◌, ◌<◌}
use native.Mathlib.Omega.{arith}
use lib.Dec.{T, leb, ltb}
use lib.ListN.{length, get_elem?}
use mir.Facts.{yes_and, T_not-not}
use Rattle.format.specs.Prelude.{pick, Result, good, bad, all}
use Rattle.format.specs.declared.Machine.{Machine}
use Rattle.format.specs.declared.Row.{Row}
use Rattle.format.specs.declared.Section.TheVariants.{Elf}
use Rattle.format.specs.Machine.{machine_of, is_word_size}
use Rattle.format.specs.Rows.{RowAt}
use Rattle.format.specs.Lists.{Function, Relocation, Pair, function_stride, count, numbers_of, relocations_of}
use Rattle.format.specs.Headers.{key_of, leading, others, reloc}
use Rattle.format.specs.Records.{lsda_reloc, sum_pair, record_fields, row_relocs, record_relocs}
use Rattle.format.specs.CallSites.{site_pad}
use Rattle.format.specs.Questions.{size_bytes, Room, accepted, Given, given_functions, given_function}
use Rattle.format.specs.RowCheck.{rows_of, row_check, row_check_at}
use Rattle.format.specs.Rules.{up_to, entry_state, answer, seen}
use Rattle.format.specs.Reader.{read_section, read}
use Rattle.format.specs.Writer.{is_debug, taken, Written, Seen, dwarf, parts_of}
use Rattle.format.proofs.Choice.{pick_yes, if-le, if-gt, either}
use Rattle.format.proofs.ListLaws.{relocations_back}
use Rattle.format.proofs.Accepted.{dwarf_written, Accepted, accepted_is, taken_at, check_at}
use Rattle.format.proofs.RowsRun.{while}
use Rattle.format.proofs.RulesSeen.{allowed, ran_yes, whole}
use Rattle.format.proofs.CheckSays.{cut, any, says_yes}
use Rattle.format.proofs.Fits.{MachineFits, FunctionFits, AllFit}
use Rattle.format.proofs.Leading.{others_ok}
use Rattle.format.proofs.Parts.{Spot, cie_of, spot_of, relocs_for, place_of, part_relocs, bytes_of, relocs_of, next_at, next_sites, next_seen, relocs_more}
use Rattle.apply.specs.Values.{Layout, layout_of, symbols_of}
use Rattle.apply.specs.Apply.{everywhere, sound, near, stores, apply}
use Rattle.apply_back.specs.Moved.{new_length, pairs_of, new_step, moved_from, moved_rows, moved_rules}
use Rattle.apply_back.proofs.StepsBack.{StepsHold}
use Rattle.apply_back.proofs.Fills.{Passes, passes_behind}
use Rattle.apply_back.proofs.Pairs.{rows_hold, size_small}
use Rattle.apply_back.proofs.SectionPlaced.{flat, placed_entries, section_fills}
use Rattle.apply_back.proofs.SectionRead.{run_moved, section_moved}

-- ---- moved rows: the same rows, in order

moved_same : (ss : List (ℕ × ℕ)) (ps : List Pair) (from at : ℕ) (xs : List RowAt) → rows_of (moved_from ss ps from at xs) ≡ rows_of xs
unfolding moved_from rows_of
moved_same ss ps from at [] = refl
moved_same ss ps from at (x ∷ xs) =
    ap (λ (rs : List Row). x.1 ∷ rs) (moved_same ss ps x.0 (at + new_step ss ps from x.0) xs)

moved_later : (p : ℕ) (ss : List (ℕ × ℕ)) (ps : List Pair) (from at : ℕ) (xs : List RowAt) → p < at → up_to p (moved_from ss ps from at xs) ≡ []
unfolding moved_from up_to
moved_later p ss ps from at [] h = refl
moved_later p ss ps from at (x ∷ xs) h =
    let there : ℕ = at + new_step ss ps from x.0 in
    let l : p < there = omega arith in
    rw (if-gt there p) (moved_later p ss ps x.0 there xs l)

moved_up_to : (p : ℕ) (ss : List (ℕ × ℕ)) (ps : List Pair) (from at : ℕ) (xs : List RowAt)
    → while p (moved_from ss ps from at xs) ≡ up_to p (moved_from ss ps from at xs)
unfolding moved_from while up_to
moved_up_to p ss ps from at [] = refl
moved_up_to p ss ps from at (x ∷ xs) =
    let there : ℕ = at + new_step ss ps from x.0 in
    either there p
    (λ l. rw (if-le there p, if-le there p, moved_up_to p ss ps x.0 there xs))
    (λ g. rw (if-gt there p, if-gt there p, moved_later p ss ps x.0 there xs g))

-- where the row check says yes, the run of the moved rows gives their rules
rules_moved : (l : Layout) (size : ℕ) (m : Machine) (fit : MachineFits m) (f : Function) (p : ℕ) → T (row_check f.simple f.rows)
    → run_moved l size m fit f p ≡ good (moved_rules m l.symbols f p)
unfolding run_moved moved_rules moved_rows entry_state
rules_moved l size m fit f p t =
    let moved : List RowAt = moved_from l.symbols (pairs_of f.relaxed) 0 0 (others f.rows) in
    let rs : List Row = while p moved in
    let h = says_yes m f t in
    let c = cut p moved in
    let same : rows_of (others f.rows) ≡ rs ++ c.0 = sym (moved_same l.symbols (pairs_of f.relaxed) 0 0 (others f.rows)) ∙ c.1 in
    rw (ran_yes (whole (leading m f) rs c.0) (yes_and (all (allowed true) (leading m f)) (all (allowed false) rs) h.0 (any rs)) (rw same at h.1))
    (rw (moved_up_to p l.symbols (pairs_of f.relaxed) 0 0 (others f.rows)))

-- ---- what an accepted list of relocations says of a function: its new length and its steps lie in their fields

pub record Known (l : Layout) (m : Machine) (f : Function) : Type 0 where
  pub length_small : new_length l.symbols f < 2 ^ 32
  pub steps : StepsHold m.word l.symbols (pairs_of f.relaxed) 0 (others f.rows)

module _ (l : Layout) (size : ℕ) (m : Machine) where
  record_known : (at cie table : ℕ) (f : Function) (ss : List Relocation) → FunctionFits Elf m f
      → Passes l size (record_relocs false m at cie table f ++ ss) → Known l m f
  unfolding record_relocs new_length size_bytes pick
  record_known at cie table f ss ok p =
      let word : ℕ = m.word in
      let ops : ℕ = at + 4 + length (record_fields false word (at + 4 - cie) f) in
      let front : List Relocation = reloc (at + 8) f.symbol 0 4 0 ∷ lsda_reloc word (at + 17) table f.landings f.named in
      let sum : List Relocation = sum_pair (at + 12) 4 f f.relaxed in
      let rows : List Relocation = row_relocs word ops (others f.rows) f.relaxed in
      let shape : ((front ++ sum) ++ rows) ++ ss ≡ front ++ (sum ++ (rows ++ ss)) = simp append_assoc in
      let p₁ : Passes l size (sum ++ (rows ++ ss)) = passes_behind front (sum ++ (rows ++ ss)) (rw shape at p) in
      let p₂ : Passes l size (rows ++ ss) = passes_behind sum (rows ++ ss) p₁ in
      let short : f.size < 2 ^ 32 = ok.size_small in
      record {
        length_small = size_small l size (at + 12) f f.relaxed (rows ++ ss) short p₁;
        steps = rows_hold l size word ops (others f.rows) (others_ok word f.rows ok.lines) f.relaxed ss ok.apart p₂;
      }

  known_at : (at sites : ℕ) (seen : List Seen) (fs : List Function) (k : ℕ) (f : Function) (ss : List Relocation) → AllFit Elf m fs → get_elem? fs k ≡ some f
      → Passes l size (relocs_of Elf m at sites seen fs ++ ss) → Known l m f
  unfolding is_debug part_relocs
  known_at at sites seen [] k f ss ok e p = let z : ◌≡◌ {A = ℕ} 0 1 = cc in absurd (omega arith)
  known_at at sites seen (g ∷ fs) zero f ss ok e p =
      let x : Spot = spot_of Elf m at seen g fs in
      let front : List Relocation = relocs_for Elf m x.earlier x.start (key_of m g) in
      let own : List Relocation = record_relocs false m (place_of Elf m x g) (cie_of x) (sites + site_pad sites) g in
      let later : List Relocation = relocs_of Elf m (next_at Elf m at seen g fs) (next_sites sites g) (next_seen Elf m at seen g fs) fs in
      let shape : relocs_of Elf m at sites seen (g ∷ fs) ++ ss ≡ front ++ (own ++ (later ++ ss)) =
      ap (λ (rs : List Relocation). rs ++ ss) (relocs_more Elf m at sites seen g fs) ∙ simp append_assoc in
      let g≡ : g ≡ f = cc in
      rw g≡ at (record_known (place_of Elf m x g) (cie_of x) (sites + site_pad sites) g (later ++ ss) ok.0 (passes_behind front (own ++ (later ++ ss)) (rw shape at p)))
  known_at at sites seen (g ∷ fs) (suc k) f ss ok e p =
      let x : Spot = spot_of Elf m at seen g fs in
      let own : List Relocation = part_relocs Elf m x sites g in
      let later : List Relocation = relocs_of Elf m (next_at Elf m at seen g fs) (next_sites sites g) (next_seen Elf m at seen g fs) fs in
      let shape : relocs_of Elf m at sites seen (g ∷ fs) ++ ss ≡ own ++ (later ++ ss) =
      ap (λ (rs : List Relocation). rs ++ ss) (relocs_more Elf m at sites seen g fs) ∙ append_assoc own later ss in
      known_at (next_at Elf m at seen g fs) (next_sites sites g) (next_seen Elf m at seen g fs) fs k f ss ok.1 e
      (passes_behind own (later ++ ss) (rw shape at p))

-- ---- what an accepted call of `apply` gives

picked : (b : Bool) (n : ℕ) (x : Result (List ℕ)) (bs : List ℕ) → pick b (bad n) x ≡ good bs → T (not b) × (x ≡ good bs)
unfolding pick
picked true n x bs e = let z : ◌≡◌ {A = ℕ} 0 1 = cc in absurd (omega arith)
picked false n x bs e = (tt, e)

applied : (bytes relocations addresses : List ℕ) (section image room : ℕ) (bs : List ℕ) → apply bytes relocations addresses section image room ≡ good bs
    → let l : Layout = layout_of addresses section image in
    Passes l (length bytes) (relocations_of relocations) × (bs ≡ stores l bytes (relocations_of relocations))
unfolding apply
applied bytes relocations addresses section image room bs e =
    let l : Layout = layout_of addresses section image in
    let rs : List Relocation = relocations_of relocations in
    let a = picked (ltb room (length bytes)) 52 _ bs e in
    let b = picked (not (everywhere (sound l (length bytes)) none rs)) 79 _ bs a.1 in
    let c = picked (not (everywhere (near l.symbols) none rs)) 80 _ bs b.1 in
    let same : good (stores l bytes rs) ≡ good bs = c.1 in
    let same' : stores l bytes rs ≡ bs = cc in
    (record { before = none; sound_ones = T_not-not (everywhere (sound l (length bytes)) none rs) b.0; near_ones = T_not-not (everywhere (near l.symbols) none rs) c.0 }, sym same')

-- For every list that is accepted as eh_frame and put in place, whatever the addresses: for every function that passes the row check, with
-- relaxing labels or without, at every offset below its new length and for every register, the reader gives the rules of the leading rows
-- and then of the other rows moved. It does not look at the relocations any more.
pub moved_back : (g : Given) (r : Room) (w : Written) → dwarf_written Elf g r ≡ accepted w
    → (addresses : List ℕ) (section image room : ℕ) (bs : List ℕ) → apply w.bytes (numbers_of w.relocations) addresses section image room ≡ good bs
    → (relocations : List ℕ) (k q p : ℕ) → k < count function_stride g.functions → T (row_check_at g.functions g.rows k)
    → p < new_length (symbols_of addresses) (given_function g k)
    → read bs relocations 0 (machine_of g.machine).word k q p ≡ seen q (moved_rules (machine_of g.machine) (symbols_of addresses) (given_function g k) p)
unfolding read answer taken dwarf parts_of bytes_of relocs_of stores
moved_back g r w e addresses section image room bs put relocations k q p h check below =
    let m : Machine = machine_of g.machine in
    let f : Function = given_function g k in
    let l : Layout = layout_of addresses section image in
    let size : ℕ = length w.bytes in
    let a : Accepted Elf g w = accepted_is Elf g r w e in
    let fs : List Function = map (taken Elf) (given_functions g) in
    let at_k : get_elem? fs k ≡ some f = taken_at Elf g k h in
    let done = applied w.bytes (numbers_of w.relocations) addresses section image room bs put in
    let bytes_are : w.bytes ≡ bytes_of Elf m 0 0 [] fs = ap (λ (x : Written). x.bytes) a.written in
    let relocs_are : relocations_of (numbers_of w.relocations) ≡ relocs_of Elf m 0 0 [] fs = relocations_back w.relocations ∙ ap (λ (x : Written). x.relocations) a.written in
    let passes : Passes l size (relocs_of Elf m 0 0 [] fs ++ []) =
    subst (Passes l size) (relocs_are ∙ sym (append-nil (relocs_of Elf m 0 0 [] fs))) done.0 in
    let placed : List ℕ = flat (placed_entries l size m a.machine 0 0 [] fs a.functions) in
    let filled : stores l (bytes_of Elf m 0 0 [] fs) (relocs_of Elf m 0 0 [] fs) ≡ placed =
    simp append-nil at (section_fills l size m a.machine 0 0 [] fs a.functions [] [] [] refl passes) in
    let bs-are : bs ≡ placed =
    done.1 ∙ ap (stores l w.bytes) relocs_are ∙ ap (λ (xs : List ℕ). stores l xs (relocs_of Elf m 0 0 [] fs)) bytes_are ∙ filled in
    let known : Known l m f = known_at l size m 0 0 [] fs k f [] a.functions at_k passes in
    ap (answer q)
    (pick_yes (is_word_size m.word && leb 0 1) (read_section false (relocations_of relocations) m.word k p bs) (bad 11) (yes_and (is_word_size m.word) true a.machine.is_word tt)
    ∙ ap (read_section false (relocations_of relocations) m.word k p) bs-are
    ∙ section_moved l size m a.machine fs a.functions a.bounded (relocations_of relocations) k p f at_k below known.length_small known.steps
    ∙ rules_moved l size m a.machine f p (rw (check_at a k h) at check))

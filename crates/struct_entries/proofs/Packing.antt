-- The structs that are stored in the lent list are the two lists that the writers are handed.
use mathlib.Core.Path.{◌≡◌, refl, sym, ap, subst, ◌∙◌}
use Prim.Native.Nat.{ℕ, ◌+◌, ◌*◌, ◌≤◌}
use mathlib.Core.Bool.{Bool, true, false, not}
use mathlib.Core.List.{List, ◌++◌, append_assoc}
use native.Mathlib.Omega.{arith}
use lib.Dec.{T, leb}
use lib.ListN.{length, take, drop, length-append, take-append-drop}
use lib.Seq.{take_at, drop_at}
use borrow.Author.Tests.{leb-true}
use Rattle.format.specs.Put.{put}
use Rattle.format.specs.Prelude.{pick, all}
use Rattle.format.specs.Questions.{Question, Given, Room, Answer, relaxed_table, relaxed_debug_frame}
use Rattle.format.proofs.PutLaws.{length-put, put-append, front_is}
use Rattle.format.proofs.Choice.{is_false}
use Rattle.struct_entries.specs.declared.RowAt.{RowAt}
use Rattle.struct_entries.specs.declared.Function.{Function}
use Rattle.struct_entries.specs.Structs.{row_numbers, function_numbers, numbers_of}
use Rattle.struct_entries.specs.Packed.{stored_all}
use Rattle.struct_entries.proofs.Stored.{together, length_numbers}
use Rattle.struct_entries.specs.Structs.{row_length, function_length}
use Rattle.unwind.specs.declared.Written.{Written}
use Rattle.unwind.specs.Entries.{Exports}
use Rattle.struct_entries.specs.Entries.{needed, is_zero, ready_for, cleared, packed, numbers_in, meant, once_ready, table_is_empty, table_asks, relaxed_table_of, debug_frame_is_empty, debug_frame_asks, relaxed_debug_frame_of}
use Rattle.struct_entries.proofs.Zeros.{restored}
use Rattle.struct_entries.proofs.Parts.{same_exports, not_reached}
use Rattle.std.proofs.lemmas.Bool.{and_parts}

tested_yes : (t : Bool) → T (not (not t)) → true ≡ t
tested_yes true h = refl
tested_yes false h = absurd h

either_long : (t : Bool) (xs ys : List ℕ) → length ys ≡ length xs → length (pick t ys xs) ≡ length xs
unfolding pick
either_long true xs ys h = h
either_long false xs ys h = refl

-- the list as it was: cleared, or not touched
as_it_was : (t : Bool) (xs ns : List ℕ) (n : ℕ) → length ns ≡ n → (t ≡ true → n ≤ length xs) → (t ≡ true → T (all is_zero (take n xs)))
    → pick t (cleared (pick t (put xs 0 ns) xs) n) (pick t (put xs 0 ns) xs) ≡ xs
unfolding pick
as_it_was true xs ns n e h z = restored xs ns n e (h refl) (z refl)
as_it_was false xs ns n e h z = refl

module _ (xs : List ℕ) (fs : List Function) (rs : List RowAt) where
  abbrev F : List ℕ
  F = numbers_of function_numbers fs

  abbrev R : List ℕ
  R = numbers_of row_numbers rs

  abbrev f : ℕ
  f = length fs

  abbrev r : ℕ
  r = length rs

  abbrev ns : List ℕ
  ns = numbers_in fs rs

  functions_long : length F ≡ 18 * f
  functions_long = length_numbers function_numbers function_length fs

  rows_long : length R ≡ 4 * r
  rows_long = length_numbers row_numbers row_length rs

  numbers_long : length ns ≡ needed f r
  unfolding needed numbers_in
  numbers_long = omega (arith, functions_long, rows_long, length-append F R)

  -- after each of the two calls
  abbrev pub stored₁ : List ℕ
  stored₁ = stored_all function_numbers xs 0 fs

  abbrev pub stored₂ : List ℕ
  stored₂ = stored_all row_numbers stored₁ (18 * f) rs

  packs : needed f r ≤ length xs → stored₂ ≡ put xs 0 ns
  unfolding needed numbers_in
  packs h =
      let one : stored₁ ≡ put xs 0 F = together function_numbers xs 0 fs (omega (arith, functions_long)) in
      let e : 0 + length F ≡ 18 * f = omega (arith, functions_long) in
      ap (λ (zs : List ℕ). stored_all row_numbers zs (18 * f) rs) one
      ∙ together row_numbers (put xs 0 F) (18 * f) rs (omega (arith, rows_long, length-put xs 0 F))
      ∙ ap (λ (k : ℕ). put (put xs 0 F) k R) (sym e) ∙ sym (put-append xs 0 F R)

  -- the parts of the list are the two lists
  means : (machine ls ps : List ℕ) → needed f r ≤ length xs → packed machine (put xs 0 ns) f r ls ps ≡ meant machine fs rs ls ps
  unfolding packed meant numbers_in
  means machine ls ps h =
      let zs : List ℕ = put xs 0 (F ++ R) in
      let n : ℕ = length (F ++ R) in
      let split : zs ≡ F ++ (R ++ drop n zs) =
      sym (take-append-drop n zs) ∙ ap (λ (us : List ℕ). us ++ drop n zs) (front_is xs (F ++ R) (omega (arith, numbers_long))) ∙ append_assoc F R (drop n zs) in
      let one : take (18 * f) zs ≡ F = ap (take (18 * f)) split ∙ take_at F (R ++ drop n zs) (18 * f) functions_long in
      let two : take (4 * r) (drop (18 * f) zs) ≡ R =
      ap (λ (us : List ℕ). take (4 * r) (drop (18 * f) us)) split ∙ ap (take (4 * r)) (drop_at F (R ++ drop n zs) (18 * f) functions_long)
      ∙ take_at R (drop n zs) (4 * r) rows_long in
      rw (one, two)

  -- ---- from what the callees ensure to what an entry ensures

  abbrev said : Bool
  said = ready_for xs f r

  module _ (ok : Bool) (e : ok ≡ said) where
    enough : ok ≡ true → needed f r ≤ length xs
    unfolding ready_for
    enough h = leb-true (needed f r) (length xs) (and_parts (leb (needed f r) (length xs)) (all is_zero (take (needed f r) xs)) (sym e ∙ h)).0

    zero : ok ≡ true → T (all is_zero (take (needed f r) xs))
    unfolding ready_for
    zero h = subst T (sym (and_parts (leb (needed f r) (length xs)) (all is_zero (take (needed f r) xs)) (sym e ∙ h)).1) tt

    pub kept : (zs : List ℕ) → zs ≡ pick ok (put xs 0 ns) xs → length zs ≡ length xs
    kept zs z = ap length z ∙ either_long ok xs (put xs 0 ns) (length-put xs 0 ns)

    pub there : ok ≡ true → needed f r ≤ length (pick ok (put xs 0 ns) xs)
    there h = subst (λ (n : ℕ). needed f r ≤ n) (sym (kept (pick ok (put xs 0 ns) xs) refl)) (enough h)

    -- what `pack` answers and leaves, by the test that it branches on
    pub says_no : T (not ok) → (false ≡ said) × (xs ≡ pick false (put xs 0 ns) xs)
    unfolding pick
    says_no t = (sym (is_false ok t) ∙ e, refl)

    pub fits_yes : T (not (not ok)) → needed f r ≤ length xs
    fits_yes t = enough (sym (tested_yes ok t))

    pub says_yes : T (not (not ok)) → (true ≡ said) × (stored₂ ≡ pick true (put xs 0 ns) xs)
    unfolding pick
    says_yes t = (tested_yes ok t ∙ e, packs (fits_yes t))

    module _ (answer : Given → Room → Answer) (machine ls ps : List ℕ) (room : Room) (is_empty : Bool) (asks : Question) where
      as_meant : (t : Bool) → (t ≡ true → needed f r ≤ length xs)
          → once_ready is_empty asks t (answer (packed machine (pick t (put xs 0 ns) xs) f r ls ps) room) ≡ once_ready is_empty asks t (answer (meant machine fs rs ls ps) room)
      unfolding pick
      as_meant true h = ap (λ (g : Given). once_ready is_empty asks true (answer g room)) (means machine ls ps (h refl))
      as_meant false h = not_reached is_empty asks (answer (packed machine xs f r ls ps) room) (answer (meant machine fs rs ls ps) room)

      pub finished : {o : Written} {zs us places places' bytes bytes' relocations relocations' sites sites' : List ℕ} → zs ≡ pick ok (put xs 0 ns) xs
          → Exports (once_ready is_empty asks ok (answer (packed machine zs f r ls ps) room)) o places places' bytes bytes' relocations relocations' sites sites'
          × (us ≡ pick ok (cleared zs (needed f r)) zs)
          → Exports (once_ready is_empty asks said (answer (meant machine fs rs ls ps) room)) o places places' bytes bytes' relocations relocations' sites sites' × (us ≡ xs)
      finished {zs = zs} z x = (
        same_exports
            (ap (λ (k : List ℕ). once_ready is_empty asks ok (answer (packed machine k f r ls ps) room)) z ∙ as_meant ok enough
            ∙ ap (λ (t : Bool). once_ready is_empty asks t (answer (meant machine fs rs ls ps) room)) e) x.0,
        x.1 ∙ ap (λ (l : List ℕ). pick ok (cleared l (needed f r)) l) z ∙ as_it_was ok xs ns (needed f r) numbers_long enough zero,
      )

    module _ (format : ℕ) (machine ls ps : List ℕ) (room : Room) {o : Written} {zs us places places' bytes bytes' relocations relocations' sites sites' : List ℕ} (z : zs ≡ pick ok (put xs 0 ns) xs) where
      pub table_finished : Exports (once_ready (table_is_empty format f) (table_asks format machine) ok (relaxed_table format (packed machine zs f r ls ps) room)) o places places' bytes bytes' relocations relocations' sites sites'
          × (us ≡ pick ok (cleared zs (needed f r)) zs)
          → Exports (relaxed_table_of format machine xs fs rs ls ps room) o places places' bytes bytes' relocations relocations' sites sites' × (us ≡ xs)
      unfolding relaxed_table_of
      table_finished = finished (relaxed_table format) machine ls ps room (table_is_empty format f) (table_asks format machine) z

      pub debug_frame_finished : Exports (once_ready (debug_frame_is_empty format f) (debug_frame_asks machine) ok (relaxed_debug_frame format (packed machine zs f r ls ps) room)) o places places' bytes bytes' relocations relocations' sites sites'
          × (us ≡ pick ok (cleared zs (needed f r)) zs)
          → Exports (relaxed_debug_frame_of format machine xs fs rs ls ps room) o places places' bytes bytes' relocations relocations' sites sites' × (us ≡ xs)
      unfolding relaxed_debug_frame_of
      debug_frame_finished = finished (relaxed_debug_frame format) machine ls ps room (debug_frame_is_empty format f) (debug_frame_asks machine) z

-- Pairs of relocations: a step's operand after Set and Sub, and a length after a Sum pair.
use mathlib.Core.Path.{◌≡◌, refl, sym, ap, ◌∙◌}
use mathlib.Core.Bool.{not, ◌&&◌}
use mathlib.Core.Logic.{◌≢◌}
use mathlib.Core.Option.{Option, none, some}
use mathlib.Core.List.{List, [], ◌∷◌, ◌++◌, append_assoc}
use Prim.Native.Nat.{ℕ, zero, suc, ◌+◌, ◌-◌, ◌*◌, ◌/◌, ◌%◌, ◌^◌, ◌<◌, ◌≤◌}
use native.Mathlib.Nat.{add-zero}
use native.Mathlib.Omega.{arith}
use lib.Dec.{T, leb, eqb}
use lib.ListN.{length, length-append}
use mir.Facts.{and_yes, eqb_yes, eqb_no}
use Rattle.format.specs.Prelude.{pick, after, first, all}
use Rattle.format.specs.Constants.{DW_CFA_advance_loc, DW_CFA_advance_loc1, DW_CFA_advance_loc2, DW_CFA_advance_loc4}
use Rattle.format.specs.Put.{put}
use Rattle.format.specs.Leb.{little}
use Rattle.format.specs.Lists.{Function, Relaxed, Relocation, Pair}
use Rattle.format.specs.Rows.{RowAt, row_bytes, step_in, step_form, step_bytes, stepped_bytes}
use Rattle.format.specs.Headers.{reloc}
use Rattle.format.specs.Records.{size_field, sum_pair, pair_for, set_kind, set_bytes, set_place, set_pair, step_relocs, row_relocs}
use Rattle.format.specs.Questions.{pairs_ok}
use Rattle.format.proofs.Choice.{pick_yes, pick_no, tested, if-le, if-gt, if-ne, either}
use Rattle.format.proofs.LebBack.{little-length}
use Rattle.format.proofs.RowBack.{Holds, shortest_holds}
use Rattle.format.proofs.WalkBack.{RowsAtOk}
use Rattle.apply.specs.declared.Width.{Width}
use Rattle.apply.specs.declared.Width.TheVariants.{W6, W8, W16, W32}
use Rattle.apply.specs.declared.Kind.TheVariants.{Set, Sub}
use Rattle.apply.specs.Kinds.{bits_of, bytes_of, kind_of}
use Rattle.apply.specs.Fields.{up_to, whole_in}
use Rattle.apply.specs.Values.{Layout, apart, distance_of, value_as, store_as, store_of}
use Rattle.apply.specs.Apply.{front, measured as isMeasured, value_ok, near_as, near, stores}
use Rattle.apply_back.specs.Moved.{between, length_in, pairs_of, step_or, new_step}
use Rattle.apply_back.proofs.StepsBack.{step_with, stepped_with, StepHolds, StepsHold}
use Rattle.apply_back.proofs.Stretches.{put_at, set_sub}
use Rattle.apply_back.proofs.Fills.{Passes, passes_behind, value_first, near_first, Measured, measured, Fills, fills_none, fills_join}

-- ---- the form of a step and the width of its field

unfoldable form_of : Width → ℕ
form_of W6 = 0
form_of W8 = 1
form_of W16 = 2
form_of W32 = 4

unfoldable width_for : ℕ → Width
width_for n = pick (leb n 0x3f) W6 (pick (leb n 0xff) W8 (pick (leb n 0xffff) W16 W32))

form_is : (n : ℕ) → step_form n ≡ form_of (width_for n)
unfolding step_form width_for form_of
form_is n =
    either n 0x3f (λ l. rw (if-le n 0x3f, if-le n 0x3f))
    λ g. rw (if-gt n 0x3f, if-gt n 0x3f)
    (either n 0xff (λ l. rw (if-le n 0xff, if-le n 0xff))
    λ g'. rw (if-gt n 0xff, if-gt n 0xff) (either n 0xffff (λ l. rw (if-le n 0xffff, if-le n 0xffff)) λ g''. rw (if-gt n 0xffff, if-gt n 0xffff)))

-- an operand behind its opcode, or on it
unfoldable opcode : Width → List ℕ
opcode W6 = []
opcode W8 = DW_CFA_advance_loc1 ∷ []
opcode W16 = DW_CFA_advance_loc2 ∷ []
opcode W32 = DW_CFA_advance_loc4 ∷ []

unfoldable upper : Width → ℕ
upper W6 = DW_CFA_advance_loc
upper W8 = 0
upper W16 = 0
upper W32 = 0

as_field : (w : Width) (n : ℕ) → Holds (form_of w) n → step_in (form_of w) n ≡ opcode w ++ little (bytes_of w) (upper w + n)
unfolding form_of step_in opcode upper little
as_field W6 n h = let e : DW_CFA_advance_loc + n ≡ (DW_CFA_advance_loc + n) % 256 = omega (arith, h) in ap (λ (b : ℕ). b ∷ []) e
as_field W8 n h = let e : n ≡ 0 + n = omega arith in ap (λ (v : ℕ). DW_CFA_advance_loc1 ∷ little 1 v) e
as_field W16 n h = let e : n ≡ 0 + n = omega arith in ap (λ (v : ℕ). DW_CFA_advance_loc2 ∷ little 2 v) e
as_field W32 n h = let e : n ≡ 0 + n = omega arith in ap (λ (v : ℕ). DW_CFA_advance_loc4 ∷ little 4 v) e

-- the operand lies in its bytes, and below the bits that are kept
field_small : (w : Width) (n : ℕ) → Holds (form_of w) n → upper w + n < 256 ^ bytes_of w
unfolding form_of upper
field_small W6 n h = omega (arith, h)
field_small W8 n h = omega (arith, h)
field_small W16 n h = omega (arith, h)
field_small W32 n h = omega (arith, h)

upper_is : (w : Width) (n : ℕ) → Holds (form_of w) n → (upper w + n) / 2 ^ bits_of w * 2 ^ bits_of w ≡ upper w
unfolding form_of upper
upper_is W6 n h = omega (arith, h)
upper_is W8 n h = omega (arith, h)
upper_is W16 n h = omega (arith, h)
upper_is W32 n h = omega (arith, h)

-- what a field of that width holds
held : (w : Width) (n : ℕ) → n ≤ 2 ^ bits_of w - 1 → Holds (form_of w) n
unfolding form_of
held W6 n h = omega (arith, h)
held W8 n h = omega (arith, h)
held W16 n h = omega (arith, h)
held W32 n h = omega (arith, h)

below_bits : (w : Width) (n : ℕ) → n ≤ 2 ^ bits_of w - 1 → n < 2 ^ bits_of w
below_bits W6 n h = omega (arith, h)
below_bits W8 n h = omega (arith, h)
below_bits W16 n h = omega (arith, h)
below_bits W32 n h = omega (arith, h)

set_kind_lem : (w : Width) → kind_of (set_kind (form_of w)) ≡ Set w
unfolding form_of set_kind kind_of pick
set_kind_lem W6 = refl
set_kind_lem W8 = refl
set_kind_lem W16 = refl
set_kind_lem W32 = refl

sub_kind : (w : Width) → kind_of (suc (set_kind (form_of w))) ≡ Sub w
unfolding form_of set_kind kind_of pick
sub_kind W6 = refl
sub_kind W8 = refl
sub_kind W16 = refl
sub_kind W32 = refl

set_place_lem : (w : Width) (pre : List ℕ) → set_place (length pre) (form_of w) ≡ length (pre ++ opcode w)
unfolding form_of set_place opcode
set_place_lem W6 pre = rw (length-append, add-zero)
set_place_lem W8 pre = rw length-append
set_place_lem W16 pre = rw length-append
set_place_lem W32 pre = rw length-append

-- ---- Set and Sub

module _ (l : Layout) (size : ℕ) where
  abbrev symbols : List (ℕ × ℕ)
  symbols = l.symbols

  -- the first two of a list that is accepted
  distance_first : (w : Width) (r s : Relocation) (ss : List Relocation) → kind_of r.kind ≡ Set w → r.addend ≡ 0 → s.addend ≡ 0 → Passes l size (r ∷ s ∷ ss)
      → Measured symbols r s (2 ^ bits_of w - 1) (between symbols s.symbol r.symbol)
  unfolding near near_as distance_of front
  distance_first w r s ss k er es p =
      let n = (near_first r (s ∷ ss) p).1 in
      measured symbols r s er es (2 ^ bits_of w - 1) (rw k at n)

  two_stores : (w : Width) (r s : Relocation) (ss : List Relocation) (pre post : List ℕ) (v d : ℕ) → kind_of r.kind ≡ Set w → kind_of s.kind ≡ Sub w
      → r.place ≡ length pre → s.place ≡ length pre → v < 256 ^ bytes_of w → Measured symbols r s (2 ^ bits_of w - 1) d
      → stores l (pre ++ (little (bytes_of w) v ++ post)) (r ∷ s ∷ ss)
      ≡ stores l (pre ++ (little (bytes_of w) (v / 2 ^ bits_of w * 2 ^ bits_of w + d) ++ post)) ss
  unfolding stores store_of store_as
  two_stores w r s ss pre post v d kr ks pr ps h m =
      rw (kr, ks, m.first_is, m.second_is, pr, ps)
      (ap (λ (bs : List ℕ). stores l bs ss) (set_sub w pre post v d m.first m.second h m.apart_is (below_bits w d m.small)))

  -- a pair's step in the form of width w, from what was written to the distance of the labels
  pair_at : (w : Width) (place n : ℕ) (p : Pair) → Holds (form_of w) n
      → Fills l size (set_pair place (form_of w) (some p)) place (step_in (form_of w) n) (step_in (form_of w) (between symbols p.symbol1 p.symbol2))
  unfolding set_pair
  pair_at w place n p h pre post ss e ok =
      let r : Relocation = reloc (set_place place (form_of w)) p.symbol2 (set_kind (form_of w)) (set_bytes (form_of w)) 0 in
      let s : Relocation = reloc (set_place place (form_of w)) p.symbol1 (suc (set_kind (form_of w))) (set_bytes (form_of w)) 0 in
      let d : ℕ = between symbols p.symbol1 p.symbol2 in
      let m : Measured symbols r s (2 ^ bits_of w - 1) d = distance_first w r s ss (set_kind_lem w) refl refl ok in
      let there : set_place place (form_of w) ≡ length (pre ++ opcode w) = rw (← e) (set_place_lem w pre) in
      let shape : (us : List ℕ) → pre ++ ((opcode w ++ us) ++ post) ≡ (pre ++ opcode w) ++ (us ++ post) = λ us. simp append_assoc in
      rw (as_field w n h, as_field w d (held w d m.small), shape (little (bytes_of w) (upper w + n)), shape (little (bytes_of w) (upper w + d)))
      (two_stores w r s ss (pre ++ opcode w) post (upper w + n) d (set_kind_lem w) (sub_kind w) there there (field_small w n h) m
      ∙ ap (λ (t : ℕ). stores l ((pre ++ opcode w) ++ (little (bytes_of w) (t + d) ++ post)) ss) (upper_is w n h))

-- ---- the steps of a function's rows

-- a pair that is found stands at the two ends of a step, which are apart
pair_apart : (from to : ℕ) (ps : List Pair) (p : Pair) → T (all (λ q. not (eqb q.place1 q.place2)) ps) → pair_for from to ps ≡ some p → from ≢ to
unfolding pair_for first all
pair_apart from to [] p ok e = let z : ◌≡◌ {A = ℕ} 0 1 = cc in absurd (omega arith)
pair_apart from to (q ∷ ps) p ok e =
    let here = and_yes (not (eqb q.place1 q.place2)) (all (λ x. not (eqb x.place1 x.place2)) ps) ok in
    tested (eqb q.place1 from && eqb q.place2 to)
    (λ t. let b = and_yes (eqb q.place1 from) (eqb q.place2 to) t in
    let x : q.place1 ≡ from = eqb_yes b.0 in
    let y : q.place2 ≡ to = eqb_yes b.1 in
    let n : q.place1 ≢ q.place2 = eqb_no here.0 in
    λ z. n (x ∙ z ∙ sym y))
    (λ t. pair_apart from to ps p here.1 (sym (pick_no (eqb q.place1 from && eqb q.place2 to) (some q) (pair_for from to ps) t) ∙ e))

same_form : (form a b : ℕ) → length (step_in form a) ≡ length (step_in form b)
unfolding step_in
same_form zero a b = refl
same_form (suc zero) a b = rw (little-length, little-length)
same_form (suc (suc zero)) a b = rw (little-length, little-length)
same_form (suc (suc (suc k))) a b = rw (little-length, little-length)

step_length : (written n : ℕ) → length (step_with written n) ≡ length (step_bytes written)
unfolding step_with step_bytes
step_length written n =
    tested (eqb written 0) (λ t. simp pick_yes) (λ t. simp pick_no (same_form (step_form written) n written))

pub steps_length : (w : ℕ) (ss : List (ℕ × ℕ)) (ps : List Pair) (from : ℕ) (xs : List RowAt) → length (stepped_with w ss ps from xs) ≡ length (stepped_bytes w from xs)
unfolding stepped_with stepped_bytes
steps_length w ss ps from [] = refl
steps_length w ss ps from (x ∷ xs) =
    simp (length-append, step_length (x.0 - from) (new_step ss ps from x.0), steps_length w ss ps x.0 xs)

module _ (l : Layout) (size : ℕ) where
  step_fills : (o : Option Pair) (place from to : ℕ) → from ≤ to → to - from < 2 ^ 32 → ((p : Pair) → o ≡ some p → from ≢ to)
      → Fills l size (set_pair place (step_form (to - from)) o) place (step_bytes (to - from)) (step_with (to - from) (step_or l.symbols (to - from) o))
  unfolding step_or set_pair step_bytes step_with
  step_fills none place from to h k apart = fills_none l size place (step_bytes (to - from))
  step_fills (some p) place from to h k apart =
      let n : ℕ = to - from in
      let far : n ≢ 0 = λ e. apart p refl (omega arith) in
      let w : Width = width_for n in
      rw (if-ne n 0 _ _ far, if-ne n 0 _ _ far, form_is n) (pair_at l size w place n p (rw (form_is n) at (shortest_holds n k)))

  -- where the section is accepted a step's form holds its new contents
  step_holds : (o : Option Pair) (place from to : ℕ) (ss : List Relocation) → from ≤ to → to - from < 2 ^ 32 → ((p : Pair) → o ≡ some p → from ≢ to)
      → Passes l size (set_pair place (step_form (to - from)) o ++ ss) → StepHolds (to - from) (step_or l.symbols (to - from) o)
  unfolding step_or set_pair
  step_holds none place from to ss h k apart ok = record { holds = shortest_holds (to - from) k; none = λ e. e }
  step_holds (some p) place from to ss h k apart ok =
      let n : ℕ = to - from in
      let w : Width = width_for n in
      let ok' : Passes l size (set_pair place (form_of w) (some p) ++ ss) = rw (form_is n) at ok in
      let m = distance_first l size w _ _ ss (set_kind_lem w) refl refl ok' in
      record { holds = rw (form_is n) (held w (between l.symbols p.symbol1 p.symbol2) m.small); none = λ e. absurd (apart p refl (omega arith)) }

  module _ (w : ℕ) (ps : List Pair) (apart : T (all (λ q. not (eqb q.place1 q.place2)) ps)) where
    pub steps_fill : (place from : ℕ) (xs : List RowAt) → RowsAtOk w from xs
        → Fills l size (step_relocs w place from ps xs) place (stepped_bytes w from xs) (stepped_with w l.symbols ps from xs)
    unfolding step_relocs stepped_bytes stepped_with new_step
    steps_fill place from [] ok = fills_none l size place []
    steps_fill place from (x ∷ xs) ok =
        let d : ℕ = x.0 - from in
        let o : Option Pair = pair_for from x.0 ps in
        let n : ℕ = step_or l.symbols d o in
        let row : List ℕ = row_bytes w x.1 in
        let behind : ℕ = place + length (step_bytes d) in
        let later : ℕ = behind + length row in
        fills_join l size (set_pair place (step_form d) o) (step_relocs w later x.0 ps xs) place behind (step_bytes d) (step_with d n)
        (row ++ stepped_bytes w x.0 xs) (row ++ stepped_with w l.symbols ps x.0 xs) (step_length d n) refl
        (step_fills o place from x.0 ok.0 ok.1 (λ p e. pair_apart from x.0 ps p apart e))
        (fills_join l size [] (step_relocs w later x.0 ps xs) behind later row row (stepped_bytes w x.0 xs) (stepped_with w l.symbols ps x.0 xs) refl refl
        (fills_none l size behind row) (steps_fill later x.0 xs ok.3))

    pub steps_hold : (place from : ℕ) (xs : List RowAt) (ss : List Relocation) → RowsAtOk w from xs → Passes l size (step_relocs w place from ps xs ++ ss)
        → StepsHold w l.symbols ps from xs
    unfolding step_relocs new_step
    steps_hold place from [] ss ok passes = tt
    steps_hold place from (x ∷ xs) ss ok passes =
        let d : ℕ = x.0 - from in
        let o : Option Pair = pair_for from x.0 ps in
        let later : ℕ = place + length (step_bytes d) + length (row_bytes w x.1) in
        let rs : List Relocation = step_relocs w later x.0 ps xs in
        let a : (set_pair place (step_form d) o ++ rs) ++ ss ≡ set_pair place (step_form d) o ++ (rs ++ ss) = append_assoc (set_pair place (step_form d) o) rs ss in
        let passes' : Passes l size (set_pair place (step_form d) o ++ (rs ++ ss)) = rw a at passes in (
          step_holds o place from x.0 (rs ++ ss) ok.0 ok.1 (λ p e. pair_apart from x.0 ps p apart e) passes',
          ok.2,
          steps_hold later x.0 xs ss ok.3 (passes_behind (set_pair place (step_form d) o) (rs ++ ss) passes'),
        )

-- a function without relaxing labels: every step is as it was written
steps_plain : (w : ℕ) (ss : List (ℕ × ℕ)) (from : ℕ) (xs : List RowAt) → stepped_with w ss [] from xs ≡ stepped_bytes w from xs
unfolding stepped_with stepped_bytes step_with step_bytes new_step step_or pair_for first
steps_plain w ss from [] = refl
steps_plain w ss from (x ∷ xs) = ap (λ (bs : List ℕ). step_bytes (x.0 - from) ++ (row_bytes w x.1 ++ bs)) (steps_plain w ss x.0 xs)

plain_hold : (w : ℕ) (ss : List (ℕ × ℕ)) (from : ℕ) (xs : List RowAt) → RowsAtOk w from xs → StepsHold w ss [] from xs
unfolding new_step step_or pair_for first
plain_hold w ss from [] ok = tt
plain_hold w ss from (x ∷ xs) ok =
    (record { holds = shortest_holds (x.0 - from) ok.1; none = λ e. e }, ok.2, plain_hold w ss x.0 xs ok.3)

module _ (l : Layout) (size w place : ℕ) (xs : List RowAt) (ok : RowsAtOk w 0 xs) where
  pub rows_fill : (r : Option Relaxed) → T (pairs_ok r) → Fills l size (row_relocs w place xs r) place (stepped_bytes w 0 xs) (stepped_with w l.symbols (pairs_of r) 0 xs)
  unfolding row_relocs pairs_of pairs_ok
  rows_fill none t = rw steps_plain (fills_none l size place (stepped_bytes w 0 xs))
  rows_fill (some r) t = steps_fill l size w r.pairs t place 0 xs ok

  pub rows_hold : (r : Option Relaxed) (ss : List Relocation) → T (pairs_ok r) → Passes l size (row_relocs w place xs r ++ ss) → StepsHold w l.symbols (pairs_of r) 0 xs
  unfolding row_relocs pairs_of pairs_ok
  rows_hold none ss t p = plain_hold w l.symbols 0 xs ok
  rows_hold (some r) ss t p = steps_hold l size w r.pairs t place 0 xs ss ok p

-- ---- a Sum pair

abbrev four_bytes : ℕ
four_bytes = 2 ^ 32 - 1

module _ (l : Layout) (size : ℕ) where
  value_is : (ss : List (ℕ × ℕ)) (r s : Relocation) (most d : ℕ) → Measured ss r s most d → after (apart ss r (some s)) (λ z. up_to most z) ≡ some d
  unfolding apart after up_to
  value_is ss r s most d m = rw (m.first_is, m.second_is, m.apart_is) (if-le d most (some d) none m.small)

  sum_first : (place a b : ℕ) (ss : List Relocation) → let r : Relocation = reloc place b 2 4 0 in let s : Relocation = reloc place a 3 4 0 in
      Passes l size (r ∷ s ∷ ss) → Measured l.symbols r s four_bytes (between l.symbols a b)
  unfolding value_ok isMeasured value_as kind_of pick front
  sum_first place a b ss p = measured l.symbols (reloc place b 2 4 0) (reloc place a 3 4 0) refl refl four_bytes (value_first (reloc place b 2 4 0) _ p)

  sum_store : (place n a b : ℕ) → let rs : List Relocation = reloc place b 2 4 0 ∷ reloc place a 3 4 0 ∷ [] in
      Fills l size rs place (little 4 n) (little 4 (between l.symbols a b))
  unfolding stores store_of store_as kind_of pick whole_in value_as front
  sum_store place n a b pre post ss e p =
      let d : ℕ = between l.symbols a b in
      let bs : List ℕ = pre ++ (little 4 n ++ post) in
      ap (λ (v : Option ℕ). stores l (whole_in 4 bs place v) ss)
      (value_is l.symbols (reloc place b 2 4 0) (reloc place a 3 4 0) four_bytes d (sum_first place a b ss p))
      ∙ ap (λ (q : ℕ). stores l (put bs q (little 4 d)) ss) (sym e)
      ∙ ap (λ (xs : List ℕ). stores l xs ss) (put_at pre (little 4 n) post (little 4 d) (little-length 4 n ∙ sym (little-length 4 d)))

  -- a function's length, and that its field holds it
  pub size_fills : (place : ℕ) (f : Function) (r : Option Relaxed)
      → Fills l size (sum_pair place 4 f r) place (little 4 (size_field f.size r)) (little 4 (length_in l.symbols f.symbol f.size r))
  unfolding sum_pair size_field length_in
  size_fills place f none = fills_none l size place (little 4 f.size)
  size_fills place f (some r) = sum_store place 0 f.symbol r.end

  pub size_small : (place : ℕ) (f : Function) (r : Option Relaxed) (ss : List Relocation) → f.size < 2 ^ 32 → Passes l size (sum_pair place 4 f r ++ ss)
      → length_in l.symbols f.symbol f.size r < 2 ^ 32
  unfolding sum_pair length_in
  size_small place f none ss h p = h
  size_small place f (some r) ss h p = omega (arith, (sum_first place f.symbol r.end ss p).small)

-- A string that stands at a position: the library's test of it, and the first of a list of strings that stands there.
use mathlib.Core.Path.{◌≡◌, refl, sym, subst, ◌∙◌}
use mathlib.Core.Bool.{Bool, true, false, ◌&&◌}
use mathlib.Core.Option.{Option, none, some}
use mathlib.Core.List.{List, [], ◌∷◌, ◌++◌}
use Prim.Native.Nat.{ℕ, ◌+◌, ◌-◌, ◌≤◌}
use native.Mathlib.Omega.{arith}
use lib.Dec.{eqb}
use lib.Pointwise.{pointwise}
use Rattle.std.proofs.lemmas.List.{take_rest}
use lib.ListN.{length, take, drop, length-drop}
use lib.Seq.{drop-drop}
use Rattle.format.specs.Prelude.{pick, Read}
use Rattle.format.specs.Questions.{is_some}
use Rattle.format.specs.Reader.{Letters, Spelling, strip, spellings, spell_or, read_letters}
use Rattle.format.proofs.Choice.{pick_yes, pick_no, tested}
use Rattle.operations.specs.declared.fields.Position.{Position}
use Rattle.reader.specs.Fields.{Rests, letters_of, two_of, ReadsAugmentation}
use Rattle.reader.specs.declared.fields.Augmentation.{Augmentation}
use Rattle.std.specs.Prelude.{Some, None}
use Rattle.std.specs.Prelude as code
use Rattle.reader.proofs.Seeking.{absent}

-- ---- the library's test of a slice's front

front_is : (text bs : List ℕ) → pointwise eqb text (take (length text) bs) ≡ is_some (strip text bs)
unfolding is_some strip pick
front_is [] bs = refl
front_is (a ∷ xs) [] = refl
front_is (a ∷ xs) (b ∷ bs) = met_by (eqb a b) (front_is xs bs)
  where
    met_by : (t : Bool) → pointwise eqb xs (take (length xs) bs) ≡ is_some (strip xs bs)
        → (t && pointwise eqb xs (take (length xs) bs)) ≡ is_some (pick t (strip xs bs) none)
    met_by true e = e
    met_by false e = refl

pub front_at : (s text : List ℕ) (at : ℕ) {r : Bool} → r ≡ pointwise eqb text (take (length text) (take (length s - at) (drop at s)))
    → r ≡ is_some (strip text (drop at s))
front_at s text at e = (rw (take_rest s at) at e) ∙ front_is text (drop at s)

-- ---- what is left behind a string

pub record Stripped (text bs : List ℕ) : Type 0 where
  pub inside : length text ≤ length bs
  pub rest : strip text bs ≡ some (drop (length text) bs)

stripped : (text bs : List ℕ) → is_some (strip text bs) ≡ true → Stripped text bs
unfolding is_some strip pick
stripped [] bs e = record { inside = omega arith; rest = refl }
stripped (a ∷ xs) [] e = let z : ◌≡◌ {A = ℕ} 0 1 = cc in absurd (omega arith)
stripped (a ∷ xs) (b ∷ bs) e =
    tested (eqb a b)
    (λ t.
    let y : pick (eqb a b) (strip xs bs) none ≡ strip xs bs = pick_yes (eqb a b) (strip xs bs) none t in
    let r = stripped xs bs (rw y at e) in
    record { inside = omega (arith, r.inside); rest = y ∙ r.rest })
    (λ t. let z : ◌≡◌ {A = ℕ} 0 1 = cc (rw (pick_no (eqb a b) (strip xs bs) none t) at e) in absurd (omega arith))

-- ---- the first string of a list

-- strings that stand in a list in front of others
module _ (ys : List Spelling) (bs : List ℕ) where
  or_none : (l : Letters) (o : Option (List ℕ)) (x y : Read Letters) → spell_or o l x ≡ none → (x ≡ none → y ≡ read_letters ys bs) → spell_or o l y ≡ read_letters ys bs
  unfolding spell_or
  or_none l none x y e f = f e
  or_none l (some r) x y e f = let z : ◌≡◌ {A = ℕ} 0 1 = cc in absurd (omega arith)

  letters_behind : (xs : List Spelling) → read_letters xs bs ≡ none → read_letters (xs ++ ys) bs ≡ read_letters ys bs
  unfolding read_letters
  letters_behind [] e = refl
  letters_behind (x ∷ xs) e = or_none x.letters (strip x.text bs) (read_letters xs bs) (read_letters (xs ++ ys) bs) e (letters_behind xs)

  or_some : (l : Letters) (o : Option (List ℕ)) (x y : Read Letters) (v : Letters × List ℕ) → spell_or o l x ≡ some v → (x ≡ some v → y ≡ some v) → spell_or o l y ≡ some v
  unfolding spell_or
  or_some l none x y v e f = f e
  or_some l (some r) x y v e f = e

  letters_before : (v : Letters × List ℕ) (xs : List Spelling) → read_letters xs bs ≡ some v → read_letters (xs ++ ys) bs ≡ some v
  unfolding read_letters
  letters_before v [] e = let z : ◌≡◌ {A = ℕ} 0 1 = cc in absurd (omega arith)
  letters_before v (x ∷ xs) e = or_some x.letters (strip x.text bs) (read_letters xs bs) (read_letters (xs ++ ys) bs) v e (letters_before v xs)

-- none of the strings in front of `left` stands at `at`
pub record Trying (s : List ℕ) (at : ℕ) (all left : List Spelling) : Type 0 where
  pub same : read_letters all (drop at s) ≡ read_letters left (drop at s)

pub trying : (s : List ℕ) (at : ℕ) (all : List Spelling) → Trying s at all all
trying s at all = record { same = refl }

module _ {s : List ℕ} {at : ℕ} {all left : List Spelling} {x : Spelling} {r : Bool} (k : Trying s at all (x ∷ left))
    (e : r ≡ is_some (strip x.text (drop at s))) where
  pub missed : r ≡ false → Trying s at all left
  unfolding read_letters spell_or
  missed n = record { same = k.same ∙ rw (absent (strip x.text (drop at s)) (sym e ∙ n)) }

  module _ (y : r ≡ true) (h : at ≤ length s) where
    text_inside : at + length x.text ≤ length s
    text_inside = omega (arith, length-drop at s, (stripped x.text (drop at s) (sym e ∙ y)).inside)

    pub met : (b : Bool) → Rests s b x.letters (record { at = at + length x.text; shortest = b }) (read_letters all (drop at s))
    unfolding read_letters spell_or
    met b = record { inside = text_inside; mark = refl; read = k.same ∙ rw ((stripped x.text (drop at s) (sym e ∙ y)).rest, drop-drop) }

pub unmet : {s : List ℕ} {at : ℕ} {all : List Spelling} → Trying s at all [] → read_letters all (drop at s) ≡ none
unfolding read_letters
unmet k = k.same

-- ---- the strings of eh_frame, two by two: with no personality, with one, and with a pointer to call sites too

abbrev bare : List Spelling
bare = two_of (0x7a ∷ 0x52 ∷ 0 ∷ []) (0x7a ∷ 0x52 ∷ 0x53 ∷ 0 ∷ []) false false

abbrev owned : List Spelling
owned = two_of (0x7a ∷ 0x50 ∷ 0x52 ∷ 0 ∷ []) (0x7a ∷ 0x50 ∷ 0x52 ∷ 0x53 ∷ 0 ∷ []) true false

abbrev sited : List Spelling
sited = two_of (0x7a ∷ 0x50 ∷ 0x4c ∷ 0x52 ∷ 0 ∷ []) (0x7a ∷ 0x50 ∷ 0x4c ∷ 0x52 ∷ 0x53 ∷ 0 ∷ []) true true

eh_strings : spellings false ≡ bare ++ (owned ++ sited)
unfolding spellings
eh_strings = refl

found : (s : List ℕ) (b : Bool) {r : code.Option (Augmentation × Position)} {p : Augmentation} {q : Position} (x : Read Letters) → ReadsAugmentation s b r x → r ≡ Some (p, q)
    → Rests s b (letters_of p) q x
found s b x m e = subst (λ (r : code.Option (Augmentation × Position)). ReadsAugmentation s b r x) e m

lost : (s : List ℕ) (b : Bool) {r : code.Option (Augmentation × Position)} (x : Read Letters) → ReadsAugmentation s b r x → r ≡ None → x ≡ none
lost s b x m e = subst (λ (r : code.Option (Augmentation × Position)). ReadsAugmentation s b r x) e m

module _ (s : List ℕ) (p₀ : Position) {r : code.Option (Augmentation × Position)} (m : ReadsAugmentation s p₀.shortest r (read_letters bare (drop p₀.at s))) where
  pub first_two : {p : Augmentation} {q : Position} → r ≡ Some (p, q) → Rests s p₀.shortest (letters_of p) q (read_letters (spellings false) (drop p₀.at s))
  first_two e =
      let f = found s p₀.shortest (read_letters bare (drop p₀.at s)) m e in
      record { inside = f.inside; mark = f.mark; read = rw eh_strings (letters_before (owned ++ sited) (drop p₀.at s) _ bare f.read) }

  module _ (e : r ≡ None) where
    past_two : read_letters (spellings false) (drop p₀.at s) ≡ read_letters (owned ++ sited) (drop p₀.at s)
    past_two = rw eh_strings (letters_behind (owned ++ sited) (drop p₀.at s) bare (lost s p₀.shortest (read_letters bare (drop p₀.at s)) m e))

    module _ {r' : code.Option (Augmentation × Position)} (m' : ReadsAugmentation s p₀.shortest r' (read_letters owned (drop p₀.at s))) where
      pub next_two : {p : Augmentation} {q : Position} → r' ≡ Some (p, q) → Rests s p₀.shortest (letters_of p) q (read_letters (spellings false) (drop p₀.at s))
      next_two e' =
          let f = found s p₀.shortest (read_letters owned (drop p₀.at s)) m' e' in
          record { inside = f.inside; mark = f.mark; read = past_two ∙ letters_before sited (drop p₀.at s) _ owned f.read }

      pub past_four : r' ≡ None → read_letters (spellings false) (drop p₀.at s) ≡ read_letters sited (drop p₀.at s)
      past_four e' = past_two ∙ letters_behind sited (drop p₀.at s) owned (lost s p₀.shortest (read_letters owned (drop p₀.at s)) m' e')

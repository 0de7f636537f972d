-- The whole: each answer of the entry, and the front of the buffer changed; and what an answer of 0 says.
use Rattle.std.proofs.Common.{◌≡◌, ℕ, suc, ◌<◌, ◌≤◌, T, Bool, true, false, not, ltb, List, [], ◌∷◌, ◌++◌, length, take, drop, ℤ, sym, refl, ap, ◌∙◌, arith, le-ltb, lt-ltb}
use mathlib.Core.Option.{Option, none, some}
use borrow.Author.Tests.{not-true, not-false, ltb-false}
use Rattle.format.specs.Prelude.{pick, Result, good, bad}
use Rattle.format.specs.Put.{put}
use Rattle.format.specs.Lists.{Relocation, relocations_of}
use Rattle.format.proofs.PutLaws.{length-put}
use Rattle.format.proofs.Copied.{put_front}
use Rattle.format.proofs.Choice.{is_yes_lem}
use Rattle.apply.specs.declared.Width.{Width}
use Rattle.apply.specs.declared.Kind.{Kind}
use Rattle.apply.specs.declared.Kind.TheVariants.{Data, Address, SumPlus, SumMinus, Image, Set, Sub, Unknown}
use Rattle.apply.specs.Kinds.{kind_of}
use Rattle.apply.specs.Fields.{set_in, sub_in, whole_in}
use Rattle.apply.specs.Values.{Layout, layout_of, symbols_of, sum_of, value_as, store_as, store_of}
use Rattle.apply.specs.Apply.{front, everywhere, sound, near, stores, apply, number_in, buffer_in, Applies}
use Rattle.std.proofs.lemmas.List.{take_at, drop_at}
use Rattle.apply.proofs.Distances.{in_length}

-- ---- stores keep the length

set-length : (w : Width) (bs : List ℕ) (p : ℕ) (o : Option ℤ) → length (set_in w bs p o) ≡ length bs
unfolding set_in
set-length w bs p none = refl
set-length w bs p (some z) = in_length w bs p _

sub_length : (w : Width) (bs : List ℕ) (p : ℕ) (o : Option ℤ) → length (sub_in w bs p o) ≡ length bs
unfolding sub_in
sub_length w bs p none = refl
sub_length w bs p (some z) = in_length w bs p _

whole_length : (n : ℕ) (bs : List ℕ) (p : ℕ) (o : Option ℕ) → length (whole_in n bs p o) ≡ length bs
unfolding whole_in
whole_length n bs p none = refl
whole_length n bs p (some v) = length-put bs p _

as_length : (k : Kind) (l : Layout) (bs : List ℕ) (r : Relocation) (behind : Option Relocation) → length (store_as k l bs r behind) ≡ length bs
unfolding store_as
as_length Data l bs r behind = whole_length r.bytes bs r.place (value_as Data l r behind)
as_length Address l bs r behind = whole_length r.bytes bs r.place (value_as Address l r behind)
as_length SumPlus l bs r behind = whole_length r.bytes bs r.place (value_as SumPlus l r behind)
as_length SumMinus l bs r behind = refl
as_length Image l bs r behind = whole_length r.bytes bs r.place (value_as Image l r behind)
as_length (Set w) l bs r behind = set-length w bs r.place (sum_of l.symbols r)
as_length (Sub w) l bs r behind = sub_length w bs r.place (sum_of l.symbols r)
as_length Unknown l bs r behind = refl

pub store_length : (l : Layout) (bs : List ℕ) (r : Relocation) (behind : Option Relocation) → length (store_of l bs r behind) ≡ length bs
unfolding store_of
store_length l bs r behind = as_length (kind_of r.kind) l bs r behind

pub stores-length : (l : Layout) (bs : List ℕ) (rs : List Relocation) → length (stores l bs rs) ≡ length bs
unfolding stores
stores-length l bs [] = refl
stores-length l bs (r ∷ rs) = stores-length l (store_of l bs r (front rs)) rs ∙ store_length l bs r (front rs)

-- ---- the front of a buffer

-- a front that was copied and then changed in place
pub front_changed : (out bytes : List ℕ) (f : List ℕ → List ℕ) → ((xs : List ℕ) → length (f xs) ≡ length xs) → length bytes ≤ length out
    → {copy new : List ℕ} → copy ≡ bytes → new ≡ f (take (length bytes) (copy ++ drop (length bytes) out))
    → new ++ drop (length bytes) (copy ++ drop (length bytes) out) ≡ put out 0 (f bytes)
front_changed out bytes f l h e g =
    rw (g, e, take_at bytes (drop (length bytes) out) (length bytes) refl, drop_at bytes (drop (length bytes) out) (length bytes) refl)
    (rw (put_front out (f bytes) (omega (arith, l bytes)), l bytes))

-- ---- the answers

module _ (bytes relocations addresses : List ℕ) (section image : ℕ) (out : List ℕ) where
  abbrev l : Layout
  l = layout_of addresses section image

  abbrev rs : List Relocation
  rs = relocations_of relocations

  pub short : length out < length bytes → Applies (apply bytes relocations addresses section image (length out)) 52 out out
  unfolding apply pick number_in buffer_in
  short h = simp (lt-ltb (length out) (length bytes) h) (record { number = refl; stored = refl })

  module _ (h : length bytes ≤ length out) {a : Bool} (e : a ≡ everywhere (sound l (length bytes)) none rs) where
    pub unsound : not a ≡ true → Applies (apply bytes relocations addresses section image (length out)) 79 out out
    unfolding apply pick number_in buffer_in
    unsound t =
        let x : everywhere (sound l (length bytes)) none rs ≡ false = sym e ∙ not-true a t in
        simp (le-ltb (length out) (length bytes) h, x) (record { number = refl; stored = refl })

    module _ (t : not a ≡ false) {b : Bool} (f : b ≡ everywhere (near l.symbols) none rs) where
      pub far : not b ≡ true → Applies (apply bytes relocations addresses section image (length out)) 80 out out
      unfolding apply pick number_in buffer_in
      far u =
          let x : everywhere (sound l (length bytes)) none rs ≡ true = sym e ∙ not-false a t in
          let y : everywhere (near l.symbols) none rs ≡ false = sym f ∙ not-true b u in
          simp (le-ltb (length out) (length bytes) h, x, y) (record { number = refl; stored = refl })

      pub applied : not b ≡ false → (out' : List ℕ) → out' ≡ put out 0 (stores l bytes rs)
          → Applies (apply bytes relocations addresses section image (length out)) 0 out out'
      unfolding apply pick number_in buffer_in
      applied u out' g =
          let x : everywhere (sound l (length bytes)) none rs ≡ true = sym e ∙ not-false a t in
          let y : everywhere (near l.symbols) none rs ≡ true = sym f ∙ not-false b u in
          simp (le-ltb (length out) (length bytes) h, x, y) (record { number = refl; stored = g })

-- ---- a call that answers 0

yes : (b : Bool) (n : ℕ) (x : Result (List ℕ)) → number_in (pick b (bad (suc n)) x) ≡ 0 → (b ≡ false) × (pick b (bad (suc n)) x ≡ x)
unfolding pick number_in
yes true n x e = absurd (omega arith)
yes false n x e = (refl, refl)

-- there was room, every relocation was accepted, and the result is that of the stores
pub record InPlace (bytes relocations addresses : List ℕ) (section image room : ℕ) : Type 0 where
  pub fits : length bytes ≤ room
  pub sound_ones : T (everywhere (sound (layout_of addresses section image) (length bytes)) none (relocations_of relocations))
  pub near_ones : T (everywhere (near (symbols_of addresses)) none (relocations_of relocations))
  pub is : apply bytes relocations addresses section image room ≡ good (stores (layout_of addresses section image) bytes (relocations_of relocations))

pub in_place : (bytes relocations addresses : List ℕ) (section image room : ℕ) → number_in (apply bytes relocations addresses section image room) ≡ 0
    → InPlace bytes relocations addresses section image room
unfolding apply
in_place bytes relocations addresses section image room e =
    let l : Layout = layout_of addresses section image in
    let rs : List Relocation = relocations_of relocations in
    let sound_all : Bool = everywhere (sound l (length bytes)) none rs in
    let near_all : Bool = everywhere (near l.symbols) none rs in
    let a = yes (ltb room (length bytes)) 51 _ e in
    let b = yes (not sound_all) 78 _ (ap number_in (sym a.1) ∙ e) in
    let c = yes (not near_all) 79 _ (ap number_in (sym b.1) ∙ (ap number_in (sym a.1) ∙ e)) in
    record {
      fits = ltb-false room (length bytes) a.0;
      sound_ones = is_yes_lem (not-false sound_all b.0);
      near_ones = is_yes_lem (not-false near_all c.0);
      is = a.1 ∙ (b.1 ∙ c.1);
    }

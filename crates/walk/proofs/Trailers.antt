-- The trailer of a record file, a question at a time.
use mathlib.Core.Path.{◌≡◌, refl, sym, ap}
use mathlib.Core.Bool.{Bool, true, false, ◌&&◌}
use mathlib.Core.Option.{Option, none, some}
use mathlib.Core.List.{List}
use Prim.Native.Nat.{ℕ, ◌+◌, ◌-◌, ◌*◌, ◌<◌, ◌≤◌}
use native.Mathlib.Omega.{arith}
use borrow.Author.Tests.{lt-leb, le-leb, eq-eqb, ne_eqb}
use lib.ListN.{length, take, drop}
use lib.Dec.{T, leb, eqb, leb→le, eqb→eq}
use mir.Facts.{and_yes}
use Rattle.std.specs.Prelude.{Some, None}
use Rattle.walk.specs.declared.Trailer as code
use Rattle.format.specs.Prelude.{pick, Read, next, after}
use Rattle.format.specs.Leb.{read_little}
use Rattle.format.specs.Reader.{require}
use Rattle.operations.specs.declared.fields.Position.{Position}
use Rattle.operations.specs.Positions.{little_at}
use Rattle.operations.proofs.PositionLaws.{little_rest, little_none}
use Rattle.rows.proofs.Signs.{eqb_both}
use Rattle.walk.specs.Recorded.{Slot, Trailer, matches, read_trailer, slots_of, read_recorded}
use Rattle.walk.specs.Standing.{trailer_of}
use Rattle.walk.proofs.Leaves.{from}

module _ (file distance count size : ℕ) where
  pub too_many : 128 < count → false ≡ matches file distance count size
  unfolding matches
  too_many h = simp (lt-leb count 128 h)

  module _ (few : count ≤ 128) where
    pub elsewhere : (distance ≡ 8 * count → ⊥) → false ≡ matches file distance count size
    unfolding matches
    elsewhere h = simp (le-leb count 128 few, ne_eqb distance (8 * count) h)

    module _ (e : distance ≡ 8 * count) where
      pub too_far : file < distance + 16 → false ≡ matches file distance count size
      unfolding matches
      too_far h = let n : size + distance + 16 ≡ file → ⊥ = λ q. omega arith in simp (le-leb count 128 few, eq-eqb distance (8 * count) e, ne_eqb (size + distance + 16) file n)

      pub same_size : distance + 16 ≤ file → eqb size (file - 16 - distance) ≡ matches file distance count size
      unfolding matches
      same_size h =
          simp (le-leb count 128 few, eq-eqb distance (8 * count) e) (eqb_both size (file - 16 - distance) (size + distance + 16) file (λ q. omega arith) (λ q. omega arith))

module _ (s : List ℕ) where
  pub too_short : length s < 16 → None ≡ trailer_of (read_trailer s)
  unfolding read_trailer require pick
  too_short h = simp (lt-leb 16 (length s) h)

  module _ (low : 16 ≤ length s) where
    pub too_long : 65536 < length s → None ≡ trailer_of (read_trailer s)
    unfolding read_trailer require pick
    too_long h = simp (le-leb 16 (length s) low, lt-leb (length s) 65536 h)

    module _ (high : length s ≤ 65536) where
      asked : read_trailer s
          ≡ next (read_little 8 (drop (length s - 16) s)) λ distance r₁. next (read_little 4 r₁) λ count r₂. next (read_little 4 r₂) λ size r₃.
          require (matches (length s) distance count size) (some (record { size = size; count = count }))
      unfolding read_trailer require pick
      asked = simp (le-leb 16 (length s) low, le-leb (length s) 65536 high)

      pub no_distance : little_at 8 s (from (length s - 16)) ≡ None → None ≡ trailer_of (read_trailer s)
      unfolding next
      no_distance e = rw (asked, little_none s (from (length s - 16)) 8 e)

      module _ {distance : ℕ} {p : Position} (d : little_at 8 s (from (length s - 16)) ≡ Some (distance, p)) where
        first : read_little 8 (drop (length s - 16) s) ≡ some (distance, drop p.at s)
        first = little_rest s (from (length s - 16)) (omega arith) d

        pub no_count : little_at 4 s p ≡ None → None ≡ trailer_of (read_trailer s)
        unfolding next
        no_count e = rw (asked, first, little_none s p 4 e)

        module _ {count : ℕ} {q : Position} (c : little_at 4 s p ≡ Some (count, q)) where
          second : read_little 4 (drop p.at s) ≡ some (count, drop q.at s)
          second = little_rest s p (omega arith) c

          pub no_size : little_at 4 s q ≡ None → None ≡ trailer_of (read_trailer s)
          unfolding next
          no_size e = rw (asked, first, second, little_none s q 4 e)

          module _ {size : ℕ} {r : Position} (z : little_at 4 s q ≡ Some (size, r)) where
            pub no_match : matches (length s) distance count size ≡ false → None ≡ trailer_of (read_trailer s)
            unfolding next require pick
            no_match e = rw (asked, first, second, little_rest s q (omega arith) z, e)

            pub numbers : matches (length s) distance count size ≡ true → Some (record { size = size; count = count }) ≡ trailer_of (read_trailer s)
            unfolding next require pick
            numbers e = rw (asked, first, second, little_rest s q (omega arith) z, e)

-- ---- the whole file

pub trailer_bad : (o : Option Trailer) → None ≡ trailer_of o → o ≡ none
trailer_bad none e = refl
trailer_bad (some t) e = let z : ◌≡◌ {A = ℕ} 0 1 = cc in absurd (omega arith)

pub trailer_is : (o : Option Trailer) {t : code.Trailer} → Some t ≡ trailer_of o → o ≡ some (record { size = t.size; count = t.count })
trailer_is none e = let z : ◌≡◌ {A = ℕ} 0 1 = cc in absurd (omega arith)
trailer_is (some x) {t} e =
    let i : t ≡ record { size = x.size; count = x.count } = cc in ap (λ (y : code.Trailer). some (record { size = y.size; count = y.count })) (sym i)

required : {A : Type 0} (t : Bool) (o : Option A) {a : A} → require t o ≡ some a → T t × (o ≡ some a)
unfolding require pick
required true o e = (tt, e)
required false o e = let z : ◌≡◌ {A = ℕ} 0 1 = cc in absurd (omega arith)

read_on : {A B : Type 0} (r : Read A) (k : A → List ℕ → Option B) {b : B} → next r k ≡ some b → (x : A) × (bs : List ℕ) × (k x bs ≡ some b)
unfolding next
read_on none k e = let z : ◌≡◌ {A = ℕ} 0 1 = cc in absurd (omega arith)
read_on (some x) k e = (x.0, x.1, e)

size_of : {x y : Trailer} → some x ≡ some y → x.size ≡ y.size
size_of {x} {y} e = let z : x ≡ y = cc in ap (λ (t : Trailer). t.size) z

matched : (file distance count size : ℕ) → T (matches file distance count size) → size + distance + 16 ≡ file
unfolding matches
matched file distance count size t =
    let y = and_yes (leb count 128) _ t in
    eqb→eq (size + distance + 16) file (and_yes (eqb distance (8 * count)) _ y.1).1

-- the stack lies in the file
pub trailer_inside : (file : List ℕ) {a b : ℕ} → read_trailer file ≡ some (record { size = a; count = b }) → (a ≤ length file) × (a ≤ 65536)
unfolding read_trailer
trailer_inside file {a} {b} e =
    let x = required (leb 16 (length file) && leb (length file) 65536) _ e in
    let d = read_on _ _ x.1 in
    let c = read_on _ _ d.2 in
    let s = read_on _ _ c.2 in
    let m = required _ _ s.2 in
    let w : s.0 + d.0 + 16 ≡ length file = matched (length file) d.0 c.0 s.0 m.0 in
    let small : length file ≤ 65536 = leb→le (length file) 65536 (and_yes (leb 16 (length file)) _ x.0).1 in
    let same : s.0 ≡ a = size_of m.1 in
    (omega arith, omega arith)

module _ (file : List ℕ) where
  pub no_recorded : read_trailer file ≡ none → none ≡ read_recorded file
  unfolding read_recorded after
  no_recorded e = rw e

  pub recorded_is : {a b : ℕ} {rs : List Slot} → read_trailer file ≡ some (record { size = a; count = b }) → rs ≡ slots_of b (drop a file)
      → some (record { stack = take a file; slots = rs }) ≡ read_recorded file
  unfolding read_recorded after
  recorded_is e f = rw (e, f)

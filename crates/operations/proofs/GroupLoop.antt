-- The loop over the bytes of a LEB number: one law for the unsigned and the signed reader, which differ in what a byte adds.
use mathlib.Core.Path.{◌≡◌, refl, sym, ap, ◌∙◌}
use mathlib.Core.Option.{none, some}
use mathlib.Core.List.{List, [], ◌∷◌}
use Prim.Native.Nat.{ℕ, suc, ◌+◌, ◌-◌, ◌*◌, ◌^◌, ◌≤◌, ◌<◌}
use native.Mathlib.Nat.{add-mul, mul_assoc, mul_comm, pow-le-pow_right}
use native.Mathlib.Numerals.{add-one}
use native.Mathlib.Omega.{arith}
use lib.Arith.{digits_lt}
use lib.Dec.{ltb, lit<}
use lib.IntN.{ℤ, pos, negsuc}
use lib.ListN.{length, get_or, drop, drop_of_length-le}
use lib.Seq.{drop-cons}
use Rattle.format.specs.Prelude.{pick, Read, next}
use Rattle.format.specs.Leb.{read_uleb_f, push, last7, read_sleb_f}
use Rattle.format.proofs.Choice.{if-le, if-gt}
use Rattle.operations.specs.Signs.{under}
use Rattle.operations.specs.Groups.{GroupsAt}
use Rattle.std.specs.Prelude.{Some, None}

-- what is read, changed by g
unfoldable over : {A : Type 0} → (A → A) → Read A → Read A
over g r = next r λ v rest. some (g v, rest)

over_same : {A : Type 0} (g : A → A) → ((v : A) → g v ≡ v) → (r : Read A) → over g r ≡ r
unfolding over next
over_same g e none = refl
over_same g e (some x) = rw (e x.0)

over_over : {A : Type 0} (g h l : A → A) → ((v : A) → g (h v) ≡ l v) → (r : Read A) → over g (over h r) ≡ over l r
unfolding over next
over_over g h l e none = refl
over_over g h l e (some x) = rw (e x.0)

-- A reader of groups: `last` is what a last byte says, `more d` puts the group d below, and `grown scale acc` all groups so far.
record Groupwise {A : Type 0} (read : ℕ → List ℕ → Read A) (last : ℕ → A) (more : ℕ → A → A) (grown : ℕ → ℕ → A → A) : Type 0 where
  never : (bs : List ℕ) → read 0 bs ≡ none
  ends : (f : ℕ) → read (suc f) [] ≡ none
  byte : (f b : ℕ) (bs : List ℕ) → read (suc f) (b ∷ bs) ≡ pick (ltb b 128) (some (last b, bs)) (over (more (b - 128)) (read f bs))
  first : (v : A) → grown 1 0 v ≡ v
  next_group : (scale acc d : ℕ) (v : A) → acc < scale → d < 128 → grown scale acc (more d v) ≡ grown (scale * 128) (d * scale + acc) v

module _ {A : Type 0} {read : ℕ → List ℕ → Read A} {last : ℕ → A} {more : ℕ → A → A} {grown : ℕ → ℕ → A → A} (g : Groupwise read last more grown) (s : List ℕ) (p : ℕ)
  where
    all_left : read 10 (drop p s) ≡ over (grown 1 0) (read 10 (drop p s))
    all_left = sym (over_same (grown 1 0) g.first (read 10 (drop p s)))

    -- k groups are read, and what is left says the rest
    module _ (i k scale acc : ℕ) (few : k ≤ 9) (rest : read 10 (drop p s) ≡ over (grown scale acc) (read (10 - k) (drop i s))) where
      ten : 10 - k ≡ suc (9 - k)
      ten = omega arith

      at_end_lem : length s ≤ i → read 10 (drop p s) ≡ none
      unfolding over next
      at_end_lem h = rest ∙ rw (ten, drop_of_length-le s h, g.ends)

      module _ (b : ℕ) (e : b ≡ get_or s i 0) (h : i < length s) where
        here : read 10 (drop p s) ≡ over (grown scale acc) (pick (ltb b 128) (some (last b, drop (i + 1) s)) (over (more (b - 128)) (read (9 - k) (drop (i + 1) s))))
        here = rest ∙ rw (add-one i, ten, drop-cons s i 0, ← e, g.byte)

        at_last : b < 128 → read 10 (drop p s) ≡ some (grown scale acc (last b), drop (i + 1) s)
        unfolding over next
        at_last l = here ∙ rw (if-le (suc b) 128)

        at_more : 128 ≤ b → read 10 (drop p s) ≡ over (grown scale acc) (over (more (b - 128)) (read (9 - k) (drop (i + 1) s)))
        at_more l = let m : 128 < suc b = omega arith in here ∙ rw (if-gt (suc b) 128)

        too_long : 9 ≤ k → 128 ≤ b → read 10 (drop p s) ≡ none
        unfolding over next
        too_long m l = let z : 9 - k ≡ 0 = omega arith in at_more l ∙ rw (z, g.never)

        one_less : acc < scale → 128 ≤ b → b < 256 → read 10 (drop p s) ≡ over (grown (scale * 128) ((b - 128) * scale + acc)) (read (10 - (k + 1)) (drop (i + 1) s))
        one_less l m u =
            let n : 9 - k ≡ 10 - (k + 1) = omega arith in
            at_more m
            ∙ over_over (grown scale acc) (more (b - 128)) (grown (scale * 128) ((b - 128) * scale + acc)) (λ v. g.next_group scale acc (b - 128) v l (omega arith)) (read (9 - k) (drop (i + 1) s))
            ∙ rw n

-- ---- the two readers

regroup : (d n scale : ℕ) → (d + 128 * n) * scale ≡ d * scale + n * (scale * 128)
regroup d n scale =
    let e : 128 * n * scale ≡ n * (scale * 128) = rw (mul_comm 128 n, mul_assoc n 128 scale, mul_comm 128 scale) in
    omega (arith, add-mul d (128 * n) scale)

unsigned_groups : Groupwise read_uleb_f (λ b. b) (λ d v. d + 128 * v) (λ scale acc v. v * scale + acc)
unfolding read_uleb_f over
unsigned_groups = record {
  never = λ bs. refl;
  ends = λ f. refl;
  byte = λ f b bs. refl;
  first = λ v. omega arith;
  next_group = λ scale acc d v l m. omega (arith, regroup d v scale);
}

under_first : (v : ℤ) → under 1 0 v ≡ v
unfolding under
under_first (pos n) = ap pos (omega arith)
under_first (negsuc n) = ap negsuc (omega arith)

under_push : (scale acc d : ℕ) (v : ℤ) → acc < scale → d < 128 → under scale acc (push d v) ≡ under (scale * 128) (d * scale + acc) v
unfolding under push
under_push scale acc d (pos n) l m = ap pos (omega (arith, regroup d n scale))
under_push scale acc d (negsuc n) l m =
    let e : (127 - d) * scale + d * scale ≡ 127 * scale = sym (add-mul (127 - d) d scale) ∙ ap (λ x. x * scale) (omega arith) in
    ap negsuc (omega (arith, regroup (127 - d) n scale))

signed_groups : Groupwise read_sleb_f last7 push under
unfolding read_sleb_f over
signed_groups = record {
  never = λ bs. refl;
  ends = λ f. refl;
  byte = λ f b bs. refl;
  first = under_first;
  next_group = under_push;
}

-- ---- the scale of k groups

pub scale_most : (k scale : ℕ) → scale ≡ 128 ^ k → k ≤ 9 → scale ≤ 2 ^ 63
scale_most k scale e h = omega (arith, pow-le-pow_right {n = 128} (lit< tt) {i = k} {j = 9} h)

pub scale_below : (k scale : ℕ) → scale ≡ 128 ^ k → k < 9 → scale * 128 ≤ 2 ^ 63
scale_below k scale e h = scale_most (suc k) (scale * 128) (omega arith) h

pub scale_full : (k scale : ℕ) → scale ≡ 128 ^ k → k ≡ 9 → scale ≡ 2 ^ 63
scale_full k scale e h = e ∙ ap (λ n. 128 ^ n) h

-- ---- what the loop of last_byte knows at each turn

pub record Reading (s : List ℕ) (p i scale acc : ℕ) : Type 0 where
  pub few : i - p ≤ 9
  pub scaled : scale ≡ 128 ^ (i - p)
  pub below : acc < scale
  pub reached : p ≤ i
  unsigned : read_uleb_f 10 (drop p s) ≡ over (λ v. v * scale + acc) (read_uleb_f (10 - (i - p)) (drop i s))
  signed : read_sleb_f 10 (drop p s) ≡ over (under scale acc) (read_sleb_f (10 - (i - p)) (drop i s))

pub start : (s : List ℕ) (p : ℕ) → Reading s p p 1 0
start s p =
    let e : p - p ≡ 0 = omega arith in
    record {
      few = omega arith;
      scaled = rw e;
      below = omega arith;
      reached = omega arith;
      unsigned = rw e (all_left unsigned_groups s p);
      signed = rw e (all_left signed_groups s p);
    }

module _ {s : List ℕ} {p i scale acc : ℕ} (c : Reading s p i scale acc) where
  pub ended : length s ≤ i → GroupsAt s p None
  ended h = (at_end_lem unsigned_groups s p i (i - p) scale acc c.few c.unsigned h, at_end_lem signed_groups s p i (i - p) scale acc c.few c.signed h)

  module _ {b : ℕ} (e : b ≡ get_or s i 0) (h : i < length s) where
    pub found : b < 128 → GroupsAt s p (Some (record { top = b; count = i - p; scale = scale; low = acc; end = i + 1 }))
    found l = record {
      few = c.few;
      scaled = c.scaled;
      below = c.below;
      last = l;
      ahead = omega (arith, c.reached);
      inside = omega arith;
      unsigned = at_last unsigned_groups s p i (i - p) scale acc c.few c.unsigned b e h l;
      signed = at_last signed_groups s p i (i - p) scale acc c.few c.signed b e h l;
    }

    pub long : 9 ≤ i - p → 128 ≤ b → GroupsAt s p None
    long m l = (too_long unsigned_groups s p i (i - p) scale acc c.few c.unsigned b e h m l, too_long signed_groups s p i (i - p) scale acc c.few c.signed b e h m l)

    pub turn : i - p < 9 → 128 ≤ b → b < 256 → Reading s p (i + 1) (scale * 128) ((b - 128) * scale + acc)
    turn m l u =
        let k : i + 1 - p ≡ i - p + 1 = omega (arith, c.reached) in
        record {
          few = omega arith;
          scaled = rw (k, c.scaled, add-one (i - p)) (omega arith);
          below = omega (arith, digits_lt {q = b - 128} {m = 128} {r = acc} {c = scale} (omega arith) c.below);
          reached = omega (arith, c.reached);
          unsigned = rw k (one_less unsigned_groups s p i (i - p) scale acc c.few c.unsigned b e h c.below l u);
          signed = rw k (one_less signed_groups s p i (i - p) scale acc c.few c.signed b e h c.below l u);
        }

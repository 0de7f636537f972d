-- The loop that reads a field from its end: what it knows at each turn, and the fields that are not there.
use mathlib.Core.Path.{◌≡◌, refl}
use mathlib.Core.Bool.{Bool, and-true}
use mathlib.Core.Option.{none, some}
use mathlib.Core.List.{List, [], ◌∷◌}
use Prim.Native.Nat.{ℕ, zero, suc, ◌+◌, ◌-◌, ◌*◌, ◌^◌, ◌≤◌, ◌<◌}
use native.Mathlib.Nat.{pow-le-pow_right}
use native.Mathlib.Omega.{arith}
use lib.Dec.{lit<}
use lib.ListN.{length, get_or, drop, length-drop}
use lib.Seq.{drop-cons}
use Rattle.std.specs.Prelude.{Some, None}
use Rattle.format.specs.Prelude.{next}
use Rattle.format.specs.Leb.{read_little}
use Rattle.operations.specs.declared.fields.Position.{Position}
use Rattle.operations.specs.Positions.{past, read_from, little_at}

-- ---- the loop

pub record Reading (s : List ℕ) (p n left acc : ℕ) : Type 0 where
  pub few : left ≤ n
  pub most : n ≤ 8
  pub inside : p + n ≤ length s
  pub small : acc < 256 ^ (n - left)
  same : read_little (n - left) (drop (p + left) s) ≡ some (acc, drop (p + n) s)

pub start : {s : List ℕ} {p n : ℕ} → n ≤ 8 → p + n ≤ length s → Reading s p n n 0
unfolding read_little
start {s} {p} {n} m h =
    let e : n - n ≡ 0 = omega arith in
    record { few = omega arith; most = m; inside = h; small = rw e (omega arith); same = rw e }

module _ {s : List ℕ} {p n left acc : ℕ} (c : Reading s p n left acc) where
  module _ {b : ℕ} (h : 0 < left) (e : b ≡ get_or s (p + (left - 1)) 0) (l : b < 256) where
    one_more : n - (left - 1) ≡ suc (n - left)
    one_more = omega (arith, c.few)

    grows : acc * 256 + b < 256 ^ (n - (left - 1))
    grows = rw one_more (omega (arith, c.small))

    pub room : acc * 256 + b < 2 ^ 64
    room = omega (arith, grows, c.most, pow-le-pow_right {n = 256} (lit< tt) {i = n - (left - 1)} {j = 8} (omega (arith, c.most)))

    pub turn : Reading s p n (left - 1) (acc * 256 + b)
    unfolding read_little next
    turn =
        let a : suc (p + (left - 1)) ≡ p + left = omega arith in
        let i : p + (left - 1) < length s = omega (arith, c.few, c.inside) in
        let v : b + 256 * acc ≡ acc * 256 + b = omega arith in
        record {
          few = omega (arith, c.few);
          most = c.most;
          inside = c.inside;
          small = grows;
          same = rw (one_more, drop-cons s (p + (left - 1)) 0, ← e, a, c.same, v);
        }

  -- the mark is as it was
  pub ended : (m : Bool) → left ≡ 0 → Some (acc, record { at = p + n; shortest = m }) ≡ little_at n s (record { at = p; shortest = m })
  unfolding little_at read_from past
  ended m z =
      let a : n - left ≡ n = omega arith in
      let d : p + left ≡ p = omega arith in
      let f : length s - length (drop (p + n) s) ≡ p + n = omega (arith, length-drop (p + n) s, c.inside) in
      rw (rw (a, d) at c.same, f, and-true m)

-- ---- fields that are not there

short : (k : ℕ) (bs : List ℕ) → length bs < k → read_little k bs ≡ none
unfolding read_little next
short zero bs h = absurd (omega arith)
short (suc k) [] h = refl
short (suc k) (b ∷ bs) h = rw (short k bs (omega arith))

pub missing : (s : List ℕ) (p : Position) (n : ℕ) → length s - p.at < n → None ≡ little_at n s p
unfolding little_at read_from
missing s p n h = rw (short n (drop p.at s) (omega (arith, length-drop p.at s)))

-- a field of no bytes past the end
pub nothing : (s : List ℕ) (p : Position) (n : ℕ) → n ≡ 0 → length s < p.at → Some (0, record { at = length s; shortest = p.shortest }) ≡ little_at n s p
unfolding little_at read_from read_little past
nothing s p n e h =
    let f : length s - length (drop p.at s) ≡ length s = omega (arith, length-drop p.at s) in
    rw (e, f, and-true p.shortest)

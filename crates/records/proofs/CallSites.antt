-- Call sites: an entry's length, and the loop over the landings.
use mathlib.Core.Path.{◌≡◌, refl, ap, ◌∙◌}
use Prim.Native.Nat.{ℕ, zero, suc, ◌+◌, ◌-◌, ◌*◌, ◌/◌, ◌≤◌, ◌<◌}
use native.Mathlib.Omega.{arith}
use native.Mathlib.Numerals.{add-one}
use mathlib.Core.List.{List, [], ◌∷◌, ◌++◌}
use mathlib.Core.Logic.{◌≢◌}
use lib.ListN.{length, replicate, get_or, length-append, length-replicate}
use Rattle.std.specs.Prelude.{take, drop}
use Rattle.std.proofs.lemmas.List.{length-drop, length-take-le, get_or-take, get_or-drop}
use Rattle.format.specs.Prelude.{each}
use Rattle.format.specs.Leb.{uleb}
use Rattle.format.specs.Lists.{Landing, landing_stride, landing_at, count}
use Rattle.format.specs.Headers.{padding}
use Rattle.format.specs.CallSites.{site_bytes, sites_bytes, site_table, site_pad, site_added}
use Rattle.format.proofs.Wrote.{Wrote}
use Rattle.format.proofs.Storing as storing
use Rattle.format.proofs.Storing.{Storing, stored_next}
use Rattle.lists.specs.declared.Extent.{Extent}
use Rattle.lists.specs.Extents.{meant}
use Rattle.headers.proofs.Lengths.{uleb_most}
use Rattle.records.specs.Sites.{sites_in}
use Rattle.records.proofs.Chunks.{each_moved}

-- ---- one entry

pub site_length : (l : Landing) → length (site_bytes l) ≡ length (uleb l.start) + length (uleb l.size) + length (uleb l.pad) + length (uleb 0)
unfolding site_bytes
site_length l = simp length-append (omega arith)

site_most : (l : Landing) → length (site_bytes l) ≤ 40
site_most l = omega (arith, site_length l, uleb_most l.start, uleb_most l.size, uleb_most l.pad, uleb_most 0)

-- ---- entries

none_left : (ls : List ℕ) (at : ℕ) → sites_in ls at 0 ≡ []
unfolding sites_in sites_bytes each
none_left ls at = refl

one_more : (ls : List ℕ) (at n : ℕ) → sites_in ls at (suc n) ≡ site_bytes (landing_at ls at) ++ sites_in ls (suc at) n
unfolding sites_in sites_bytes each
one_more ls at n = refl

pub sites_most : (ls : List ℕ) (at n : ℕ) → length (sites_in ls at n) ≤ 40 * n
sites_most ls at zero = rw none_left (omega arith)
sites_most ls at (suc n) = rw (one_more, length-append) (omega (arith, site_most (landing_at ls at), sites_most ls (suc at) n))

-- in front of landing i of those below `end`
here : (ls : List ℕ) (i end : ℕ) → i < end → sites_in ls i (end - i) ≡ site_bytes (landing_at ls i) ++ sites_in ls (i + 1) (end - (i + 1))
here ls i end h =
    let e : end - i ≡ suc (end - suc i) = omega arith in
    rw (add-one i, e) (one_more ls i (end - suc i))

-- ---- a part of a list

module _ (ls : List ℕ) (at n : ℕ) where
  part_at : (i : ℕ) → i < n → landing_at (take (3 * n) (drop (3 * at) ls)) i ≡ landing_at ls (at + i)
  unfolding landing_at
  part_at i h =
      let f : (j : ℕ) → j < 3 → get_or (take (3 * n) (drop (3 * at) ls)) (3 * i + j) 0 ≡ get_or ls (3 * (at + i) + j) 0 =
      λ j l. get_or-take (3 * n) (drop (3 * at) ls) (3 * i + j) 0 (omega arith) ∙ get_or-drop (3 * at) ls (3 * i + j) 0 ∙ ap (λ k. get_or ls k 0) (omega arith) in
      rw (f 0 (omega arith), f 1 (omega arith), f 2 (omega arith))

  pub part_of : at + n ≤ count landing_stride ls
      → each (landing_at (take (3 * at + 3 * n - 3 * at) (drop (3 * at) ls))) 0 (count landing_stride (take (3 * at + 3 * n - 3 * at) (drop (3 * at) ls))) ≡ each (landing_at ls) at n
  part_of h =
      let e : 3 * at + 3 * n - 3 * at ≡ 3 * n = omega arith in
      let l : length (take (3 * n) (drop (3 * at) ls)) ≡ 3 * n = length-take-le (3 * n) (drop (3 * at) ls) (omega (arith, length-drop (3 * at) ls)) in
      let k : 3 * n / 3 ≡ n = omega arith in
      let z : at + 0 ≡ at = omega arith in
      rw (e, l, k) (rw z at (each_moved (landing_at (take (3 * n) (drop (3 * at) ls))) (landing_at ls) at n part_at 0 n (omega arith)))

-- ---- the loop that writes them

pub record Writing (xs₀ xs : List ℕ) (ls : List ℕ) (at n i p : ℕ) : Type 0 where
  pub high : i ≤ n
  pub left : Storing xs₀ xs at p (sites_in ls 0 n) (sites_in ls i (n - i))

pub start : (xs ls : List ℕ) (at n : ℕ) → at + length (sites_in ls 0 n) ≤ length xs → Writing xs xs ls at n 0 at
start xs ls at n h = record {
  high = omega arith;
  left = let e : n - 0 ≡ n = omega arith in rw e (storing.start h);
}

module _ {xs₀ xs ls : List ℕ} {at n i p : ℕ} (w : Writing xs₀ xs ls at n i p) where
  front : i < n → Storing xs₀ xs at p (sites_in ls 0 n) (site_bytes (landing_at ls i) ++ sites_in ls (i + 1) (n - (i + 1)))
  front h = rw (here ls i n h) at w.left

  pub room : i < n → p + length (site_bytes (landing_at ls i)) ≤ length xs
  room h = omega (arith, (front h).room, length-append (site_bytes (landing_at ls i)) (sites_in ls (i + 1) (n - (i + 1))))

  pub turn : {ys : List ℕ} {q : ℕ} → i < n → Wrote xs ys p q (site_bytes (landing_at ls i)) → Writing xs₀ ys ls at n (i + 1) q
  turn h s = record { high = omega arith; left = stored_next (site_bytes (landing_at ls i)) (front h) s }

  pub ended : n ≤ i → Wrote xs₀ xs at p (sites_in ls 0 n)
  ended h =
      let e : n - i ≡ 0 = omega arith in
      storing.ended (rw (e, none_left) at w.left)

-- ---- the loop that counts their bytes

pub record Counting (ls : List ℕ) (n i size : ℕ) : Type 0 where
  pub high : i ≤ n
  pub left : size + length (sites_in ls i (n - i)) ≡ length (sites_in ls 0 n)

pub start_count : (ls : List ℕ) (n : ℕ) → Counting ls n 0 0
start_count ls n = record {
  high = omega arith;
  left = let e : n - 0 ≡ n = omega arith in rw e (omega arith);
}

module _ {ls : List ℕ} {n i size : ℕ} (w : Counting ls n i size) where
  module _ {x : ℕ} (h : i < n) (e : x ≡ length (site_bytes (landing_at ls i))) where
    pub turn_count : Counting ls n (i + 1) (size + x)
    turn_count =
        let k = rw (here ls i n h, length-append) at w.left in
        record { high = omega arith; left = omega arith }

    pub count_small : n ≤ 1048576 → size + x ≤ 41943040
    count_small l = omega (arith, turn_count.left, sites_most ls 0 n)

  pub ended_count : n ≤ i → size ≡ length (sites_in ls 0 n)
  ended_count h =
      let e : n - i ≡ 0 = omega arith in
      let k = rw (e, none_left) at w.left in
      omega arith

-- ---- a table, and what a function adds

pub table_bytes : (ls : List ℕ) (first n : ℕ) → site_table (each (landing_at ls) first n)
    ≡ 0xff ∷ 0xff ∷ 0x01 ∷ (uleb (length (sites_in ls first n)) ++ sites_in ls first n)
unfolding site_table sites_in
table_bytes ls first n = refl

module _ (at : ℕ) (e : Extent) (ls : List ℕ) where
  pub added_none : e.landings ≡ 0 → site_added at (meant e [] ls []).landings ≡ []
  unfolding site_added each meant
  added_none h = rw h

  pub added_some : e.landings ≢ 0 → site_added at (meant e [] ls []).landings
      ≡ replicate (padding 4 at) 0 ++ site_table (each (landing_at ls) e.landings_at e.landings)
  unfolding site_added site_pad each meant
  added_some h =
      let n : ℕ = e.landings - 1 in
      let k : e.landings ≡ suc n = omega arith in
      rw k

  module _ (h : e.landings ≢ 0) where
    pub added_length : length (site_added at (meant e [] ls []).landings)
        ≡ padding 4 at + 3 + length (uleb (length (sites_in ls e.landings_at e.landings))) + length (sites_in ls e.landings_at e.landings)
    added_length = rw (added_some h, table_bytes) (simp (length-append, length-replicate {A = ℕ} (padding 4 at) 0) (omega arith))

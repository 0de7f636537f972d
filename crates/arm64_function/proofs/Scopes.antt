-- The epilogues' words stored, and their indexes read back.
use mathlib.Core.Path.{◌≡◌, refl, subst, sym, ap, ◌∙◌}
use mathlib.Core.List.{List, [], ◌∷◌, ◌++◌}
use Prim.Native.Nat.{ℕ, zero, suc, ◌+◌, ◌-◌, ◌*◌, ◌/◌, ◌%◌, ◌^◌, ◌≤◌, ◌<◌}
use native.Mathlib.Omega.{arith}
use lib.ListN.{length, get_or, set, length-set, length-append}
use lib.Seq.{get_or-set_same}
use Rattle.format.specs.Leb.{little}
use Rattle.format.specs.Put.{put}
use Rattle.format.proofs.LebBack.{little-length}
use Rattle.format.proofs.Wrote.{Wrote}
use Rattle.format.proofs.Storing.{Storing, stored_next}
use Rattle.format.proofs.Storing as storing
use Rattle.format.proofs.Choice.{either}
use Rattle.arm64.specs.Runs.{backwards, runs_bytes}
use Rattle.arm64.specs.Lists.{epilogue_stride}
use Rattle.arm64.specs.Writer.{instructions}
use Rattle.format.specs.Lists.{field}
use Rattle.format.proofs.PutLaws.{put_before}
use Rattle.arm64_function.specs.declared.Parts.{Parts}
use Rattle.arm64_function.specs.declared.Scope.{Scope}
use Rattle.arm64_function.specs.Own.{prologue_in, own_at, codes_in, index_at, word_at, words_from, index_in, Known, Ahead, Started}
use Rattle.arm64_function.proofs.Own.{Summing, summing_start, summing_turn}
use Rattle.arm64_function.proofs.Indexes.{ahead_start, ahead_turn}

-- ---- bytes of a store

at_put : (xs : List ℕ) (q b : ℕ) (bs : List ℕ) → q < length xs → get_or (put xs q (b ∷ bs)) q 0 ≡ b
unfolding put
at_put xs q b bs h = put_before (set xs q b) (q + 1) bs q (omega arith) ∙ get_or-set_same xs q b 0 h

third : (xs : List ℕ) (q v : ℕ) → q + 4 ≤ length xs → get_or (put xs q (little 4 v)) (q + 2) 0 ≡ v / 65536 % 256
unfolding little put
third xs q v h =
    let e : q + 1 + 1 ≡ q + 2 = omega arith in
    let ys = set (set xs q (v % 256)) (q + 1) (v / 256 % 256) in
    let l : length ys ≡ length xs = length-set (set xs q (v % 256)) (q + 1) (v / 256 % 256) ∙ length-set xs q (v % 256) in
    ap (λ (k : ℕ). get_or (put ys k (v / 256 / 256 % 256 ∷ v / 256 / 256 / 256 % 256 ∷ [])) (q + 2) 0) e
    ∙ at_put ys (q + 2) (v / 256 / 256 % 256) (v / 256 / 256 / 256 % 256 ∷ []) (omega (arith, l, h)) ∙ omega arith

fourth : (xs : List ℕ) (q v : ℕ) → q + 4 ≤ length xs → get_or (put xs q (little 4 v)) (q + 3) 0 ≡ v / 16777216 % 256
unfolding little put
fourth xs q v h =
    let e : q + 1 + 1 + 1 ≡ q + 3 = omega arith in
    let ys = set (set (set xs q (v % 256)) (q + 1) (v / 256 % 256)) (q + 1 + 1) (v / 256 / 256 % 256) in
    let l : length ys ≡ length xs = length-set (set (set xs q (v % 256)) (q + 1) (v / 256 % 256)) (q + 1 + 1) (v / 256 / 256 % 256)
    ∙ length-set (set xs q (v % 256)) (q + 1) (v / 256 % 256) ∙ length-set xs q (v % 256) in
    ap (λ (k : ℕ). get_or (put ys k (v / 256 / 256 / 256 % 256 ∷ [])) (q + 3) 0) e
    ∙ at_put ys (q + 3) (v / 256 / 256 / 256 % 256) [] (omega (arith, l, h)) ∙ omega arith

-- the index in a word that was just stored
stored_index : {xs ys : List ℕ} {q r : ℕ} (s x : ℕ) → q + 4 ≤ length xs → s < 2 ^ 18 → x < 1024 → Wrote xs ys q r (little 4 (s + 2 ^ 22 * x)) → index_in ys q ≡ x
unfolding index_in
stored_index {xs} {ys} {q} {r} s x h l m w =
    let v = s + 2 ^ 22 * x in
    let a : get_or ys (q + 2) 0 ≡ v / 65536 % 256 = ap (λ zs. get_or zs (q + 2) 0) w.stored ∙ third xs q v h in
    let b : get_or ys (q + 3) 0 ≡ v / 16777216 % 256 = ap (λ zs. get_or zs (q + 3) 0) w.stored ∙ fourth xs q v h in
    omega (arith, a, b, l, m)

-- a word in front of a store
kept_index : {xs ys : List ℕ} {q r : ℕ} {bs : List ℕ} (k : ℕ) → k + 4 ≤ q → Wrote xs ys q r bs → index_in ys k ≡ index_in xs k
unfolding index_in
kept_index {xs} {ys} {q} {r} {bs} k h w =
    let a : get_or ys (k + 2) 0 ≡ get_or xs (k + 2) 0 = ap (λ zs. get_or zs (k + 2) 0) w.stored ∙ put_before xs q bs (k + 2) (omega arith) in
    let b : get_or ys (k + 3) 0 ≡ get_or xs (k + 3) 0 = ap (λ zs. get_or zs (k + 3) 0) w.stored ∙ put_before xs q bs (k + 3) (omega arith) in
    omega (arith, a, b)

-- ---- the words one after the other

words_first : (es cs : List ℕ) (p : Parts) (i : ℕ) → i < p.end → words_from es cs p i (p.end - i) ≡ little 4 (word_at es cs p i) ++ words_from es cs p (i + 1) (p.end - (i + 1))
unfolding words_from
words_first es cs p i h =
    let e : p.end - i ≡ suc (p.end - (i + 1)) = omega arith in
    let g : suc i ≡ i + 1 = omega arith in
    ap (words_from es cs p i) e ∙ ap (λ (k : ℕ). little 4 (word_at es cs p i) ++ words_from es cs p k (p.end - (i + 1))) g

words_none : (es cs : List ℕ) (p : Parts) (i : ℕ) → p.end ≤ i → words_from es cs p i (p.end - i) ≡ []
unfolding words_from
words_none es cs p i h = let e : p.end - i ≡ 0 = omega arith in ap (words_from es cs p i) e

pub words_length : (es cs : List ℕ) (p : Parts) (i n : ℕ) → length (words_from es cs p i n) ≡ 4 * n
unfolding words_from
words_length es cs p i zero = refl
words_length es cs p i (suc n) =
    omega (arith, length-append (little 4 (word_at es cs p i)) (words_from es cs p (suc i) n), words_length es cs p (suc i) n, little-length 4 (word_at es cs p i))

pub record Scoping (xs₀ xs : List ℕ) (to q : ℕ) (es cs : List ℕ) (p : Parts) (next i : ℕ) : Type 0 where
  pub sum : Summing es cs p next i
  pub ahead : Ahead es cs p next i
  pub known : Known xs to es cs p i
  pub place : q ≡ to + 4 * (i - p.first)
  pub left : Storing xs₀ xs to q (words_from es cs p p.first (p.end - p.first)) (words_from es cs p i (p.end - i))

pub scoping_start : {xs : List ℕ} {to n : ℕ} (es cs : List ℕ) (p : Parts) → to + 4 * (p.end - p.first) ≤ length xs
    → n ≡ length (backwards (prologue_in cs p)) → Scoping xs xs to to es cs p (n + 1) p.first
scoping_start {xs} {to} {n} es cs p h e =
    record {
      sum = summing_start e;
      ahead = ahead_start e;
      known = record { known = λ j a b. absurd (omega (arith, a, b)) };
      place = omega arith;
      left = storing.start (omega (arith, h, words_length es cs p p.first (p.end - p.first)));
    }

module _ {xs₀ xs : List ℕ} {to q : ℕ} {es cs : List ℕ} {p : Parts} {next i : ℕ} (s : Scoping xs₀ xs to q es cs p next i) where
  pub scoping_low : length (codes_in es cs p) ≤ 1020 → next ≤ 1020
  scoping_low h = omega (arith, s.sum.rest, h)

  module _ (l : i < p.end) where
    pub scoping_room : q + 4 ≤ length xs
    scoping_room =
        omega (arith, s.left.room, ap length (words_first es cs p i l) ∙ length-append (little 4 (word_at es cs p i)) (words_from es cs p (i + 1) (p.end - (i + 1))), little-length 4 (word_at es cs p i))

    pub scoping_turn : {ys : List ℕ} {r : ℕ} {t : Scope} → Started es p → (index_at es cs p i ≤ 1020) → (t.index ≡ index_at es cs p i) × (t.next ≡ next + length (runs_bytes (own_at es cs p i)))
        → Wrote xs ys q r (little 4 (field epilogue_stride es i 0 / 4 + 2 ^ 22 * t.index)) → Scoping xs₀ ys to r es cs p t.next (i + 1)
    unfolding word_at instructions
    scoping_turn {ys} {r} {t} g m u w =
        let low = s.sum.low in
        let z = g.starts i low l in
        let w' : Wrote xs ys q r (little 4 (field epilogue_stride es i 0 / 4 + 2 ^ 22 * index_at es cs p i))
        = subst (λ (x : ℕ). Wrote xs ys q r (little 4 (field epilogue_stride es i 0 / 4 + 2 ^ 22 * x))) u.0 w in
        let room = scoping_room in
        record {
          sum = subst (λ (n : ℕ). Summing es cs p n (i + 1)) (sym u.1) (summing_turn s.sum l refl);
          ahead = subst (λ (n : ℕ). Ahead es cs p n (i + 1)) (sym u.1) (ahead_turn s.ahead low l refl);
          known = record {
            known = λ j a b. either (j + 1) i
                (λ d. kept_index (to + 4 * (j - p.first)) (omega (arith, s.place, a, d)) w ∙ s.known.known j a (omega (arith, d)))
                (λ d. let e : j ≡ i = omega (arith, b, d) in
                let k : to + 4 * (j - p.first) ≡ q = omega (arith, s.place, e) in
                ap (index_in ys) k ∙ stored_index (field epilogue_stride es i 0 / 4) (index_at es cs p i) room (omega (arith, z)) (omega (arith, m)) w' ∙ ap (index_at es cs p) (sym e));
          };
          place = omega (arith, s.place, w.past, little-length 4 (field epilogue_stride es i 0 / 4 + 2 ^ 22 * t.index), low);
          left = stored_next (little 4 (field epilogue_stride es i 0 / 4 + 2 ^ 22 * index_at es cs p i))
              (subst (Storing xs₀ xs to q (words_from es cs p p.first (p.end - p.first))) (words_first es cs p i l) s.left) w';
        }

  pub scoping_ended : p.end ≤ i → Wrote xs₀ xs to q (words_from es cs p p.first (p.end - p.first))
  scoping_ended h = storing.ended (subst (Storing xs₀ xs to q (words_from es cs p p.first (p.end - p.first))) (words_none es cs p i h) s.left)

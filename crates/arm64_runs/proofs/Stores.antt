-- A run's codes counted and stored as numbers, forwards and backwards: what one turn of each loop does.
use mathlib.Core.Path.{◌≡◌, refl, sym, ap, ◌∙◌}
use mathlib.Core.Logic.{◌≢◌}
use mathlib.Core.Option.{Option, none, some}
use mathlib.Core.List.{List, [], ◌∷◌, ◌++◌}
use Prim.Native.Nat.{ℕ, ◌+◌, ◌-◌, ◌*◌, ◌≤◌}
use native.Mathlib.Omega.{arith}
use lib.ListN.{length}
use Rattle.format.specs.Put.{put}
use Rattle.format.proofs.Wrote.{Wrote}
use Rattle.format.proofs.PutLaws.{put-append, kept, put-in_front}
use Rattle.format.proofs.Storing.{Storing, stored_next}
use Rattle.format.proofs.Storing as storing
use Rattle.arm64.specs.declared.Code.{Code}
use Rattle.arm64.specs.Codes.{code_at}
use Rattle.arm64.specs.Lists.{code_numbers}
use Rattle.arm64.specs.Meaning.{reverse}
use Rattle.arm64.specs.Reader.{in_front, run_at}
use Rattle.arm64.proofs.PackingLaws.{reverse-length}
use Rattle.arm64_runs.specs.Runs.{count_of, codes_in}
use Rattle.arm64_runs.proofs.Ahead.{run_none, run_on, run_out}

-- ---- codes as numbers

pub code_numbers-length : (cs : List Code) → length (code_numbers cs) ≡ 3 * length cs
unfolding code_numbers
code_numbers-length [] = refl
code_numbers-length (c ∷ cs) = omega (arith, code_numbers-length cs)

pub code_numbers-append : (us bs : List Code) → code_numbers (us ++ bs) ≡ code_numbers us ++ code_numbers bs
unfolding code_numbers
code_numbers-append [] bs = refl
code_numbers-append (u ∷ us) bs = rw (code_numbers-append us bs)

-- ---- counted

-- the count of a run behind n codes
pub more : ℕ → Option (List Code) → Option ℕ
more n none = none
more n (some cs) = some (n + length cs)

pub more_first : (x : Option (List Code)) → count_of x ≡ more 0 x
unfolding count_of more
more_first none = refl
more_first (some cs) = ap some (omega arith)

more_next : (n : ℕ) (c : Code) (x : Option (List Code)) → more n (in_front c x) ≡ more (n + 1) x
unfolding more in_front
more_next n c none = refl
more_next n c (some cs) = ap some (omega arith)

module _ (s : List ℕ) (p n : ℕ) where
  pub more_none : code_at s p ≡ none → more n (run_at s p) ≡ none
  unfolding more
  more_none e = rw (run_none s p e)

  module _ {c : Code} {q : ℕ} (e : code_at s p ≡ some (c, q)) where
    pub more_on : c.kind ≢ 18 → more n (run_at s p) ≡ more (n + 1) (run_at s q)
    more_on k = ap (more n) (run_on s p e k) ∙ more_next n c (run_at s q)

    pub more_out : c.kind ≡ 18 → more n (run_at s p) ≡ some n
    unfolding more
    more_out k = rw (run_out s p e k) (ap some (omega arith))

-- ---- a run that is there, turn by turn

-- there is a run at p
abbrev pub There : List ℕ → ℕ → Type 0
There s p = run_at s p ≡ some (codes_in (run_at s p))

split_front : {c : Code} {y : Option (List Code)} (x : Option (List Code)) → y ≡ in_front c x → y ≡ some (codes_in y) → (x ≡ some (codes_in x)) × (codes_in y ≡ c ∷ codes_in x)
unfolding in_front codes_in
split_front none e h = absurd cc
split_front (some cs) e h = (refl, rw e)

module _ (s : List ℕ) (p : ℕ) (r : There s p) where
  pub never_none : code_at s p ≡ none → ⊥
  never_none e = cc (run_none s p e, r)

  module _ {c : Code} {q : ℕ} (e : code_at s p ≡ some (c, q)) where
    pub run_next : c.kind ≢ 18 → There s q × (codes_in (run_at s p) ≡ c ∷ codes_in (run_at s q))
    run_next k = split_front (run_at s q) (run_on s p e k) r

    pub run_ended : c.kind ≡ 18 → codes_in (run_at s p) ≡ []
    unfolding codes_in
    run_ended k = rw (run_out s p e k)

-- ---- forwards

-- the first of the codes that are left
module _ (all : List Code) {xs₀ xs : List ℕ} {at i : ℕ} {left rest : List Code} {c : Code} (d : Storing xs₀ xs at i (code_numbers all) (code_numbers left)) (e : left ≡ c ∷ rest) where
  first_numbers : code_numbers left ≡ code_numbers (c ∷ []) ++ code_numbers rest
  unfolding code_numbers
  first_numbers = ap code_numbers e

  pub put_room : i + 3 ≤ length xs
  put_room = omega (arith, d.room, code_numbers-length left, ap length e)

  pub put_turn : {ys : List ℕ} {j : ℕ} → Wrote xs ys i j (code_numbers (c ∷ [])) → Storing xs₀ ys at j (code_numbers all) (code_numbers rest)
  put_turn w = stored_next (code_numbers (c ∷ [])) (rw first_numbers at d) w

pub put_start : {xs : List ℕ} {at : ℕ} {all left : List Code} → left ≡ all → at + 3 * length all ≤ length xs
    → Storing xs xs at at (code_numbers all) (code_numbers left)
put_start {all = all} e h = rw e (storing.start (omega (arith, code_numbers-length all)))

pub put_ended : (all : List Code) {xs₀ xs : List ℕ} {at i : ℕ} {left : List Code} → Storing xs₀ xs at i (code_numbers all) (code_numbers left) → left ≡ []
    → Wrote xs₀ xs at i (code_numbers all)
unfolding code_numbers
put_ended all d e = storing.ended (rw e at d)

-- ---- backwards

pub record Backing (all left : List Code) (xs₀ xs : List ℕ) (i : ℕ) : Type 0 where
  pub place : i ≡ 3 * length left
  pub room : i ≤ length xs
  pub same_length : length xs ≡ length xs₀
  same : put xs 0 (code_numbers (reverse left)) ≡ put xs₀ 0 (code_numbers (reverse all))

pub back_start : {all left : List Code} {xs : List ℕ} {end : ℕ} → left ≡ all → end ≡ 3 * length all → end ≤ length xs → Backing all left xs xs end
back_start {xs = xs} e n h = record { place = n ∙ ap (λ cs. 3 * length cs) (sym e); room = h; same_length = refl; same = ap (λ cs. put xs 0 (code_numbers (reverse cs))) e }

-- the last code of a reversed list may be stored first
back_put : (xs : List ℕ) (c : Code) (cs : List Code) (i : ℕ) → i ≡ 3 * length cs
    → put (put xs i (code_numbers (c ∷ []))) 0 (code_numbers (reverse cs)) ≡ put xs 0 (code_numbers (reverse (c ∷ cs)))
unfolding reverse
back_put xs c cs i n =
    let l : 0 + length (code_numbers (reverse cs)) ≡ i = omega (arith, code_numbers-length (reverse cs), reverse-length cs) in
    put-in_front xs 0 i (code_numbers (reverse cs)) (code_numbers (c ∷ [])) (omega arith)
    ∙ ap (λ (k : ℕ). put (put xs 0 (code_numbers (reverse cs))) k (code_numbers (c ∷ []))) (sym l)
    ∙ sym (put-append xs 0 (code_numbers (reverse cs)) (code_numbers (c ∷ [])))
    ∙ ap (put xs 0) (sym (code_numbers-append (reverse cs) (c ∷ [])))

module _ {all left rest : List Code} {xs₀ xs : List ℕ} {i : ℕ} (d : Backing all left xs₀ xs i) {c : Code} (e : left ≡ c ∷ rest) where
  pub back_room : 3 ≤ i
  back_room = omega (arith, d.place, ap length e)

  pub back_turn : {ys : List ℕ} {j : ℕ} → Wrote xs ys (i - 3) j (code_numbers (c ∷ [])) → Backing all rest xs₀ ys (i - 3)
  back_turn {ys} w =
      let n : i - 3 ≡ 3 * length rest = omega (arith, d.place, ap length e) in
      record {
        place = n;
        room = omega (arith, kept w, d.room);
        same_length = kept w ∙ d.same_length;
        same = rw w.stored (back_put xs c rest (i - 3) n ∙ rw e at d.same);
      }

pub back_ended : {all left : List Code} {xs₀ xs : List ℕ} {i : ℕ} → Backing all left xs₀ xs i → left ≡ [] → xs ≡ put xs₀ 0 (code_numbers (reverse all))
unfolding code_numbers reverse put
back_ended d e = rw e at d.same

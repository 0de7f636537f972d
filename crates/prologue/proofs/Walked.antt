-- The rows of a prologue read one by one say what its groups say.
use mathlib.Core.Path.{◌≡◌, refl, sym, ap, ◌∙◌}
use Prim.Native.Nat.{ℕ, zero, suc, ◌+◌, ◌-◌, ◌≤◌, ◌<◌}
use native.Mathlib.Omega.{arith}
use mathlib.Core.Bool.{Bool, true, false, not}
use mathlib.Core.List.{List}
use lib.Dec.{T, eqb}
use borrow.Author.Tests.{eq-eqb, ne_eqb}
use Rattle.format.specs.Prelude.{pick, Result, good, bad, onward, each}
use Rattle.format.specs.declared.Machine.{Machine}
use Rattle.format.specs.Lists.{row_at}
use Rattle.format.specs.Writer.{is_empty}
use Rattle.format.specs.X64.{Prefix, groups, push_rows, read_groups}
use Rattle.format.proofs.Choice.{if-gt, tested, is_true, is_false}
use Rattle.prologue.specs.declared.Walk.{Walk}
use Rattle.prologue.specs.Groups.{joined, joins, third, lone_in, push_in, last_in, row_in, walk_from}
use Rattle.prologue.specs.Pieces.{end_in}
use Rattle.prologue.proofs.Instructions.{Parted, read_lone, read_push, read_third}
use Rattle.prologue.proofs.Neighbours.{joins_last, joins_yes, joins_no, next_yes, next_no, not_third, is_third}
use Rattle.prologue.proofs.Prefixes.{walk_of, Ends, Reads, refuses, reads, link, past, lone_reads, push_reads}

-- what a row adds, and what n rows from i on add
unfoldable pub past_row : (rows : List ℕ) (at end i : ℕ) → Prefix → Prefix
past_row rows at end i s = past (row_at rows i).0 (joins rows i end) (joined rows at i) (row_at rows i).1 s

unfoldable pub past_rows : (rows : List ℕ) (at end i n : ℕ) → Prefix → Prefix
past_rows rows at end i zero s = s
past_rows rows at end i (suc n) s = past_rows rows at end (suc i) n (past_row rows at end i s)

end_behind : (rows : List ℕ) (at i : ℕ) → at ≤ i → end_in rows at (suc i) ≡ (row_at rows i).0
unfolding end_in
end_behind rows at i h =
    let e : suc i - 1 ≡ i = omega arith in
    if-gt (suc i) at 0 (row_at rows (suc i - 1)).0 (omega arith) ∙ ap (λ (k : ℕ). (row_at rows k).0) e

module _ (m : Machine) (rows : List ℕ) (at end : ℕ) where
  -- ---- one row

  module _ (i : ℕ) (w : Walk) where
    pub at_third : third rows at i ≡ true → row_in m rows at end i w ≡ bad 33
    unfolding row_in pick
    at_third e = rw e

    pub at_open : third rows at i ≡ false → joins rows i end ≡ true → row_in m rows at end i w ≡ good w
    unfolding row_in pick
    at_open e g = rw (e, g)

    pub at_last : third rows at i ≡ false → joins rows i end ≡ false → row_in m rows at end i w ≡ last_in m rows at end i w
    unfolding row_in pick
    at_last e g = rw (e, g)

    pub at_push : joined rows at i ≡ true → last_in m rows at end i w ≡ push_in m (row_at rows (i - 1)).1 (row_at rows i).1 w
    unfolding last_in pick
    at_push e = rw e

    pub at_lone : joined rows at i ≡ false → last_in m rows at end i w ≡ lone_in m (eqb (suc i) end) (row_at rows i).1 w
    unfolding last_in pick
    at_lone e = rw e

  -- the walk over one row
  pub turned : (i n : ℕ) (w : Walk) (v : Result Walk) → row_in m rows at end i w ≡ v
      → walk_from m rows at end i (suc n) w ≡ onward v (walk_from m rows at end (suc i) n)
  unfolding walk_from
  turned i n w v e = rw e

  row_adds : (i : ℕ) (s : Prefix) {a b : Bool} → joins rows i end ≡ a → joined rows at i ≡ b
      → past_row rows at end i s ≡ past (row_at rows i).0 a b (row_at rows i).1 s
  unfolding past_row
  row_adds i s g j = rw (g, j)

  -- ---- one instruction, with the rest read behind it

  -- what is to be shown of n rows from i on
  abbrev Said : (i n : ℕ) → Prefix → Type 0
  Said i n s = Reads m (past_rows rows at end i n s) (end_in rows at end) (read_groups m (groups (each (row_at rows) i n)) s) (walk_from m rows at end i n (walk_of m s))

  parted : (i n : ℕ) → end ≡ suc i + n → T (not (joins rows i end)) → Parted (row_at rows i) (each (row_at rows) (suc i) n)
  unfolding each
  parted i zero e t = tt
  parted i (suc n) e t = joins_no rows i end (omega arith) t

  none_behind : (i n : ℕ) → end ≡ i + n → is_empty (each (row_at rows) i n) ≡ eqb i end
  unfolding each is_empty
  none_behind i zero e = sym (eq-eqb i end (omega arith))
  none_behind i (suc n) e = sym (ne_eqb i end (λ f. omega arith))

  lone_step : (i n : ℕ) → end ≡ suc i + n → joined rows at i ≡ false → T (not (joins rows i end)) → (s : Prefix)
      → (Ends (past_row rows at end i s) (row_at rows i).0 → Said (suc i) n (past_row rows at end i s)) → Said i (suc n) s
  unfolding each past_rows
  lone_step i n e j t s rest =
      let L = row_at rows in
      let g = is_false (joins rows i end) t in
      let same : past_row rows at end i s ≡ past (L i).0 false false (L i).1 s = row_adds i s g j in
      let row = at_last i (walk_of m s) (not_third rows at i j) g ∙ at_lone i (walk_of m s) j in
      let first = lone_reads m (L i).0 s (eqb (suc i) end) (L i).1 in
      rw (read_lone m s (L i) (each L (suc i) n) (parted i n e t), none_behind (suc i) n e, turned i n (walk_of m s) (lone_in m (eqb (suc i) end) (L i).1 (walk_of m s)) row, same)
      (link (read_groups m (groups (each L (suc i) n))) (walk_from m rows at end (suc i) n) first (λ l. rw same at (rest (rw same l))))

  -- row i joins row i + 1, and row i + 1 is or is not the third of its instruction
  third_behind : (i : ℕ) → joined rows at (suc i) ≡ true → third rows at (suc i) ≡ joined rows at i
  third_behind i e = let p : suc i - 1 ≡ i = omega arith in is_third rows at (suc i) e ∙ ap (joined rows at) p

  push_behind : (i : ℕ) (w : Walk) → joined rows at i ≡ false → joined rows at (suc i) ≡ true → joins rows (suc i) end ≡ false
      → row_in m rows at end (suc i) w ≡ push_in m (row_at rows i).1 (row_at rows (suc i)).1 w
  push_behind i w j e g =
      let p : suc i - 1 ≡ i = omega arith in
      at_last (suc i) w (third_behind i e ∙ j) g ∙ at_push (suc i) w e ∙ ap (λ (k : ℕ). push_in m (row_at rows k).1 (row_at rows (suc i)).1 w) p

  passed : (i n : ℕ) (s : Prefix) → third rows at i ≡ false → joins rows i end ≡ true
      → walk_from m rows at end i (suc n) (walk_of m s) ≡ walk_from m rows at end (suc i) n (walk_of m s)
  unfolding onward
  passed i n s e g = turned i n (walk_of m s) (good (walk_of m s)) (at_open i (walk_of m s) e g)

  -- what is left behind two rows
  abbrev Last : (i n : ℕ) → Prefix → Type 0
  Last i n s =
      let t = past_row rows at end (suc i) (past_row rows at end i s) in
      Ends t (row_at rows i).0 → Said (suc (suc i)) n t

  push_step : (i n : ℕ) → end ≡ suc (suc i) + n → at ≤ i → joined rows at i ≡ false → T (joins rows i end) → T (not (joins rows (suc i) end)) → (s : Prefix)
      → Last i n s → Said i (suc (suc n)) s
  unfolding each past_rows
  push_step i n e h j t t' s rest =
      let L = row_at rows in
      let g = is_true (joins rows i end) t in
      let g' = is_false (joins rows (suc i) end) t' in
      let equal = (joins_yes rows i end t).1 in
      let j' = next_yes rows at i h equal in
      let u : Prefix = past (L (suc i)).0 false true (L (suc i)).1 (past (L i).0 true false (L i).1 s) in
      let same : past_row rows at end (suc i) (past_row rows at end i s) ≡ u =
      row_adds (suc i) (past_row rows at end i s) g' j' ∙ ap (past (L (suc i)).0 false true (L (suc i)).1) (row_adds i s g j) in
      let w = walk_of m s in
      let walk = passed i (suc n) s (not_third rows at i j) g ∙ turned (suc i) n w (push_in m (L i).1 (L (suc i)).1 w) (push_behind i w j j' g') in
      let first : Reads m u (L i).0 (push_rows m (L i).0 (L i).1 (L (suc i)).1 s) (push_in m (L i).1 (L (suc i)).1 w) = rw (sym equal) (push_reads m (L i).0 s (L i).1 (L (suc i)).1) in
      rw (read_push m s (L i) (L (suc i)) (each L (suc (suc i)) n) equal (parted (suc i) n e t'), walk, same)
      (link (read_groups m (groups (each L (suc (suc i)) n))) (walk_from m rows at end (suc (suc i)) n) first (λ l. rw same at (rest (rw same l))))

  third_step : (i n : ℕ) → at ≤ i → joined rows at i ≡ false → T (joins rows i end) → T (joins rows (suc i) end) → (s : Prefix)
      → Said i (suc (suc (suc n))) s
  unfolding each past_rows onward
  third_step i n h j t t' s =
      let L = row_at rows in
      let equal = (joins_yes rows i end t).1 in
      let equal' = (joins_yes rows (suc i) end t').1 in
      let j' = next_yes rows at i h equal in
      let j'' = next_yes rows at (suc i) (omega arith) equal' in
      let w = walk_of m s in
      let walk : walk_from m rows at end i (suc (suc (suc n))) w ≡ bad 33 =
      passed i (suc (suc n)) s (not_third rows at i j) (is_true (joins rows i end) t)
      ∙ passed (suc i) (suc n) s (third_behind i j' ∙ j) (is_true (joins rows (suc i) end) t')
      ∙ turned (suc (suc i)) n w (bad 33) (at_third (suc (suc i)) w (third_behind (suc i) j'' ∙ j')) in
      refuses 33 (read_third m s (L i) (L (suc i)) (L (suc (suc i))) (each L (suc (suc (suc i))) n) equal equal') walk

  -- ---- all of them

  more_rows : (i n : ℕ) → end ≡ suc (suc i) + n → at ≤ i → joined rows at i ≡ false → T (joins rows i end) → (s : Prefix)
      → (T (not (joins rows (suc i) end)) → Last i n s) → Said i (suc (suc n)) s
  more_rows i zero e h j t s rest =
      let g' = joins_last rows (suc i) end (omega arith) in
      let t' : T (not (joins rows (suc i) end)) = rw g' tt in
      push_step i zero e h j t t' s (rest t')
  more_rows i (suc n) e h j t s rest =
      tested (joins rows (suc i) end) (λ t'. third_step i n h j t t' s) (λ t'. push_step i (suc n) e h j t t' s (rest t'))

  opens_behind : (i n : ℕ) → end ≡ suc i + n → at ≤ i → T (not (joins rows i end)) → 0 < n → joined rows at (suc i) ≡ false
  opens_behind i n e h t l = next_no rows at i h (joins_no rows i end (omega arith) t)

  pub said : (i n : ℕ) → end ≡ i + n → at ≤ i → (0 < n → joined rows at i ≡ false) → (s : Prefix) → Ends s (end_in rows at i) → Said i n s
  unfolding each groups read_groups walk_from past_rows
  said i zero e h j s l = let f : i ≡ end = omega arith in reads refl refl (rw f at l)
  said i (suc zero) e h j s l =
      let t : T (not (joins rows i end)) = rw (joins_last rows i end (omega arith)) tt in
      lone_step i zero (omega arith) (j (omega arith)) t s (λ l'. said (suc i) zero (omega arith) (omega arith) (λ z. absurd (omega arith)) (past_row rows at end i s) (rw (end_behind rows at i h) l'))
  said i (suc (suc n)) e h j s l =
      let f = j (omega arith) in
      let last : end ≡ suc (suc i) + n = omega arith in
      tested (joins rows i end)
      (λ t.
      more_rows i n last h f t s
      (λ t' l'. said (suc (suc i)) n last (omega arith) (opens_behind (suc i) n last (omega arith) t') (past_row rows at end (suc i) (past_row rows at end i s)) (rw (end_behind rows at (suc i) (omega arith), ← (joins_yes rows i end t).1) l')))
      (λ t. lone_step i (suc n) (omega arith) f t s (λ l'. said (suc i) (suc n) (omega arith) (omega arith) (opens_behind i (suc n) (omega arith) h t) (past_row rows at end i s) (rw (end_behind rows at i h) l')))

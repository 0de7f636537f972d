-- From steps to codes: question 34, the codes one by one, and a function's codes from what its rows say.
use mathlib.Core.Path.{◌≡◌, refl, sym, ap, ◌∙◌}
use Prim.Native.Nat.{ℕ, zero, suc}
use native.Mathlib.Omega.{arith}
use mathlib.Core.Bool.{Bool, true, false}
use mathlib.Core.Option.{Option, none, some}
use mathlib.Core.List.{List, [], ◌∷◌, ◌++◌, append-nil, append_assoc}
use lib.Dec.{T, ltb}
use lib.IntN.{ℤ, pos, ◌+ℤ◌}
use mir.Facts.{and_yes}
use Rattle.std.specs.Prelude.{Err}
use Rattle.format.specs.Numbers.{number_of}
use Rattle.format.specs.declared.question.Question.{Question}
use Rattle.format.specs.declared.question.Question.TheVariants.{Registers}
use Rattle.format.specs.Prelude.{pick, Result, good, bad, onward, all, each}
use Rattle.format.specs.declared.Machine.{Machine}
use Rattle.format.specs.Machine.{Register, register_of}
use Rattle.format.specs.declared.Seh.{Seh}
use Rattle.format.specs.declared.Seh.TheVariants.{Push, Frame, Save}
use Rattle.format.specs.Lists.{Function, count, row_stride, row_at}
use Rattle.format.specs.X64.{Step, push, alloc, frame, save, Prefix, groups, read_groups, low16, code_for, codes_for, codes_of, end_of}
use Rattle.format.proofs.Choice.{if-le, is_yes_lem}
use Rattle.prologue.specs.declared.Walk.{Walk}
use Rattle.prologue.specs.Groups.{is_good, knows, known, start, walk_from}
use Rattle.prologue.specs.Pieces.{moved_in, step_in, code_in, codes_in, piece_in, pieces_from, pieces_of, end_in, all_rows, Leads, Says, Shaped}
use Rattle.prologue.specs.Readable.{Short}
use Rattle.prologue.proofs.Neighbours.{joined_first}
use Rattle.prologue.proofs.Prefixes.{all_known, count_of, walk_of, last_of, Reads, reads, refuses, past}
use Rattle.prologue.proofs.Walked.{past_row, past_rows, said}

-- ---- question 34

-- a code where the register is known, else 34
data Coded (result : Result Seh) (known : Bool) : Type 0 where
  coded : (c : Seh) → result ≡ good c → known ≡ true → Coded result known
  unknown : result ≡ bad 34 → known ≡ false → Coded result known

tried : (b : Bool) (r : Register) (f : Register → Seh) → Coded (onward (pick b (good r) (bad 34)) λ x. good (f x)) (is_good (pick b (good r) (bad 34)))
unfolding pick onward is_good
tried true r f = coded (f r) refl refl
tried false r f = unknown refl refl

by_register : (x : Option Register) (f : Register → Seh) → Coded (onward (low16 x) λ r. good (f r)) (is_good (low16 x))
unfolding onward low16 is_good
by_register none f = unknown refl refl
by_register (some r) f = tried (ltb r.number 16) r f

module _ (m : Machine) (below : ℤ) where
  by_step : (s : Step) → Coded (code_for m below s) (known m s)
  unfolding code_for known knows
  by_step (push reg) = by_register (register_of m reg) λ r. Push r.number
  by_step (alloc z) = coded _ refl refl
  by_step frame = by_register (register_of m m.frame) λ r. Frame r.number (pos 0)
  by_step (save reg z) = by_register (register_of m reg) λ r. Save r.number r.vector (below +ℤ z)

  -- the codes, where every register is known
  first_code : (x : ℕ × Step) (xs : List (ℕ × Step)) → Coded (code_for m below x.1) (known m x.1)
      → codes_for m below xs ≡ pick (all_known m xs) (good (codes_in m below xs)) (bad 34)
      → codes_for m below (x ∷ xs) ≡ pick (all_known m (x ∷ xs)) (good (codes_in m below (x ∷ xs))) (bad 34)
  unfolding codes_for codes_in code_in onward all_known all pick
  first_code x xs (coded c e k) rest = rw (e, k, rest) (go (all_known m xs))
    where
      go : (b : Bool)
          → onward (pick b (good (codes_in m below xs)) (bad 34)) (λ cs. good ((x.0, c) ∷ cs)) ≡ pick b (good ((x.0, c) ∷ codes_in m below xs)) (bad 34)
      go true = refl
      go false = refl
  first_code x xs (unknown e k) rest = rw (e, k)

  pub all_codes : (xs : List (ℕ × Step)) → codes_for m below xs ≡ pick (all_known m xs) (good (codes_in m below xs)) (bad 34)
  unfolding codes_for codes_in all_known all pick
  all_codes [] = refl
  all_codes (x ∷ xs) = first_code x xs (by_step x.1) (all_codes xs)

  -- the last code's offset is the last step's
  one_end : (n : ℕ) (x : ℕ × Step) (xs : List (ℕ × Step)) → Coded (code_for m below x.1) (known m x.1) → T (known m x.1)
      → end_of n (codes_in m below (x ∷ xs)) ≡ end_of x.0 (codes_in m below xs)
  unfolding codes_in code_in end_of
  one_end n x xs (coded c e k) t = rw e
  one_end n x xs (unknown e k) t = absurd (rw k at t)

  all_ends : (n : ℕ) (xs : List (ℕ × Step)) → T (all_known m xs) → end_of n (codes_in m below xs) ≡ last_of n xs
  unfolding codes_in end_of last_of all_known all
  all_ends n [] t = refl
  all_ends n (x ∷ xs) t =
      let h = and_yes (known m x.1) (all_known m xs) t in
      one_end n x xs (by_step x.1) h.0 ∙ all_ends x.0 xs h.1

  -- ---- the codes one by one

  codes_append : (xs ys : List (ℕ × Step)) → codes_in m below (xs ++ ys) ≡ codes_in m below xs ++ codes_in m below ys
  unfolding codes_in
  codes_append [] ys = refl
  codes_append (x ∷ xs) ys = rw (codes_append xs ys, append_assoc)

  module _ (rows : List ℕ) (at end : ℕ) where
    pieces_past : (i n : ℕ) (s : Prefix)
        → codes_in m below (past_rows rows at end i n s).steps ≡ codes_in m below s.steps ++ pieces_from m below s.below rows at i end n
    unfolding past_rows past_row past pieces_from piece_in step_in moved_in
    pieces_past i zero s = sym (append-nil (codes_in m below s.steps))
    pieces_past i (suc n) s =
        pieces_past (suc i) n (past_row rows at end i s)
        ∙ ap (λ (l : List (ℕ × Seh)). l ++ pieces_from m below (moved_in s.below rows i) rows at (suc i) end n)
        (codes_append s.steps (step_in s.below rows at i end))
        ∙ append_assoc (codes_in m below s.steps) (piece_in m below s.below rows at i end) _

-- ---- what a function's rows say

says : {m : Machine} {t : Prefix} {off : ℕ} {result : Result Prefix} {w : Result Walk} → Reads m t off result w
    → onward result (λ s. codes_for m s.below s.steps) ≡ onward w (λ v. pick v.named (good (codes_in m v.below t.steps)) (bad 34))
unfolding onward walk_of
says {m} {t} (reads e u l) = rw (e, u) (all_codes m t.below t.steps)
says (refuses n e u) = rw (e, u)

ends : {m : Machine} {t : Prefix} {off : ℕ} {result : Result Prefix} {w : Result Walk} {v : Walk} → Reads m t off result w → w ≡ good v → v.named ≡ true
    → end_of 0 (codes_in m v.below t.steps) ≡ off
unfolding walk_of
ends {m} {t} {v = v} (reads e u l) g z =
    let f : v ≡ walk_of m t = cc in
    rw f (all_ends m t.below 0 t.steps (is_yes_lem (rw f at z)) ∙ l)
ends (refuses n e u) g z = cc

module _ (m : Machine) (rows front : List ℕ) (leads : Leads rows front) where
  abbrev end : ℕ
  end = count row_stride front

  abbrev none_yet : Prefix
  none_yet = record { steps = []; below = pos m.pushed }

  abbrev walked : Result Walk
  walked = walk_from m front 0 end 0 end (start m)

  whole : Reads m (past_rows front 0 end 0 end none_yet) (end_in front 0 end) (read_groups m (groups (each (row_at front) 0 end)) none_yet) walked
  unfolding start walk_of count_of all_known all last_of end_in
  whole = said m front 0 end 0 end (omega arith) (omega arith) (λ l. joined_first front 0 0 (omega arith)) none_yet (sym (if-le 0 0 0 _ (omega arith)))

  pieces_all : (below : ℤ) → codes_in m below (past_rows front 0 end 0 end none_yet).steps ≡ pieces_of m below front
  unfolding codes_in
  pieces_all below = pieces_past m below front 0 end 0 end none_yet

  codes : (f : Function) → f.rows ≡ all_rows rows
      → codes_of m f ≡ onward walked (λ v. pick v.named (good (codes_in m v.below (past_rows front 0 end 0 end none_yet).steps)) (bad 34))
  unfolding codes_of
  codes f e = rw (e, leads.before) (says whole)

  module _ {v : Walk} (g : walked ≡ good v) where
    pub shaped : Short v.below → v.named ≡ true → Says m rows v.below front
    unfolding onward pick
    shaped h z =
        record {
          leads = leads;
          short = h;
          codes = λ f e. codes f e ∙ rw (g, z) (ap good (pieces_all v.below));
          last = rw (← pieces_all v.below) (ends whole g z);
        }

    pub unnamed : v.named ≡ false → Shaped m rows (Err Registers)
    unfolding onward pick
    unnamed z f e = codes f e ∙ rw (g, z)

  pub stopped : (q : Question) → walked ≡ bad (number_of q) → Shaped m rows (Err q)
  unfolding onward
  stopped q g f e = codes f e ∙ rw g

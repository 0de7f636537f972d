-- What is known of a prologue's steps in a few numbers, and that a row read on these numbers is the row read on the steps.
use mathlib.Core.Path.{◌≡◌, refl, sym, ap}
use Prim.Native.Nat.{ℕ, ◌*◌}
use mathlib.Core.Bool.{Bool, true, false, ◌&&◌, and_assoc, and-true}
use mathlib.Core.List.{List, [], ◌∷◌, ◌++◌, append-nil}
use lib.Dec.{T, eqb}
use lib.IntN.{ℤ, pos, neg_ℤ, ◌-ℤ◌}
use mir.Facts.{and_yes, eqb_yes}
use Rattle.format.specs.Prelude.{pick, Result, good, bad, onward, all}
use Rattle.format.specs.declared.Machine.{Machine}
use Rattle.format.specs.declared.Row.{Row}
use Rattle.format.specs.declared.Row.TheVariants.{DefCfa, DefCfaOffset, DefCfaRegister, Offset, Restore, Undefined, RememberState, RestoreState, NegateRaState, SameValue, InRegister}
use Rattle.format.specs.Rows.{kind_of, reg_of, offset_of, same_offset}
use Rattle.format.specs.X64.{Step, push, alloc, frame, save, Prefix, more, is_push, only_push, lone_row, push_rows}
use Rattle.prologue.specs.declared.Walk.{Walk}
use Rattle.prologue.specs.declared.Steps.{Steps}
use Rattle.prologue.specs.declared.Steps.TheVariants.{NoStep, PointerPushed, Others}
use Rattle.prologue.specs.Groups.{known, counted, is_pushed, stepped, added, lone_in, push_in}
use Rattle.prologue.specs.Pieces.{moved_by, row_step}

-- ---- the steps in numbers

unfoldable pub count_of : (reg : ℕ) → List (ℕ × Step) → Steps
count_of reg [] = NoStep
count_of reg (x ∷ []) = pick (is_push reg x.1) PointerPushed Others
count_of reg (x ∷ y ∷ xs) = Others

one_or_two : (b c : Bool) → (is_pushed (pick b PointerPushed Others) ≡ b) × (counted (pick b PointerPushed Others) c ≡ Others)
unfolding pick counted is_pushed
one_or_two true c = (refl, refl)
one_or_two false c = (refl, refl)

count_only : (reg : ℕ) (xs : List (ℕ × Step)) → is_pushed (count_of reg xs) ≡ only_push reg xs
unfolding count_of only_push is_pushed
count_only reg [] = refl
count_only reg (x ∷ []) = (one_or_two (is_push reg x.1) true).0
count_only reg (x ∷ y ∷ xs) = refl

count_more : (reg : ℕ) (xs : List (ℕ × Step)) (x : ℕ × Step) → count_of reg (xs ++ (x ∷ [])) ≡ counted (count_of reg xs) (is_push reg x.1)
unfolding count_of counted pick
count_more reg [] x = refl
count_more reg (y ∷ []) x = sym (one_or_two (is_push reg y.1) (is_push reg x.1)).1
count_more reg (y ∷ z ∷ ys) x = refl

unfoldable pub all_known : Machine → List (ℕ × Step) → Bool
all_known m xs = all (λ x. known m x.1) xs

known_more : (m : Machine) (xs : List (ℕ × Step)) (x : ℕ × Step) → all_known m (xs ++ (x ∷ [])) ≡ all_known m xs && known m x.1
unfolding all_known all
known_more m [] x = and-true (known m x.1)
known_more m (y ∷ xs) x = rw (known_more m xs x, and_assoc)

unfoldable pub walk_of : Machine → Prefix → Walk
walk_of m s = record { below = s.below; steps = count_of m.frame s.steps; named = all_known m s.steps }

walk_more : (m : Machine) (s : Prefix) (off : ℕ) (step : Step) (below : ℤ) → added m (walk_of m s) step below ≡ walk_of m (more s off step below)
unfolding added stepped walk_of more
walk_more m s off step below = rw (count_more m.frame s.steps (off, step), known_more m s.steps (off, step))

-- ---- the offset of the last step

unfoldable pub last_of : ℕ → List (ℕ × Step) → ℕ
last_of n [] = n
last_of n (x ∷ xs) = last_of x.0 xs

last_more : (n : ℕ) (xs : List (ℕ × Step)) (x : ℕ × Step) → last_of n (xs ++ (x ∷ [])) ≡ x.0
unfolding last_of
last_more n [] x = refl
last_more n (y ∷ xs) x = last_more y.0 xs x

abbrev pub Ends : Prefix → ℕ → Type 0
Ends s off = last_of 0 s.steps ≡ off

ends_more : (s : Prefix) (off : ℕ) (step : Step) (below : ℤ) → Ends (more s off step below) off
unfolding more
ends_more s off step below = last_more 0 s.steps (off, step)

-- ---- a result beside what is known

-- the steps come to s, whose last is at `off`, and what is known is of s; or both refuse by one number
pub data Reads (m : Machine) (s : Prefix) (off : ℕ) (result : Result Prefix) (w : Result Walk) : Type 0 where
  reads : result ≡ good s → w ≡ good (walk_of m s) → Ends s off → Reads m s off result w
  refuses : (n : ℕ) → result ≡ bad n → w ≡ bad n → Reads m s off result w

-- a continuation of what was read
on : {m : Machine} {s t : Prefix} {off : ℕ} {result : Result Prefix} {w : Result Walk} (k : Prefix → Result Prefix) (f : Walk → Result Walk)
    → result ≡ good s → w ≡ good (walk_of m s) → Reads m t off (k s) (f (walk_of m s)) → Reads m t off (onward result k) (onward w f)
unfolding onward
on k f e u (reads e' u' l) = reads (rw e e') (rw u u') l
on k f e u (refuses n e' u') = refuses n (rw e e') (rw u u')

-- one instruction behind the other
pub link : {m : Machine} {s t : Prefix} {off off' : ℕ} {result : Result Prefix} {w : Result Walk} (k : Prefix → Result Prefix) (f : Walk → Result Walk)
    → Reads m s off result w → (Ends s off → Reads m t off' (k s) (f (walk_of m s))) → Reads m t off' (onward result k) (onward w f)
unfolding onward
link k f (reads e u l) r = on k f e u (r l)
link k f (refuses n e u) r = refuses n (rw e) (rw u)

-- an instruction that is read where a test says yes
asked : {m : Machine} {s t : Prefix} {off : ℕ} (b : Bool) (n : ℕ) → Ends s off → (T b → s ≡ t)
    → Reads m t off (pick b (good s) (bad n)) (pick b (good (walk_of m s)) (bad n))
unfolding pick
asked true n l e = reads (rw (e tt)) (rw (e tt)) (rw (e tt) at l)
asked false n l e = refuses n refl refl

-- what a row adds
unfoldable pub past : (off : ℕ) (joins joined : Bool) → Row → Prefix → Prefix
past off joins joined r s = record { steps = s.steps ++ row_step off s.below joins joined r; below = moved_by s.below r }

module _ (m : Machine) (off : ℕ) (s : Prefix) where
  pub lone_reads : (last : Bool) (r : Row) → Reads m (past off false false r s) off (lone_row m last off r s) (lone_in m last r (walk_of m s))
  unfolding lone_row lone_in past more row_step moved_by kind_of reg_of offset_of walk_of pick
  lone_reads last (DefCfa reg z) =
      rw (walk_more m s off frame s.below) (asked (eqb reg m.frame && same_offset z s.below) 32 (ends_more s off frame s.below) (λ t. refl))
  lone_reads last (DefCfaOffset z) = reads refl (ap good (walk_more m s off (alloc (z -ℤ s.below)) z)) (ends_more s off (alloc (z -ℤ s.below)) z)
  lone_reads last (DefCfaRegister reg) =
      rw (walk_more m s off frame s.below, count_only m.frame s.steps)
      (asked (eqb reg m.frame && last && same_offset s.below (pos (2 * m.word)) && only_push m.frame s.steps) 31 (ends_more s off frame s.below) (λ t. refl))
  lone_reads last (Offset reg z) = reads refl (ap good (walk_more m s off (save reg z) s.below)) (ends_more s off (save reg z) s.below)
  lone_reads last (Restore reg) = refuses 33 refl refl
  lone_reads last (Undefined reg) = refuses 33 refl refl
  lone_reads last RememberState = refuses 33 refl refl
  lone_reads last RestoreState = refuses 33 refl refl
  lone_reads last NegateRaState = refuses 33 refl refl
  lone_reads last (SameValue reg) = refuses 33 refl refl
  lone_reads last (InRegister reg other) = refuses 33 refl refl

  pushed : (a b : Row) → kind_of a ≡ 1 → kind_of b ≡ 3 → more s off (push (reg_of b)) (offset_of a) ≡ past off false true b (past off true false a s)
  unfolding more past row_step moved_by pick
  pushed a b e f = rw (e, f, append-nil)

  pub push_reads : (a b : Row) → Reads m (past off false true b (past off true false a s)) off (push_rows m off a b s) (push_in m a b (walk_of m s))
  unfolding push_rows push_in walk_of
  push_reads a b =
      let kinds : Bool = eqb (kind_of a) 1 && eqb (kind_of b) 3 in
      let moves : Bool = same_offset (offset_of a -ℤ s.below) (pos m.word) in
      let stores : Bool = same_offset (offset_of b) (neg_ℤ (offset_of a)) in
      rw (walk_more m s off (push (reg_of b)) (offset_of a))
      (asked (kinds && moves && stores) 33 (ends_more s off (push (reg_of b)) (offset_of a))
      (λ t.
      let h = and_yes (eqb (kind_of a) 1) (eqb (kind_of b) 3) (and_yes kinds moves (and_yes (kinds && moves) stores t).0).0 in
      pushed a b (eqb_yes h.0) (eqb_yes h.1)))

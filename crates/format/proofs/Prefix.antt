-- An answer at an offset implies an answer at every smaller one, for the bytes of any section.
use mathlib.Core.Path.{◌≡◌, refl}
use Prim.Native.Nat.{ℕ, zero, suc, ◌+◌, ◌≤◌}
use native.Mathlib.Omega.{arith}
use mathlib.Core.Bool.{Bool, true, false, ◌&&◌}
use mathlib.Core.Option.{none, some}
use mathlib.Core.List.{List, [], ◌∷◌}
use lib.ListN.{length}
use lib.Dec.{leb, eqb}
use Rattle.format.specs.Prelude.{pick, Read, Result, good, bad, onward}
use Rattle.format.specs.Machine.{is_word_size}
use Rattle.format.specs.declared.Rule.{Rule}
use Rattle.format.specs.declared.Operation.{Operation}
use Rattle.format.specs.declared.Operation.TheVariants.{Nop, Step, Does}
use Rattle.format.specs.Coded.{Reading}
use Rattle.std.specs.Prelude.{Ok, Err}
use Rattle.format.specs.Rows.{read_operation}
use Rattle.format.specs.Lists.{relocations_of}
use Rattle.format.specs.Rules.{State, blank, act, seen, answer}
use Rattle.format.specs.Reader.{Found, perform, when_read, run_f, run, locate, run_to, read_section, read}
use Rattle.format.proofs.Choice.{if-le, if-gt, either}
use Rattle.format.proofs.Onward.{onward_ext}

-- ---- what is answered

abbrev pub Answers : Reading → Type 0
Answers (Ok a) = Unit
Answers (Err n) = ⊥

abbrev Good : {A : Type 0} → Result A → Type 0
Good (good a) = Unit
Good (bad n) = ⊥

is_good_lem : {A : Type 0} (r : Result A) → Good r → (a : A) × (r ≡ good a)
is_good_lem (good a) g = (a, refl)
is_good_lem (bad n) g = absurd g

good_answers : (q : ℕ) (r : Result State) → Good r → Answers (answer q r)
unfolding answer seen
good_answers q (good s) g = tt
good_answers q (bad n) g = absurd g

answers_good : (q : ℕ) (r : Result State) → Answers (answer q r) → Good r
unfolding answer seen
answers_good q (good s) g = tt
answers_good q (bad n) g = absurd g

onward_good : {A B : Type 0} (a : Result A) (k l : A → Result B) → ((t : A) → Good (k t) → Good (l t)) → Good (onward a k) → Good (onward a l)
unfolding onward
onward_good (good a) k l c g = c a g
onward_good (bad n) k l c g = absurd g

pick_good : {A : Type 0} (b : Bool) (x y z : Result A) → (Good x → Good y) → Good (pick b x z) → Good (pick b y z)
unfolding pick
pick_good true x y z c g = c g
pick_good false x y z c g = g

read_good : {A : Type 0} (r : Read A) (k l : A → List ℕ → Result State) → ((a : A) (bs : List ℕ) → Good (k a bs) → Good (l a bs))
    → Good (when_read r k) → Good (when_read r l)
unfolding when_read
read_good none k l c g = absurd g
read_good (some x) k l c g = c x.0 x.1 g

-- ---- the run of a record

module _ (w p p' : ℕ) (init : ℕ → Rule) (h : p' ≤ p) where
  perform_prefix : (op : Operation) (loc : ℕ) (s : State) (k l : ℕ → State → Result State) → ((at : ℕ) (t : State) → Good (k at t) → Good (l at t))
      → Good (perform false p init op loc s k) → Good (perform false p' init op loc s l)
  unfolding perform pick
  perform_prefix Nop loc s k l c g = c loc s g
  perform_prefix (Step n) loc s k l c g =
      either (loc + n) p'
      (λ a. let b : loc + n ≤ p = omega arith in rw (if-le (loc + n) p') (c (loc + n) s (rw (if-le (loc + n) p) at g)))
      (λ a. rw (if-gt (loc + n) p') tt)
  perform_prefix (Does row) loc s k l c g = onward_good (act false init row s) (k loc) (l loc) (c loc) g

  run_f_prefix : (f loc : ℕ) (s : State) (bs : List ℕ) → Good (run_f false w p init f loc s bs) → Good (run_f false w p' init f loc s bs)
  unfolding run_f
  run_f_prefix zero loc s bs g = tt
  run_f_prefix (suc f) loc s [] g = tt
  run_f_prefix (suc f) loc s (b ∷ bs) g =
      read_good (read_operation w (b ∷ bs)) _ _ (λ op r. perform_prefix op loc s _ _ λ at t. run_f_prefix f at t r) g

  run_good : (s : State) (bs : List ℕ) → Good (run false w p init s bs) → Good (run false w p' init s bs)
  unfolding run
  run_good s bs = run_f_prefix (length bs) 0 s bs

pub run_prefix : (w p p' : ℕ) (init : ℕ → Rule) (s t : State) (bs : List ℕ) → p' ≤ p → run false w p init s bs ≡ good t
    → (t' : State) × (run false w p' init s bs ≡ good t')
run_prefix w p p' init s t bs h e = is_good_lem _ (run_good w p p' init h s bs (rw e tt))

-- ---- the run of a header, which has no steps: the offset does not matter

perform_same : (p p' : ℕ) (init : ℕ → Rule) (op : Operation) (loc : ℕ) (s : State) (k l : ℕ → State → Result State)
    → ((at : ℕ) (t : State) → k at t ≡ l at t) → perform true p init op loc s k ≡ perform true p' init op loc s l
unfolding perform pick
perform_same p p' init Nop loc s k l c = c loc s
perform_same p p' init (Step n) loc s k l c = refl
perform_same p p' init (Does row) loc s k l c = onward_ext (act true init row s) (k loc) (l loc) (c loc)

read_same : {A : Type 0} (r : Read A) (k l : A → List ℕ → Result State) → ((a : A) (bs : List ℕ) → k a bs ≡ l a bs) → when_read r k ≡ when_read r l
unfolding when_read
read_same none k l c = refl
read_same (some x) k l c = c x.0 x.1

run_f_same : (w p p' : ℕ) (init : ℕ → Rule) (f loc : ℕ) (s : State) (bs : List ℕ) → run_f true w p init f loc s bs ≡ run_f true w p' init f loc s bs
unfolding run_f
run_f_same w p p' init zero loc s bs = refl
run_f_same w p p' init (suc f) loc s [] = refl
run_f_same w p p' init (suc f) loc s (b ∷ bs) =
    read_same (read_operation w (b ∷ bs)) _ _ λ op r. perform_same p p' init op loc s _ _ λ at t. run_f_same w p p' init f at t r

pub header_same : (w p p' : ℕ) (init : ℕ → Rule) (s : State) (bs : List ℕ) → run true w p init s bs ≡ run true w p' init s bs
unfolding run
header_same w p p' init s bs = run_f_same w p p' init (length bs) 0 s bs

-- ---- the whole reader

run_to_prefix : (w p p' : ℕ) (x : Found) → p' ≤ p → Good (run_to w p x) → Good (run_to w p' x)
unfolding run_to
run_to_prefix w p p' x h g =
    either (suc p) x.found.size
    (λ l.
    let l' : suc p' ≤ x.found.size = omega arith in
    rw (if-le (suc p') x.found.size, header_same w p' p)
    (onward_good (run true w p blank.current.rules blank x.header.operations) _ _
    (λ s. run_good w p p' _ h s x.found.operations) (rw (if-le (suc p) x.found.size) at g)))
    (λ b. absurd (rw (if-gt (suc p) x.found.size) at g))

pub prefix : (section relocations : List ℕ) (kind word k q p p' : ℕ) → p' ≤ p
    → Answers (read section relocations kind word k q p) → Answers (read section relocations kind word k q p')
unfolding read read_section
prefix section relocations kind word k q p p' h g =
    good_answers q _ (pick_good (is_word_size word && leb kind 1) _ _ (bad 11)
    (onward_good (locate (eqb kind 1) (relocations_of relocations) word k section) _ _ λ x. run_to_prefix word p p' x h)
    (answers_good q _ g))

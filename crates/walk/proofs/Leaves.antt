-- The leaves of the walk: an address sum, a word of the stack, where a caller is looked up, and what each says of the definition.
use mathlib.Core.Path.{◌≡◌}
use mathlib.Core.Bool.{Bool, true, false}
use mathlib.Core.Option.{Option, none}
use mathlib.Core.List.{List}
use Prim.Native.Nat.{ℕ, zero, suc, ◌+◌, ◌-◌, ◌^◌, ◌<◌, ◌≤◌}
use native.Mathlib.Omega.{arith}
use borrow.Author.Tests.{le-ltb, lt-ltb}
use lib.ListN.{drop}
use lib.Dec.{lt→ltb, ltb→lt}
use lib.IntN.{ℤ, pos, negsuc, ◌+ℤ◌}
use lib.Signed.{le_z_yes, lt_z_yes}
use mir.Syntax.{w64}
use Rattle.std.specs.Prelude.{Some, None, unsigned_abs}
use Rattle.std.specs.Prelude as code
use Rattle.std.specs.Int.{FitsUnsigned}
use Rattle.std.specs.Option.{SomeIff}
use Rattle.format.proofs.Asked.{option_of, none_is, value_is}
use Rattle.format.specs.Prelude.{next, after}
use Rattle.format.specs.Leb.{read_little}
use Rattle.format.specs.Reader.{require, value_or0}
use Rattle.operations.specs.declared.fields.Position.{Position}
use Rattle.format.proofs.Choice.{if-le, if-gt, either}
use mir.Facts.{yes_leb}
use Rattle.operations.specs.Positions.{little_at}
use Rattle.operations.proofs.PositionLaws.{little_rest, little_none}
use Rattle.walk.specs.Walk.{Memory, sum_of, load, looked_up}

-- ---- an address and an offset

module _ (a n : ℕ) where
  taken : suc n ≤ a → pos a +ℤ negsuc n ≡ pos (a - suc n)
  taken h = rw (le-ltb a (suc n) h)

  short : a < suc n → pos a +ℤ negsuc n ≡ negsuc (suc n - suc a)
  short h = rw (lt-ltb a (suc n) h)

small : (a n : ℕ) → a < 2 ^ 64 → FitsUnsigned w64 (pos (a - n))
small a n h = (le_z_yes (yes_leb (omega arith)), lt_z_yes (lt→ltb (a - n) (2 ^ 64) (omega arith)))

-- what `checked_add_signed` answers
pub summed : (a : ℕ) (z : ℤ) (r : code.Option ℕ) → a < 2 ^ 64 → SomeIff r (FitsUnsigned w64 (pos a +ℤ z)) (unsigned_abs (pos a +ℤ z))
    → r ≡ option_of (sum_of a z)
unfolding sum_of require
summed a (pos n) None l out =
    either (suc (a + n)) (2 ^ 64) (λ h. absurd (out (le_z_yes (yes_leb (omega arith)), lt_z_yes (lt→ltb (a + n) (2 ^ 64) h)))) (λ h. rw (if-gt (suc (a + n)) (2 ^ 64)))
summed a (pos n) (Some x) l given = let h : suc (a + n) ≤ 2 ^ 64 = ltb→lt (a + n) (2 ^ 64) given.0.1.lt in rw (if-le (suc (a + n)) (2 ^ 64), given.1)
summed a (negsuc n) None l out =
    either (suc n) a (λ h. absurd (out (rw (taken a n h) (small a (suc n) l)))) (λ h. rw (if-gt (suc n) a))
summed a (negsuc n) (Some x) l given =
    either (suc n) a (λ h. rw (if-le (suc n) a, given.1, le-ltb a (suc n) h)) (λ h. let f = rw (lt-ltb a (suc n) h) at given.0.0.le in absurd f)

-- ---- words

-- a place with nothing read in front of it
abbrev pub from : ℕ → Position
from p = record { at = p; shortest = true }

module _ (s : List ℕ) (p : ℕ) where
  pub word_none : little_at 8 s (from p) ≡ None → 0 ≡ value_or0 (read_little 8 (drop p s))
  unfolding value_or0
  word_none e = rw (little_none s (from p) 8 e)

  pub word_is : {v : ℕ} {q : Position} → little_at 8 s (from p) ≡ Some (v, q) → v ≡ value_or0 (read_little 8 (drop p s))
  unfolding value_or0
  word_is e = rw (little_rest s (from p) (omega arith) e)

module _ (m : Memory) (a : ℕ) where
  pub load_under : (m.address ≤ a → ⊥) → None ≡ option_of (load m a)
  unfolding load require
  load_under n = either m.address a (λ h. absurd (n h)) (λ h. rw (if-gt m.address a))

  pub load_none : m.address ≤ a → little_at 8 m.bytes (from (a - m.address)) ≡ None → None ≡ option_of (load m a)
  unfolding load require next
  load_none h e = rw (if-le m.address a, little_none m.bytes (from (a - m.address)) 8 e)

  pub load_is : m.address ≤ a → {v : ℕ} {q : Position} → little_at 8 m.bytes (from (a - m.address)) ≡ Some (v, q) → Some v ≡ option_of (load m a)
  unfolding load require next
  load_is h e = rw (if-le m.address a, little_rest m.bytes (from (a - m.address)) (omega arith) e)

-- what follows from a number
pub after_none : {B : Type 0} (o : Option ℕ) (k : ℕ → Option B) → option_of o ≡ None → after o k ≡ none
unfolding after
after_none o k e = rw (none_is o e)

pub after_is : {B : Type 0} (o : Option ℕ) (k : ℕ → Option B) {n : ℕ} → option_of o ≡ Some n → after o k ≡ k n
unfolding after
after_is o k e = rw (value_is o e)

-- ---- where a caller is looked up

pub up_by : {signal : Bool} (a : ℕ) (r : code.Option ℕ) → signal ≡ false → SomeIff r (1 ≤ a) (a - 1) → r ≡ option_of (looked_up signal a)
unfolding looked_up
up_by zero None e h = rw e
up_by zero (Some x) e h = absurd (omega (arith, h.0))
up_by (suc a) None e h = absurd (h (omega arith))
up_by (suc a) (Some x) e h = let d : suc a - 1 ≡ a = omega arith in rw (e, h.1, d)

-- A step that gives nothing, and what follows one that gives a value; sums and differences by `checked_add` and `checked_sub`.
use mathlib.Core.Path.{◌≡◌, sym}
use Prim.Native.Nat.{ℕ, suc, ◌+◌, ◌-◌, ◌^◌, ◌≤◌, ◌<◌}
use mathlib.Core.Bool.{Bool, true, false}
use mathlib.Core.Option.{Option, none, some}
use Rattle.std.specs.Prelude.{Some, None}
use Rattle.std.specs.Prelude as code
use Rattle.std.specs.Option.{SomeIff}
use Rattle.format.specs.Prelude.{after}
use Rattle.format.proofs.Asked.{option_of, none_is, value_is}
use Rattle.format.proofs.Choice.{if-le, if-gt, either}
use Rattle.walk.specs.Walk.{Memory, load}
use Rattle.x64_back.specs.declared.undo.Registers.{Registers}
use Rattle.x64_back.specs.Thread.{sum64, difference, undo_save}

module _ {A B : Type 0} (o : Option A) (k : A → Option B) where
  pub gives_none : None ≡ option_of o → None ≡ option_of (after o k)
  unfolding after
  gives_none e = rw (none_is o (sym e))

  pub gives : {a : A} {r : code.Option B} → Some a ≡ option_of o → r ≡ option_of (k a) → r ≡ option_of (after o k)
  unfolding after
  gives e h = rw (value_is o (sym e)) h

pub sum_none : (a b : ℕ) → (a + b < 2 ^ 64 → ⊥) → None ≡ option_of (sum64 a b)
unfolding sum64
sum_none a b h = either (suc (a + b)) (2 ^ 64) (λ l. absurd (h l)) (λ l. rw (if-gt (suc (a + b)) (2 ^ 64) (some (a + b)) none l))

pub sum_some : (a b : ℕ) {v : ℕ} → a + b < 2 ^ 64 → v ≡ a + b → Some v ≡ option_of (sum64 a b)
unfolding sum64
sum_some a b h e = rw (if-le (suc (a + b)) (2 ^ 64) (some (a + b)) none h, e)

pub difference_none : (a b : ℕ) → (b ≤ a → ⊥) → None ≡ option_of (difference a b)
unfolding difference
difference_none a b h = either b a (λ l. absurd (h l)) (λ l. rw (if-gt b a (some (a - b)) none l))

pub difference_some : (a b : ℕ) {v : ℕ} → b ≤ a → v ≡ a - b → Some v ≡ option_of (difference a b)
unfolding difference
difference_some a b h e = rw (if-le b a (some (a - b)) none h, e)

-- a save's word that is not the stack's
pub low_none : (m : Memory) (reg : ℕ) (vector : Bool) (r : Registers) (at : ℕ) → None ≡ option_of (load m at) → None ≡ option_of (undo_save m reg vector r at)
unfolding undo_save
low_none m reg false r at e = gives_none _ _ e
low_none m reg true r at e = gives_none _ _ e

-- what `checked_sub` gives
pub subtracted : (a b : ℕ) (r : code.Option ℕ) → SomeIff r (b ≤ a) (a - b) → r ≡ option_of (difference a b)
subtracted a b None h = difference_none a b h
subtracted a b (Some v) h = difference_some a b h.0 h.1

-- The frame address, and one register of a frame that is left.
use mathlib.Core.Path.{◌≡◌, refl, sym}
use mathlib.Core.Bool.{Bool}
use mathlib.Core.Option.{Option, none, some}
use mathlib.Core.List.{List}
use Prim.Native.Nat.{ℕ}
use lib.ListN.{get_or}
use lib.IntN.{ℤ}
use Rattle.std.specs.Prelude.{Some, None, Err}
use Rattle.std.specs.Prelude as code
use Rattle.std.specs.Option.{ok_or}
use Rattle.format.specs.Coded.{result_of, numbered}
use Rattle.format.specs.declared.question.Question.TheVariants.{Stack}
use Rattle.format.proofs.Asked.{option_of, none_is, value_is}
use Rattle.format.specs.Prelude.{after, good, bad, onward, or_else}
use Rattle.format.specs.declared.CfaRule.{CfaRule}
use Rattle.format.specs.declared.CfaRule.TheVariants.{Unset, Register}
use Rattle.walk.specs.Recorded.{Slot}
use Rattle.walk.specs.Walk.{Memory, sum_of, load, saved, frame_address, unsigned, returned_to}

module _ (m : Memory) (cfa : ℕ) (z : ℤ) where
  pub saved_none : None ≡ option_of (after (sum_of cfa z) (load m)) → bad 74 ≡ saved m cfa z
  unfolding saved onward or_else
  saved_none e = rw (none_is (after (sum_of cfa z) (load m)) (sym e))

  pub saved_is : {v : ℕ} → Some v ≡ option_of (after (sum_of cfa z) (load m)) → good (some v) ≡ saved m cfa z
  unfolding saved onward or_else
  saved_is e = rw (value_is (after (sum_of cfa z) (load m)) (sym e))

in_range : (o : Option ℕ) → numbered (ok_or (option_of o) Stack) ≡ result_of (or_else o 74)
unfolding or_else
in_range none = refl
in_range (some n) = refl

module _ (before : List Slot) {rule : CfaRule} where
  pub address_unset : rule ≡ Unset → Err 75 ≡ result_of (frame_address rule before)
  unfolding frame_address
  address_unset e = rw e

  module _ {reg : ℕ} {z : ℤ} (e : rule ≡ Register reg z) where
    pub address_absent : none ≡ get_or before reg none → Err 75 ≡ result_of (frame_address rule before)
    unfolding frame_address onward or_else
    address_absent f = rw (e, ← f)

    pub address_at : {a : ℕ} → some a ≡ get_or before reg none → {r : code.Option ℕ} → r ≡ option_of (sum_of a z) → numbered (ok_or r Stack) ≡ result_of (frame_address rule before)
    unfolding frame_address onward or_else
    address_at {a} f g = rw (e, ← f, g) (in_range (sum_of a z))

module _ (slots : List Slot) (ret : ℕ) (signing exact : Bool) where
  pub returned_none : none ≡ get_or slots ret none → bad 75 ≡ returned_to slots ret signing exact
  unfolding returned_to onward or_else
  returned_none e = rw (← e)

  pub returned_is : {a pc : ℕ} → some a ≡ get_or slots ret none → pc ≡ unsigned signing a
      → good (some (record { slots = slots; pc = pc; exact = exact })) ≡ returned_to slots ret signing exact
  unfolding returned_to onward or_else
  returned_is e p = rw (← e, p)

-- Worked cases of the signing state over RememberState and RestoreState: by the rows, and by the reader's run of their bytes.
use mathlib.Core.Path.{◌≡◌, refl}
use Prim.Native.Nat.{ℕ}
use mathlib.Core.Bool.{Bool, true, false}
use mathlib.Core.Option.{none}
use mathlib.Core.List.{List, [], ◌∷◌}
use Rattle.format.specs.Prelude.{pick, next, after, Result, good, bad, onward, first}
use Rattle.format.specs.declared.Machine.{Machine}
use Rattle.format.specs.declared.Row.TheVariants.{RememberState, RestoreState, NegateRaState}
use Rattle.format.specs.Rows.{RowAt, one, two, read_extended, read_operation}
use Rattle.format.specs.Lists.{Function}
use Rattle.format.specs.Headers.{leads, ahead, others, leading}
use Rattle.format.specs.Rules.{State, blank, negated, restored, apply, apply_rows, up_to, entry_state, rules_at, without_stored, refusal, unless_refused, act}
use Rattle.format.specs.Reader.{perform, when_read, run_f, run}

abbrev with_rows : List RowAt → Function
with_rows rows = record { symbol = 0; size = 32; rows = rows; landings = []; simple = true; signal = false; named = none; relaxed = none }

unfoldable signing_at : Machine → List RowAt → ℕ → Bool
unfolding negated restored rules_at entry_state apply_rows apply blank leading others ahead leads up_to pick
signing_at m rows p = (rules_at m (with_rows rows) p).current.signing

-- an early return on a signed function: on at 8, off again at 12
early : List RowAt
early = (4, RememberState) ∷ (8, NegateRaState) ∷ (12, RestoreState) ∷ []

early_return : (m : Machine) → signing_at m early 7 ∷ signing_at m early 8 ∷ signing_at m early 12 ∷ [] ≡ false ∷ true ∷ false ∷ []
unfolding signing_at early
early_return m = refl

-- nested states: each RestoreState brings back what its own RememberState stored
nested : List RowAt
nested =
    (4, NegateRaState) ∷ (8, RememberState) ∷ (12, NegateRaState) ∷ (16, RememberState) ∷ (20, NegateRaState) ∷ (24, RestoreState)
    ∷ (28, RestoreState) ∷ []

nested_states : (m : Machine)
    → signing_at m nested 8 ∷ signing_at m nested 16 ∷ signing_at m nested 20 ∷ signing_at m nested 24 ∷ signing_at m nested 28 ∷ []
    ≡ true ∷ false ∷ true ∷ false ∷ true ∷ []
unfolding signing_at nested
nested_states m = refl

-- ---- by bytes: NegateRaState is 2d, RememberState 0a, RestoreState 0b, a step of 4 is 44

unfoldable signing_of : Result State → List Bool
signing_of (good s) = s.current.signing ∷ []
signing_of (bad n) = []

-- a header's operations, and then a record's up to p
unfoldable signing_read : (header ops : List ℕ) → ℕ → List Bool
unfolding signing_of negated restored apply refusal without_stored unless_refused act blank run run_f perform when_read read_operation read_extended one two next after first onward pick
signing_read header ops p = signing_of (onward (run true 8 p blank.current.rules blank header) λ s. run false 8 p s.current.rules s ops)

early_return_read : signing_read [] (0x44 ∷ 0x0a ∷ 0x44 ∷ 0x2d ∷ 0x44 ∷ 0x0b ∷ []) 8 ∷ signing_read [] (0x44 ∷ 0x0a ∷ 0x44 ∷ 0x2d ∷ 0x44 ∷ 0x0b ∷ []) 12 ∷ []
    ≡ (true ∷ []) ∷ (false ∷ []) ∷ []
unfolding signing_read
early_return_read = refl

-- a NegateRaState in a header before a RememberState there: the record's RestoreState brings signing on back
header_read : signing_read (0x2d ∷ 0x0a ∷ []) (0x44 ∷ 0x2d ∷ 0x44 ∷ 0x0b ∷ []) 0 ∷ signing_read (0x2d ∷ 0x0a ∷ []) (0x44 ∷ 0x2d ∷ 0x44 ∷ 0x0b ∷ []) 4
    ∷ signing_read (0x2d ∷ 0x0a ∷ []) (0x44 ∷ 0x2d ∷ 0x44 ∷ 0x0b ∷ []) 8 ∷ []
    ≡ (true ∷ []) ∷ (false ∷ []) ∷ (true ∷ []) ∷ []
unfolding signing_read
header_read = refl

-- The size of a row's operation out of the row's numbers.
use Rattle.std.specs.Prelude.{◌≡◌, ℕ, ◌-◌, ◌*◌, ◌%◌, ◌^◌, ◌≤◌, ◌<◌, [], ◌∷◌, eqb, ltb, length, get_or, Option, None, Some}
use Rattle.format.specs.Prelude.{pick}
use Rattle.format.specs.Constants.{offset_kind}
use Rattle.format.specs.Rows.{step_bytes}

-- an operation's bytes by kind (DWARF 5, 7.24, table 7.29), where each operand is a byte
unfoldable pub short_size : ℕ → ℕ
short_size kind = get_or (3 ∷ 2 ∷ 2 ∷ 2 ∷ 1 ∷ 2 ∷ 1 ∷ 1 ∷ 1 ∷ 2 ∷ 3 ∷ []) kind 0

-- the word times the second operand that is written: of a saved register what its offset is below the frame address
unfoldable pub scaled : (w kind off : ℕ) → ℕ
scaled w kind off = pick (eqb kind offset_kind) ((2 ^ 32 - off) % 2 ^ 32) (off * w)

-- the second byte of an operand that has two at most
unfoldable pub second_byte : (w y : ℕ) → ℕ
second_byte w y = pick (ltb y (128 * w)) 0 1

-- the size of a step that passes question 23, or none where it does not
abbrev pub StepSurveyed : (by : ℕ) → Option ℕ → Type 0
StepSurveyed by None = 2 ^ 32 ≤ by
StepSurveyed by (Some size) = (by < 2 ^ 32) × (size ≡ length (step_bytes by)) × (size ≤ 5)

-- A struct means a record of the lists of numbers (document 01, "Functions and rows come in as lent lists of records"; D54).
use Rattle.std.specs.Prelude.{◌≡◌, refl, ℕ, List, [], ◌∷◌, ◌++◌, length}
use Rattle.std.specs.Int.{w32}
use Rattle.std.proofs.Common.{of_z}
use Rattle.struct_entries.specs.declared.RowAt.{RowAt}
use Rattle.struct_entries.specs.declared.Function.{Function}

unfoldable pub row_numbers : RowAt → List ℕ
row_numbers x = x.offset ∷ x.kind ∷ x.register ∷ of_z w32 x.value ∷ []

-- how many numbers a row means
pub row_length : (x : RowAt) → length (row_numbers x) ≡ 4
unfolding row_numbers
row_length x = refl

unfoldable pub function_numbers : Function → List ℕ
function_numbers x =
    x.symbol ∷ x.length ∷ x.rows_at ∷ x.rows ∷ x.landings_at ∷ x.landings ∷ x.simple ∷ x.signal ∷ x.personality ∷ x.encoding
    ∷ x.routine ∷ x.lsda ∷ x.lsda_encoding ∷ x.lsda_symbol ∷ x.relaxed ∷ x.end ∷ x.pairs_at ∷ x.pairs ∷ []

pub function_length : (x : Function) → length (function_numbers x) ≡ 18
unfolding function_numbers
function_length x = refl

-- the list of numbers that a list of structs means
unfoldable pub numbers_of : {A : Type 0} → (A → List ℕ) → List A → List ℕ
numbers_of one [] = []
numbers_of one (x ∷ xs) = one x ++ numbers_of one xs

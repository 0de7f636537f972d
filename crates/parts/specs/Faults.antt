-- The fields of an entry by numbers, and which one is at fault (question 64): the first that cannot be read, or that says what no header of ours does.
use Rattle.std.specs.Prelude.{ℕ, Bool, List, Some, None}
use Rattle.std.specs.Prelude as code
use Rattle.std.proofs.Math.Option.{none, some}
use Rattle.format.specs.Prelude.{pick, Read, Result, bad}
use Rattle.parts.specs.declared.field.Field.{Field}
use Rattle.parts.specs.declared.field.Field.TheVariants.{Version, Letters, CodeFactor, DataFactor, Return, HeaderData, Function, Length, RecordData}

-- of a header
abbrev pub version_field : ℕ
version_field = 1

abbrev pub string_field : ℕ
string_field = 2

abbrev pub code_factor_field : ℕ
code_factor_field = 3

abbrev pub data_factor_field : ℕ
data_factor_field = 4

abbrev pub return_field : ℕ
return_field = 5

abbrev pub header_data_field : ℕ
header_data_field = 6

-- of a record
abbrev pub function_field : ℕ
function_field = 7

abbrev pub length_field : ℕ
length_field = 8

abbrev pub record_data_field : ℕ
record_data_field = 9

abbrev pub field_number : Field → ℕ
field_number Version = version_field
field_number Letters = string_field
field_number CodeFactor = code_factor_field
field_number DataFactor = data_factor_field
field_number Return = return_field
field_number HeaderData = header_data_field
field_number Function = function_field
field_number Length = length_field
field_number RecordData = record_data_field

-- the field at fault, and 0 where there is none
abbrev pub fault_number : code.Option Field → ℕ
fault_number None = 0
fault_number (Some f) = field_number f

-- what follows from a field that was read; else it is at fault
unfoldable pub reading : {A B : Type 0} → (number : ℕ) → Read A → (A → List ℕ → Result B) → Result B
reading number none k = bad number
reading number (some x) k = k x.0 x.1

-- what follows where a field's test holds; else it is at fault
unfoldable pub testing : {B : Type 0} → (number : ℕ) → Bool → Result B → Result B
testing number test k = pick test k (bad number)

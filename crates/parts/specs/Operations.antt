-- One operation of an entry's, as numbers (DWARF 5, 6.4.2).
use Rattle.std.specs.Prelude.{ℕ, ◌+◌, ◌-◌, ◌&&◌, List, leb, eqb, length, get_or}
use Rattle.std.proofs.Math.Option.{none, some}
use Rattle.std.specs.Int.{w64}
use Rattle.std.proofs.Common.{of_z}
use Rattle.format.specs.Prelude.{pick, Read}
use Rattle.format.specs.Machine.{is_word_size}
use Rattle.format.specs.Rows.{read_operation, kind_of, reg_of, offset_of}
use Rattle.format.specs.declared.Operation.{Operation}
use Rattle.format.specs.declared.Operation.TheVariants.{Nop, Step, Does}
use Rattle.reader.specs.Spans.{part}
use Rattle.parts.specs.declared.operation.OperationRead.{OperationRead}

-- the kinds that are no row's: padding, and a step, whose value is how far it goes
abbrev pub nop_kind : ℕ
nop_kind = 16

abbrev pub step_kind : ℕ
step_kind = 17

-- an operation, its opcode, and where the next one stands; a value is 64-bit two's complement
unfoldable pub operation_numbers : Operation → (next opcode : ℕ) → OperationRead
operation_numbers Nop next opcode = record { number = 0; kind = nop_kind; reg = 0; value = 0; next = next; opcode = opcode }
operation_numbers (Step n) next opcode = record { number = 0; kind = step_kind; reg = 0; value = n; next = next; opcode = opcode }
operation_numbers (Does row) next opcode =
    record { number = 0; kind = kind_of row; reg = reg_of row; value = of_z w64 (offset_of row); next = next; opcode = opcode }

-- a refusal; the position stays
unfoldable pub no_operation : (number at opcode : ℕ) → OperationRead
no_operation number at opcode = record { number = number; kind = 0; reg = 0; value = 0; next = at; opcode = opcode }

-- what was read of as many bytes as `size`, which stand at `at`; 66: an operation that cannot be read
unfoldable pub decoded_numbers : (at size opcode : ℕ) → Read Operation → OperationRead
decoded_numbers at size opcode none = no_operation 66 at opcode
decoded_numbers at size opcode (some x) = operation_numbers x.0 (at + (size - length x.1)) opcode

-- the first operation of some bytes, which stand at `at`
unfoldable pub operation_from : (word at : ℕ) → List ℕ → OperationRead
operation_from word at bs = decoded_numbers at (length bs) (get_or bs 0 0) (read_operation word bs)

-- 11: a word of 2, 4 or 8; 62: no byte is left; 66: `end` lies behind `at` and in the section
unfoldable pub read_operation_at : (section : List ℕ) (at end word : ℕ) → OperationRead
read_operation_at section at end word =
    pick (is_word_size word)
    (pick (eqb at end) (no_operation 62 at 0)
    (pick (leb at end && leb end (length section)) (operation_from word at (part section at end)) (no_operation 66 at 0)))
    (no_operation 11 at 0)

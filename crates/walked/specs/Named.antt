-- The registers that the operations of a header or a record name: a register that none names is unstated (DWARF 5, 6.4.1).
use Rattle.std.specs.Prelude.{◌≡◌, ℕ, ◌<◌, Bool, false, List, eqb, get_or}
use Rattle.std.proofs.Math.Option.{none, some}
use Rattle.format.specs.declared.Row.{Row}
use Rattle.format.specs.declared.Row.TheVariants.{DefCfa, DefCfaOffset, DefCfaRegister, Offset, Restore, Undefined, RememberState, RestoreState, NegateRaState, SameValue, InRegister}
use Rattle.format.specs.declared.Operation.{Operation}
use Rattle.format.specs.declared.Operation.TheVariants.{Nop, Step, Does}
use Rattle.format.specs.Rows.{read_operation}
use Rattle.reader.specs.Finds.{found}
use Rattle.reader.specs.declared.location.Located.{Located}

-- a row gives register q a rule
unfoldable pub names : (q : ℕ) → Row → Bool
names q (DefCfa reg z) = false
names q (DefCfaOffset z) = false
names q (DefCfaRegister reg) = false
names q (Offset reg z) = eqb q reg
names q (Restore reg) = eqb q reg
names q (Undefined reg) = eqb q reg
names q RememberState = false
names q RestoreState = false
names q NegateRaState = false
names q (SameValue reg) = eqb q reg
names q (InRegister reg other) = eqb q reg

unfoldable pub operation_names : (q : ℕ) → Operation → Bool
operation_names q Nop = false
operation_names q (Step n) = false
operation_names q (Does row) = names q row

-- no operation of these bytes names register q, up to the first that cannot be read
pub data Unnamed : (word q : ℕ) → List ℕ → Type 0 where
  ends : {word q : ℕ} {bs : List ℕ} → read_operation word bs ≡ none → Unnamed word q bs
  more : {word q : ℕ} {bs : List ℕ} (op : Operation) (r : List ℕ) → read_operation word bs ≡ some (op, r) → operation_names q op ≡ false → Unnamed word q r → Unnamed word q bs

-- ---- marks of registers: one that is not marked was not before, and is not named

abbrev pub Marked : (before marks : List Bool) → (named : ℕ → Bool) → Type 0
Marked before marks named = (q : ℕ) → q < 128 → get_or marks q false ≡ false → (get_or before q false ≡ false) × (named q ≡ false)

abbrev pub MarkedAll : (before marks : List Bool) → (word : ℕ) → List ℕ → Type 0
MarkedAll before marks word bs = (q : ℕ) → q < 128 → get_or marks q false ≡ false → (get_or before q false ≡ false) × Unnamed word q bs

-- a register that is not marked is named neither by the header nor by the record
abbrev pub MarksIn : List ℕ → Located → (marks : List Bool) → Type 0
MarksIn s l marks =
    (q : ℕ) → q < 128 → get_or marks q false ≡ false
    → Unnamed l.word q (found s l).header.operations × Unnamed l.word q (found s l).found.operations

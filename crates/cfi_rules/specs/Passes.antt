-- A pass over the operations of a CIE and of an FDE (DWARF 5, 6.4.3), and the rules at a location.
use Rattle.std.specs.Prelude.{ℕ, zero, suc, ◌+◌, ◌-◌, ◌^◌, Bool, true, false, nat_le, nat_lt, if◌then◌else◌, List, length, take, Option, Some, None, Result, Ok, Err}
use Rattle.cfi_entries.specs.declared.refusal.Question.{Question}
use Rattle.cfi_entries.specs.declared.refusal.Question.TheVariants as question
use Rattle.cfi_entries.specs.Refusals.{Answer, refused, ◌>>=◌}
use Rattle.cfi_pointers.specs.declared.size.AddressSize.{AddressSize}
use Rattle.cfi_pointers.specs.declared.pointer.Bases.{Bases}
use Rattle.cfi_fields.specs.declared.fde.Fde.{Fde}
use Rattle.cfi_fields.specs.Fdes.{within, encoding_of_cie, fde_at}
use Rattle.cfi_operations.specs.declared.operation.Operation.{Operation}
use Rattle.cfi_operations.specs.declared.operation.Operation.TheVariants as op
use Rattle.cfi_operations.specs.declared.operation.Units.{Units}
use Rattle.cfi_operations.specs.Operations.{operation_at}
use Rattle.cfi_rules.specs.Registers.{Run, Action, start, body_of}
use Rattle.cfi_rules.specs.Actions.{act}

-- an operation at a place does what it does, or is refused there
abbrev pub placed : ℕ → Action → Answer Run
placed p (Ok r) = Ok r
placed p (Err q) = Err (refused q p)

-- a step on: 66 past 64 bits
abbrev pub onward_from : (location n : ℕ) → Result (Option ℕ) Question
onward_from location n =
    if nat_lt (location + n) (2 ^ 64) then Ok (Some (location + n)) else Err question.Operations

-- to an address: 66 where it is in front
abbrev pub to_address : (function location address : ℕ) → Result (Option ℕ) Question
to_address function location address =
    if nat_lt address function then Err question.Operations
    else if nat_lt (address - function) location then Err question.Operations
    else Ok (Some (address - function))

-- where an operation leads from a location, counted from the function's start
abbrev pub step_of : (function location : ℕ) → Operation → Result (Option ℕ) Question
step_of function location (op.Advance n) = onward_from location n
step_of function location (op.SetLocation a) = to_address function location a
step_of function location op.Nop = Ok None
step_of function location (op.DefCfa reg z) = Ok None
step_of function location (op.DefCfaRegister reg) = Ok None
step_of function location (op.DefCfaOffset z) = Ok None
step_of function location (op.DefCfaExpression b) = Ok None
step_of function location (op.Undefined reg) = Ok None
step_of function location (op.SameValue reg) = Ok None
step_of function location (op.Offset reg z) = Ok None
step_of function location (op.ValOffset reg z) = Ok None
step_of function location (op.Register reg other) = Ok None
step_of function location (op.Expression reg b) = Ok None
step_of function location (op.ValExpression reg b) = Ok None
step_of function location (op.Restore reg) = Ok None
step_of function location op.RememberState = Ok None
step_of function location op.RestoreState = Ok None
step_of function location op.NegateRaState = Ok None
step_of function location op.NegateRaStateWithPc = Ok None
step_of function location (op.ArgsSize n) = Ok None

-- whether an operation is a step
abbrev pub stepped : Result (Option ℕ) Question → Bool
stepped (Ok (Some n)) = true
stepped (Ok None) = false
stepped (Err q) = true

abbrev pub is_step : Operation → Bool
is_step o = stepped (step_of 0 0 o)

-- in a CIE a step is 66
abbrev pub cie_step : ℕ → Operation → Run → Answer Run
cie_step p o r = if is_step o then Err (refused question.Operations p) else placed p (act o r)

-- at most so many operations, in the bytes up to their end
unfoldable pub cie_run_f : ℕ → Units → List ℕ → ℕ → Run → Answer Run
cie_run_f zero u s p r = Ok r
cie_run_f (suc f) u s p r =
    if nat_le (length s) p then Ok r
    else (operation_at u s p >>= λ d. cie_step p d.operation r >>= λ t. cie_run_f f u s d.next t)

-- an operation has a byte at least, so the length is enough
unfoldable pub cie_run : Units → List ℕ → ℕ → Run → Answer Run
cie_run u s p r = cie_run_f (suc (length s)) u s p r

-- in an FDE a step that passes the location that is asked of ends the run; another goes on there, and what is
-- no step acts here
abbrev pub fde_step : (asked p location : ℕ) → Operation → Run → (more : ℕ → Run → Answer Run)
    → Result (Option ℕ) Question → Answer Run
fde_step asked p location o r more (Ok (Some next)) = if nat_lt asked next then Ok r else more next r
fde_step asked p location o r more (Ok None) = placed p (act o r) >>= more location
fde_step asked p location o r more (Err q) = Err (refused q p)

unfoldable pub fde_run_f : ℕ → Units → (function asked : ℕ) → List ℕ → (p location : ℕ) → Run → Answer Run
fde_run_f zero u function asked s p location r = Ok r
fde_run_f (suc f) u function asked s p location r =
    if nat_le (length s) p then Ok r
    else (operation_at u s p >>= λ d.
    fde_step asked p location d.operation r (fde_run_f f u function asked s d.next)
    (step_of function location d.operation))

unfoldable pub fde_run : Units → (function asked : ℕ) → List ℕ → ℕ → Run → Answer Run
fde_run u function asked s p r = fde_run_f (suc (length s)) u function asked s p 0 r

-- what operands are counted in: set_loc has the encoding of the function's start
abbrev pub units_of : Fde → Bases → Units
units_of f b = record {
  code_factor = f.cie.code_factor;
  data_factor = f.cie.data_factor;
  pointers = encoding_of_cie f.cie;
  size = f.cie.size;
  bases = within f.start b;
}

-- the CIE's operations, and then the FDE's
unfoldable pub pass : Fde → Bases → (asked : ℕ) → List ℕ → Run → Answer Run
pass f b asked s r =
    cie_run (units_of f b) (take f.cie.end s) f.cie.operations r >>= λ t.
    fde_run (units_of f b) f.start asked (take f.end s) f.operations (body_of t)

-- 65: the location is in the function
unfoldable pub rules_of : Fde → Bases → (first asked : ℕ) → List ℕ → Answer Run
rules_of f b first asked s =
    if nat_le f.size asked then Err (refused question.Offset f.at) else pass f b asked s (start first)

unfoldable pub rules_at : (debug : Bool) → AddressSize → Bases → (first asked : ℕ) → List ℕ → ℕ → Answer Run
rules_at debug a b first asked s p = fde_at debug a b s p >>= λ f. rules_of f b first asked s

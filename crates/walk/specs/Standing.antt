-- What the types of the code stand for.
use Rattle.std.specs.Prelude.{ℕ, List, [], ◌∷◌, Some, None, Ok, Err}
use Rattle.std.specs.Prelude as code
use Rattle.std.proofs.Math.Option.{Option, none, some}
use Rattle.format.specs.Prelude.{Result, good, bad}
use Rattle.format.specs.Numbers.{number_of}
use Rattle.format.specs.declared.question.Question.{Question}
use Rattle.walk.specs.Recorded.{Slot}
use Rattle.walk.specs.Recorded as recorded
use Rattle.walk.specs.Walk as walk
use Rattle.walk.specs.declared.Holder.{Holder}
use Rattle.walk.specs.declared.Trailer.{Trailer}
use Rattle.walk.specs.declared.Recorded.{Recorded}
use Rattle.walk.specs.declared.Memory.{Memory}
use Rattle.walk.specs.declared.Caller.{Caller}

abbrev pub holder_of : Option walk.Held → code.Option Holder
holder_of none = None
holder_of (some h) = Some (record { position = h.position; offset = h.offset })

abbrev pub trailer_of : Option recorded.Trailer → code.Option Trailer
trailer_of none = None
trailer_of (some t) = Some (record { size = t.size; count = t.count })

abbrev pub memory_of : Memory → walk.Memory
memory_of m = record { address = m.address; bytes = m.bytes.now }

-- ---- the registers

abbrev pub slot_of : code.Option ℕ → Slot
slot_of None = none
slot_of (Some v) = some v

unfoldable pub slots : List (code.Option ℕ) → List Slot
slots [] = []
slots (r ∷ rs) = slot_of r ∷ slots rs

abbrev pub recorded_of : code.Option Recorded → Option recorded.Recorded
recorded_of None = none
recorded_of (Some r) = some (record { stack = r.stack.now; slots = slots r.registers })

abbrev pub left_of : code.Result (code.Option ℕ) Question → Result Slot
left_of (Ok o) = good (slot_of o)
left_of (Err q) = bad (number_of q)

abbrev pub caller_as : Caller → walk.Caller
caller_as c = record { slots = slots c.registers; pc = c.pc; exact = c.exact }

abbrev pub step_of : code.Result (code.Option Caller) Question → Result (Option walk.Caller)
step_of (Ok (Some c)) = good (some (caller_as c))
step_of (Ok None) = good none
step_of (Err q) = bad (number_of q)

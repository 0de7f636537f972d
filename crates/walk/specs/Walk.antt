-- The walk over the frames of a recorded fault (document 02, W-202), by any source of rules.
use Rattle.std.specs.Prelude.{ℕ, zero, suc, ◌+◌, ◌-◌, ◌/◌, ◌^◌, ◌%◌, Bool, true, false, ◌&&◌, List, [], ◌∷◌, length, drop, get_or, set, leb, ltb, eqb, ℤ, pos, negsuc}
use Rattle.std.proofs.Math.Option.{Option, none, some}
use Rattle.format.specs.Prelude.{pick, next, after, each, Result, good, bad, onward, or_else}
use Rattle.format.specs.Leb.{read_little}
use Rattle.format.specs.declared.Machine.{Machine}
use Rattle.format.specs.declared.CfaRule.{CfaRule}
use Rattle.format.specs.declared.CfaRule.TheVariants.{Unset, Register}
use Rattle.format.specs.declared.Rule.{Rule}
use Rattle.format.specs.declared.Rule.TheVariants as rule
use Rattle.format.specs.Machine.{machine_of, machine_ok}
use Rattle.format.specs.Lists.{count, field, relocations_of}
use Rattle.format.specs.Questions.{Given, given_function}
use Rattle.format.specs.Rules.{AllRules, rules_at}
use Rattle.format.specs.Reader.{locate, run_to, require}
use Rattle.walk.specs.declared.Frame.{Frame}
use Rattle.walk.specs.Recorded.{Slot, followed, read_recorded}

-- ---- what a walk stands on

-- the rules of record k at an offset, and the signal mark of its header
pub record Ruled : Type 0 where
  pub rules : AllRules
  pub signal : Bool

abbrev pub Source : Type 0
Source = (k p : ℕ) → Result Ruled

-- a function: its start address and its length
pub record Placed : Type 0 where
  pub start : ℕ
  pub size : ℕ

-- the stack's bytes, from an address on
pub record Memory : Type 0 where
  pub address : ℕ
  pub bytes : List ℕ

pub record Fault : Type 0 where
  pub machine : Machine
  pub memory : Memory
  pub functions : List Placed

-- ending 1: the return address is undefined; 2: no function holds the address; 3: a 65th frame would follow
pub record Chain : Type 0 where
  pub frames : List Frame
  pub ending : ℕ

abbrev pub return_undefined : ℕ
return_undefined = 1

abbrev pub held_by_none : ℕ
held_by_none = 2

abbrev pub too_many : ℕ
too_many = 3

abbrev pub most_frames : ℕ
most_frames = 64

-- ---- the function that holds an address: the first in list order

unfoldable pub holds : (address : ℕ) → Placed → Bool
holds address f = leb f.start address && ltb (address - f.start) f.size

pub record Held : Type 0 where
  pub position : ℕ
  pub offset : ℕ

unfoldable pub held_from : (address k : ℕ) → List Placed → Option Held
held_from address k [] = none
held_from address k (f ∷ fs) =
    pick (holds address f) (some (record { position = k; offset = address - f.start })) (held_from address (suc k) fs)

-- ---- one frame left

-- an address sum, where 64 bits hold it
unfoldable pub sum_of : ℕ → ℤ → Option ℕ
sum_of a (pos n) = require (ltb (a + n) (2 ^ 64)) (some (a + n))
sum_of a (negsuc n) = require (ltb n a) (some (a - suc n))

-- the 8 bytes at an address, where all of them are the stack's
unfoldable pub load : Memory → ℕ → Option ℕ
load m a = require (leb m.address a) (next (read_little 8 (drop (a - m.address) m.bytes)) λ v r. some v)

-- 74: a saved register's word
unfoldable pub saved : Memory → (cfa : ℕ) → ℤ → Result Slot
saved m cfa z = onward (or_else (after (sum_of cfa z) (load m)) 74) λ v. good (some v)

-- what a register is after the frame is left, by its rule and the registers before
unfoldable pub left_by : Memory → (cfa : ℕ) → (before : List Slot) → (reg : ℕ) → Rule → Result Slot
left_by m cfa before reg rule.Unstated = good (get_or before reg none)
left_by m cfa before reg rule.SameValue = good (get_or before reg none)
left_by m cfa before reg rule.Undefined = good none
left_by m cfa before reg (rule.InRegister other) = good (get_or before other none)
left_by m cfa before reg (rule.Saved z) = saved m cfa z

-- n registers from reg on, in order: the first that is refused refuses the walk
unfoldable pub left_from : (ℕ → Result Slot) → (reg n : ℕ) → Result (List Slot)
left_from one reg zero = good []
left_from one reg (suc n) = onward (one reg) λ s. onward (left_from one (suc reg) n) λ ss. good (s ∷ ss)

-- then the stack pointer is the frame address, whatever its rule
unfoldable pub left : Memory → (stack cfa : ℕ) → AllRules → List Slot → Result (List Slot)
left m stack cfa r before = onward (left_from (λ reg. left_by m cfa before reg (r.rules reg)) 0 followed) λ ss. good (set ss stack (some cfa))

-- 75: a frame address rule whose register is there; 74: the sum
unfoldable pub frame_address : CfaRule → List Slot → Result ℕ
frame_address Unset before = bad 75
frame_address (Register reg z) before = onward (or_else (get_or before reg none) 75) λ a. or_else (sum_of a z) 74

-- signing on: the low 48 bits
unfoldable pub unsigned : (signing : Bool) → ℕ → ℕ
unsigned signing a = pick signing (a % 2 ^ 48) a

-- a caller is looked up one byte before its return address, but exactly there behind a signal frame; one byte before 0 there is nothing
unfoldable pub looked_up : (exact : Bool) → ℕ → Option ℕ
looked_up true a = some a
looked_up false zero = none
looked_up false (suc a) = some a

unfoldable pub undefined : Rule → Bool
undefined rule.Unstated = false
undefined rule.Undefined = true
undefined (rule.Saved z) = false
undefined rule.SameValue = false
undefined (rule.InRegister other) = false

-- the frame that a frame returns to: its registers, the return address, and whether that is where it is looked up
pub record Caller : Type 0 where
  pub slots : List Slot
  pub pc : ℕ
  pub exact : Bool

-- 75: the return address is what its register holds
unfoldable pub returned_to : List Slot → (ret : ℕ) → (signing exact : Bool) → Result (Option Caller)
returned_to slots ret signing exact =
    onward (or_else (get_or slots ret none) 75) λ a. good (some (record { slots = slots; pc = unsigned signing a; exact = exact }))

-- the caller of a frame; none where the return address is undefined, before the frame address is taken
unfoldable pub caller_of : Machine → Memory → Ruled → List Slot → Result (Option Caller)
caller_of k m r before =
    pick (undefined (r.rules.rules k.ret)) (good none)
    (onward (frame_address r.rules.cfa before) λ cfa.
    onward (left m k.stack cfa r.rules before) λ slots.
    returned_to slots k.ret r.rules.signing r.signal)

-- ---- the frames

unfoldable pub ended : ℕ → Result Chain
ended n = good (record { frames = []; ending = n })

unfoldable pub behind : Frame → Result Chain → Result Chain
behind f rest = onward rest λ c. good (record { frames = f ∷ c.frames; ending = c.ending })

-- what follows where there is something, and how the walk ends where there is nothing
unfoldable pub or_ended : {A : Type 0} → (ending : ℕ) → Option A → (A → Result Chain) → Result Chain
or_ended ending none more = ended ending
or_ended ending (some a) more = more a

-- the function that holds a frame
unfoldable pub held_at : Fault → Caller → Option Held
held_at e c = after (looked_up c.exact c.pc) λ a. held_from a 0 e.functions

-- n frames at most; where one more would follow that is said
unfoldable pub frames_f : Source → Fault → (n : ℕ) → Caller → Result Chain
frames_f source e zero c = or_ended held_by_none (held_at e c) λ h. ended too_many
frames_f source e (suc n) c =
    or_ended held_by_none (held_at e c) λ h.
    behind (record { position = h.position; pc = c.pc })
    (onward (source h.position h.offset) λ r. onward (caller_of e.machine e.memory r c.slots) λ o. or_ended return_undefined o (frames_f source e n))

-- ---- the whole

-- two numbers each
unfoldable pub placed_at : List ℕ → ℕ → Placed
placed_at ns i = record { start = field 2 ns i 0; size = field 2 ns i 1 }

unfoldable pub placed_of : List ℕ → List Placed
placed_of ns = each (placed_at ns) 0 (count 2 ns)

-- two numbers a frame
unfoldable pub frame_numbers : List Frame → List ℕ
frame_numbers [] = []
frame_numbers (f ∷ fs) = f.position ∷ f.pc ∷ frame_numbers fs

-- 54: room for the frames
unfoldable pub fitting : (room : ℕ) → Chain → Result Chain
fitting room c = pick (leb (length c.frames) (room / 2)) (good c) (bad 54)

-- 73, then 11 and 12 for the machine; 54 last
unfoldable pub walk_by : Source → (machine file : List ℕ) → (pc stack : ℕ) → (functions : List ℕ) → (room : ℕ) → Result Chain
walk_by source machine file pc stack functions room =
    onward (or_else (read_recorded file) 73) λ f.
    pick (machine_ok machine)
    (pick (eqb (machine_of machine).word 8)
    (onward (frames_f source (record { machine = machine_of machine; memory = record { address = stack; bytes = f.stack }; functions = placed_of functions }) most_frames (record { slots = f.slots; pc = pc; exact = true })) (fitting room))
    (bad 12))
    (bad 11)

-- ---- two sources

-- the reader on a section, with words of 8 bytes
unfoldable pub by_section : (section relocations : List ℕ) (kind : ℕ) → Source
by_section section relocations kind k p =
    pick (leb kind 1)
    (onward (locate (eqb kind 1) (relocations_of relocations) 8 k section) λ x.
    onward (run_to 8 p x) λ s. good (record { rules = s.current; signal = x.header.signal }))
    (bad 11)

-- the rows of a list of functions
unfoldable pub by_rows : Given → Source
by_rows g k p = good (record { rules = (rules_at (machine_of g.machine) (given_function g k) p).current; signal = (given_function g k).signal })

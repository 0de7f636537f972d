-- What the types of the code stand for, and the rules at an offset of a record that was located.
use Rattle.std.specs.Prelude.{ℕ, Bool, true, false, List, take, drop, Ok, Err}
use Rattle.std.specs.Prelude as code
use Rattle.format.specs.Prelude.{pick, Result, good, bad, onward}
use Rattle.format.specs.Rules.{AllRules, State, blank}
use Rattle.format.specs.Reader.{run_to}
use Rattle.reader.specs.Finds.{found, in_section}
use Rattle.reader.specs.declared.location.Located.{Located}
use Rattle.walk.specs.Recorded.{Slot, slots_of}
use Rattle.walk.specs.Walk.{Source, Memory, Ruled, Fault, placed_of, by_section}
use Rattle.walk.specs.Walk as walk
use Rattle.walk.specs.Standing.{slots}
use Rattle.format.specs.declared.Machine.{Machine}
use Rattle.walked.specs.declared.Place.{Place}
use Rattle.walked.specs.declared.Section.{Section}
use Rattle.format.specs.Numbers.{number_of}
use Rattle.format.specs.declared.question.Question.{Question}
use Rattle.walked.specs.Endings.{ending_number}
use Rattle.walk.specs.declared.Frame.{Frame}
use Rattle.walk.specs.declared.Trailer.{Trailer}
use Rattle.walked.specs.declared.chain.Ending.{Ending}
use Rattle.walked.specs.declared.chain.Walked.{Walked}

unfoldable pub state_in : List ℕ → Located → (p : ℕ) → Result State
state_in s l p = pick (in_section s l) (run_to l.word p (found s l)) (bad 64)

unfoldable pub is_good : {A : Type 0} → Result A → Bool
is_good (good a) = true
is_good (bad n) = false

unfoldable pub rules_of : Result State → AllRules
rules_of (good s) = s.current
rules_of (bad n) = blank.current

-- the rules, where the reader does not refuse
unfoldable pub rules_in : List ℕ → Located → (p : ℕ) → AllRules
rules_in s l p = rules_of (state_in s l p)

abbrev pub ruled_in : List ℕ → Located → (p : ℕ) → Ruled
ruled_in s l p = record { rules = rules_in s l p; signal = l.signal }

-- the rules, or the reader's number
unfoldable pub source_in : List ℕ → Located → (p : ℕ) → Result Ruled
source_in s l p = onward (state_in s l p) λ t. good (record { rules = t.current; signal = l.signal })

-- ---- a place of the code

abbrev pub state_at : Place → Result State
state_at x = state_in x.section.now x.located x.p

abbrev pub rules_at : Place → AllRules
rules_at x = rules_in x.section.now x.located x.p

abbrev pub ruled_at : Place → Ruled
ruled_at x = ruled_in x.section.now x.located x.p

abbrev pub source_at : Place → Result Ruled
source_at x = source_in x.section.now x.located x.p

abbrev pub section_of : Section → Source
section_of x = by_section x.bytes.now x.relocations.now x.kind

abbrev pub all_left : code.Result (List (code.Option ℕ)) Question → Result (List Slot)
all_left (Ok rs) = good (slots rs)
all_left (Err q) = bad (number_of q)

-- ---- the frames

-- the frame that was at fault, by the registers of a record file
abbrev pub start_of : Trailer → (file : List ℕ) → (pc : ℕ) → walk.Caller
start_of t file pc = record { slots = slots_of t.count (drop t.size file); pc = pc; exact = true }

abbrev pub chain_as : List Frame → code.Result Ending Question → Result walk.Chain
chain_as fs (Ok e) = good (record { frames = fs; ending = ending_number e })
chain_as fs (Err q) = bad (number_of q)

-- those of the array that are used
abbrev pub frames_of : Walked → List Frame
frames_of w = take w.count w.frames

abbrev pub walked_of : Walked → Result walk.Chain
walked_of w = chain_as (frames_of w) w.ending

abbrev pub fault_of : Machine → Memory → (functions : List ℕ) → Fault
fault_of m memory functions = record { machine = m; memory = memory; functions = placed_of functions }

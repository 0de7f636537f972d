-- What the state of the code means.
use Rattle.std.specs.Prelude.{◌≡◌, reverse, Result, Ok, Err}
use Rattle.cfi_entries.specs.declared.refusal.Question.{Question}
use Rattle.cfi_entries.specs.declared.refusal.Refusal.{Refusal}
use Rattle.cfi_entries.specs.Refusals.{Answer}
use Rattle.cfi_rules.specs.declared.state.State.{State}
use Rattle.cfi_rules.specs.Registers.{Run, Action}
use Rattle.cfi_rules.specs.Log.{stored_of}

abbrev pub run_of : State → Run
run_of s = record {
  first = s.first;
  rules = s.rules;
  frame = s.frame;
  initial = s.initial;
  header = s.header;
  stored = stored_of s.rules (reverse s.log);
  args = s.args;
}

-- an operation is answered as the definition answers it: the run after it, or the question
abbrev pub Acts : Result Unit Question → Run → Action → Type 0
Acts (Ok u) s a = a ≡ Ok s
Acts (Err q) s a = a ≡ Err q

-- a pass in place, and one whose state is handed out
abbrev pub Passes : Result Unit Refusal → Run → Answer Run → Type 0
Passes (Ok u) s a = a ≡ Ok s
Passes (Err r) s a = a ≡ Err r

abbrev pub Gives : Result State Refusal → Answer Run → Type 0
Gives (Ok s) a = a ≡ Ok (run_of s)
Gives (Err r) a = a ≡ Err r

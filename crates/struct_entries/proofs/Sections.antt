-- What unwind's writer of both sections exports is what the writer of one of them does.
use mathlib.Core.Bool.{true, false}
use mathlib.Core.List.{List, []}
use Prim.Native.Nat.{ℕ}
use Rattle.format.specs.Prelude.{pick}
use Rattle.format.specs.Questions.{Given, Room, relaxed_table, relaxed_debug_frame}
use Rattle.unwind.specs.declared.Written.{Written}
use Rattle.unwind.specs.Entries.{Exports}
use Rattle.unwind.specs.Together.{answer_for}
use Rattle.unwind.proofs.DebugSites.{debug_same}

pub of_table : (format : ℕ) (g : Given) (r : Room) {o : Written} {ps ps' bs bs' rs rs' ss ss' : List ℕ}
    → Exports (answer_for false format g r) o ps ps' bs bs' rs rs' ss ss' → Exports (relaxed_table format g r) o ps ps' bs bs' rs rs' ss ss'
unfolding answer_for pick
of_table format g r x = x

-- debug_frame has no call sites
pub of_debug_frame : (format : ℕ) (g : Given) (r : Room) {o : Written} {ps ps' bs bs' rs rs' ss' : List ℕ}
    → Exports (answer_for true format g r) o ps ps' bs bs' rs rs' [] ss' → Exports (relaxed_debug_frame format g r) o ps ps' bs bs' rs rs' [] []
unfolding answer_for pick
of_debug_frame format g r x = record { numbers = x.numbers; placed = x.placed; stored = x.stored; related = x.related; sited = debug_same [] format g r }

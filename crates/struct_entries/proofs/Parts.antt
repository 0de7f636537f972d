-- What the writers answer on the two lists that stand in the lent one, and where it was not ready.
use mathlib.Core.Path.{◌≡◌, refl, sym, ap, subst, ◌∙◌}
use Prim.Native.Nat.{ℕ, ◌+◌, ◌-◌, ◌*◌, ◌≤◌}
use mathlib.Core.Bool.{Bool, true, false, not}
use mathlib.Core.Option.{none, some}
use mathlib.Core.List.{List}
use native.Mathlib.Nat.{add-sub_cancel_left}
use native.Mathlib.Omega.{arith}
use lib.Seq.{length-take-le}
use lib.ListN.{length, take, drop}
use lib.Dec.{T}
use Rattle.format.specs.Coded.{Outcome}
use Rattle.format.specs.Lists.{count, function_stride}
use Rattle.format.specs.Questions.{Question, Given, Room, Answer, empty, ask, and_then, unless, given_of, relaxed_table, relaxed_debug_frame}
use Rattle.format.specs.Prelude.{pick}
use Rattle.format.specs.Answers.{Writes, outcome_of, outcome_numbers, afterwards}
use Rattle.unwind.specs.declared.Written.{Written}
use Rattle.unwind.specs.Entries.{written_numbers, Exports}
use Rattle.unwind.proofs.Delivering.{exports}
use Rattle.unwind.proofs.Formats.{same_answer}
use Rattle.struct_entries.specs.Entries.{needed, packed, once_ready, table_is_empty, table_asks, debug_frame_is_empty, debug_frame_asks}
use Rattle.struct_entries.proofs.BeforeRoom.{table_asks_lem, debug_frame_asks_lem}

pub same_exports : {a a' : Answer} {o : Written} {places places' bytes bytes' relocations relocations' sites sites' : List ℕ} → a ≡ a'
    → Exports a o places places' bytes bytes' relocations relocations' sites sites' → Exports a' o places places' bytes bytes' relocations relocations' sites sites'
same_exports {o = o} {places} {places'} {bytes} {bytes'} {relocations} {relocations'} {sites} {sites'} e x =
    subst (λ (a : Answer). Exports a o places places' bytes bytes' relocations relocations' sites sites') e x

-- ---- the lists as the code cuts them

module _ (machine xs : List ℕ) (f r : ℕ) (ls ps : List ℕ) where
  abbrev cut : Given
  cut = given_of machine (take (18 * f) xs) (take (18 * f + 4 * r - 18 * f) (drop (18 * f) xs)) ls ps

  packed_is : packed machine xs f r ls ps ≡ cut
  unfolding packed
  packed_is = rw (add-sub_cancel_left (18 * f) (4 * r))

  pub handed : (answer : Given → Room → Answer) (room : Room) {o : Outcome} {n : Written} {places places' bytes bytes' relocations relocations' sites sites' : List ℕ}
      → written_numbers n ≡ outcome_numbers o → Writes (answer cut room) o places places' bytes bytes' relocations relocations' sites sites'
      → Exports (answer (packed machine xs f r ls ps) room) n places places' bytes bytes' relocations relocations' sites sites'
  handed answer room e w = exports e (same_answer (ap (λ (g : Given). answer g room) packed_is) w)

  packed_machine : (packed machine xs f r ls ps).machine ≡ machine
  unfolding packed
  packed_machine = refl

  packed_count : needed f r ≤ length xs → count function_stride (packed machine xs f r ls ps).functions ≡ f
  unfolding packed needed
  packed_count h = let l : length (take (18 * f) xs) ≡ 18 * f = length-take-le (18 * f) xs (omega arith) in omega arith

-- ---- the questions that come before 54

-- where the list is not ready the answer behind them is not reached
pub not_reached : (is_empty : Bool) (asks : Question) (a b : Answer) → once_ready is_empty asks false a ≡ once_ready is_empty asks false b
unfolding once_ready unless and_then ask pick
not_reached true asks a b = refl
not_reached false none a b = refl
not_reached false (some x) a b = refl

-- and nothing is written
unwritten : (is_empty : Bool) (asks : Question) (a : Answer) {o : Written} {places bytes relocations sites : List ℕ}
    → written_numbers o ≡ outcome_numbers (outcome_of (once_ready is_empty asks false a))
    → Exports (once_ready is_empty asks false a) o places places bytes bytes relocations relocations sites sites
unfolding once_ready unless and_then ask pick outcome_of afterwards
unwritten true asks a e = record { numbers = e; placed = refl; stored = refl; related = refl; sited = refl }
unwritten false none a e = record { numbers = e; placed = refl; stored = refl; related = refl; sited = refl }
unwritten false (some x) a e = record { numbers = e; placed = refl; stored = refl; related = refl; sited = refl }

module _ (is_empty : Bool) (asks : Question) (a : Answer) {o : Written} (xs ys : List ℕ) where
  pub refuses : (ok : Bool) {places bytes relocations sites : List ℕ} → not ok ≡ true → {p : Outcome} → p ≡ outcome_of (once_ready is_empty asks false empty)
      → written_numbers o ≡ outcome_numbers p
      → Exports (once_ready is_empty asks ok a) o places places bytes bytes relocations relocations sites sites × (xs ≡ pick ok ys xs)
  unfolding pick
  refuses true h q e = absurd (subst T (sym h) tt)
  refuses false h q e = (unwritten is_empty asks a (e ∙ ap outcome_numbers (q ∙ ap outcome_of (not_reached is_empty asks empty a))), refl)

  pub accepts : (ok : Bool) {us places places' bytes bytes' relocations relocations' sites sites' : List ℕ} → not ok ≡ false → once_ready is_empty asks true a ≡ a
      → Exports a o places places' bytes bytes' relocations relocations' sites sites' × (us ≡ ys)
      → Exports (once_ready is_empty asks ok a) o places places' bytes bytes' relocations relocations' sites sites' × (us ≡ pick ok ys xs)
  unfolding pick
  accepts true h e x = (same_exports (sym e) x.0, x.1)
  accepts false h e x = absurd (subst T h tt)

-- ---- a writer asks the first questions itself

module _ (format : ℕ) (machine xs : List ℕ) (f r : ℕ) (ls ps : List ℕ) (room : Room) (h : needed f r ≤ length xs) where
  abbrev given : Given
  given = packed machine xs f r ls ps

  pub table_ready : once_ready (table_is_empty format f) (table_asks format machine) true (relaxed_table format given room) ≡ relaxed_table format given room
  table_ready =
      subst (λ (k : ℕ). once_ready (table_is_empty format k) (table_asks format machine) true (relaxed_table format given room) ≡ relaxed_table format given room) (packed_count machine xs f r ls ps h)
      (subst (λ (m : List ℕ). once_ready (table_is_empty format (count function_stride given.functions)) (table_asks format m) true (relaxed_table format given room) ≡ relaxed_table format given room)
      (packed_machine machine xs f r ls ps) (table_asks_lem format given room))

  pub debug_frame_ready : once_ready (debug_frame_is_empty format f) (debug_frame_asks machine) true (relaxed_debug_frame format given room) ≡ relaxed_debug_frame format given room
  debug_frame_ready =
      subst (λ (k : ℕ). once_ready (debug_frame_is_empty format k) (debug_frame_asks machine) true (relaxed_debug_frame format given room) ≡ relaxed_debug_frame format given room) (packed_count machine xs f r ls ps h)
      (subst (λ (m : List ℕ). once_ready (debug_frame_is_empty format (count function_stride given.functions)) (debug_frame_asks m) true (relaxed_debug_frame format given room) ≡ relaxed_debug_frame format given room)
      (packed_machine machine xs f r ls ps) (debug_frame_asks_lem format given room))

-- The writer's answers, question by question, as its code meets them.
use mathlib.Core.Path.{◌≡◌, refl, sym, ◌∙◌}
use Prim.Native.Nat.{ℕ, zero, suc, ◌+◌, ◌<◌}
use native.Mathlib.Omega.{arith}
use mathlib.Core.Bool.{Bool, true, false}
use mathlib.Core.Option.{none}
use mathlib.Core.List.{List}
use lib.Dec.{T}
use mir.Facts.{yes_and}
use Rattle.format.specs.Prelude.{all, each}
use Rattle.format.specs.declared.Machine.{Machine}
use Rattle.format.specs.declared.Section.{Section}
use Rattle.format.specs.Coded.{Outcome}
use Rattle.std.specs.Prelude.{Ok, Err}
use Rattle.format.proofs.Asked.{Asked, question_of, said_yes}
use Rattle.format.specs.Machine.{machine_of, machine_ok}
use Rattle.format.specs.Lists.{function_ok_at, all_in, lists_ok}
use Rattle.format.specs.Questions.{Question, and_then, dwarf_asks, per_function, Given, Room, fitting, dwarf_given, room_in}
use Rattle.format.specs.Answers.{Writes}
use Rattle.format.proofs.Accepted.{both}
use Rattle.format.proofs.Fits.{MachineFits}
use Rattle.format.proofs.ListLaws.{in_range}
use Rattle.format.proofs.Choice.{is_true, is_yes_lem}
use Rattle.lists.specs.Parts.{sums_ok}
use Rattle.lists.proofs.Outlines.{lists_is}
use Rattle.dwarf.specs.Asks.{asked_in, AllAskable, listed_answer}
use Rattle.header_keys.specs.Inputs.{Inputs, inputs, count_in}
use Rattle.dwarf.specs.Parts.{written_in, parts_to}
use Rattle.dwarf.specs.Writable.{Cleared}
use Rattle.dwarf.specs.Surveys.{PassedAt}
use Rattle.dwarf.proofs.Cleared.{cleared}
use Rattle.dwarf.proofs.Outcomes.{unchanged, no_machine, machine_yes, no_lists, no_function, all_yes}
use Rattle.dwarf.proofs.Passed.{all_askable, all_counted, of_lists}

-- ---- what a list of questions says of each, and the other way round

module _ {A : Type 0} (ask : ℕ → A → Question) (f : ℕ → A) where
  per_at : (at n k : ℕ) → k < n → per_function ask at (each f at n) ≡ none → ask (at + k) (f (at + k)) ≡ none
  unfolding per_function each
  per_at at zero k h e = absurd (omega arith)
  per_at at (suc n) zero h e =
      let z : at + 0 ≡ at = omega arith in
      rw z (both _ _ e).0
  per_at at (suc n) (suc k) h e =
      let z : suc at + k ≡ at + suc k = omega arith in
      rw z at (per_at (suc at) n k (omega arith) (both _ _ e).1)

  pub per_all : (at n : ℕ) → ((k : ℕ) → k < n → ask (at + k) (f (at + k)) ≡ none) → per_function ask at (each f at n) ≡ none
  unfolding per_function each and_then
  per_all at zero h = refl
  per_all at (suc n) h =
      let z : at + 0 ≡ at = omega arith in
      let a : ask at (f at) ≡ none = rw z at (h 0 (omega arith)) in
      rw a
      (per_all (suc at) n
      (λ k l. let y : at + suc k ≡ suc at + k = omega arith in rw y at (h (suc k) (omega arith))))

-- ---- what the questions make sure of

module _ (x : Inputs) (fit : MachineFits x.machine) (b : lists_ok x.functions x.rows x.landings x.pairs ≡ true) where
  pub askable_is : AllAskable x
  askable_is = record { each_one = all_askable x.functions x.rows x.landings x.pairs (is_yes_lem b) x.section }

  passed : per_function (dwarf_asks x.section x.machine.word) 0 (each (asked_in x) 0 (count_in x)) ≡ none
      → (k : ℕ) → k < count_in x → PassedAt x k
  passed e k h =
      let z : 0 + k ≡ k = omega arith in
      record {
        listed =
            rw z at
            (in_range (function_ok_at x.functions x.rows x.landings x.pairs) 0 (count_in x) k
            (of_lists x.functions x.rows x.landings x.pairs (is_yes_lem b)).1 h);
        asked = rw z at (per_at (dwarf_asks x.section x.machine.word) (asked_in x) 0 (count_in x) k h e);
      }

  pub cleared_is : {q : Asked}
      → q ≡ question_of (per_function (dwarf_asks x.section x.machine.word) 0 (each (asked_in x) 0 (count_in x)))
      → q ≡ Ok tt → Cleared x
  cleared_is k y = cleared x fit (all_counted x.functions x.rows x.landings x.pairs (is_yes_lem b)) (passed (said_yes _ (sym k ∙ y)))

-- question 13 of the lists is that of the functions, behind that of the sums
pub behind_sums : (x : Inputs) → T (sums_ok x.functions) → {b : Bool}
    → b ≡ all_in (function_ok_at x.functions x.rows x.landings x.pairs) 0 (count_in x) → b ≡ lists_ok x.functions x.rows x.landings x.pairs
behind_sums x few e = e ∙ sym (lists_is x.functions x.rows x.landings x.pairs ∙ rw (is_true (sums_ok x.functions) few) refl)

-- functions that passed, the other way round
module _ (x : Inputs) (few : T (sums_ok x.functions)) (p : (k : ℕ) → k < count_in x → PassedAt x k) where
  all_held : (f : ℕ → Bool) (at n : ℕ) → ((k : ℕ) → k < n → T (f (at + k))) → T (all_in f at n)
  unfolding all_in all each
  all_held f at zero h = tt
  all_held f at (suc n) h =
      let z : at + 0 ≡ at = omega arith in
      yes_and (f at) (all_in f (suc at) n) (rw z at (h 0 (omega arith)))
      (all_held f (suc at) n (λ k l. let y : at + suc k ≡ suc at + k = omega arith in rw y at (h (suc k) (omega arith))))

  pub lists_passed : lists_ok x.functions x.rows x.landings x.pairs ≡ true
  lists_passed =
      lists_is x.functions x.rows x.landings x.pairs
      ∙ is_true _ (yes_and (sums_ok x.functions) _ few (all_held (function_ok_at x.functions x.rows x.landings x.pairs) 0 (count_in x) (λ k h. let z : k ≡ 0 + k = omega arith in rw z at (p k h).listed)))

  pub asked_passed : Ok tt ≡ question_of (per_function (dwarf_asks x.section x.machine.word) 0 (each (asked_in x) 0 (count_in x)))
  unfolding question_of
  asked_passed =
      rw (per_all (dwarf_asks x.section x.machine.word) (asked_in x) 0 (count_in x)
      (λ k h. let z : k ≡ 0 + k = omega arith in rw z at (p k h).asked))

-- ---- the answers

module _ (s : Section) (g : Given) (places bytes relocs sites : List ℕ) where
  pub says_11 : machine_ok g.machine ≡ false
      → Writes (dwarf_given s g (room_in places bytes relocs sites)) (Err (11, 0)) places places bytes bytes relocs relocs sites sites
  says_11 n = rw (no_machine s g (room_in places bytes relocs sites) n) (unchanged 11 0 places bytes relocs sites)

  pub says_listed : machine_ok g.machine ≡ true → {m : Machine} → m ≡ machine_of g.machine
      → {r : Outcome} {places' bytes' relocs' sites' : List ℕ}
      → Writes (listed_answer (inputs s m g.functions g.rows g.landings g.pairs) (room_in places bytes relocs sites)) r places places' bytes bytes' relocs relocs' sites sites'
      → Writes (dwarf_given s g (room_in places bytes relocs sites)) r places places' bytes bytes' relocs relocs' sites sites'
  says_listed a e d = rw (machine_yes s g (room_in places bytes relocs sites) a) (rw e at d)

module _ (x : Inputs) (places bytes relocs sites : List ℕ) where
  abbrev room : Room
  room = room_in places bytes relocs sites

  abbrev Answers : Outcome → (places' bytes' relocs' sites' : List ℕ) → Type 0
  Answers r places' bytes' relocs' sites' =
      Writes (listed_answer x room) r places places' bytes bytes' relocs relocs' sites sites'

  pub says_13 : lists_ok x.functions x.rows x.landings x.pairs ≡ false → Answers (Err (13, 0)) places bytes relocs sites
  says_13 n = rw (no_lists x room n) (unchanged 13 0 places bytes relocs sites)

  pub no_sums : sums_ok x.functions ≡ false → Answers (Err (13, 0)) places bytes relocs sites
  no_sums n = says_13 (lists_is x.functions x.rows x.landings x.pairs ∙ rw n)

  module _ (b : lists_ok x.functions x.rows x.landings x.pairs ≡ true) {q : Asked}
      (k : q ≡ question_of (per_function (dwarf_asks x.section x.machine.word) 0 (each (asked_in x) 0 (count_in x)))) where
    pub says_no : {r : ℕ × ℕ} → q ≡ Err r → Answers (Err r) places bytes relocs sites
    says_no {r} n = rw (no_function x room b k n) (unchanged r.0 r.1 places bytes relocs sites)

    pub says_all : q ≡ Ok tt → {r : Outcome} {places' bytes' relocs' sites' : List ℕ}
        → Writes (fitting room (written_in (parts_to x (count_in x)))) r places places' bytes bytes' relocs relocs' sites sites'
        → Answers r places' bytes' relocs' sites'
    says_all y d = rw (all_yes x room b k y) d

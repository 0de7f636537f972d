-- The definitions' answer for rows by the passes over the functions, and what questions 11 to 13 say.
use mathlib.Core.Path.{◌≡◌, refl, sym, ap, ◌∙◌}
use Prim.Native.Nat.{ℕ, zero, suc, ◌^◌, ◌<◌}
use native.Mathlib.Omega.{arith}
use mathlib.Core.Bool.{true, false, ◌&&◌}
use mathlib.Core.Option.{none, some}
use mathlib.Core.List.{List, [], ◌∷◌}
use lib.Dec.{T, leb, eqb, leb→le, eqb→eq}
use lib.ListN.{length, get_or, drop, length-drop}
use lib.Seq.{length-take-le}
use Rattle.format.specs.Prelude.{pick, Result, good, bad, each}
use Rattle.format.specs.declared.Machine.{Machine}
use Rattle.std.specs.Prelude.{Err}
use Rattle.format.specs.Coded.{Outcome}
use Rattle.format.specs.Machine.{machine_of, machine_ok}
use Rattle.format.specs.Lists.{Function, Prologue, field, count, function_stride, row_stride, landing_stride, pair_stride, most_functions, most_records, sum_of, pairs_in, inside, symbol_ok, pointer_ok, mark_ok, when_marked, all_in, row_ok_at, pair_ok_at, function_ok_at, lists_ok, function_at, functions_of}
use Rattle.format.specs.X64.{codes_of, prologue_of, prologue_no}
use Rattle.format.specs.Questions.{Question, Room, Answer, Prologues, made, stopped, made_one, prologues_for, prologues_answer, windows_answer, windows_asks, Given, given_functions, ask, and_then, no_at, unless, fitting, code_asks, codes_answer, short_ones}
use Rattle.format.specs.Answers.{outcome_of, afterwards, Writes}
use Rattle.format.proofs.Accepted.{machine_fits}
use Rattle.format.proofs.Choice.{is_yes_lem}
use Rattle.format.proofs.ListLaws.{chained, part_of, at_each, symbol_small, within}
use Rattle.lists.proofs.Machines.{long}
use Rattle.prologue.specs.declared.given.X64Machine.{X64Machine}
use Rattle.x64.specs.declared.given.Source.{Source}
use Rattle.x64.specs.declared.given.Source.TheVariants.{Rows}
use Rattle.x64.specs.Answers.{ask_each}
use Rattle.x64.specs.Listed.{stride_of, Listed, ListedAt}
use Rattle.x64.specs.Sources.{by_rows, result_at, rows_no, codes_no, length_at, rows_at, codes_at, or_none, found_at, asks_of, table_of}
use Rattle.x64.proofs.Asked.{each_yes}
use Rattle.x64.proofs.Entries.{unless_then, per_each, ask_long}

-- ---- prologues, or the first no

gather : Question → List Prologue → Prologues
gather none ps = made ps
gather (some r) ps = stopped r.0 r.1

gather_one : (at : ℕ) (r : Result Prologue) (q : Question) (ps : List Prologue)
    → made_one at r (gather q ps) ≡ gather (and_then (no_at at (rows_no r)) q) (or_none r ∷ ps)
unfolding made_one gather and_then no_at rows_no or_none
gather_one at (good p) none ps = refl
gather_one at (good p) (some r) ps = refl
gather_one at (bad n) q ps = refl

gathered : (q : Question) (ps : List Prologue) (r : Room) → prologues_answer (gather q ps) r ≡ unless q (codes_answer ps r)
unfolding gather prologues_answer unless
gathered none ps r = refl
gathered (some x) ps r = refl

codes_same : (r : Result Prologue) → rows_no r ≡ none → prologue_no (or_none r).end (or_none r).codes ≡ codes_no r
unfolding rows_no or_none codes_no
codes_same (good p) e = refl
codes_same (bad n) e = let w : ◌≡◌ {A = ℕ} 0 1 = cc in absurd (omega arith)

unless_same : (q a b : Question) (x : Answer) → (q ≡ none → a ≡ b) → unless q (unless a x) ≡ unless q (unless b x)
unfolding unless
unless_same none a b x h = rw (h refl)
unless_same (some r) a b x h = refl

module _ (x : X64Machine) (fs rows landings pairs : List ℕ) where
  abbrev m : Machine
  m = x.machine.now

  abbrev n : ℕ
  n = count function_stride fs

  abbrev f : ℕ → Function
  f k = function_at fs rows landings pairs k

  result_same : (k : ℕ) → by_rows m (f k) ≡ result_at (Rows x) fs rows k
  unfolding result_at function_at codes_of prologue_of
  result_same k = refl

  rows_long : short_ones (λ g. g.size) (functions_of fs rows landings pairs) ≡ ask_each (length_at (Rows x) fs) 0 n
  unfolding short_ones functions_of stride_of function_at
  rows_long = per_each _ f (length_at (Rows x) fs) 0 n (λ k l. ask_long (field function_stride fs k 1) k)

  made_each : (at d : ℕ) → prologues_for m at (each f at d) ≡ gather (ask_each (rows_at (Rows x) fs rows) at d) (each (found_at (Rows x) fs rows) at d)
  unfolding prologues_for each ask_each gather
  made_each at zero = refl
  made_each at (suc d) =
      rw (made_each (suc at) d, result_same at)
      (gather_one at (result_at (Rows x) fs rows at) (ask_each (rows_at (Rows x) fs rows) (suc at) d) (each (found_at (Rows x) fs rows) (suc at) d))

  rows_codes : ask_each (rows_at (Rows x) fs rows) 0 n ≡ none
      → code_asks (each (found_at (Rows x) fs rows) 0 n) ≡ ask_each (codes_at (Rows x) fs rows) 0 n
  unfolding code_asks
  rows_codes e =
      per_each _ (found_at (Rows x) fs rows) (codes_at (Rows x) fs rows) 0 n
      (λ k l. ap (no_at k) (codes_same (result_at (Rows x) fs rows k) (each_yes (rows_at (Rows x) fs rows) n e k (omega arith))))

  pub rows_answer : (r : Room) → windows_answer m (functions_of fs rows landings pairs) r
      ≡ unless (asks_of (Rows x) fs rows n) (fitting r (table_of (Rows x) fs rows n))
  unfolding windows_answer functions_of asks_of codes_answer
  rows_answer r =
      let s : Source = Rows x in
      let w : Answer = fitting r (table_of s fs rows n) in
      let a : Question = ask_each (length_at s fs) 0 n in
      let b : Question = ask_each (rows_at s fs rows) 0 n in
      let c : Question = ask_each (codes_at s fs rows) 0 n in
      ap (λ (q : Question). unless q (prologues_answer (prologues_for m 0 (each f 0 n)) r)) rows_long
      ∙ ap (unless a)
      (ap (λ (p : Prologues). prologues_answer p r) (made_each 0 n) ∙ gathered b (each (found_at s fs rows) 0 n) r
      ∙ unless_same b (code_asks (each (found_at s fs rows) 0 n)) c w rows_codes ∙ sym (unless_then b c w))
      ∙ sym (unless_then a (and_then b c) w)

-- ---- questions 11 to 13

map_long : (ms : List ℕ) → T (machine_ok ms) → length (machine_of ms).map ≡ 64
unfolding machine_of
map_long ms t = length-take-le 64 (drop 6 ms) (simp length-drop (omega (arith, long ms t)))

-- what the struct of a machine of eight bytes holds
pub machine_known : (ms : List ℕ) {m : Machine} → machine_ok ms ≡ true → m ≡ machine_of ms → eqb m.word 8 ≡ true
    → (length m.map ≡ 64) × (m.word ≡ 8) × (m.pushed < 2 ^ 31)
machine_known ms {m} k e w =
    let t = is_yes_lem k in
    (rw e (map_long ms t), eqb→eq m.word 8 (is_yes_lem w), rw e (machine_fits ms t).pushed_small)

module _ (x : X64Machine) (fs rows landings pairs : List ℕ) (l : T (lists_ok fs rows landings pairs)) where
  abbrev total : ℕ
  total = count function_stride fs

  says : (k : ℕ) → T (get_or (leb total most_functions ∷ leb (sum_of (λ k. field function_stride fs k 3) 0 total) most_records ∷ leb (sum_of (λ k. field function_stride fs k 5) 0 total) most_records ∷ leb (sum_of (pairs_in fs) 0 total) most_records ∷ all_in (function_ok_at fs rows landings pairs) 0 total ∷ []) k true)
  unfolding lists_ok
  says k = chained (leb total most_functions) (leb (sum_of (λ k. field function_stride fs k 3) 0 total) most_records ∷ leb (sum_of (λ k. field function_stride fs k 5) 0 total) most_records ∷ leb (sum_of (pairs_in fs) 0 total) most_records ∷ all_in (function_ok_at fs rows landings pairs) 0 total ∷ []) k l

  tells : (k : ℕ) → k < total → T (symbol_ok (field function_stride fs k 0)) × T (inside (field function_stride fs k 2) (field function_stride fs k 3) (count row_stride rows)) × T (all_in (row_ok_at rows) (field function_stride fs k 2) (field function_stride fs k 3))
  unfolding function_ok_at
  tells k h =
      let g : ℕ → ℕ = λ j. field function_stride fs k j in
      let tell = chained (symbol_ok (g 0)) (
      inside (g 2) (g 3) (count row_stride rows) ∷ all_in (row_ok_at rows) (g 2) (g 3) ∷ inside (g 4) (g 5) (count landing_stride landings)
      ∷ mark_ok (g 6) ∷ mark_ok (g 7) ∷ mark_ok (g 8)
      ∷ when_marked (g 8) (pointer_ok (g 9) (g 10) && mark_ok (g 11) && when_marked (g 11) (pointer_ok (g 12) (g 13)))
      ∷ mark_ok (g 14)
      ∷ when_marked (g 14) (symbol_ok (g 15) && inside (g 16) (g 17) (count pair_stride pairs) && all_in (pair_ok_at pairs) (g 16) (g 17)) ∷ []) in
      let u = at_each (function_ok_at fs rows landings pairs) total k (says 4) h in
      (tell 0 u, tell 1 u, tell 2 u)

  pub rows_listed : Listed (Rows x) fs rows total
  unfolding stride_of ListedAt
  rows_listed = record {
    most = leb→le total most_functions (says 0);
    whole = omega arith;
    each_one = λ k h. record {
      within = omega arith;
      symbol = symbol_small (field function_stride fs k 0) (tells k h).0;
      records = (
        record { inside = within (field function_stride fs k 2) (field function_stride fs k 3) (count row_stride rows) (tells k h).1; ok = (tells k h).2 },
        omega (arith, part_of (λ i. field function_stride fs i 3) total k h, leb→le (sum_of (λ i. field function_stride fs i 3) 0 total) most_records (says 1)),
      );
    };
  }

-- ---- the entry

module _ (g : Given) (r : Room) where
  abbrev whole : Answer
  whole = unless (windows_asks g) (windows_answer (machine_of g.machine) (given_functions g) r)

  module _ {places bytes relocations sites : List ℕ} where
    pub no_machine : machine_ok g.machine ≡ false → Writes whole (Err (11, 0)) places places bytes bytes relocations relocations sites sites
    unfolding windows_asks unless ask and_then pick outcome_of afterwards
    no_machine e = rw e (record { outcome = refl; placed = refl; stored = refl; related = refl; sited = refl })

    pub no_word : machine_ok g.machine ≡ true → eqb (machine_of g.machine).word 8 ≡ false
        → Writes whole (Err (12, 0)) places places bytes bytes relocations relocations sites sites
    unfolding windows_asks unless ask and_then pick outcome_of afterwards
    no_word e d = rw (e, d) (record { outcome = refl; placed = refl; stored = refl; related = refl; sited = refl })

    pub no_lists : machine_ok g.machine ≡ true → eqb (machine_of g.machine).word 8 ≡ true → lists_ok g.functions g.rows g.landings g.pairs ≡ false
        → Writes whole (Err (13, 0)) places places bytes bytes relocations relocations sites sites
    unfolding windows_asks unless ask and_then pick outcome_of afterwards
    no_lists e d b = rw (e, d, b) (record { outcome = refl; placed = refl; stored = refl; related = refl; sited = refl })

  rows_answers : (x : X64Machine) → x.machine.now ≡ machine_of g.machine → machine_ok g.machine ≡ true → eqb (machine_of g.machine).word 8 ≡ true → lists_ok g.functions g.rows g.landings g.pairs ≡ true
      → unless (asks_of (Rows x) g.functions g.rows (count function_stride g.functions)) (fitting r (table_of (Rows x) g.functions g.rows (count function_stride g.functions))) ≡ whole
  unfolding windows_asks unless ask and_then pick given_functions
  rows_answers x same e d b = sym (rw (e, d, b, ← same) (rows_answer x g.functions g.rows g.landings g.pairs r))

  pub rows_written : (x : X64Machine) {o : Outcome} {places places' bytes bytes' relocations relocations' sites sites' : List ℕ}
      → Writes (unless (asks_of (Rows x) g.functions g.rows (count function_stride g.functions)) (fitting r (table_of (Rows x) g.functions g.rows (count function_stride g.functions)))) o places places' bytes bytes' relocations relocations' sites sites'
      → x.machine.now ≡ machine_of g.machine → machine_ok g.machine ≡ true → eqb (machine_of g.machine).word 8 ≡ true → lists_ok g.functions g.rows g.landings g.pairs ≡ true
      → Writes whole o places places' bytes bytes' relocations relocations' sites sites'
  rows_written x w same e d b = rw (rows_answers x same e d b) at w

-- From the passes to the answer: refusals leave all as it was, and acceptance stores the whole.
use mathlib.Core.Path.{◌≡◌, refl, sym, ap, ◌∙◌}
use Prim.Native.Nat.{ℕ, zero, suc, ◌/◌}
use native.Mathlib.Omega.{arith}
use mathlib.Core.Bool.{true, false}
use mathlib.Core.Option.{none, some}
use mathlib.Core.List.{List, map}
use borrow.Author.Tests.{le-leb}
use lib.Dec.{leb→le}
use lib.ListN.{length}
use Rattle.format.specs.Prelude.{pick, each}
use Rattle.format.specs.declared.Section.{Section}
use Rattle.format.specs.declared.Counts.{Counts}
use Rattle.std.specs.Prelude.{Some, Ok, Err, is_err}
use Rattle.std.specs.Prelude as code
use Rattle.format.specs.declared.Refusal.{Refusal}
use Rattle.format.specs.Coded.{numbered_at}
use Rattle.format.proofs.Asked.{Asked, question_of, said_yes}
use Rattle.format.specs.Machine.{machine_of, machine_ok}
use Rattle.format.specs.Lists.{numbers_of, functions_of, lists_ok}
use Rattle.format.specs.Questions.{Question, ask, and_then, per_function, dwarf_asks, Given, Room, room_in, Answer, refused, accepted, unless, fitting, room_asks, given_asks, given_functions, dwarf_answer, dwarf_given}
use Rattle.format.specs.Answers.{outcome_of, afterwards, relocation_numbers, Writes}
use Rattle.format.specs.Writer.{taken}
use Rattle.format.proofs.Accepted.{asked, both}
use Rattle.format.proofs.ListLaws.{numbers_length}
use Rattle.dwarf.specs.declared.Table.{Table}
use Rattle.dwarf.specs.Asks.{asked_in, listed_answer}
use Rattle.header_keys.specs.Inputs.{Inputs, inputs, count_in, extent_in, function_in}
use Rattle.dwarf.specs.Parts.{places_in, bytes_in, relocs_in, sites_in, written_in, parts_to}
use Rattle.lists.specs.Room.{room_for}
use Rattle.dwarf.specs.Tables.{totals_in, counts_of, Covers, Written, Holds}
use Rattle.dwarf.proofs.Bodies.{asks_body}
use Rattle.dwarf.proofs.Fronts.{places_length, functions_each, written_parts}

-- ---- refusals

pub unchanged : (n k : ℕ) (places bytes relocs sites : List ℕ)
    → Writes (refused n k) (Err (n, k)) places places bytes bytes relocs relocs sites sites
unfolding outcome_of afterwards
unchanged n k places bytes relocs sites = record { outcome = refl; placed = refl; stored = refl; related = refl; sited = refl }

-- a question that says no decides
pub no_decides : (o : Question) (a : Answer) {r : ℕ × ℕ} → question_of o ≡ Err r → unless o a ≡ refused r.0 r.1
unfolding question_of unless
no_decides none a e = let z : ◌≡◌ {A = ℕ} 0 1 = cc in absurd (omega arith)
no_decides (some x) a {r} e =
    let h : r ≡ x = cc in
    rw h refl

-- ---- room

pub no_error : (q : code.Result Unit Refusal) → is_err q ≡ false → numbered_at q ≡ Ok tt
no_error (Ok u) e = refl
no_error (Err r) e = let z : ◌≡◌ {A = ℕ} 0 1 = cc in absurd (omega arith)

module _ (x : Inputs) {t : Table} (e : t ≡ totals_in (parts_to x (count_in x))) (places bytes relocs sites : List ℕ) where
  abbrev lent : Table
  lent = record { bytes = length bytes; relocations = length relocs; sites = length sites }

  room_is : room_for (counts_of (count_in x) t) (counts_of (length places) lent) ≡ room_asks (room_in places bytes relocs sites) (written_in (parts_to x (count_in x)))
  unfolding room_for room_asks written_in totals_in
  room_is = rw (e, places_length x (count_in x), numbers_length (relocs_in (parts_to x (count_in x))))

  abbrev answer : Answer
  answer = fitting (room_in places bytes relocs sites) (written_in (parts_to x (count_in x)))

  module _ {q : Asked} (k : q ≡ question_of (room_for (counts_of (count_in x) t) (counts_of (length places) lent))) where
    pub refuses : {r : ℕ × ℕ} → q ≡ Err r → Writes answer (Err r) places places bytes bytes relocs relocs sites sites
    unfolding fitting
    refuses {r} n = rw (no_decides _ (accepted (written_in (parts_to x (count_in x)))) (sym (ap question_of room_is) ∙ (sym k ∙ n))) (unchanged r.0 r.1 places bytes relocs sites)

-- a yes to t is room for what t covers
module _ (x : Inputs) {t : Table} (places bytes relocs sites : List ℕ) {q : Asked}
    (k : q ≡ question_of (room_for (counts_of (count_in x) t) (counts_of (length places) (record { bytes = length bytes; relocations = length relocs; sites = length sites })))) where
  pub room_for_lem : q ≡ Ok tt → Covers x t → Holds x (count_in x) places bytes relocs sites
  unfolding room_for
  room_for_lem y v =
      let a = both _ _ (said_yes _ (sym k ∙ y)) in
      let b = both _ _ a.1 in
      let c = both _ _ b.1 in
      record {
        places_fit = leb→le (count_in x) (length places) (asked _ _ _ a.0);
        bytes_fit = omega (arith, v.bytes, leb→le t.bytes (length bytes) (asked _ _ _ b.0));
        relocs_fit = omega (arith, v.relocations, leb→le t.relocations (length relocs) (asked _ _ _ c.0));
        sites_fit = omega (arith, v.sites, leb→le t.sites (length sites) (asked _ _ _ c.1));
      }

-- the sizes cover themselves
pub sizes_cover : (x : Inputs) {t : Table} → t ≡ totals_in (parts_to x (count_in x)) → Covers x t
unfolding totals_in
sizes_cover x e = rw e (record { bytes = omega arith; relocations = omega arith; sites = omega arith })

-- ---- acceptance

module _ (x : Inputs) (places bytes relocs sites : List ℕ) (h : Holds x (count_in x) places bytes relocs sites) where
  fits : room_for (counts_of (count_in x) (totals_in (parts_to x (count_in x)))) (counts_of (length places) (lent x refl places bytes relocs sites)) ≡ none
  unfolding room_for totals_in ask and_then pick
  fits =
      simp (
        le-leb (count_in x) (length places) h.places_fit,
        le-leb (length (bytes_in (parts_to x (count_in x)))) (length bytes) h.bytes_fit,
        le-leb (length (numbers_of (relocs_in (parts_to x (count_in x))))) (length relocs) h.relocs_fit,
        le-leb (length (sites_in (parts_to x (count_in x)))) (length sites) h.sites_fit,
      )

  accepts : answer x refl places bytes relocs sites ≡ accepted (written_in (parts_to x (count_in x)))
  unfolding fitting unless
  accepts = rw (sym (room_is x refl places bytes relocs sites) ∙ fits)

  module _ {u : Table} {places' bytes' relocs' sites' : List ℕ} (w : Written x (count_in x) u places places' bytes bytes' relocs relocs' sites sites') where
    abbrev counts : Counts
    counts = record { places = count_in x; bytes = u.bytes; relocations = u.relocations / 5; sites = u.sites }

    pub delivers : Writes (answer x refl places bytes relocs sites) (Ok (Some counts)) places places' bytes bytes' relocs relocs' sites sites'
    unfolding outcome_of afterwards relocation_numbers written_in
    delivers =
        let n : count_in x ≡ length (places_in (parts_to x (count_in x))) = sym (places_length x (count_in x)) in
        let b : u.bytes ≡ length (bytes_in (parts_to x (count_in x))) = omega (arith, w.bytes_stored.past) in
        let r : u.relocations / 5 ≡ length (relocs_in (parts_to x (count_in x))) =
        omega (arith, w.relocs_stored.past, numbers_length (relocs_in (parts_to x (count_in x)))) in
        let s : u.sites ≡ length (sites_in (parts_to x (count_in x))) = omega (arith, w.sites_stored.past) in
        rw accepts (record {
          outcome = cc;
          placed = w.places_stored.stored;
          stored = w.bytes_stored.stored;
          related = w.relocs_stored.stored;
          sited = w.sites_stored.stored;
        })

-- ---- the questions in front of them

per_same : {A : Type 0} (ask : ℕ → A → Question) (f g : ℕ → A) (at n : ℕ) → ((k : ℕ) → ask k (f k) ≡ ask k (g k))
    → per_function ask at (each f at n) ≡ per_function ask at (each g at n)
unfolding per_function each
per_same ask f g at zero h = refl
per_same ask f g at (suc n) h = rw (h at, per_same ask f g (suc at) n h)

module _ (x : Inputs) where
  asks_are : per_function (dwarf_asks x.section x.machine.word) 0 (map (taken x.section) (functions_of x.functions x.rows x.landings x.pairs))
      ≡ per_function (dwarf_asks x.section x.machine.word) 0 (each (asked_in x) 0 (count_in x))
  asks_are =
      rw (functions_each x)
      (per_same (dwarf_asks x.section x.machine.word) (function_in x) _ 0 (count_in x)
      (λ k. asks_body x.section x.machine.word k (extent_in x k) x.rows x.landings x.pairs))

  module _ (r : Room) where
    abbrev listed : Answer
    listed = listed_answer x r

    pub no_lists : lists_ok x.functions x.rows x.landings x.pairs ≡ false → listed ≡ refused 13 0
    unfolding listed_answer ask unless pick
    no_lists l = rw l

    module _ (l : lists_ok x.functions x.rows x.landings x.pairs ≡ true) {q : Asked}
        (k : q ≡ question_of (per_function (dwarf_asks x.section x.machine.word) 0 (each (asked_in x) 0 (count_in x)))) where
      pub no_function : {r : ℕ × ℕ} → q ≡ Err r → listed ≡ refused r.0 r.1
      unfolding listed_answer dwarf_answer ask unless pick
      no_function n = rw (l, asks_are) (no_decides _ _ (sym k ∙ n))

      pub all_yes : q ≡ Ok tt → listed ≡ fitting r (written_in (parts_to x (count_in x)))
      unfolding listed_answer dwarf_answer ask unless pick
      all_yes y = rw (l, asks_are, said_yes _ (sym k ∙ y)) (ap (fitting r) (written_parts x))

module _ (s : Section) (g : Given) (r : Room) where
  pub no_machine : machine_ok g.machine ≡ false → dwarf_given s g r ≡ refused 11 0
  unfolding dwarf_given given_asks ask and_then unless pick
  no_machine m = rw m

  pub machine_yes : machine_ok g.machine ≡ true
      → dwarf_given s g r ≡ listed_answer (inputs s (machine_of g.machine) g.functions g.rows g.landings g.pairs) r
  unfolding dwarf_given given_asks given_functions listed_answer ask and_then pick
  machine_yes m = rw m

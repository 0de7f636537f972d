-- The one pass over the functions: what it has made sure of so far.
use mathlib.Core.Path.{◌≡◌, subst}
use Prim.Native.Nat.{ℕ, suc, ◌+◌, ◌^◌, ◌≤◌, ◌<◌}
use native.Mathlib.Omega.{arith}
use native.Mathlib.Numerals.{add-one}
use mathlib.Core.Bool.{true}
use mathlib.Core.Option.{none}
use mathlib.Core.List.{List, []}
use lib.Dec.{T, ltb}
use lib.ListN.{length}
use Rattle.format.specs.Prelude.{pick}
use Rattle.format.specs.Lists.{row_ok_at, all_in, field, function_stride}
use Rattle.format.specs.Questions.{size_bytes, encodings_ok, pairs_ok, ask, and_then, dwarf_asks}
use Rattle.format.proofs.Choice.{either}
use Rattle.format.proofs.Fits.{MachineFits}
use Rattle.lists.specs.Extents.{extent_at, meant}
use Rattle.lists.specs.Parts.{outline_ok_at, sums_ok}
use Rattle.lists.proofs.Outlines.{function_is}
use Rattle.header_keys.specs.Functions.{body_of, Listed}
use Rattle.std.specs.Prelude.{Option, Some, None}
use Rattle.records.specs.Stepped.{SurveyedRows, Surveyed}
use Rattle.owners.specs.Chains.{OwnersFound, Enough, Unused}
use Rattle.owners.proofs.OwnerLoop.{Going}
use Rattle.owners.proofs.OwnerLoop as owning
use Rattle.dwarf.specs.declared.Table.{Table}
use Rattle.header_keys.specs.Inputs.{Inputs, count_in, extent_in}
use Rattle.dwarf.specs.Parts.{parts_to}
use Rattle.dwarf.specs.Tables.{nothing, totals_in, Few}
use Rattle.dwarf.specs.Writable.{Writable, Next}
use Rattle.dwarf.specs.Surveys.{PassedAt, rows_size, FunctionSurveyed, AllSurveyed}
use Rattle.dwarf.proofs.Cleared.{writable}
use Rattle.dwarf.proofs.Passed.{counted, taken_range}
use Rattle.dwarf.proofs.Sizing.{Sizing}
use Rattle.dwarf.proofs.Sizing as sizing

-- ---- one function

module _ (x : Inputs) (k : ℕ) (o : outline_ok_at x.functions x.rows x.landings x.pairs k ≡ true)
    (f : (ltb (extent_in x k).length (256 ^ size_bytes x.section x.machine.word) ≡ true)
    × (encodings_ok x.machine.word (body_of (extent_in x k) []).landings (body_of (extent_in x k) []).named ≡ true)
    × (pairs_ok (meant (extent_in x k) [] [] x.pairs).relaxed ≡ true)) where
  module _ {n : ℕ} (r : SurveyedRows x.machine.word x.rows (extent_in x k).rows_at (extent_in x k).rows n) where
    rows_listed : T (all_in (row_ok_at x.rows) (field function_stride x.functions k 2) (field function_stride x.functions k 3))
    unfolding extent_at
    rows_listed = rw ((taken_range x.section (extent_at x.functions k)).0, (taken_range x.section (extent_at x.functions k)).1) at r.ready.ok

    none_asked : dwarf_asks x.section x.machine.word k (meant (extent_in x k) x.rows [] x.pairs) ≡ none
    unfolding dwarf_asks meant ask and_then pick
    none_asked = simp (f.0, f.1, f.2, r.steps, r.whole)

    function_passed : PassedAt x k
    function_passed = record { listed = rw (function_is x.functions x.rows x.landings x.pairs k, o) rows_listed; asked = none_asked }

  pub rows_say : (r : Option ℕ) → Surveyed x.machine.word x.rows (extent_in x k).rows_at (extent_in x k).rows r → FunctionSurveyed x k r
  rows_say (Some n) s = (function_passed s, s.bytes)
  rows_say None s = tt

pub bytes_say : {x : Inputs} {k : ℕ} {r : Option ℕ} {n : ℕ} → FunctionSurveyed x k r → r ≡ Some n → PassedAt x k × (n ≡ rows_size x k)
bytes_say {x} {k} s e = subst (FunctionSurveyed x k) e s

pub behind_say : (x : Inputs) {owners : List ℕ} {r : Option Table} {t : Table} → AllSurveyed x owners r → r ≡ Some t → AllSurveyed x owners (Some t)
behind_say x {owners} s e = subst (AllSurveyed x owners) e s

pub few_of : (fs : List ℕ) → T (sums_ok fs) → Few fs
few_of fs t = let c = counted fs t in record { functions = c.functions_at_most; rows = c.rows_few; landings = c.landings_few }

-- ---- all of them

pub record Surveying (x : Inputs) (n k : ℕ) (t : Table) (heads₀ links₀ owners₀ heads links owners : List ℕ) : Type 0 where
  pub sizes : Sizing x n k t
  pub passed : (j : ℕ) → j < k → PassedAt x j
  pub owned : Going x n k heads₀ links₀ owners₀ heads links owners

pub start : (x : Inputs) {heads links owners : List ℕ} → Unused (count_in x) heads links owners
    → Surveying x (count_in x) 0 nothing heads links owners heads links owners
start x u = record {
  sizes = sizing.start x;
  passed = λ j l. absurd (omega arith);
  owned = owning.start x u;
}

module _ {x : Inputs} {n k : ℕ} {t : Table} {heads₀ links₀ owners₀ heads links owners : List ℕ}
    (g : Surveying x n k t heads₀ links₀ owners₀ heads links owners) where
  module _ (h : k < n) (p : PassedAt x k) where
    all_passed : (j : ℕ) → j < suc k → PassedAt x j
    all_passed j l =
        either (suc j) k (λ a. g.passed j a)
        (λ b.
        let e : k ≡ j = omega arith in
        subst (PassedAt x) e p)

    module _ (fit : MachineFits x.machine) (few : T (sums_ok x.functions)) where
      can_be_written : Writable x k
      can_be_written = writable x fit (counted x.functions few) k (omega (arith, g.sizes.counted)) all_passed

      pub next : Next x k n t
      next = record { writable = can_be_written; counted = g.sizes.counted; behind = g.sizes.behind }

      pub owner_ready : Listed x.functions x.rows (k + 1) × Enough (k + 1) (length heads) links owners
          × OwnersFound x (length heads) k heads links owners
      owner_ready = (rw (add-one k) can_be_written.listed, owning.room g.owned h, owning.so_far g.owned h)

    pub turn : {u : Table} {heads' links' owners' : List ℕ} → u ≡ totals_in (parts_to x (k + 1))
        → OwnersFound x (length heads) (k + 1) heads' links' owners' × (length links' ≡ length links) × (length owners' ≡ length owners)
        → Surveying x n (k + 1) u heads₀ links₀ owners₀ heads' links' owners'
    turn e c = record { sizes = sizing.turn g.sizes h e; passed = λ j l. all_passed j (omega arith); owned = owning.turn g.owned h c }

  pub enough : Enough (count_in x) (length heads) links owners
  enough = rw (← g.sizes.counted, owning.heads_kept g.owned) g.owned.enough

  pub ended : n ≤ k → AllSurveyed x owners (Some t)
  ended h = (
    λ j l. g.passed j (omega (arith, g.sizes.counted)),
    sizing.ended g.sizes h,
    rw (← g.sizes.counted) (owning.ended g.owned h),
  )

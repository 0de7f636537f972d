-- The sizing pass, function by function.
use mathlib.Core.Path.{◌≡◌, refl, ap, ◌∙◌}
use Prim.Native.Nat.{ℕ, ◌+◌, ◌≤◌, ◌<◌}
use native.Mathlib.Omega.{arith}
use native.Mathlib.Numerals.{add-one}
use mathlib.Core.Bool.{Bool}
use mathlib.Core.List.{List}
use lib.Dec.{eqb}
use mir.Facts.{eqb_yes, eqb_no}
use Rattle.format.specs.Prelude.{pick}
use Rattle.format.proofs.Choice.{pick_yes, pick_no, tested}
use Rattle.format.specs.declared.Machine.{Machine}
use Rattle.format.specs.Writer.{is_debug, align_for, joined}
use Rattle.format.specs.Lists.{numbers_of}
use Rattle.format.proofs.FieldsBack.{word_small}
use Rattle.rows.proofs.WholeNumbers.{word_least}
use Rattle.lists.specs.declared.Extent.{Extent}
use Rattle.lists.specs.Extents.{meant}
use Rattle.header_keys.specs.Functions.{Sound}
use Rattle.records.specs.Stepped.{SteppedReady}
use Rattle.owners.specs.Owners.{owner}
use Rattle.owners.specs.Chains.{Owned}
use Rattle.dwarf.specs.declared.Table.{Table}
use Rattle.header_keys.specs.Inputs.{Inputs, count_in, extent_in}
use Rattle.dwarf.specs.Parts.{align_in, bytes_in, relocs_in, sites_in, parts_to}
use Rattle.dwarf.specs.Pieces.{part_in}
use Rattle.dwarf.specs.Tables.{nothing, totals_in, grown_by, behind_header, Small, SizeReady}
use Rattle.dwarf.specs.Writable.{Cleared, Next}
use Rattle.dwarf.proofs.Owners.{own_looked, found_looked}
use Rattle.dwarf.proofs.Totals.{headed_size, headed_next, found_next}

-- ---- a function's rows

pub rows_ready : {m : Machine} {e : Extent} {rows : List ℕ} → Sound m e rows → SteppedReady m.word rows e.rows_at e.rows
unfolding meant
rows_ready {m} s = record {
  word_low = word_least m.word s.machine.is_word;
  word_high = (word_small m.word s.machine.is_word).1;
  ready = s.ready;
  few = s.few;
  lines = s.lines;
}

-- ---- function k

module _ {x : Inputs} {k n : ℕ} {t : Table} (c : Next x k n t) where
  pub align_is : {a : ℕ} → a ≡ align_for x.section x.machine.word (eqb (k + 1) n) → a ≡ align_in x k
  align_is e = rw (add-one k, c.counted) at e

  pub small_next : Small (totals_in (parts_to x (k + 1)))
  unfolding totals_in
  small_next = rw (add-one k) (record {
    bytes = omega (arith, c.writable.bytes_few);
    relocations = omega (arith, c.writable.relocs_few);
    sites = omega (arith, c.writable.sites_few);
  })

  module _ {align : ℕ} {debug : Bool} {e : Extent} (d : debug ≡ is_debug x.section) (a : align ≡ align_for x.section x.machine.word (eqb (k + 1) n))
      (q : e ≡ extent_in x k) where
    abbrev after : Table → Table
    after u = grown_by u (part_in debug x.machine align u.bytes 0 u.sites e x.rows x.landings x.pairs)

    module _ (u : Table) (h : after u ≡ totals_in (parts_to x (k + 1))) where
      after_small : Small (after u)
      after_small = rw h small_next

      pub size_ready : SizeReady debug x.machine align e u x.rows x.landings x.pairs
      size_ready = record { landings_ready = rw q c.writable.landings_ready; pairs_ready = rw q c.writable.pairs_ready; small = after_small }

      pub low : Small u
      unfolding grown_by
      low = record {
        bytes = omega (arith, after_small.bytes);
        relocations = omega (arith, after_small.relocations);
        sites = omega (arith, after_small.sites);
      }

    pub own_next : owner x k ≡ k → after (behind_header debug x.machine align e t x.rows) ≡ totals_in (parts_to x (k + 1))
    own_next o = headed_size debug x.machine align e t x.rows x.landings x.pairs ∙ rw (d, align_is a, q) (headed_next x k t c.behind o)

    pub other_next : owner x k < k → after t ≡ totals_in (parts_to x (k + 1))
    other_next o = rw (d, align_is a, q) (found_next x k t c.behind o)

    -- the one or the other, by whether its owner is the function itself
    pub chosen_next : {i : ℕ} → i ≡ owner x k
        → after (pick (eqb i k) (behind_header debug x.machine align e t x.rows) t) ≡ totals_in (parts_to x (k + 1))
    chosen_next {i} h =
        tested (eqb i k)
        (λ y. rw (pick_yes (eqb i k) (behind_header debug x.machine align e t x.rows) t y) (own_next (own_looked x h (eqb_yes y))))
        (λ y. rw (pick_no (eqb i k) (behind_header debug x.machine align e t x.rows) t y) (other_next (found_looked x h (eqb_no y))))

-- ---- all of them

-- the owners of all, and of the first k + 1
pub owned_to : {x : Inputs} {owners : List ℕ} {n k : ℕ} → k < n → Owned x n owners → Owned x (k + 1) owners
owned_to h o = record { long = omega (arith, o.long); each_one = λ j l. o.each_one j (omega arith) }

pub record Sizing (x : Inputs) (n k : ℕ) (t : Table) : Type 0 where
  pub counted : n ≡ count_in x
  pub high : k ≤ n
  pub behind : t ≡ totals_in (parts_to x k)

-- a table whose numbers are 0 is empty
pub is_nothing : {t : Table} → (t.bytes ≡ 0) × ((t.relocations ≡ 0) × (t.sites ≡ 0)) → t ≡ nothing
is_nothing (b, (r, s)) = ap (λ (n : ℕ × ℕ × ℕ). record { bytes = n.0; relocations = n.1; sites = n.2 }) (rw (b, r, s) refl)

pub start : (x : Inputs) → Sizing x (count_in x) 0 nothing
unfolding totals_in parts_to bytes_in relocs_in sites_in joined numbers_of
start x = record { counted = refl; high = omega arith; behind = refl }

module _ {x : Inputs} {n k : ℕ} {t : Table} (c : Sizing x n k t) where
  pub next : Cleared x → k < n → Next x k n t
  next s h = record { writable = s.each_one k (omega (arith, c.counted)); counted = c.counted; behind = c.behind }

  pub turn : {u : Table} → k < n → u ≡ totals_in (parts_to x (k + 1)) → Sizing x n (k + 1) u
  turn h e = record { counted = c.counted; high = omega arith; behind = e }

  pub ended : n ≤ k → t ≡ totals_in (parts_to x (count_in x))
  ended h =
      let e : k ≡ count_in x = omega (arith, c.high, c.counted) in
      rw e at c.behind

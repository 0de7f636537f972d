-- A table at a place: its head, the bytes of its entries, and the answer.
use mathlib.Core.Path.{◌≡◌, refl, ap, ◌∙◌}
use Prim.Native.Nat.{ℕ, suc, ◌+◌, ◌-◌, ◌≤◌, ◌<◌}
use native.Mathlib.Omega.{arith}
use mathlib.Core.Bool.{Bool, true, false, ◌&&◌}
use mathlib.Core.Option.{Option, none, some}
use mathlib.Core.List.{List, [], ◌∷◌}
use lib.ListN.{length, get_or, take, drop, length-drop}
use lib.Seq.{drop-cons, drop-drop}
use Rattle.std.specs.Prelude.{Some, None, Err}
use Rattle.format.specs.Prelude.{pick, next, Result, good, bad, onward, or_else}
use Rattle.operations.specs.declared.fields.Position.{Position}
use Rattle.format.specs.Lists.{Landing}
use Rattle.format.specs.Reader.{read_many, read_counted}
use Rattle.format.specs.Shortest.{shortest, every_short}
use Rattle.format.specs.CallSiteReader.{head_ok, read_table, sites_at, site_at, entries_short, sites_short, site_numbers, answer_numbers, site_mark, marked_site}
use Rattle.format.proofs.Choice.{if-le, if-gt}
use Rattle.operations.specs.Positions.{uleb_at, from}
use Rattle.operations.proofs.PositionLaws.{uleb_rest, uleb_past, uleb_none, past_mark}
use Rattle.call_sites.specs.Reads.{TableThere, read_of, first_covering, with_mark, answer_of, found_numbers}

short : (bs : List ℕ) → length bs < 3 → read_table bs ≡ none
unfolding read_table
short [] h = refl
short (a ∷ []) h = refl
short (a ∷ b ∷ []) h = refl
short (a ∷ b ∷ c ∷ bs) h = absurd (omega arith)

module _ (s : List ℕ) (p : ℕ) where
  pub no_head : length s < p + 3 → read_table (drop p s) ≡ none
  no_head h = short (drop p s) (omega (arith, length-drop p s))

  module _ (h : p + 3 ≤ length s) where
    three : drop p s ≡ get_or s p 0 ∷ get_or s (p + 1) 0 ∷ get_or s (p + 2) 0 ∷ drop (p + 3) s
    three =
        let e₁ : p + 1 ≡ suc p = omega arith in
        let e₂ : p + 2 ≡ suc (suc p) = omega arith in
        let e₃ : p + 3 ≡ suc (suc (suc p)) = omega arith in
        rw (e₁, e₂, e₃) (drop-cons s p 0 (omega arith) ∙ ap (λ l. get_or s p 0 ∷ l) (drop-cons s (suc p) 0 (omega arith) ∙ ap (λ l. get_or s (suc p) 0 ∷ l) (drop-cons s (suc (suc p)) 0 (omega arith))))

    by_head : {b : Bool} → b ≡ head_ok (get_or s p 0) (get_or s (p + 1) 0) (get_or s (p + 2) 0)
        → read_table (drop p s) ≡ pick b (next (read_counted (drop (p + 3) s)) (λ es rest. some es)) none
    unfolding read_table
    by_head e = rw (three, e)

    pub other_head : {b : Bool} → b ≡ head_ok (get_or s p 0) (get_or s (p + 1) 0) (get_or s (p + 2) 0) → b ≡ false → read_table (drop p s) ≡ none
    unfolding pick
    other_head e f = rw f at (by_head e)

    module _ {b : Bool} (e : b ≡ head_ok (get_or s p 0) (get_or s (p + 1) 0) (get_or s (p + 2) 0)) (f : b ≡ true) where
      counted_next : read_table (drop p s) ≡ next (read_counted (drop (p + 3) s)) (λ es rest. some es)
      unfolding pick
      counted_next = rw f at (by_head e)

      pub no_size : uleb_at s (from (p + 3)) ≡ None → read_table (drop p s) ≡ none
      unfolding read_counted next
      no_size n = counted_next ∙ rw (uleb_none s (from (p + 3)) n)

      module _ {n : ℕ} {q : Position} (v : uleb_at s (from (p + 3)) ≡ Some (n, q)) where
        pub past_end : length s - q.at < n → read_table (drop p s) ≡ none
        unfolding read_counted read_many next
        past_end l = let m : length (drop q.at s) < n = omega (arith, length-drop q.at s) in counted_next ∙ rw (uleb_rest s (from (p + 3)) v, if-gt n (length (drop q.at s)))

        module _ (l : n ≤ length s - q.at) where
          entries_there : read_table (drop p s) ≡ some (take (q.at + n - q.at) (drop q.at s))
          unfolding read_counted read_many next
          entries_there =
              let m : n ≤ length (drop q.at s) = omega (arith, length-drop q.at s) in
              let z : q.at + n - q.at ≡ n = omega arith in
              counted_next ∙ rw (z, uleb_rest s (from (p + 3)) v, if-le n (length (drop q.at s)))

          pub table_there : TableThere s p (take (q.at + n - q.at) (drop q.at s)) q.shortest
          unfolding sites_short entries_short
          table_there =
              let d : drop 3 (drop p s) ≡ drop (p + 3) s = drop-drop 3 p s in
              record { reads = entries_there; mark = rw (entries_there, d, past_mark (uleb_past s (from (p + 3)) v)) }

-- ---- the answer

pub no_table : (s : List ℕ) (p offset : ℕ) → read_table (drop p s) ≡ none → Err 71 ≡ with_mark (read_of (site_at s p offset)) (sites_short s p)
unfolding site_at sites_at onward or_else
no_table s p offset e = rw e

pub table_answers : (s : List ℕ) (p offset : ℕ) {entries : List ℕ} {b : Bool} → TableThere s p entries b
    → with_mark (first_covering offset entries) (b && every_short entries) ≡ with_mark (read_of (site_at s p offset)) (sites_short s p)
unfolding site_at sites_at onward or_else first_covering
table_answers s p offset t = rw (t.mark, t.reads)

-- in C's form
pub in_numbers : (r : Result (Option Landing)) (shortest : Bool) → found_numbers (with_mark (read_of r) shortest) ≡ marked_site r shortest
unfolding answer_of marked_site answer_numbers site_mark site_numbers
in_numbers (bad n) shortest = refl
in_numbers (good none) shortest = refl
in_numbers (good (some l)) shortest = refl

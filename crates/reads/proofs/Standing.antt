-- The entries of a section stand where they say, and end in it.
use Rattle.std.proofs.Common.{◌≡◌, ℕ, zero, suc, ◌+◌, ◌<◌, ◌≤◌, Bool, true, false, List, [], ◌∷◌, length, refl, arith}
use mathlib.Core.Option.{Option, none, some}
use lib.ListN.{get_elem?}
use Rattle.format.specs.Prelude.{pick, next, after, first}
use Rattle.format.specs.Reader.{Entry, entries, records, is_header}
use Rattle.format.proofs.Choice.{either}
use Rattle.reader.specs.Spans.{entry_in, entries_from, listed, end_at}
use Rattle.std.specs.Prelude.{Some, None}
use Rattle.std.specs.Prelude as code
use Rattle.reader.proofs.Tiling.{Entered, entered, tiled_end, tiled_none, tiled_more}
use Rattle.reads.specs.Addresses.{entry_at}

pub record Standing (s : List ℕ) (e : Entry) : Type 0 where
  pub end : ℕ
  pub there : Entered s e.at end
  pub same : e ≡ entry_in s e.at end

-- each of these entries does
abbrev pub AllStand : List ℕ → List Entry → Type 0
AllStand s [] = Unit
AllStand s (e ∷ es) = Standing s e × AllStand s es

module _ (s : List ℕ) where
  behind_one : (e : Entry) (o : Option (List Entry)) → Standing s e → AllStand s (listed o) → AllStand s (listed (after o λ es. some (e ∷ es)))
  unfolding listed after
  behind_one e none k a = tt
  behind_one e (some es) k a = (k, a)

  from_end : (p : ℕ) (o : code.Option ℕ) → end_at s p ≡ o → p < length s → ((q : ℕ) → p < q → q ≤ length s → AllStand s (listed (entries_from s q)))
      → AllStand s (listed (entries_from s p))
  unfolding listed
  from_end p None e h more = rw (tiled_none s p h e) tt
  from_end p (Some q) e h more =
      let a = entered s p e in
      rw (tiled_more s p h e)
      (behind_one (entry_in s p q) (entries_from s q) (record { end = q; there = a; same = refl }) (more q (omega (arith, a.long)) a.inside))

  -- more fuel than bytes is enough
  from : (f p : ℕ) → length s < p + f → p ≤ length s → AllStand s (listed (entries_from s p))
  unfolding listed
  from zero p h l = absurd (omega arith)
  from (suc f) p h l =
      either (length s) p (λ k. rw (tiled_end s p k) tt) (λ k. from_end p (end_at s p) refl k (λ q m n. from f q (omega arith) n))

  all_stand : AllStand s (listed (entries s))
  unfolding entries entries_from
  all_stand = from (suc (length s)) 0 (omega arith) (omega arith)

  pub entries_stand : {es : List Entry} → entries s ≡ some es → AllStand s es
  unfolding listed
  entries_stand e = rw e at all_stand

  chosen : (b : Bool) (e : Entry) (es : List Entry) → Standing s e → AllStand s es → AllStand s (pick b es (e ∷ es))
  unfolding pick
  chosen true e es k a = a
  chosen false e es k a = (k, a)

  pub records_stand : (debug : Bool) (es : List Entry) → AllStand s es → AllStand s (records debug es)
  unfolding records
  records_stand debug [] a = tt
  records_stand debug (e ∷ es) a = chosen (is_header debug e) e (records debug es) a.0 (records_stand debug es a.1)

  pub nth_stands : (es : List Entry) (k : ℕ) {e : Entry} → AllStand s es → get_elem? es k ≡ some e → Standing s e
  nth_stands [] k a q = let z : ◌≡◌ {A = ℕ} 0 1 = cc in absurd (omega arith)
  nth_stands (x ∷ es) zero {e} a q = let same : x ≡ e = cc in rw same at a.0
  nth_stands (x ∷ es) (suc k) a q = nth_stands es k a.1 q

  one_of : (b : Bool) {x e : Entry} {o : Option Entry} → Standing s x → (o ≡ some e → Standing s e) → pick b (some x) o ≡ some e → Standing s e
  unfolding pick
  one_of true {x} {e} k later q = let same : x ≡ e = cc in rw same at k
  one_of false k later q = later q

  pub first_stands : (test : Entry → Bool) (es : List Entry) {e : Entry} → AllStand s es → first test es ≡ some e → Standing s e
  unfolding first
  first_stands test [] a q = let z : ◌≡◌ {A = ℕ} 0 1 = cc in absurd (omega arith)
  first_stands test (x ∷ es) a q = one_of (test x) a.0 (first_stands test es a.1) q

  -- so it is the entry at its place
  pub stands_entry : {e : Entry} → Standing s e → entry_at s e.at ≡ some e
  unfolding entry_at next
  stands_entry {e} k = rw k.there.read (rw (← k.same) refl)

  pub stands_inside : {e : Entry} → Standing s e → e.at < length s
  stands_inside k = omega (arith, k.there.long, k.there.inside)

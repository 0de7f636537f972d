-- A record's epilogues, in both forms.
use mathlib.Core.Path.{◌≡◌, refl, ap, ◌∙◌}
use mathlib.Core.Option.{Option, none, some}
use mathlib.Core.List.{List, [], ◌∷◌, append-nil}
use Prim.Native.Nat.{ℕ, suc, ◌+◌, ◌-◌, ◌*◌, ◌≤◌, ◌<◌}
use native.Mathlib.Omega.{arith}
use lib.ListN.{length, take, drop, length-drop}
use lib.Seq.{length-take-le}
use Rattle.format.specs.Prelude.{after}
use Rattle.format.proofs.Choice.{if-le, if-gt, either}
use Rattle.arm64.specs.declared.Code.{Code}
use Rattle.arm64.specs.declared.Epilogues.TheVariants.{Single, Scoped}
use Rattle.arm64.specs.declared.Header.{Header}
use Rattle.arm64.specs.Lists.{Epilogue, epilogue_numbers}
use Rattle.arm64.specs.Records.{codes_from, codes_to, codes_of, scope_at}
use Rattle.arm64.specs.Reader.{run_at, epilogue, at_end, scoped, epilogues_by, record_epilogues, epilogue_codes}
use Rattle.arm64_runs.specs.Runs.{codes_in, count_of}
use Rattle.arm64_records.specs.Parts.{words_from, total_of, epilogues_in, how_many, Inside, Listed, Placed}
use Rattle.arm64_records.proofs.Headers.{scopes_all}
use Rattle.arm64_records.proofs.Epilogues.{scoped_same, counted_run, no_run}

pub total_some : (x : Option (List Epilogue)) {m : ℕ} → total_of x ≡ some m → (x ≡ some (epilogues_in x)) × (length (epilogue_codes (epilogues_in x)) ≡ m)
unfolding total_of epilogues_in
total_some none e = absurd cc
total_some (some es) e = (refl, cc)

module _ (h : Header) where
  pub many_all : {count : ℕ} → h.epilogues ≡ Scoped count → how_many h ≡ count
  unfolding how_many
  many_all e = rw e

  pub many_one : {index : ℕ} → h.epilogues ≡ Single index → how_many h ≡ 1
  unfolding how_many
  many_one e = rw e

-- the bytes that the code takes
pub codes_taken : (h : Header) (s : List ℕ) {from : ℕ} → from ≡ codes_from h → take (from + 4 * h.words - from) (drop from s) ≡ codes_of h s
unfolding codes_of
codes_taken h s {from} e = let z : from + 4 * h.words - from ≡ 4 * h.words = omega arith in rw (z, e)

module _ (s : List ℕ) (h : Header) (i : Inside s h) where
  pub codes_short : length (codes_of h s) ≡ 4 * h.words
  unfolding codes_of codes_to
  codes_short = length-take-le (4 * h.words) (drop (codes_from h) s) (omega (arith, length-drop (codes_from h) s, i.ends))

  pub words_inside : {count : ℕ} → h.epilogues ≡ Scoped count → h.past + 4 * count ≤ length s
  unfolding codes_to codes_from
  words_inside e = omega (arith, scopes_all h e, i.ends)

module _ (s : List ℕ) (h : Header) {codes : List ℕ} (c : codes ≡ codes_of h s) where
  pub by_words : {count : ℕ} → h.epilogues ≡ Scoped count → record_epilogues h s ≡ scoped (words_from h.past s) codes 0 count
  unfolding record_epilogues scope_at words_from
  by_words {count} e = ap (λ x. epilogues_by x h s) e ∙ rw c (scoped_same (scope_at h s) (words_from h.past s) (codes_of h s) 0 count (λ j. refl))

  module _ {index : ℕ} (n : h.epilogues ≡ Single index) where
    by_end : record_epilogues h s ≡ after (run_at codes index) (at_end h.length)
    unfolding record_epilogues
    by_end = ap (λ x. epilogues_by x h s) n ∙ rw c refl

    end_none : run_at codes index ≡ none → record_epilogues h s ≡ none
    unfolding after
    end_none e = by_end ∙ rw e

    module _ {cs : List Code} (r : run_at codes index ≡ some cs) where
      end_late : h.length ≤ length cs → record_epilogues h s ≡ none
      unfolding after at_end
      end_late l = let g : h.length < suc (length cs) = omega arith in by_end ∙ rw (r, if-gt (suc (length cs)) h.length)

      end_some : length cs < h.length → record_epilogues h s ≡ some (epilogue (4 * (h.length - suc (length cs))) cs ∷ [])
      unfolding after at_end
      end_some l = let g : suc (length cs) ≤ h.length = omega arith in by_end ∙ rw (r, if-le (suc (length cs)) h.length)

    end_total : {cs : List Code} → run_at codes index ≡ some cs → length cs < h.length → total_of (record_epilogues h s) ≡ some (length cs)
    unfolding total_of epilogue_codes epilogue
    end_total {cs} r l = rw (end_some r l, append-nil cs) refl

    -- the one epilogue's codes counted
    pub one_none : count_of (run_at codes index) ≡ none → total_of (record_epilogues h s) ≡ none
    unfolding total_of
    one_none e = ap total_of (end_none (no_run (run_at codes index) e))

    module _ {m : ℕ} (e : count_of (run_at codes index) ≡ some m) where
      pub one_late : h.length ≤ m → total_of (record_epilogues h s) ≡ none
      unfolding total_of
      one_late l = let r = counted_run (run_at codes index) e in ap total_of (end_late r.0 (omega (arith, r.1)))

      pub one_there : m < h.length → total_of (record_epilogues h s) ≡ some m
      one_there l = let r = counted_run (run_at codes index) e in end_total r.0 (omega (arith, r.1)) ∙ ap some r.1

    -- the one epilogue, where its codes are m
    pub record One (m : ℕ) : Type 0 where
      pub run : run_at codes index ≡ some (codes_in (run_at codes index))
      pub size : length (codes_in (run_at codes index)) ≡ m
      pub fits : m < h.length
      pub same : record_epilogues h s ≡ some (epilogue (4 * (h.length - suc m)) (codes_in (run_at codes index)) ∷ [])

    one_of : {m : ℕ} (x : Option (List Code)) → run_at codes index ≡ x → total_of (record_epilogues h s) ≡ some m → One m
    unfolding codes_in total_of
    one_of none r e = absurd (cc (e, ap total_of (end_none r)))
    one_of {m} (some cs) r e =
        either h.length (length cs)
        (λ l. absurd (cc (e, ap total_of (end_late r l))))
        (λ l.
        let z : length cs ≡ m = cc (e, end_total r l) in
        record { run = rw r; size = rw r z; fits = omega arith; same = rw (r, ← z) (end_some r l) })

    pub one : {m : ℕ} → total_of (record_epilogues h s) ≡ some m → One m
    one e = one_of (run_at codes index) refl e

    pub listed_one : {m : ℕ} (o : One m) {es es' cs cs' : List ℕ} {k r : ℕ} → Placed es es' cs cs' 0 k r (4 * (h.length - 1 - m)) (codes_in (run_at codes index))
        → Listed es es' cs cs' k (epilogues_in (record_epilogues h s))
    unfolding epilogues_in epilogue_numbers epilogue_codes epilogue
    listed_one {m} o p =
        let z : h.length - 1 - m ≡ h.length - suc m = omega arith in
        rw o.same
        (record {
          numbers = rw z at p.numbers.stored;
          codes = rw (append-nil (codes_in (run_at codes index))) p.codes.stored;
        })

-- The epilogues of a full record, read by their words or, where E is set, at the function's end.
use mathlib.Core.Path.{◌≡◌, refl, subst, ap, ◌∙◌}
use mathlib.Core.Bool.{true, ◌&&◌}
use mathlib.Core.Option.{some}
use mathlib.Core.List.{List, [], ◌∷◌, ◌++◌, map}
use Prim.Native.Nat.{ℕ, suc, ◌+◌, ◌-◌, ◌*◌, ◌/◌, ◌%◌, ◌^◌, ◌≤◌, ◌<◌}
use native.Mathlib.Omega.{arith}
use lib.Dec.{leb, eqb}
use lib.ListN.{length, length-append}
use borrow.Author.Tests.{eqb-true}
use Rattle.format.specs.Prelude.{after}
use Rattle.format.specs.Leb.{little}
use Rattle.format.proofs.LebBack.{little-length}
use Rattle.format.proofs.Choice.{if-le}
use Rattle.arm64.specs.Lists.{Epilogue, Function}
use Rattle.arm64.specs.Meaning.{reverse}
use Rattle.arm64.specs.Records.{word_at, scope_start, scope_index}
use Rattle.arm64.specs.Runs.{is_in}
use Rattle.arm64.specs.Reader.{in_front, at_end, scoped}
use Rattle.arm64.specs.Writer.{instructions, epilogue_run, epilogue_runs, codes_of, index_in, ends_with, words_of, scope_bytes}
use Rattle.arm64_back.specs.Back.{AllFine, written_epilogue, BytesAt}
use Rattle.arm64_back.proofs.RunBack.{stands_left, stands_right, stands_inside}
use Rattle.arm64_back.proofs.IndexBack.{index_stands, index_read}
use Rattle.arm64_back.proofs.SameReadings.{epilogue-length, epilogue_means_lem}
use Rattle.arm64_back.proofs.HeaderBack.{Held, word_back}
use Rattle.std.proofs.lemmas.Bool.{and_parts}

-- an epilogue of a function, as the questions leave it
pub record Placed (f : Function) (e : Epilogue) : Type 0 where
  pub whole : e.start % 4 ≡ 0
  pub low : e.start < f.size
  pub known : is_in (epilogue_run e) (epilogue_runs f) ≡ true
  pub fine : AllFine (epilogue_run e)

abbrev pub AllPlaced : Function → List Epilogue → Type 0
AllPlaced f [] = Unit {0}
AllPlaced f (e ∷ es) = Placed f e × AllPlaced f es

pub whole_instructions : (n : ℕ) → n % 4 ≡ 0 → 4 * instructions n ≡ n
unfolding instructions
whole_instructions n h = omega arith

pub scope_length : (f : Function) (es : List Epilogue) → length (scope_bytes f es) ≡ 4 * length es
unfolding scope_bytes
scope_length f [] = refl
scope_length f (e ∷ es) =
    let n : ℕ = instructions e.start + 2 ^ 22 * index_in f e in
    let a : length (little 4 (instructions e.start + 2 ^ 22 * index_in f e)) ≡ 4 = little-length 4 n in
    let b : length (scope_bytes f es) ≡ 4 * length es = scope_length f es in
    length-append (little 4 (instructions e.start + 2 ^ 22 * index_in f e)) (scope_bytes f es) ∙ omega arith

module _ (f : Function) (h : Held f) where
  module _ (e : Epilogue) (o : Placed f e) where
    -- the index fits its 10 bits, since the codes have at most 255 words
    index_low : index_in f e < 2 ^ 10
    unfolding words_of
    index_low = omega (arith, stands_inside (index_stands f e o.known), h.words)

    start_low : instructions e.start < 2 ^ 18
    unfolding instructions
    start_low = omega (arith, o.low, h.long)

    abbrev scope_word : ℕ
    scope_word = instructions e.start + 2 ^ 22 * index_in f e

    -- An epilogue's word, with anything in front and behind, is read as its start and its index.
    pub scope_back : (s : List ℕ) (p : ℕ) → BytesAt s p (little 4 scope_word) → (4 * scope_start (word_at s p) ≡ e.start) × (scope_index (word_at s p) ≡ index_in f e)
    unfolding scope_start scope_index
    scope_back s p t =
        let a : instructions e.start < 2 ^ 18 = start_low in
        let b : index_in f e < 2 ^ 10 = index_low in
        let is : word_at s p ≡ instructions e.start + 2 ^ 22 * index_in f e = word_back scope_word t (omega arith) in
        let c : scope_word % 2 ^ 18 ≡ instructions e.start = omega arith in
        let d : scope_word / 2 ^ 22 ≡ index_in f e = omega arith in
        (ap (λ (n : ℕ). 4 * (n % 2 ^ 18)) is ∙ ap (λ (n : ℕ). 4 * n) c ∙ whole_instructions e.start o.whole, ap (λ (n : ℕ). n / 2 ^ 22) is ∙ d)

  -- n epilogues from the k-th on, by their words from `past` on
  pub scopes_back : (s : List ℕ) (past : ℕ) (padding : List ℕ) (k : ℕ) (es : List Epilogue) → AllPlaced f es → BytesAt s (past + 4 * k) (scope_bytes f es)
      → scoped (λ j. word_at s (past + 4 * j)) (codes_of f ++ padding) k (length es) ≡ some (map written_epilogue es)
  unfolding scope_bytes scoped after in_front written_epilogue
  scopes_back s past padding k [] o t = refl
  scopes_back s past padding k (e ∷ es) o t =
      let w : List ℕ = little 4 (instructions e.start + 2 ^ 22 * index_in f e) in
      let b = scope_back e o.0 s (past + 4 * k) (stands_left w (scope_bytes f es) t) in
      let four : length (little 4 (instructions e.start + 2 ^ 22 * index_in f e)) ≡ 4 = little-length 4 (instructions e.start + 2 ^ 22 * index_in f e) in
      let next : past + 4 * k + length (little 4 (instructions e.start + 2 ^ 22 * index_in f e)) ≡ past + 4 * suc k = omega arith in
      let rest = scopes_back s past padding (suc k) es o.1 (subst (λ (n : ℕ). BytesAt s n (scope_bytes f es)) next (stands_right w (scope_bytes f es) t)) in
      rw b.1 (rw (index_read f e o.0.known padding o.0.fine) (rw (b.0, rest)))

  ends : (e : Epilogue) → ends_with f e ≡ true → instructions (f.size - e.start) ≡ length e.codes + 1
  unfolding ends_with
  ends e t =
      eqb-true (instructions (f.size - e.start)) (length e.codes + 1)
      (and_parts (eqb (instructions (f.size - e.start)) (length e.codes + 1)) (leb (index_in f e) 31)
      (and_parts (eqb (instructions (f.size - e.start)) (length e.codes + 1) && leb (index_in f e) 31) (leb (length (codes_of f)) 124) t).0).0

  module _ (e : Epilogue) (o : Placed f e) (a : instructions (f.size - e.start) ≡ length e.codes + 1) {n : ℕ} (l : n ≡ length e.codes) where
    fits_before : suc n ≤ instructions f.size
    unfolding instructions
    fits_before = omega (arith, h.whole, o.whole, o.low)

    start_is : 4 * (instructions f.size - suc n) ≡ e.start
    unfolding instructions
    start_is = omega (arith, h.whole, o.whole, o.low)

  -- E: an epilogue whose instructions and ret are the function's last
  pub end_back : (e : Epilogue) → Placed f e → ends_with f e ≡ true
      → at_end (instructions f.size) (reverse (epilogue_run e)) ≡ some (written_epilogue e ∷ [])
  unfolding at_end written_epilogue
  end_back e o t =
      let n : length (reverse (epilogue_run e)) ≡ length e.codes = epilogue-length (reverse (epilogue_run e)) e.codes (epilogue_means_lem e) in
      let a = ends e t in
      let fits : suc (length (reverse (epilogue_run e))) ≤ instructions f.size = fits_before e o a n in
      let start : 4 * (instructions f.size - suc (length (reverse (epilogue_run e)))) ≡ e.start = start_is e o a n in
      rw (if-le (suc (length (reverse (epilogue_run e)))) (instructions f.size), start)

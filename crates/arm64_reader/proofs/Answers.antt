-- What a reader answers, by what it found and whether the lent lists hold it.
use mathlib.Core.Path.{◌≡◌, refl, sym, ap, ◌∙◌}
use mathlib.Core.Logic.{◌≢◌}
use mathlib.Core.Bool.{true, false}
use mathlib.Core.Option.{Option, none, some}
use mathlib.Core.List.{List, [], ◌∷◌, ◌++◌, append-nil}
use Prim.Native.Nat.{ℕ, suc, ◌+◌, ◌-◌, ◌*◌, ◌/◌, ◌%◌, ◌≤◌, ◌<◌}
use native.Mathlib.Omega.{arith}
use lib.ListN.{length, length-append}
use Rattle.std.specs.Prelude.{Ok, Err, MatchResult}
use Rattle.std.specs.Prelude as code
use Rattle.format.specs.Prelude.{pick, after, Result, good, bad, onward, or_else}
use Rattle.format.specs.declared.question.Question.{Question}
use Rattle.format.specs.declared.question.Question.TheVariants.{OtherRoom}
use Rattle.format.specs.Coded.{result_of, numbered}
use Rattle.format.specs.Numbers.{number_of}
use Rattle.format.specs.Put.{put}
use Rattle.format.proofs.Wrote.{Wrote}
use Rattle.format.proofs.Choice.{if-le, if-gt, if-eq, if-ne, when_true, when_false}
use Rattle.format.proofs.PutLaws.{put-append}
use Rattle.arm64.specs.declared.Code.{Code}
use Rattle.arm64.specs.declared.Epilogues.{Epilogues}
use Rattle.arm64.specs.declared.Epilogues.TheVariants.{Single, Scoped}
use Rattle.arm64.specs.declared.Part.TheVariants as part
use Rattle.arm64.specs.declared.Header.{Header}
use Rattle.arm64.specs.declared.Packed.{Packed}
use Rattle.arm64.specs.declared.Arm64Reading.{Arm64Reading}
use Rattle.arm64.specs.Lists.{Epilogue, code_numbers, epilogue_numbers}
use Rattle.arm64.specs.Meaning.{reverse}
use Rattle.arm64.specs.Records.{codes_of}
use Rattle.arm64.specs.Packed.{packed_of, packed_ok, slot_at, slots_from, packed_prologue, packed_epilogue}
use Rattle.arm64.specs.Reader.{Unwound, run_at, epilogue, at_end, record_epilogues, unwound, record_unwound, full_record, packed_epilogues, packed_unwound, unwound_by, epilogue_codes, all_codes, fits_in, read_arm64, reading_of, epilogues_after, codes_after}
use Rattle.arm64.proofs.PackingLaws.{reverse-length}
use Rattle.arm64_runs.proofs.Stores.{code_numbers-length, code_numbers-append}
use Rattle.arm64_runs.specs.Runs.{codes_in, count_of}
use Rattle.arm64_records.specs.Parts.{headed_at, total_of, epilogues_in, words_from, how_many}
use Rattle.arm64_records.proofs.Epilogues.{scoped-length, counted_run}
use Rattle.arm64_records.proofs.Whole.{by_words, many_all, many_one, one, total_some}
use Rattle.arm64_reader.specs.Answers.{reading_with, roomy, answer_of, Answered, found}

-- ---- refusals

pub refuses : {x : Result Unwound} {q : Question} {r : code.Result Arm64Reading Question} {es cs : List ℕ} → x ≡ bad (number_of q) → r ≡ Err q → Answered x r es es cs cs
unfolding answer_of epilogues_after codes_after
refuses {x} {q} {r} {es} {cs} e a = rw e (record { reading = ap numbered a; epilogues = refl; codes = refl })

pub found_none : {x : Option Unwound} (es cs : List ℕ) → x ≡ none → found x es cs ≡ bad 77
unfolding found onward or_else
found_none es cs e = rw e

-- ---- what was found, counted and stored

-- n codes of the prologue, and k epilogues of m codes
pub record Counts (u : Unwound) (n m k : ℕ) : Type 0 where
  pub prologue : length u.prologue ≡ n
  pub behind : length (epilogue_codes u.epilogues) ≡ m
  pub many : length u.epilogues ≡ k

all-length : {u : Unwound} {n m k : ℕ} → Counts u n m k → length (all_codes u) ≡ n + m
unfolding all_codes
all-length {u} d = length-append u.prologue (epilogue_codes u.epilogues) ∙ omega (arith, d.prologue, d.behind)

-- the lists afterwards
pub record Stored (u : Unwound) (es es' cs cs' : List ℕ) (n : ℕ) : Type 0 where
  pub numbers : es' ≡ put es 0 (epilogue_numbers n u.epilogues)
  pub codes : cs' ≡ put (put cs 0 (code_numbers u.prologue)) (3 * n) (code_numbers (epilogue_codes u.epilogues))

stored_answer : {x : Result Unwound} {u : Unwound} {r : code.Result Arm64Reading Question} {es es' cs cs' : List ℕ} {n m k : ℕ} → x ≡ good u → Counts u n m k
    → r ≡ Ok (reading_with u.size n k m) → Stored u es es' cs cs' n → Answered x r es es' cs cs'
unfolding answer_of reading_of epilogues_after codes_after all_codes
stored_answer {x} {u} {r} {es} {es'} {cs} {cs'} {n} {m} {k} e d a w =
    let l : 0 + length (code_numbers u.prologue) ≡ 3 * n = omega (arith, code_numbers-length u.prologue, d.prologue) in
    let t : length (u.prologue ++ epilogue_codes u.epilogues) ≡ n + m = all-length d in
    rw e
    (record {
      reading = ap numbered a ∙ rw (t, d.prologue, d.many) refl;
      epilogues = w.numbers ∙ rw d.prologue refl;
      codes =
          w.codes
          ∙ ap (λ (q : ℕ). put (put cs 0 (code_numbers u.prologue)) q (code_numbers (epilogue_codes u.epilogues))) (sym l)
          ∙ sym (put-append cs 0 (code_numbers u.prologue) (code_numbers (epilogue_codes u.epilogues)))
          ∙ ap (put cs 0) (sym (code_numbers-append u.prologue (epilogue_codes u.epilogues)));
    })

-- room for that many epilogues and codes
pub has_room : (es cs : List ℕ) {k n : ℕ} → roomy es cs k n ≡ true → (k ≤ length es / 3) × (n ≤ length cs / 3)
unfolding roomy
has_room es cs e = grind arith

module _ {x : Option Unwound} {u : Unwound} {n m k : ℕ} (es cs : List ℕ) (e : x ≡ some u) (d : Counts u n m k) where
  by_room : found x es cs ≡ pick (roomy es cs k (n + m)) (good u) (bad 54)
  unfolding found onward or_else fits_in roomy
  by_room = rw e (rw (d.many, all-length d))

  pub no_room : {r : code.Result Arm64Reading Question} → roomy es cs k (n + m) ≡ false → r ≡ Err OtherRoom → Answered (found x es cs) r es es cs cs
  no_room f q = refuses (by_room ∙ when_false (roomy es cs k (n + m)) (good u) (bad 54) f) q

  pub few_epilogues : {r : code.Result Arm64Reading Question} → length es / 3 < k → r ≡ Err OtherRoom
      → Answered (found x es cs) r es es cs cs
  unfolding roomy
  few_epilogues h q = no_room (grind arith) q

  pub few_codes : {r : code.Result Arm64Reading Question} → length cs / 3 < n + m → r ≡ Err OtherRoom
      → Answered (found x es cs) r es es cs cs
  unfolding roomy
  few_codes h q = no_room (grind arith) q

  pub stored : {r : code.Result Arm64Reading Question} {es' cs' : List ℕ} → roomy es cs k (n + m) ≡ true → r ≡ Ok (reading_with u.size n k m) → Stored u es es' cs cs' n → Answered (found x es cs) r es es' cs cs'
  stored t a w = stored_answer (by_room ∙ when_true (roomy es cs k (n + m)) (good u) (bad 54) t) d a w

-- ---- the record

module _ (h : Header) (s : List ℕ) {codes : List ℕ} (c : codes ≡ codes_of h s) where
  pub record_no_run : run_at codes 0 ≡ none → record_unwound h s ≡ none
  unfolding record_unwound after
  record_no_run e = rw (← c, e)

  module _ {p : List Code} (e : run_at codes 0 ≡ some p) where
    pub record_no_epilogues : record_epilogues h s ≡ none → record_unwound h s ≡ none
    unfolding record_unwound after
    record_no_epilogues d = rw (← c, e, d)

    pub record_some : {es : List Epilogue} → record_epilogues h s ≡ some es → record_unwound h s ≡ some (unwound h.length (reverse p) es)
    unfolding record_unwound after
    record_some d = rw (← c, e, d)

-- ---- the packed word

-- what a packed function says, where it says something
unfoldable pub packed_whole : Packed → Unwound
packed_whole p = unwound p.length (packed_prologue p) (epilogue (4 * (p.length - suc (length (packed_epilogue p)))) (packed_epilogue p) ∷ [])

-- and a packed fragment
unfoldable pub packed_part : Packed → Unwound
packed_part p = unwound p.length (packed_prologue p) []

module _ (p : Packed) where
  pub packed_no : packed_ok p ≡ false → packed_unwound p ≡ none
  unfolding packed_unwound pick
  packed_no e = rw e

  module _ (o : packed_ok p ≡ true) where
    pub packed_fragment : p.flag ≡ 2 → packed_unwound p ≡ some (packed_part p)
    unfolding packed_unwound packed_epilogues after packed_part
    packed_fragment e = rw (when_true (packed_ok p), if-eq p.flag 2)

    module _ (f : p.flag ≢ 2) where
      pub packed_late : p.length ≤ length (packed_epilogue p) → packed_unwound p ≡ none
      unfolding packed_unwound packed_epilogues at_end after
      packed_late l = let g : p.length < suc (length (packed_epilogue p)) = omega arith in rw (when_true (packed_ok p), if-ne p.flag 2, if-gt (suc (length (packed_epilogue p))) p.length)

      pub packed_function : length (packed_epilogue p) < p.length
          → packed_unwound p ≡ some (packed_whole p)
      unfolding packed_unwound packed_epilogues at_end after packed_whole
      packed_function l = let g : suc (length (packed_epilogue p)) ≤ p.length = omega arith in rw (when_true (packed_ok p), if-ne p.flag 2, if-le (suc (length (packed_epilogue p))) p.length)

module _ (p : Packed) {n : ℕ} (a : n ≡ length (slots_from (slot_at part.Prologue p) 0 19)) where
  pub part_counts : Counts (packed_part p) n 0 0
  unfolding packed_part unwound packed_prologue epilogue_codes
  part_counts = record { prologue = sym a; behind = refl; many = refl }

  pub part_stored : {es cs cs' : List ℕ} → cs' ≡ put cs 0 (code_numbers (slots_from (slot_at part.Prologue p) 0 19)) → Stored (packed_part p) es es cs cs' n
  unfolding packed_part unwound packed_prologue epilogue_codes epilogue_numbers code_numbers put
  part_stored d = record { numbers = refl; codes = d }

  module _ {m : ℕ} (b : m ≡ length (slots_from (slot_at part.Epilogue p) 0 19)) where
    pub whole_counts : Counts (packed_whole p) n m 1
    unfolding packed_whole unwound packed_prologue packed_epilogue epilogue_codes epilogue
    whole_counts = record { prologue = sym a; behind = rw (append-nil (slots_from (slot_at part.Epilogue p) 0 19)) (sym b); many = refl }

    pub whole_stored : {es es' cs cs₁ cs' : List ℕ} {q t q' : ℕ} → Wrote es es' 0 q (4 * (p.length - 1 - m) ∷ n ∷ m ∷ [])
        → Wrote cs cs₁ 0 t (code_numbers (slots_from (slot_at part.Prologue p) 0 19)) → Wrote cs₁ cs' (3 * n) q' (code_numbers (slots_from (slot_at part.Epilogue p) 0 19))
        → Stored (packed_whole p) es es' cs cs' n
    unfolding packed_whole unwound packed_prologue packed_epilogue epilogue_codes epilogue_numbers epilogue
    whole_stored e f g =
        let z : p.length - 1 - m ≡ p.length - suc m = omega arith in
        record {
          numbers = e.stored ∙ rw (z, b) refl;
          codes = g.stored ∙ rw (f.stored, append-nil (slots_from (slot_at part.Epilogue p) 0 19)) refl;
        }

-- ---- records whose epilogues were counted

pub total_none : (x : Option (List Epilogue)) → total_of x ≡ none → x ≡ none
unfolding total_of
total_none none e = refl
total_none (some es) e = absurd cc

-- as many epilogues as the header says
many_by : (s : List ℕ) (h : Header) {all : List Epilogue} {m : ℕ} (x : Epilogues) → h.epilogues ≡ x → total_of (record_epilogues h s) ≡ some m → record_epilogues h s ≡ some all → length all ≡ how_many h
unfolding epilogue
many_by s h {all} (Scoped count) l t e = scoped-length (words_from h.past s) (codes_of h s) 0 count all (sym (by_words s h refl l) ∙ e) ∙ sym (many_all h l)
many_by s h {all} {m} (Single index) l t e =
    let y : all ≡ epilogue (4 * (h.length - suc m)) (codes_in (run_at (codes_of h s) index)) ∷ [] = cc ((one s h refl l t).same, e) in
    ap length y ∙ sym (many_one h l)

-- what a record with codes says, where it says something
unfoldable pub recorded : Header → List ℕ → List ℕ → Unwound
recorded h s codes = unwound h.length (reverse (codes_in (run_at codes 0))) (epilogues_in (record_epilogues h s))

module _ (s : List ℕ) (h : Header) {codes : List ℕ} (c : codes ≡ codes_of h s) {n m : ℕ} (a : count_of (run_at codes 0) ≡ some n) (b : total_of (record_epilogues h s) ≡ some m) where
  pub record_found : record_unwound h s ≡ some (recorded h s codes)
  unfolding recorded
  record_found = record_some h s c (counted_run (run_at codes 0) a).0 (total_some (record_epilogues h s) b).0

  pub record_counts : {k : ℕ} → k ≡ how_many h → Counts (recorded h s codes) n m k
  unfolding recorded unwound
  record_counts d = record {
    prologue = reverse-length (codes_in (run_at codes 0)) ∙ (counted_run (run_at codes 0) a).1;
    behind = (total_some (record_epilogues h s) b).1;
    many = many_by s h h.epilogues refl b (total_some (record_epilogues h s) b).0 ∙ sym d;
  }

-- ---- the record at a place

module _ (s : List ℕ) (place : ℕ) (es cs : List ℕ) where
  pub no_record : headed_at s place ≡ none → onward (full_record s place) (fits_in es cs) ≡ bad 76
  unfolding headed_at full_record onward pick
  no_record e = grind arith

  pub by_header : {h : Header} → headed_at s place ≡ some h → onward (full_record s place) (fits_in es cs) ≡ found (record_unwound h s) es cs
  unfolding headed_at full_record found pick
  by_header e = grind arith

-- ---- by the word

module _ (word : ℕ) (s : List ℕ) (place : ℕ) (es cs : List ℕ) where
  pub word_record : word % 4 ≡ 0 → read_arm64 word s place es cs ≡ onward (full_record s place) (fits_in es cs)
  unfolding read_arm64 unwound_by
  word_record e = rw (if-eq (word % 4) 0)

  module _ (n : word % 4 ≢ 0) where
    pub word_no : (word % 4 < 3 → 4294967296 ≤ word) → read_arm64 word s place es cs ≡ bad 77
    unfolding read_arm64 unwound_by onward pick
    word_no h = grind arith

    pub word_packed : word % 4 ≢ 3 → word < 4294967296 → read_arm64 word s place es cs ≡ found (packed_unwound (packed_of word)) es cs
    unfolding read_arm64 unwound_by found
    word_packed m l = let g : suc word ≤ 4294967296 = omega arith in rw (if-ne (word % 4) 0, if-ne (word % 4) 3, if-le (suc word) 4294967296)

-- ---- the answer to C

pub answered : (u : Result Unwound) (r : code.Result Arm64Reading Question) {x : Arm64Reading} → numbered r ≡ result_of (answer_of u) → MatchResult r (λ y. x ≡ y) (λ q. x ≡ reading_of (bad (number_of q))) → x ≡ reading_of u
unfolding answer_of
answered (bad n) (Ok y) e m = absurd cc
answered (bad n) (Err q) e m = cc
answered (good u) (Ok y) e m = cc
answered (good u) (Err q) e m = absurd cc

-- What the writer wrote of each function of its lists, read back from the function's row and its record.
use mathlib.Core.Path.{◌≡◌, refl, subst, sym, ap, ◌∙◌}
use mathlib.Core.Bool.{Bool, true, false, ◌&&◌}
use mathlib.Core.Option.{none, some}
use mathlib.Core.List.{List, [], ◌∷◌, ◌++◌, append_assoc}
use Prim.Native.Nat.{ℕ, zero, suc, ◌+◌, ◌*◌, ◌%◌, ◌^◌, ◌≤◌, ◌<◌}
use native.Mathlib.Omega.{arith}
use lib.Dec.{leb, eqb}
use lib.ListN.{length, get_or, get_elem?, length-append}
use borrow.Author.Tests.{le-leb}
use Rattle.format.specs.Prelude.{pick, each, all, good, onward}
use Rattle.format.specs.Leb.{little}
use Rattle.format.specs.Lists.{count, field, inside, symbol_ok, all_in, sum_of, most_functions, most_records}
use Rattle.format.specs.Writer.{Written}
use Rattle.format.specs.Questions.{per_function, Room, room_asks, accepted, fitting}
use Rattle.format.proofs.Accepted.{both, passed, not_empty}
use Rattle.format.proofs.LebBack.{little-length}
use Rattle.format.proofs.ListLaws.{each_get}
use Rattle.format.proofs.Choice.{if-eq, decided}
use Rattle.arm64.specs.Lists.{Function, function_stride, epilogue_stride, code_stride, numbered_code, numbered_epilogue, numbered_function, functions_of}
use Rattle.arm64.specs.Reader.{Unwound, all_codes, full_record, unwound_by, fits_in, read_arm64}
use Rattle.arm64.specs.Writer.{code_ok_at, codes_ok_in, epilogue_ok_at, function_ok_at, codes_in, lists_ok, is_packed, record_bytes, function_asks, row_bytes, info_of, markers_from, rows_of, infos_of, no_record, arm64, arm64_answer}
use Rattle.arm64.proofs.WriterLaws.{row_length}
use Rattle.arm64_back.specs.Back.{whole_code, whole_codes, SameUnwound, given, written, ReadBack, second_word, EntryWord, SameReading, BytesAt}
use Rattle.arm64_back.proofs.RunBack.{stands_behind, stands_before, stands_first, stands_right}
use Rattle.arm64_back.proofs.HeaderBack.{word_back}
use Rattle.arm64_back.proofs.SameReadings.{written_means, many_epilogues, many_codes}
use Rattle.arm64_back.proofs.RecordBack.{Asked, all_asked, ask_yes, record_read, record_whole}
use Rattle.arm64_back.proofs.PackedForm.{word_for, word_fits, packed_word_as_full}
use Rattle.arm64_back.proofs.PackedForm as packed
use Rattle.std.proofs.lemmas.Bool.{and_parts, and_from}

-- ---- acceptance

asked_at : (at : ℕ) (fs : List Function) (k : ℕ) (f : Function) → per_function function_asks at fs ≡ none → get_elem? fs k ≡ some f
    → function_asks (at + k) f ≡ none
unfolding per_function
asked_at at [] k f e g = let z : ◌≡◌ {A = ℕ} 0 1 = cc in absurd (omega arith)
asked_at at (x ∷ xs) zero f e g =
    let same : x ≡ f = cc in
    let n : at ≡ at + 0 = omega arith in
    sym (λ i. function_asks (n i) (same i)) ∙ (both (function_asks at x) (per_function function_asks (suc at) xs) e).0
asked_at at (x ∷ xs) (suc k) f e g =
    let n : suc at + k ≡ at + suc k = omega arith in
    subst (λ (i : ℕ). function_asks i f ≡ none) n (asked_at (suc at) xs k f (both (function_asks at x) (per_function function_asks (suc at) xs) e).1 g)

-- ---- question 13 of the codes

all_each : {A : Type 0} (p : ℕ → Bool) (q : A → Bool) (g : ℕ → A) → ((i : ℕ) → p i ≡ true → q (g i) ≡ true) → (at n : ℕ)
    → all p (each (λ i. i) at n) ≡ true → all q (each g at n) ≡ true
unfolding all each
all_each p q g up at zero e = refl
all_each p q g up at (suc n) e =
    let o = and_parts (p at) (all p (each (λ i. i) (suc at) n)) e in and_from _ _ (up at o.0) (all_each p q g up (suc at) n o.1)

at_in : {A : Type 0} (p : A → Bool) (xs : List A) (k : ℕ) (a : A) → all p xs ≡ true → get_elem? xs k ≡ some a → p a ≡ true
unfolding all
at_in p [] k a e g = let z : ◌≡◌ {A = ℕ} 0 1 = cc in absurd (omega arith)
at_in p (x ∷ xs) zero a e g = let same : x ≡ a = cc in ap p (sym same) ∙ (and_parts (p x) (all p xs) e).0
at_in p (x ∷ xs) (suc k) a e g = at_in p xs k a (and_parts (p x) (all p xs) e).1 g

codes_whole : (cs : List ℕ) (at n : ℕ) → codes_ok_in cs at n ≡ true → all whole_code (each (numbered_code cs) at n) ≡ true
unfolding codes_ok_in all_in code_ok_at whole_code numbered_code
codes_whole cs at n e =
    all_each (code_ok_at cs) whole_code (numbered_code cs) (λ i t. t) at n
    (and_parts (inside at n (count code_stride cs)) (all (code_ok_at cs) (each (λ i. i) at n)) e).1

epilogue_whole : (es cs : List ℕ) (i : ℕ) → epilogue_ok_at es cs i ≡ true → all whole_code (numbered_epilogue es cs i).codes ≡ true
unfolding epilogue_ok_at numbered_epilogue
epilogue_whole es cs i t = codes_whole cs (field epilogue_stride es i 1) (field epilogue_stride es i 2) t

function_whole : (fs es cs : List ℕ) (k : ℕ) → function_ok_at fs es cs k ≡ true → whole_codes (numbered_function fs es cs k) ≡ true
unfolding function_ok_at whole_codes numbered_function all_in
function_whole fs es cs k e =
    let f : ℕ → ℕ = λ j. field function_stride fs k j in
    let symbol : Bool = symbol_ok (field function_stride fs k 0) in
    let prologue : Bool = codes_ok_in cs (field function_stride fs k 2) (field function_stride fs k 3) in
    let epilogues : Bool = inside (field function_stride fs k 4) (field function_stride fs k 5) (count epilogue_stride es) in
    let behind : Bool = all (epilogue_ok_at es cs) (each (λ i. i) (field function_stride fs k 4) (field function_stride fs k 5)) in
    let a = and_parts (symbol && prologue && epilogues) behind e in
    let b = and_parts (symbol && prologue) epilogues a.0 in
    let c = and_parts symbol prologue b.0 in
    and_from _ _ (codes_whole cs (f 2) (f 3) c.1)
    (all_each (epilogue_ok_at es cs) (λ d. all whole_code d.codes) (numbered_epilogue es cs) (epilogue_whole es cs) (f 4) (f 5) a.1)

-- ---- where a function's record and row stand

info_is : (f : Function) → is_packed f ≡ false → info_of f ≡ record_bytes f
unfolding info_of pick
info_is f n = rw n

record_stands : (front : List ℕ) (at : ℕ) (fs : List Function) (k : ℕ) (f : Function) → length front ≡ at → get_elem? fs k ≡ some f → is_packed f ≡ false
    → BytesAt (front ++ infos_of fs) (get_or (markers_from at fs) k 0) (record_bytes f)
unfolding infos_of markers_from pick
record_stands front at [] k f l g n = let z : ◌≡◌ {A = ℕ} 0 1 = cc in absurd (omega arith)
record_stands front at (x ∷ xs) zero f l g n =
    let same : x ≡ f = cc in
    let m : is_packed x ≡ false = ap is_packed same ∙ n in
    record {
      front = front;
      behind = infos_of xs;
      is = ap (λ b. front ++ (b ++ infos_of xs)) (ap info_of same ∙ info_is f n);
      place = rw m (sym l);
    }
record_stands front at (x ∷ xs) (suc k) f l g n =
    let t = record_stands (front ++ info_of x) (at + length (info_of x)) xs k f (omega (arith, length-append front (info_of x))) g n in
    subst (λ b. BytesAt b (get_or (markers_from (at + length (info_of x)) xs) k 0) (record_bytes f)) (append_assoc front (info_of x) (infos_of xs)) t

info_whole : (f : Function) → length (info_of f) % 4 ≡ 0
unfolding info_of pick
info_whole f = decided (is_packed f) (λ t. rw t refl) λ t. rw t (record_whole f)

-- and it stands at whole words
marker_in : (at : ℕ) (fs : List Function) (k : ℕ) (f : Function) → at % 4 ≡ 0 → get_elem? fs k ≡ some f → is_packed f ≡ false
    → get_or (markers_from at fs) k 0 % 4 ≡ 0
unfolding markers_from pick
marker_in at [] k f h g n = let z : ◌≡◌ {A = ℕ} 0 1 = cc in absurd (omega arith)
marker_in at (x ∷ xs) zero f h g n =
    let same : x ≡ f = cc in
    let m : is_packed x ≡ false = ap is_packed same ∙ n in rw m h
marker_in at (x ∷ xs) (suc k) f h g n = marker_in (at + length (info_of x)) xs k f (omega (arith, info_whole x)) g n

-- a packed function has none
packed_marker : (at : ℕ) (fs : List Function) (k : ℕ) (f : Function) → get_elem? fs k ≡ some f → is_packed f ≡ true
    → get_or (markers_from at fs) k 0 ≡ no_record
unfolding markers_from pick
packed_marker at [] k f g t = let z : ◌≡◌ {A = ℕ} 0 1 = cc in absurd (omega arith)
packed_marker at (x ∷ xs) zero f g t =
    let same : x ≡ f = cc in
    let m : is_packed x ≡ true = ap is_packed same ∙ t in rw m
packed_marker at (x ∷ xs) (suc k) f g t = packed_marker (at + length (info_of x)) xs k f g t

row_stands : (fs : List Function) (k : ℕ) (f : Function) → get_elem? fs k ≡ some f → BytesAt (rows_of fs) (8 * k) (row_bytes f)
unfolding rows_of
row_stands [] k f g = let z : ◌≡◌ {A = ℕ} 0 1 = cc in absurd (omega arith)
row_stands (x ∷ xs) zero f g =
    let same : x ≡ f = cc in subst (λ y. BytesAt (row_bytes x ++ rows_of xs) 0 (row_bytes y)) same (stands_first (row_bytes x) (rows_of xs))
row_stands (x ∷ xs) (suc k) f g =
    let n : length (row_bytes x) + 8 * k ≡ 8 * suc k = omega (arith, row_length x) in
    subst (λ (i : ℕ). BytesAt (row_bytes x ++ rows_of xs) i (row_bytes f)) n (stands_behind (row_bytes x) (row_stands xs k f g))

module _ (f : Function) (a : Asked f) where
  row_word : pick (is_packed f) (word_for f) 0 < 2 ^ 32
  unfolding pick
  row_word = decided (is_packed f) (λ t. rw t (word_fits f a t)) λ t. rw t (omega arith)

  packed_word : is_packed f ≡ true → pick (is_packed f) (word_for f) 0 ≡ word_for f
  unfolding pick
  packed_word t = rw t

  unpacked_word : is_packed f ≡ false → pick (is_packed f) (word_for f) 0 ≡ 0
  unfolding pick
  unpacked_word t = rw t

  word_in : (s : List ℕ) (k : ℕ) → BytesAt s (8 * k) (row_bytes f) → second_word s k ≡ pick (is_packed f) (word_for f) 0
  unfolding second_word row_bytes
  word_in s k t =
      let w : ℕ = pick (is_packed f) (word_for f) 0 in
      let four : 8 * k + length (little 4 0) ≡ 8 * k + 4 = ap (λ (n : ℕ). 8 * k + n) (little-length 4 0) in
      word_back w (subst (λ (n : ℕ). BytesAt s n (little 4 w)) four (stands_right (little 4 0) (little 4 w) t)) row_word

  second_word_lem : (fs : List Function) (k : ℕ) → get_elem? fs k ≡ some f → second_word (rows_of fs) k ≡ pick (is_packed f) (word_for f) 0
  second_word_lem fs k g = word_in (rows_of fs) k (row_stands fs k f g)

  -- function k of a list, by a word that may stand in its row and, where it is not packed, the record at its marker
  function_back : (fs : List Function) (k : ℕ) → get_elem? fs k ≡ some f → (word : ℕ) → EntryWord f (rows_of fs) k word → (behind : List ℕ)
      → ReadBack (given f) (unwound_by word (infos_of fs ++ behind) (get_or (markers_from 0 fs) k 0))
  unfolding unwound_by
  function_back fs k g word e behind =
      decided (is_packed f)
      (λ t.
      let is : word ≡ word_for f = e.packed t ∙ second_word_lem fs k g ∙ packed_word t in
      subst (λ (n : ℕ). ReadBack (given f) (unwound_by n (infos_of fs ++ behind) (get_or (markers_from 0 fs) k 0))) (sym is)
      (packed.word_back f a t (infos_of fs ++ behind) (get_or (markers_from 0 fs) k 0)))
      λ t.
      let u = record_stands [] 0 fs k f refl g t in
      record {
        unwound = written f;
        answer = if-eq (word % 4) 0 _ _ (e.placed t) ∙ record_read f a (infos_of fs ++ behind) (get_or (markers_from 0 fs) k 0) (stands_before behind u);
        same = written_means f;
      }

-- ---- room for what is read

pub room_enough : (u v : Unwound) → SameUnwound u v → (es cs : List ℕ) → length v.epilogues ≤ count epilogue_stride es
    → length (all_codes v) ≤ count code_stride cs → fits_in es cs u ≡ good u
unfolding fits_in pick
room_enough u v a es cs g h =
    let m : length u.epilogues ≤ count epilogue_stride es = omega (arith, many_epilogues u.epilogues v.epilogues a.epilogues) in
    let n : length (all_codes u) ≤ count code_stride cs = omega (arith, many_codes u v a) in
    rw (le-leb (length u.epilogues) (count epilogue_stride es) m, le-leb (length (all_codes u)) (count code_stride cs) n)

-- ---- what the writer accepted

module _ (fs es cs : List ℕ) (r : Room) (w : Written) (e : arm64_answer fs es cs r ≡ accepted w) where
  pub record Wrote : Type 0 where
    pub whole : lists_ok fs es cs ≡ true
    pub asked : per_function function_asks 0 (functions_of fs es cs) ≡ none
    pub room : room_asks r w ≡ none
    pub is : arm64 (functions_of fs es cs) ≡ w

  pub wrote : Wrote
  unfolding arm64_answer fitting
  wrote =
      let a = passed _ _ _ (not_empty (eqb (count function_stride fs) 0) _ w e) in
      let b = passed _ _ _ a.1 in
      let c = passed _ _ _ b.1 in
      let is : arm64 (functions_of fs es cs) ≡ w = cc in
      record { whole = ask_yes (lists_ok fs es cs) 13 0 a.0; asked = b.0; room = ap (room_asks r) (sym is) ∙ c.0; is = is }

  module _ (k : ℕ) (h : k < count function_stride fs) where
    abbrev this : Function
    this = numbered_function fs es cs k

    there : get_elem? (functions_of fs es cs) k ≡ some this
    unfolding functions_of
    there = each_get (numbered_function fs es cs) 0 (count function_stride fs) k h ∙ ap (λ (i : ℕ). some (numbered_function fs es cs i)) (omega arith)

    this_ok : function_ok_at fs es cs k ≡ true
    unfolding lists_ok all_in
    this_ok =
        let n : ℕ = count function_stride fs in
        let few : Bool = leb n most_functions && leb (sum_of (λ k. field function_stride fs k 5) 0 n) most_records && leb (sum_of (codes_in fs es) 0 n) most_records in
        at_in (function_ok_at fs es cs) (each (λ i. i) 0 n) k k (and_parts few (all (function_ok_at fs es cs) (each (λ i. i) 0 n)) wrote.whole).1
        (each_get (λ i. i) 0 n k h ∙ ap (λ (i : ℕ). some i) (omega arith))

    pub this_asked : Asked this
    this_asked = all_asked this (function_whole fs es cs k this_ok) (0 + k) (asked_at 0 (functions_of fs es cs) k this wrote.asked there)

    -- Function k of an accepted list, read by a word that may stand in its row and, where it is not packed, the record at its marker, with anything
    -- behind the records: the length and the starts are as given, and each code does what the given one does.
    pub arm64_back : (word : ℕ) → EntryWord this w.bytes k word → (behind : List ℕ)
        → ReadBack (given this) (unwound_by word (w.sites ++ behind) (get_or w.places k 0))
    unfolding arm64
    arm64_back word o behind =
        subst (λ x. ReadBack (given this) (unwound_by word (x.sites ++ behind) (get_or x.places k 0))) wrote.is
        (function_back this this_asked (functions_of fs es cs) k there word (subst (λ x. EntryWord this x.bytes k word) (sym wrote.is) o) behind)

    -- The same of the reader that stores what it read, where the lent lists have room for as many epilogues and codes as were given.
    pub arm64_read : (word : ℕ) → EntryWord this w.bytes k word → (behind es' cs' : List ℕ) → length this.epilogues ≤ count epilogue_stride es'
        → length (all_codes (given this)) ≤ count code_stride cs'
        → ReadBack (given this) (read_arm64 word (w.sites ++ behind) (get_or w.places k 0) es' cs')
    unfolding read_arm64 onward given
    arm64_read word o behind es' cs' g h =
        let b = arm64_back word o behind in
        record {
          unwound = b.unwound;
          answer = ap (λ x. onward x (fits_in es' cs')) b.answer ∙ room_enough b.unwound (given this) b.same es' cs' g h;
          same = b.same;
        }

    -- The word that was written may stand in the row: packed, or 0 where a relocation puts the record's place.
    pub entry_word : EntryWord this w.bytes k (second_word w.bytes k)
    unfolding arm64
    entry_word =
        let word : second_word w.bytes k ≡ pick (is_packed this) (word_for this) 0 =
        ap (λ x. second_word x.bytes k) (sym wrote.is) ∙ second_word_lem this this_asked (functions_of fs es cs) k there in
        record { packed = λ t. refl; placed = λ t. ap (λ (n : ℕ). n % 4) (word ∙ unpacked_word this this_asked t) }

    -- It is the same where something stands behind the rows.
    pub second_behind : (behind : List ℕ) → second_word (w.bytes ++ behind) k ≡ second_word w.bytes k
    unfolding arm64
    second_behind behind =
        subst (λ x. second_word (x.bytes ++ behind) k ≡ second_word x.bytes k) wrote.is
        (word_in this this_asked (rows_of (functions_of fs es cs) ++ behind) k (stands_before behind (row_stands (functions_of fs es cs) k this there))
        ∙ sym (second_word_lem this this_asked (functions_of fs es cs) k there))

    -- The marker of a record is whole words, so where its section starts at whole words the record's place is such a word.
    pub marker_whole : is_packed this ≡ false → get_or w.places k 0 % 4 ≡ 0
    unfolding arm64
    marker_whole n = ap (λ x. get_or x.places k 0 % 4) (sym wrote.is) ∙ marker_in 0 (functions_of fs es cs) k this refl there n

    -- The marker of a packed function is no place.
    pub marker_packed : is_packed this ≡ true → get_or w.places k 0 ≡ no_record
    unfolding arm64
    marker_packed t = ap (λ x. get_or x.places k 0) (sym wrote.is) ∙ packed_marker 0 (functions_of fs es cs) k this there t

    -- Where it is packed, the word means what the function's full record would mean, wherever that stood.
    pub arm64_packed : is_packed this ≡ true → (s : List ℕ) (place : ℕ) (bytes : List ℕ) (p : ℕ)
        → BytesAt bytes p (record_bytes this)
        → SameReading (unwound_by (second_word w.bytes k) s place) (full_record bytes p)
    unfolding arm64
    arm64_packed t s place bytes p u =
        let word : second_word w.bytes k ≡ word_for this =
        ap (λ x. second_word x.bytes k) (sym wrote.is)
        ∙ second_word_lem this this_asked (functions_of fs es cs) k there ∙ packed_word this this_asked t in
        subst (λ (n : ℕ). SameReading (unwound_by n s place) (full_record bytes p)) (sym word)
        (packed_word_as_full this this_asked t s place bytes p u)

-- A pass with the reader's cursor: what stands at it is the first of the entries that the reader means from there on.
use mathlib.Core.Path.{◌≡◌, refl, sym, ap, ◌∙◌}
use mathlib.Core.Bool.{Bool}
use mathlib.Core.Option.{Option, none, some}
use mathlib.Core.List.{List, [], ◌∷◌}
use Prim.Native.Nat.{ℕ, ◌+◌, ◌*◌, ◌/◌, ◌≤◌, ◌<◌}
use native.Mathlib.Omega.{arith}
use borrow.Author.Tests.{le-leb, lt-leb}
use lib.Dec.{T, leb, eqb}
use lib.ListN.{length, set, length-set}
use Rattle.std.specs.Prelude.{Some, None, Ok, Err}
use Rattle.std.specs.Prelude as code
use Rattle.format.specs.Prelude.{pick, after, Result, good, bad, onward, or_else}
use Rattle.format.specs.Coded.{result_of, numbered}
use Rattle.format.specs.Numbers.{number_of}
use Rattle.format.specs.declared.question.Question.{Question}
use Rattle.format.specs.Answers.{bit}
use Rattle.format.specs.Put.{put}
use Rattle.format.specs.Questions.{is_some}
use Rattle.format.specs.Reader.{entries, is_header}
use Rattle.format.specs.Reader as format
use Rattle.format.proofs.Choice.{either}
use Rattle.format.proofs.PutLaws.{put_cons}
use Rattle.reader.specs.Spans.{part, entry_in, entries_from, listed, end_at}
use Rattle.reader.specs.Listing.{shown, entry_at}
use Rattle.reader.specs.declared.cursor.Entry.{Entry}
use Rattle.reader.proofs.Tiling.{Entered, entered, tiled_end, tiled_none, tiled_more}
use Rattle.reader.proofs.Seeking.{answer_is, answer_no}
use Rattle.reader.proofs.Steps.{spanned, shown_span, at_end_lem, at_none, at_there}
use Rattle.round_trips.specs.Entries.{all_numbers, counted, entries_listed, count_of, list_after, ListsEntries}

module _ (debug : Bool) (s : List ℕ) where
  -- ---- what stands at a position

  -- an entry, in front of those from the next position on
  pub record Stands (p : ℕ) (e : Entry) : Type 0 where
    pub ahead : p + 8 ≤ e.next
    pub inside : e.next ≤ length s
    pub more : entries_from s p ≡ after (entries_from s e.next) λ es. some (entry_in s p e.next ∷ es)
    pub header : e.header ≡ is_header debug (entry_in s p e.next)
    pub place : e.place ≡ p
    pub long : e.length ≡ length (part s (p + 4) e.next)

  stands_span : (p q : ℕ) → Entered s p q → entries_from s p ≡ (after (entries_from s q) λ es. some (entry_in s p q ∷ es)) → Stands p (spanned debug s p q)
  unfolding shown
  stands_span p q a m =
      let d : shown debug (entry_in s p q) ≡ spanned debug s p q = shown_span debug s p q a.long a.inside in
      record {
        ahead = a.long;
        inside = a.inside;
        more = m;
        header = refl;
        place = refl;
        long = sym (ap (λ (x : Entry). x.length) d);
      }

  stands_by : (p : ℕ) (e : Entry) (o : code.Option ℕ) → end_at s p ≡ o → p < length s → entry_at debug s p ≡ good e → Stands p e
  stands_by p e None o h q = let z : ◌≡◌ {A = Result Entry} (bad 61) (good e) = sym (at_none debug s p h o) ∙ q in let y : ◌≡◌ {A = ℕ} 0 1 = cc in absurd (omega arith)
  stands_by p e (Some n) o h q =
      let same : good (spanned debug s p n) ≡ good e = sym (at_there debug s p h o) ∙ q in
      let d : spanned debug s p n ≡ e = cc in
      rw (← d) (stands_span p n (entered s p o) (tiled_more s p h o))

  pub stands : (p : ℕ) (e : Entry) → entry_at debug s p ≡ good e → Stands p e
  stands p e q =
      either (length s) p
      (λ h. let z : ◌≡◌ {A = Result Entry} (bad 62) (good e) = sym (at_end_lem debug s p h) ∙ q in let y : ◌≡◌ {A = ℕ} 0 1 = cc in absurd (omega arith))
      (λ h. stands_by p e (end_at s p) refl h q)

  -- a refusal: the end, or 61 where no entry fits
  pub record Ended (p n : ℕ) : Type 0 where
    pub at_end : length s ≤ p → entries_from s p ≡ some []
    pub untiled : p < length s → (n ≡ 61) × (entries_from s p ≡ none)

  ended_by : (p n : ℕ) (o : code.Option ℕ) → end_at s p ≡ o → p < length s → entry_at debug s p ≡ bad n → (n ≡ 61) × (entries_from s p ≡ none)
  ended_by p n None o h q =
      let same : ◌≡◌ {A = Result Entry} (bad 61) (bad n) = sym (at_none debug s p h o) ∙ q in
      let d : 61 ≡ n = cc in
      (sym d, tiled_none s p h o)
  ended_by p n (Some m) o h q =
      let same : good (spanned debug s p m) ≡ bad n = sym (at_there debug s p h o) ∙ q in let y : ◌≡◌ {A = ℕ} 0 1 = cc in absurd (omega arith)

  pub ended : (p n : ℕ) → entry_at debug s p ≡ bad n → Ended p n
  ended p n q = record { at_end = λ h. tiled_end s p h; untiled = λ h. ended_by p n (end_at s p) refl h q }

-- ---- what the cursor gave

module _ {debug : Bool} {s t : List ℕ} {at : ℕ} {r : code.Result Entry Question} (m : numbered r ≡ result_of (entry_at debug t at)) (same : t ≡ s) where
  pub gave : {e : Entry} → r ≡ Ok e → Stands debug s at e
  gave {e} q = stands debug s at e (rw same at (answer_is (entry_at debug t at) (sym m ∙ ap numbered q)))

  pub refused : {q : Question} → r ≡ Err q → Ended debug s at (number_of q)
  refused {q} n = ended debug s at (number_of q) (rw same at (answer_no (entry_at debug t at) (sym m ∙ ap numbered n)))

-- ---- the count

-- n entries, and those that are left
unfoldable pub grown : ℕ → Option (List format.Entry) → Result ℕ
grown n none = bad 61
grown n (some es) = good (n + length es)

pub record Counting (s : List ℕ) (at n : ℕ) : Type 0 where
  pub inside : at ≤ length s
  pub few : n ≤ at
  pub rest : grown n (entries_from s at) ≡ counted (entries s)

grown_none : (o : Option (List format.Entry)) → grown 0 o ≡ counted o
unfolding grown counted
grown_none none = refl
grown_none (some es) = ap (λ (n : ℕ). good n) (omega arith)

grown_one : (n : ℕ) (e : format.Entry) (o : Option (List format.Entry)) → grown n (after o λ es. some (e ∷ es)) ≡ grown (n + 1) o
unfolding grown after
grown_one n e none = refl
grown_one n e (some es) = ap (λ (m : ℕ). good m) (omega arith)

pub counting : (s : List ℕ) → Counting s 0 0
unfolding entries entries_from
counting s = record { inside = omega arith; few = omega arith; rest = grown_none (entries s) }

module _ {debug : Bool} {s : List ℕ} {at n : ℕ} (c : Counting s at n) where
  pub counted_one : {e : Entry} → Stands debug s at e → Counting s e.next (n + 1)
  counted_one {e} k =
      record {
        inside = k.inside;
        few = omega (arith, c.few, k.ahead);
        rest = sym (grown_one n (entry_in s at e.next) (entries_from s e.next)) ∙ ap (grown n) (sym k.more) ∙ c.rest;
      }

  pub uncounted : at < length s → {m : ℕ} → Ended debug s at m → bad m ≡ counted (entries s)
  unfolding grown
  uncounted h k = let u = k.untiled h in ap (λ (i : ℕ). bad i) u.0 ∙ ap (grown n) (sym u.1) ∙ c.rest

pub counted_all : {s : List ℕ} {at n : ℕ} → Counting s at n → length s ≤ at → good n ≡ counted (entries s)
unfolding grown
counted_all {s} {at} {n} c h =
    let m : n + 0 ≡ n = omega arith in
    ap (λ (i : ℕ). good i) (sym m) ∙ ap (grown n) (sym (tiled_end s at h)) ∙ c.rest

-- ---- the entries stored

-- those of `rest` are left, and go from i on
pub record Filling (debug : Bool) (s old out : List ℕ) (i at : ℕ) : Type 0 where
  pub inside : at ≤ length s
  pub long : length out ≡ length old
  pub rest : List format.Entry
  pub rest_is : entries_from s at ≡ some rest
  pub room : i + 3 * length rest ≤ length out
  pub stored : put out i (all_numbers debug rest) ≡ put old 0 (all_numbers debug (listed (entries s)))

is_listed : (o : Option (List format.Entry)) → T (is_some o) → o ≡ some (listed o)
unfolding is_some listed
is_listed none t = absurd t
is_listed (some es) t = refl

pub filling : (debug : Bool) (s old : List ℕ) → T (is_some (entries s)) → 3 * length (listed (entries s)) ≤ length old → Filling debug s old old 0 0
unfolding entries entries_from
filling debug s old t room =
    record { inside = omega arith; long = refl; rest = listed (entries s); rest_is = is_listed (entries s) t; room = omega (arith, room); stored = refl }

-- three numbers in a row
three_set : (out : List ℕ) (i : ℕ) (bs : List ℕ) {h h' p p' l l' : ℕ} → h ≡ h' → p ≡ p' → l ≡ l'
    → put (set (set (set out i h) (i + 1) p) (i + 1 + 1) l) (i + 1 + 1 + 1) bs ≡ put (set (set (set out i h') (i + 1) p') (i + 2) l') (i + 3) bs
three_set out i bs a b c =
    let two : i + 1 + 1 ≡ i + 2 = omega arith in
    let three : i + 2 + 1 ≡ i + 3 = omega arith in
    rw (two, three, a, b, c) refl

-- the first of the entries that are left, and those behind it
record First (s : List ℕ) (e : format.Entry) (next : ℕ) (all : List format.Entry) : Type 0 where
  behind : List format.Entry
  behind_is : entries_from s next ≡ some behind
  all_are : all ≡ e ∷ behind

first_of : (s : List ℕ) (e : format.Entry) (next : ℕ) (all : List format.Entry) (o : Option (List format.Entry)) → entries_from s next ≡ o
    → (after o λ es. some (e ∷ es)) ≡ some all → First s e next all
unfolding after
first_of s e next all none is q = let z : ◌≡◌ {A = ℕ} 0 1 = cc in absurd (omega arith)
first_of s e next all (some es) is q = record { behind = es; behind_is = is; all_are = let d : e ∷ es ≡ all = cc in sym d }

module _ {debug : Bool} {s old out : List ℕ} {i at : ℕ} (f : Filling debug s old out i at) where
  first_left : {e : Entry} → Stands debug s at e → First s (entry_in s at e.next) e.next f.rest
  first_left {e} k = first_of s (entry_in s at e.next) e.next f.rest (entries_from s e.next) refl (sym k.more ∙ f.rest_is)

  pub room_for : {e : Entry} → Stands debug s at e → i + 3 ≤ length out
  room_for k = let x = first_left k in omega (arith, f.room, ap length x.all_are)

  pub filled_one : {e : Entry} → Stands debug s at e → Filling debug s old (set (set (set out i (bit e.header)) (i + 1) e.place) (i + 2) e.length) (i + 3) e.next
  unfolding all_numbers
  filled_one {e} k =
      let x = first_left k in
      let long : length (set (set (set out i (bit e.header)) (i + 1) e.place) (i + 2) e.length) ≡ length out
      = length-set (set (set out i (bit e.header)) (i + 1) e.place) (i + 2) e.length ∙ length-set (set out i (bit e.header)) (i + 1) e.place ∙ length-set out i (bit e.header) in
      record {
        inside = k.inside;
        long = long ∙ f.long;
        rest = x.behind;
        rest_is = x.behind_is;
        room = omega (arith, long, f.room, ap length x.all_are);
        stored =
            sym
            (ap (put out i) (ap (all_numbers debug) x.all_are)
            ∙ put_cons out i (bit (is_header debug (entry_in s at e.next))) _
            ∙ put_cons (set out i (bit (is_header debug (entry_in s at e.next)))) (i + 1) at _
            ∙ put_cons (set (set out i (bit (is_header debug (entry_in s at e.next)))) (i + 1) at) (i + 1 + 1) (length (part s (at + 4) e.next)) (all_numbers debug x.behind)
            ∙ three_set out i (all_numbers debug x.behind) (ap bit (sym k.header)) (sym k.place) (sym k.long))
            ∙ f.stored;
      }

  -- they end where the cursor does, since they tile the section
  pub filled_all : {n : ℕ} → Ended debug s at n → out ≡ put old 0 (all_numbers debug (listed (entries s)))
  unfolding all_numbers put
  filled_all {n} k =
      let none_left : f.rest ≡ [] = either (length s) at (λ h. at_end h) (λ h. within h) in
      ap (λ (es : List format.Entry). put out i (all_numbers debug es)) (sym none_left) ∙ f.stored
    where
      at_end : length s ≤ at → f.rest ≡ []
      at_end h = let d : some f.rest ≡ some [] = sym f.rest_is ∙ k.at_end h in cc

      within : at < length s → f.rest ≡ []
      within h = let d : some f.rest ≡ none = sym f.rest_is ∙ (k.untiled h).1 in let y : ◌≡◌ {A = ℕ} 0 1 = cc in absurd (omega arith)

-- ---- the questions, and the answer

abbrev accepted : ℕ → code.Result ℕ ℕ
accepted n = Ok n

module _ (s : List ℕ) (kind : ℕ) (old : List ℕ) where
  abbrev Promised : code.Result ℕ Question → List ℕ → Type 0
  Promised r new = ListsEntries (eqb kind 1) (entries_listed s kind (length old)) r old new

  no : {n : ℕ} {q : Question} → entries_listed s kind (length old) ≡ bad n → number_of q ≡ n → Promised (Err q) old
  unfolding count_of list_after
  no {n} {q} e d = record { answered = rw (e, d) refl; stored = rw e refl }

  pub unkinded : 1 < kind → Promised (Err Question.Interface) old
  unfolding entries_listed pick
  unkinded h = no {q = Question.Interface} (rw (lt-leb kind 1 h) refl) refl

  module _ (h : kind ≤ 1) where
    by_entries : (o : Option (List format.Entry)) → entries s ≡ o
        → entries_listed s kind (length old) ≡ onward (or_else o 61) λ es. pick (leb (3 * length es) (length old)) (good es) (bad 54)
    unfolding entries_listed pick
    by_entries o e = rw (le-leb kind 1 h, e) refl

    -- 61
    untiled_by : (o : Option (List format.Entry)) → entries s ≡ o → (q : Question) → Err (number_of q) ≡ result_of (counted o) → Promised (Err q) old
    unfolding counted onward or_else
    untiled_by none e q d = no {n = 61} {q = q} (by_entries none e) (let x : number_of q ≡ 61 = cc in x)
    untiled_by (some es) e q d = let z : ◌≡◌ {A = ℕ} 0 1 = cc in absurd (omega arith)

    pub untiled : {q : Question} → Err (number_of q) ≡ result_of (counted (entries s)) → Promised (Err q) old
    untiled {q} d = untiled_by (entries s) refl q d

    -- how many there are
    record Some_of (n : ℕ) : Type 0 where
      found : List format.Entry
      found_is : entries s ≡ some found
      long : n ≡ length found

    some_by : (n : ℕ) (o : Option (List format.Entry)) → entries s ≡ o → Ok n ≡ result_of (counted o) → Some_of n
    unfolding counted
    some_by n none e d = let z : ◌≡◌ {A = ℕ} 0 1 = cc in absurd (omega arith)
    some_by n (some es) e d = record { found = es; found_is = e; long = cc }

    module _ {n : ℕ} (d : Ok n ≡ result_of (counted (entries s))) where
      found_some : Some_of n
      found_some = some_by n (entries s) refl d

      -- 54
      pub roomless : length old / 3 < n → Promised (Err Question.OtherRoom) old
      unfolding onward or_else pick
      roomless l =
          let f = found_some in
          no {q = Question.OtherRoom} (by_entries (some f.found) f.found_is ∙ rw (lt-leb (3 * length f.found) (length old) (omega (arith, l, f.long))) refl) refl

      module _ (l : n ≤ length old / 3) where
        pub room : T (is_some (entries s)) × (3 * length (listed (entries s)) ≤ length old)
        unfolding is_some listed
        room = let f = found_some in rw f.found_is (tt, omega (arith, l, f.long))

        pub listed_all : {new : List ℕ} → new ≡ put old 0 (all_numbers (eqb kind 1) (listed (entries s))) → Promised (Ok n) new
        unfolding onward or_else pick listed count_of list_after
        listed_all q =
            let f = found_some in
            let e : entries_listed s kind (length old) ≡ good f.found
            = by_entries (some f.found) f.found_is ∙ rw (le-leb (3 * length f.found) (length old) (omega (arith, l, f.long))) refl in
            record { answered = ap (λ (i : ℕ). accepted i) f.long ∙ rw e refl; stored = q ∙ rw (e, f.found_is) refl }

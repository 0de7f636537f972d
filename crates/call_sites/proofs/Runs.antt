-- The entries of a table, one after the other: what the loop over them knows at each turn, and the first that covers an offset.
use mathlib.Core.Path.{◌≡◌, refl, sym, ap, ◌∙◌}
use Prim.Native.Nat.{ℕ, zero, suc, ◌+◌, ◌-◌, ◌*◌, ◌≤◌, ◌<◌}
use native.Mathlib.Omega.{arith}
use mathlib.Core.Bool.{Bool, true, false, ◌&&◌}
use mathlib.Core.Option.{Option, none, some}
use mathlib.Core.List.{List, [], ◌∷◌, ◌++◌, append_assoc, append-nil}
use lib.ListN.{length, drop, length-drop, drop_of_length-le, length-append}
use Rattle.std.specs.Prelude.{Some, None, Ok, Err}
use Rattle.std.specs.Option.{option_or}
use Rattle.std.specs.Bool.{then_some}
use Rattle.std.specs.Prelude as code
use Rattle.format.specs.Prelude.{pick, next, after, onward, or_else, first}
use Rattle.format.specs.Lists.{Landing}
use Rattle.format.specs.CallSiteReader.{site_of, read_site, read_sites_f, read_sites, covers}
use Rattle.format.proofs.Choice.{pick_yes, pick_no, tested}
use Rattle.operations.specs.declared.fields.Position.{Position}
use Rattle.call_sites.specs.declared.Entry.{Entry}
use Rattle.format.specs.Shortest.{every_short}
use Rattle.call_sites.specs.Reads.{landing_of, short_from, marked_start, EntryThere, entry_of, first_covering, with_mark}
use Rattle.call_sites.specs.Listed.{landing_numbers, all_numbers, counted_of, stored_of, HasRoom}
use Rattle.call_sites.specs.declared.Entries.{Entries}
use Rattle.format.specs.Put.{put}
use Rattle.format.proofs.PutLaws.{put-append, length-put}
use Rattle.call_sites.proofs.Marks.{at_end}

-- ---- one step of the definition

pub sites_step : (fuel : ℕ) (bs : List ℕ) → 0 < fuel → 0 < length bs
    → read_sites_f fuel bs ≡ next (read_site bs) (λ l rest. after (read_sites_f (fuel - 1) rest) λ ls. some (l ∷ ls))
unfolding read_sites_f
sites_step zero bs h l = absurd (omega arith)
sites_step (suc f) [] h l = absurd (omega arith)
sites_step (suc f) (b ∷ bs) h l = let e : suc f - 1 ≡ f = omega arith in rw e

sites_done : (fuel : ℕ) → 0 < fuel → read_sites_f fuel [] ≡ some []
unfolding read_sites_f
sites_done zero h = absurd (omega arith)
sites_done (suc f) h = refl

-- ---- entries in front of others

in_front : (r : Option (List Landing)) → r ≡ after r (λ ls. some ([] ++ ls))
unfolding after
in_front none = refl
in_front (some ls) = refl

one_more : (xs : List Landing) (l : Landing) (r : Option (List Landing))
    → after (after r λ ls. some (l ∷ ls)) (λ ls. some (xs ++ ls)) ≡ after r (λ ls. some ((xs ++ (l ∷ [])) ++ ls))
unfolding after
one_more xs l none = refl
one_more xs l (some ls) = ap some (sym (append_assoc xs (l ∷ []) ls))

module _ {A : Type 0} (f : A → Bool) where
  first_none : (xs : List A) (x : A) → first f xs ≡ none → first f (xs ++ (x ∷ [])) ≡ pick (f x) (some x) none
  unfolding first
  first_none [] x e = refl
  first_none (z ∷ zs) x e =
      tested (f z) (λ t. let y : some z ≡ none = sym (pick_yes (f z) (some z) (first f zs) t) ∙ e in let o : ◌≡◌ {A = ℕ} 0 1 = cc in absurd (omega arith))
      (λ t. pick_no (f z) (some z) _ t ∙ first_none zs x (sym (pick_no (f z) (some z) (first f zs) t) ∙ e))

  first_some : (xs ys : List A) (x : A) → first f xs ≡ some x → first f (xs ++ ys) ≡ some x
  unfolding first
  first_some [] ys x e = let o : ◌≡◌ {A = ℕ} 0 1 = cc in absurd (omega arith)
  first_some (z ∷ zs) ys x e =
      tested (f z) (λ t. pick_yes (f z) (some z) _ t ∙ (sym (pick_yes (f z) (some z) (first f zs) t) ∙ e))
      (λ t. pick_no (f z) (some z) _ t ∙ first_some zs ys x (sym (pick_no (f z) (some z) (first f zs) t) ∙ e))

-- ---- a loop over the entries: what it knows of those that were read, and of the numbers in front of the position

pub record Going (P : List Landing → Type 0) (s : List ℕ) (shortest : Bool) (p : Position) : Type 0 where
  pub fuel : ℕ
  pub before : List Landing
  pub enough : length s < fuel + p.at
  pub inside : p.at ≤ length s
  pub same : read_sites s ≡ after (read_sites_f fuel (drop p.at s)) (λ ls. some (before ++ ls))
  pub here : P before
  pub numbers : ℕ
  pub every : length s ≤ numbers + p.at
  pub marks : (shortest && every_short s) ≡ short_from s p numbers

pub start : {P : List Landing → Type 0} {s : List ℕ} {shortest : Bool} → P [] → Going P s shortest (marked_start shortest)
unfolding read_sites every_short
start {s = s} h = record {
  fuel = suc (length s);
  before = [];
  enough = omega arith;
  inside = omega arith;
  same = in_front (read_sites_f (suc (length s)) s);
  here = h;
  numbers = length s;
  every = omega arith;
  marks = refl;
}

module _ {P : List Landing → Type 0} {s : List ℕ} {shortest : Bool} {p : Position} (g : Going P s shortest p) where
  module _ (h : p.at < length s) where
    step : read_sites s ≡ after (next (read_site (drop p.at s)) (λ l rest. after (read_sites_f (g.fuel - 1) rest) λ ls. some (l ∷ ls))) (λ ls. some (g.before ++ ls))
    step = g.same ∙ ap (λ r. after r (λ ls. some (g.before ++ ls))) (sites_step g.fuel (drop p.at s) (omega (arith, g.enough)) (omega (arith, length-drop p.at s)))

    pub turn : {Q : List Landing → Type 0} {l : Landing} {q : Position} → EntryThere s p l q → ((ls : List Landing) → P ls → Q (ls ++ (l ∷ [])))
        → Going Q s shortest q
    unfolding next
    turn {l = l} {q = q} c k = record {
      fuel = g.fuel - 1;
      before = g.before ++ (l ∷ []);
      enough = omega (arith, g.enough, c.ahead);
      inside = c.inside;
      same = (rw c.reads at step) ∙ one_more g.before l (read_sites_f (g.fuel - 1) (drop q.at s));
      here = k g.before g.here;
      numbers = g.numbers - 4;
      every = omega (arith, g.every, c.ahead);
      marks = g.marks ∙ c.marks g.numbers (omega (arith, g.every, c.ahead, c.inside));
    }

    pub unread : read_site (drop p.at s) ≡ none → read_sites s ≡ none
    unfolding next after
    unread e = rw e at step

  module _ (h : length s ≤ p.at) where
    pub all_read : read_sites s ≡ some g.before
    unfolding after
    all_read =
        let e : drop p.at s ≡ [] = drop_of_length-le s h in
        let d : read_sites_f g.fuel (drop p.at s) ≡ some [] = rw e (sites_done g.fuel (omega (arith, g.enough, g.inside))) in
        g.same ∙ rw (d, append-nil g.before)

    pub all_marked : p.shortest ≡ (shortest && every_short s)
    all_marked = sym (g.marks ∙ at_end s p g.numbers h)

-- ---- by the entries that are left

pub record Reading (P : List Landing → Type 0) (s : List ℕ) (shortest : Bool) (x : Entries) : Type 0 where
  pub bytes : x.bytes.now ≡ s
  pub going : Going P s shortest x.at

module _ {P : List Landing → Type 0} {s : List ℕ} {shortest : Bool} {x : Entries} (r : Reading P s shortest x) where
  pub more : x.at.at < length x.bytes.now → x.at.at < length s
  more h = rw r.bytes at h

  pub none_left : length x.bytes.now ≤ x.at.at → length s ≤ x.at.at
  none_left h = rw r.bytes at h

  pub there : {l : Landing} {q : Position} → EntryThere x.bytes.now x.at l q → EntryThere s x.at l q
  there t = rw r.bytes at t

  pub none_there : read_site (drop x.at.at x.bytes.now) ≡ none → read_site (drop x.at.at s) ≡ none
  none_there e = rw r.bytes at e

  pub forward : (Q : Position → List Landing → Type 0) {y : Entries} {l : Landing} {q : Position} → x.at.at < length x.bytes.now
      → EntryThere x.bytes.now x.at l q → y.bytes.now ≡ x.bytes.now → y.at ≡ q → ((ls : List Landing) → P ls → Q q (ls ++ (l ∷ [])))
      → Reading (Q y.at) s shortest y
  forward Q h t e f k = record { bytes = e ∙ r.bytes; going = rw f (turn r.going (more h) (there t) k) }

-- ---- the entry that covers the offset

entry_is : (e : Entry) → entry_of (some (landing_of e)) ≡ Some e
unfolding site_of
entry_is e = refl

kept_none : (b : Bool) (e : Entry) → then_some b e ≡ entry_of (pick b (some (landing_of e)) none)
unfolding pick
kept_none true e = sym (entry_is e)
kept_none false e = refl

-- the entry found before, or else this one where it covers the offset
kept_by : (offset : ℕ) (xs : List Landing) (e : Entry) (o : Option Landing) → first (covers offset) xs ≡ o
    → option_or (entry_of o) (then_some (covers offset (landing_of e)) e) ≡ entry_of (first (covers offset) (xs ++ (landing_of e ∷ [])))
kept_by offset xs e none h = rw (first_none (covers offset) xs (landing_of e) h) (kept_none (covers offset (landing_of e)) e)
kept_by offset xs e (some x) h = rw (first_some (covers offset) xs (landing_of e ∷ []) x h)

pub record Covering (offset : ℕ) (found : code.Option Entry) (ls : List Landing) : Type 0 where
  pub is : found ≡ entry_of (first (covers offset) ls)

pub none_covering : {offset : ℕ} → Covering offset None []
unfolding first
none_covering = record { is = refl }

pub covering_turn : {offset : ℕ} {found : code.Option Entry} (e : Entry) {b : Bool} {this newer : code.Option Entry} → b ≡ covers offset (landing_of e)
    → this ≡ then_some b e → newer ≡ option_or found this → (ls : List Landing) → Covering offset found ls → Covering offset newer (ls ++ (landing_of e ∷ []))
covering_turn {offset = offset} e i j k ls h =
    record { is = k ∙ rw (j, i, h.is) (kept_by offset ls e (first (covers offset) ls) refl) }

pub found_unread : (offset : ℕ) (s : List ℕ) (shortest : Bool) → read_sites s ≡ none
    → Err 72 ≡ with_mark (first_covering offset s) (shortest && every_short s)
unfolding first_covering or_else onward
found_unread offset s shortest e = rw e

pub all_found : {offset : ℕ} {s : List ℕ} {shortest : Bool} {found : code.Option Entry} {mark : Bool} {p : Position}
    → Going (Covering offset found) s shortest p → mark ≡ p.shortest → length s ≤ p.at
    → Ok (record { entry = found; shortest = mark }) ≡ with_mark (first_covering offset s) (shortest && every_short s)
unfolding first_covering or_else onward
all_found g m h = rw (all_read g h, m ∙ all_marked g h, g.here.is)

-- ---- the entries counted

-- those before the position, of at least a byte each
pub record Counting (n at : ℕ) (ls : List Landing) : Type 0 where
  pub many : n ≡ length ls
  pub least : n ≤ at

pub counting : Counting 0 0 []
counting = record { many = refl; least = omega arith }

pub count_turn : {s : List ℕ} {n : ℕ} {p q : Position} {l : Landing} → EntryThere s p l q → (ls : List Landing) → Counting n p.at ls
    → Counting (n + 1) q.at (ls ++ (l ∷ []))
count_turn {l = l} t ls h = record { many = omega (arith, h.many, length-append ls (l ∷ [])); least = omega (arith, h.least, t.ahead) }

pub none_counted : (s : List ℕ) (shortest : Bool) → read_sites s ≡ none → Err 72 ≡ counted_of (read_sites s) (shortest && every_short s)
unfolding counted_of
none_counted s shortest e = rw e

pub all_counted : {s : List ℕ} {shortest : Bool} {n : ℕ} {mark : Bool} {p : Position} → Going (Counting n p.at) s shortest p → mark ≡ p.shortest
    → length s ≤ p.at → Ok (record { sites = n; shortest = mark }) ≡ counted_of (read_sites s) (shortest && every_short s)
unfolding counted_of
all_counted g m h = rw (all_read g h, m ∙ all_marked g h, g.here.many)

-- ---- the entries stored

numbers-length : (ls : List Landing) → length (all_numbers ls) ≡ 3 * length ls
unfolding all_numbers landing_numbers
numbers-length [] = refl
numbers-length (l ∷ ls) = omega (arith, numbers-length ls)

numbers_join : (ls : List Landing) (l : Landing) → all_numbers (ls ++ (l ∷ [])) ≡ all_numbers ls ++ landing_numbers l
unfolding all_numbers
numbers_join [] l = append-nil (landing_numbers l)
numbers_join (x ∷ ls) l = ap (λ ns. landing_numbers x ++ ns) (numbers_join ls l) ∙ sym (append_assoc (landing_numbers x) (all_numbers ls) (landing_numbers l))

pub record Storing (at : ℕ) (old new : List ℕ) (ls : List Landing) : Type 0 where
  pub many : at ≡ 3 * length ls
  pub stored : new ≡ put old 0 (all_numbers ls)

pub storing : {old : List ℕ} → Storing 0 old old []
unfolding all_numbers put
storing = record { many = refl; stored = refl }

pub store_turn : {at : ℕ} {old new newer : List ℕ} (l : Landing) → newer ≡ put new at (landing_numbers l) → (ls : List Landing) → Storing at old new ls
    → Storing (at + 3) old newer (ls ++ (l ∷ []))
store_turn {at = at} {old = old} l e ls h =
    let seam : at ≡ 0 + length (all_numbers ls) = omega (arith, h.many, numbers-length ls) in
    record {
      many = omega (arith, h.many, length-append ls (l ∷ []));
      stored = e ∙ rw (h.stored, seam, numbers_join ls l) (sym (put-append old 0 (all_numbers ls) (landing_numbers l)));
    }

pub kept : {at : ℕ} {old new : List ℕ} {ls : List Landing} → Storing at old new ls → length new ≡ length old
kept {old = old} {ls = ls} h = ap length h.stored ∙ length-put old 0 (all_numbers ls)

-- as many as there are at most
abbrev Holding : ℕ → Option (List Landing) → Type 0
Holding n none = 0 ≤ n
Holding n (some ls) = n ≤ length ls

holding_joined : (xs : List Landing) (r : Option (List Landing)) → Holding (length xs) (after r λ ls. some (xs ++ ls))
unfolding after
holding_joined xs none = omega arith
holding_joined xs (some ls) = omega (arith, length-append xs ls)

room_for : (n : ℕ) (old : List ℕ) (r : Option (List Landing)) → HasRoom r old → Holding n r → 3 * n ≤ length old
room_for n old none h k = absurd h
room_for n old (some ls) h k = omega arith

module _ {s : List ℕ} {shortest : Bool} {at : ℕ} {old new : List ℕ} {p : Position} (g : Going (Storing at old new) s shortest p) where
  few : {l : Landing} {q : Position} → p.at < length s → EntryThere s p l q → Holding (suc (length g.before)) (read_sites s)
  unfolding turn
  few {l = l} {q = q} h t =
      let next : Going (λ ls. 0 ≤ length ls) s shortest q = turn g h t (λ ls w. omega arith) in
      let m : length next.before ≡ suc (length g.before) = length-append g.before (l ∷ []) ∙ omega arith in
      rw (next.same, ← m) (holding_joined next.before (read_sites_f next.fuel (drop q.at s)))

  pub room_left : HasRoom (read_sites s) old → {l : Landing} {q : Position} → p.at < length s → EntryThere s p l q → at + 3 ≤ length new
  room_left room h t = omega (arith, kept g.here, g.here.many, room_for (suc (length g.before)) old (read_sites s) room (few h t))

  pub all_stored : length s ≤ p.at → new ≡ stored_of (read_sites s) old
  unfolding stored_of
  all_stored h = rw (all_read g h) g.here.stored

  pub never_unread : HasRoom (read_sites s) old → p.at < length s → read_site (drop p.at s) ≡ none → ⊥
  never_unread room h e = rw (unread g h e) at room

-- The iterator over records, on that over entries: searches of the entries, and a number of records passed by.
use Rattle.std.proofs.Common.{◌≡◌, ℕ, suc, ◌+◌, ◌-◌, ◌≤◌, Bool, true, false, List, [], ◌∷◌, length, Some, None, refl, sym, ap, ◌∙◌, subst, arith}
use Rattle.std.specs.Prelude as code
use mathlib.Core.Bool.{not}
use lib.ListN.{get_elem?}
use denote.Param.Members.{Mut}
use denote.Ref.{Bor}
use Rattle.std.specs.Fn.{CalledAt}
use Rattle.std.specs.Iterator.{Yields, SkipsThenYields, Drains, FindsItem, CallableAtEachTurn}
use Rattle.std.specs.List.{FoldsTo}
use Rattle.std.proofs.lemmas.Fn.{serves_by}
use Rattle.std.proofs.lemmas.Bool.{not-true, not-false}
use Rattle.format.specs.Prelude.{pick}
use Rattle.format.specs.Reader.{Entry, is_header, records, entries, header_at}
use Rattle.reader.specs.Spans.{entry_of, entries_from, listed, Holds, Ends, Ahead, Spans}
use Rattle.reader.specs.Entries.{Gave, Gives}
use Rattle.reader.specs.Records.{left, GivesRecord}
use Rattle.reader.specs.declared.entries.Entries.{Entries}
use Rattle.reader.specs.declared.records.Records.{Records}
use Rattle.reader.specs.declared.section.Span.{Span}
use Rattle.reader.proofs.Tiling.{tiled_end}
use Rattle.reader.proofs.Seeking.{header_here, header_here_lem, header_later, header_none}

-- ---- records and headers

module _ (debug : Bool) (e : Entry) (es : List Entry) where
  pub records_header : is_header debug e ≡ true → records debug (e ∷ es) ≡ records debug es
  unfolding records pick
  records_header h = simp h

  pub records_record : is_header debug e ≡ false → records debug (e ∷ es) ≡ e ∷ records debug es
  unfolding records pick
  records_record h = simp h

-- ---- entries that an iterator gives

same_section : (xs : List Span) (s t : Entries) → Yields Gives s xs t → t.section ≡ s.section
same_section [] s t y = ap (λ (e : Entries). e.section) (sym y)
same_section (x ∷ xs) s t y = same_section xs y.0 t y.2 ∙ y.1.same

held_given : {b : Bor (List ℕ)} (t u : Entries) {x : Span} → t.section ≡ b → Gave t x u → Holds b.now x
held_given t u {x} e g = subst (λ (b : Bor (List ℕ)). Holds b.now x) e (g.ends.long, g.ends.inside)

-- a function may be called at each of them that may be called at what their section holds
module _ {F : Type 0} {R : F → Span → F → Type 0} {Q : F → Span → Type 0} (keeps : (q : F) (x : Span) (v : F) → R q x v → v ≡ q) where
  pub held_serves : {s : Entries} {b : Bor (List ℕ)} {f : F} → s.section ≡ b → ((x : Span) → Holds b.now x → Q f x) → CallableAtEachTurn Gives R Q s f
  held_serves {s} {b} {f} e h =
      serves_by R (λ _ q. q ≡ f) (λ xs q x v j r. keeps q x v r ∙ j) Gives Q s f refl
      (λ xs t q x u y g j. subst (λ (q : F). Q q x) (sym j) (h x (held_given t u (same_section xs s t y ∙ e) g)))

-- ---- a search for an entry that passes a test

-- none of the entries passes it
pub record Missed (bs : List ℕ) {X : Type 0} (over : List Entry → X) (s u : Entries) : Type 0 where
  pub none : over (listed (entries_from bs s.at)) ≡ over []
  pub same : u.section ≡ s.section

-- the first that does, and those in front of it make no difference to what `over` says
pub record Met (bs : List ℕ) {X : Type 0} (over : List Entry → X) (test : Entry → Bool) (s : Entries) (e : Span) (u : Entries) : Type 0 where
  pub holds : Holds bs e
  pub passes : test (entry_of bs e) ≡ true
  pub rest : over (listed (entries_from bs s.at)) ≡ over (entry_of bs e ∷ listed (entries_from bs e.end))
  pub ahead : s.at ≤ e.at
  pub past : u.at ≡ e.end
  pub same : u.section ≡ s.section

module _ {X : Type 0} (over : List Entry → X) (test : Entry → Bool) (skips : (e : Entry) (es : List Entry) → test e ≡ false → over (e ∷ es) ≡ over es)
    {F : Type 0} {g : Mut F (Bor Span × Unit {0}) Bool} {f : F} (bs : List ℕ)
    (answers : (x : Span) (b : Bool) (q : F) → CalledAt g f x b q → (q ≡ f) × (b ≡ test (entry_of bs x))) where
  abbrev from : ℕ → X
  from at = over (listed (entries_from bs at))

  entries_passed : (xs : List Span) (s t : Entries) (q : F) → s.section.now ≡ bs → Yields Gives s xs t → FoldsTo (λ p x q. CalledAt g p x false q) f xs q
      → (q ≡ f) × (t.section.now ≡ bs) × (s.at ≤ t.at) × (from s.at ≡ from t.at)
  entries_passed [] s t q e y k = (sym k, rw (← y) e, rw (← y) (omega arith), ap (λ (s : Entries). from s.at) y)
  entries_passed (x ∷ xs) s t q e y k =
      let a = answers x false k.0 k.1 in
      let n : Ends bs x.at x.end = subst (λ (bs : List ℕ). Ends bs x.at x.end) e y.1.ends in
      let m = entries_passed xs y.0 t q (ap (λ (b : Bor (List ℕ)). b.now) y.1.same ∙ e) y.2 (subst (λ (p : F). FoldsTo (λ p x q. CalledAt g p x false q) p xs q) a.0 k.2) in
      let step : from s.at ≡ from x.end = rw (← y.1.here, n.rest) (skips (entry_of bs x) (listed (entries_from bs x.end)) (sym a.1)) in
      (m.0, m.1, omega (arith, m.2, y.1.here, y.1.past, n.long), step ∙ rw y.1.past at m.3)

  module _ (s u : Entries) (e : s.section.now ≡ bs) where
    pub missed : FindsItem Gives g s f None u → Missed bs over s u
    unfolding listed
    missed h =
        let t = h.2.0 in
        let n = h.2.2 in
        let m = entries_passed h.0 s t h.1 e h.2.1 h.3 in
        record { none = m.3 ∙ rw (tiled_end bs t.at (rw (← m.1) n.all)) refl; same = n.same ∙ same_section h.0 s t h.2.1 }

    pub met : (x : Span) → FindsItem Gives g s f (Some x) u → Met bs over test s x u
    met x h =
        let t = h.2.0 in
        let n = h.2.2 in
        let m = entries_passed h.0 s t h.1 e h.2.1 h.3 in
        let k : Ends bs x.at x.end = subst (λ (bs : List ℕ). Ends bs x.at x.end) m.1 n.ends in
        let c : CalledAt g f x true h.4.0 = subst (λ (p : F). CalledAt g p x true h.4.0) m.0 h.4.1 in
        record {
          holds = (k.long, k.inside);
          passes = sym (answers x true h.4.0 c).1;
          rest = m.3 ∙ rw (← n.here, k.rest) refl;
          ahead = omega (arith, m.2, n.here);
          past = n.past;
          same = n.same ∙ same_section h.0 s t h.2.1;
        }

-- ---- the first entry that is no header

pub found_record : {F : Type 0} {g : Mut F (Bor Span × Unit {0}) Bool} {f : F} (w : Records) (r : code.Option Span) (u : Entries)
    → ((x : Span) (b : Bool) (q : F) → CalledAt g f x b q → (q ≡ f) × (b ≡ not (is_header w.debug (entry_of w.rest.section.now x))))
    → FindsItem Gives g w.rest f r u → GivesRecord w r (record { rest = u; debug = w.debug })
unfolding left records
found_record {F} {g} {f} w None u answers h =
    let m = missed (records w.debug) (λ e. not (is_header w.debug e)) (λ e es n. records_header w.debug e es (not-false _ n)) w.rest.section.now answers w.rest u refl h in
    record { all = m.none; same = m.same; same_debug = refl }
found_record {F} {g} {f} w (Some x) u answers h =
    let bs = w.rest.section.now in
    let m = met (records w.debug) (λ e. not (is_header w.debug e)) (λ e es n. records_header w.debug e es (not-false _ n)) bs answers w.rest u refl x h in
    let q : u.section.now ≡ bs = ap (λ (b : Bor (List ℕ)). b.now) m.same in
    record {
      holds = m.holds;
      no_header = not-true _ m.passes;
      first = m.rest ∙ rw (q, m.past) (records_record w.debug (entry_of bs x) (listed (entries_from bs x.end)) (not-true _ m.passes));
      ahead = m.ahead;
      past = m.past;
      same = m.same;
      same_debug = refl;
    }

-- ---- the header at a place

-- the header that a search from an entry in front of it finds
pub found_header : {F : Type 0} {g : Mut F (Bor Span × Unit {0}) Bool} {f : F} (debug : Bool) (place before : ℕ) {b : Bor (List ℕ)} {from : ℕ} (s u : Entries) (r : code.Option Span)
    → s.section ≡ b → s.at ≡ from → Ahead b.now from → from ≤ place
    → ((x : Span) (t : Bool) (q : F) → CalledAt g f x t q → (q ≡ f) × (t ≡ header_here debug place before (entry_of b.now x)))
    → FindsItem Gives g s f r u → Spans b.now r (header_at debug place before (listed (entries b.now)))
found_header debug place before {b} {from} s u None e i a l answers h =
    let m = missed (header_at debug place before) (header_here debug place before) (header_later debug place before) b.now answers s u (ap (λ (b : Bor (List ℕ)). b.now) e) h in
    a.found debug place before l ∙ (rw i at m.none) ∙ header_none debug place before
found_header debug place before {b} {from} s u (Some x) e i a l answers h =
    let m = met (header_at debug place before) (header_here debug place before) (header_later debug place before) b.now answers s u (ap (λ (b : Bor (List ℕ)). b.now) e) x h in
    record {
      long = m.holds.0;
      inside = m.holds.1;
      found = a.found debug place before l ∙ (rw i at m.rest) ∙ header_here_lem debug place before (entry_of b.now x) (listed (entries_from b.now x.end)) m.passes;
    }

-- ---- records passed by

records_passed : (xs : List Span) (s t : Records) → Yields GivesRecord s xs t → (n : ℕ)
    → (t.rest.section ≡ s.rest.section) × (get_elem? (left s) (length xs + n) ≡ get_elem? (left t) n)
records_passed [] s t y n =
    let z : length {A = Span} [] + n ≡ n = omega arith in
    (ap (λ (s : Records). s.rest.section) (sym y), rw z (ap (λ (s : Records). get_elem? (left s) n) y))
records_passed (x ∷ xs) s t y n =
    let m = records_passed xs y.0 t y.2 n in
    let e : length (x ∷ xs) + n ≡ suc (length xs + n) = omega arith in
    (m.0 ∙ y.1.same, rw (e, y.1.first) m.1)

kth : (s u : Records) (k : ℕ) (r : code.Option Span) → SkipsThenYields GivesRecord s k r u → Spans s.rest.section.now r (get_elem? (left s) k)
kth s u k None h =
    let m = records_passed h.0 s h.1.0 h.1.1 (k - length h.0) in
    let e : k ≡ length h.0 + (k - length h.0) = omega (arith, h.2) in
    ap (get_elem? (left s)) e ∙ (m.1 ∙ rw h.1.2.all)
kth s u k (Some x) h =
    let m = records_passed h.0 s h.1.0 h.1.1 0 in
    let e : k ≡ length h.0 + 0 = omega (arith, h.2) in
    let y = h.1.2 in
    let i = subst (λ (b : Bor (List ℕ)). Holds b.now x) m.0 y.holds in
    record { long = i.0; inside = i.1; found = ap (get_elem? (left s)) e ∙ (m.1 ∙ rw (y.first, m.0)) }

-- record k of a section, by the iterator
pub kth_given : (s u : Records) (k : ℕ) (r : code.Option Span) {b : Bor (List ℕ)} {es : List Entry} → s.rest.section ≡ b → left s ≡ es
    → SkipsThenYields GivesRecord s k r u → Spans b.now r (get_elem? es k)
kth_given s u k r e f h = rw (← e, ← f) (kth s u k r h)

records_counted : (xs : List Span) (s t : Records) → Yields GivesRecord s xs t → length (left s) ≡ length xs + length (left t)
records_counted [] s t y = let e : length (left s) ≡ length (left t) = ap (λ (s : Records). length (left s)) y in omega (arith, e)
records_counted (x ∷ xs) s t y =
    let m = records_counted xs y.0 t y.2 in
    let e : length (left s) ≡ suc (length (left y.0)) = rw y.1.first in
    omega (arith, m, e)

-- how many there are, by the iterator
pub count_given : (s : Records) (n : ℕ) → (xs : List Span) × Drains GivesRecord s xs × (n ≡ length xs) → n ≡ length (left s)
count_given s n h =
    let y = h.1.1 in
    let e : length (left y.0) ≡ 0 = rw y.2.all in
    omega (arith, h.2, records_counted h.0 s y.0 y.1, e)

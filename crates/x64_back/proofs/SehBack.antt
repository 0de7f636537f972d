-- What `seh` and COFF's writer wrote, read at its markers.
use mathlib.Core.Path.{◌≡◌, refl, ap, ◌∙◌}
use Prim.Native.Nat.{ℕ, zero, suc, ◌+◌, ◌*◌, ◌≤◌, ◌<◌}
use native.Mathlib.Omega.{arith}
use mathlib.Core.Option.{Option, none, some}
use mathlib.Core.List.{List, [], ◌∷◌, ◌++◌, map, append_assoc, append-nil}
use lib.Dec.{eqb, leb→le}
use lib.ListN.{length, get_or, get_elem?, drop, length-append, length-drop, get_or-append}
use lib.Seq.{drop_at, drop-append-le}
use Rattle.format.specs.Prelude.{pick, Result, good, bad, onward, each}
use Rattle.format.specs.declared.Machine.{Machine}
use Rattle.format.specs.declared.Seh.{Seh}
use Rattle.format.specs.Machine.{machine_of}
use Rattle.format.specs.Constants.{coff}
use Rattle.format.specs.Lists.{Function, Prologue, prologue_stride, function_stride, code_stride, count, prologue_at, prologues_of}
use Rattle.format.specs.Writer.{Written, joined}
use Rattle.format.specs.X64.{codes_of, prologue_of, prologue_no, info_bytes, markers_from, x64}
use Rattle.format.specs.X64Reader.{read_info, read_x64, info_numbers, codes_stored}
use Rattle.format.specs.Questions.{per_function, no_at, code_asks, Room, room_in, room_asks, Answer, accepted, fitting, codes_answer, Prologues, made, stopped, made_one, prologues_for, prologues_answer, windows_answer, Given, given_functions, given_function, no_functions, format_answer, relaxed_table, seh}
use Rattle.format.specs.Answers.{Writes, afterwards}
use Rattle.format.specs.Coded.{Outcome}
use Rattle.x64.proofs.Results.{markers_length}
use Rattle.format.proofs.Choice.{if-le}
use Rattle.format.proofs.Accepted.{asked, both, function_at_lem, passed, not_empty}
use Rattle.format.proofs.ListLaws.{each_get, found_inside}
use Rattle.format.proofs.Copied.{put_front}
use Rattle.x64_back.specs.Given.{frame_codes, given, ReadAsGiven, ReadBack, RowsBack}
use Rattle.x64_back.proofs.InfoBack.{info_back}

-- ---- acceptance

no_no : (k : ℕ) (o : Option ℕ) → no_at k o ≡ none → o ≡ none
unfolding no_at
no_no k none e = refl
no_no k (some n) e = let z : ◌≡◌ {A = ℕ} 0 1 = cc in absurd (omega arith)

asked_at : (at : ℕ) (ps : List Prologue) (k : ℕ) (p : Prologue) → per_function (λ i q. no_at i (prologue_no q.end q.codes)) at ps ≡ none
    → get_elem? ps k ≡ some p → prologue_no p.end p.codes ≡ none
unfolding per_function
asked_at at [] k p e g = let z : ◌≡◌ {A = ℕ} 0 1 = cc in absurd (omega arith)
asked_at at (x ∷ xs) zero p e g = let same : x ≡ p = cc in rw same at (no_no at _ (both _ _ e).0)
asked_at at (x ∷ xs) (suc k) p e g = asked_at (suc at) xs k p (both _ _ e).1 g

-- ---- a marker's place

info_of : Prologue → List ℕ
info_of p = info_bytes p.end p.codes

info_some : (p : Prologue) → 0 < length (info_of p)
unfolding info_of info_bytes
info_some p = omega arith

record Stands (info bytes : List ℕ) (place : ℕ) : Type 0 where
  rest : List ℕ
  there : drop place bytes ≡ info ++ rest

stands : (before : List ℕ) (at : ℕ) (ps : List Prologue) (k : ℕ) (p : Prologue) → length before ≡ at → get_elem? ps k ≡ some p
    → Stands (info_of p) (before ++ joined (map info_of ps)) (get_or (markers_from at ps) k 0)
unfolding markers_from joined info_of
stands before at [] k p l g = let z : ◌≡◌ {A = ℕ} 0 1 = cc in absurd (omega arith)
stands before at (x ∷ xs) zero p l g =
    let same : x ≡ p = cc in
    record { rest = joined (map info_of xs); there = rw (← same) (drop_at before (info_of x ++ joined (map info_of xs)) at l) }
stands before at (x ∷ xs) (suc k) p l g =
    let s = stands (before ++ info_of x) (at + length (info_of x)) xs k p (omega (arith, length-append before (info_of x))) g in
    record { rest = s.rest; there = rw (append_assoc before (info_of x) (joined (map info_of xs))) at s.there }

-- ---- a list of functions with their codes

record Fits (r : Room) (w : Written) : Type 0 where
  places : length w.places ≤ r.places
  sites : length w.sites ≤ r.sites

room_yes : (r : Room) (w : Written) → room_asks r w ≡ none → Fits r w
unfolding room_asks
room_yes r w e =
    let a = both _ _ e in
    let b = both _ _ (both _ _ a.1).1 in
    record {
      places = leb→le (length w.places) r.places (asked _ 51 0 a.0);
      sites = leb→le (length w.sites) r.sites (asked _ 54 0 b.1);
    }

module _ (ps : List Prologue) (r : Room) (w : Written) (e : codes_answer ps r ≡ accepted w) where
  fits : Fits r w
  unfolding codes_answer fitting
  fits =
      let a = passed _ _ _ e in
      let b = passed _ _ _ a.1 in
      let is : x64 ps ≡ w = cc in
      rw is at (room_yes r (x64 ps) b.0)

  many : length w.places ≡ length ps
  unfolding codes_answer fitting x64
  many =
      let a = passed _ _ _ e in
      let b = passed _ _ _ a.1 in
      let is : x64 ps ≡ w = cc in
      rw (← is) (markers_length 0 ps)

  module _ (k : ℕ) (p : Prologue) (g : get_elem? ps k ≡ some p) where
    -- also where something stands behind the infos
    record_back : (tail : List ℕ) → frame_codes p.codes ≤ 1 → (room : ℕ) → code_stride * length p.codes ≤ room
        → read_x64 (w.sites ++ tail) (get_or w.places k 0) room ≡ good (given p)
    unfolding codes_answer code_asks fitting x64 read_x64 onward info_of given
    record_back tail one room h =
        let a = passed _ _ _ e in
        let b = passed _ _ _ a.1 in
        let is : x64 ps ≡ w = cc in
        let place : ℕ = get_or (markers_from 0 ps) k 0 in
        let infos : List ℕ = joined (map info_of ps) in
        let s : Stands (info_of p) infos place = stands [] 0 ps k p refl g in
        let l : place ≤ length infos =
        omega (arith, length-drop place infos, ap length s.there, length-append (info_of p) s.rest, info_some p) in
        let d : drop place (infos ++ tail) ≡ info_of p ++ (s.rest ++ tail) =
        drop-append-le place infos tail l ∙ rw s.there (append_assoc (info_of p) s.rest tail) in
        let i : read_info (drop (get_or w.places k 0) (w.sites ++ tail)) ≡ good (given p) =
        rw (← is) (rw d (info_back p (s.rest ++ tail) (asked_at 0 ps k p a.0 g) one)) in
        rw i (if-le (code_stride * length p.codes) room (good (given p)) (bad 54) h)

-- what the reader makes of a writer's buffers, where its answer is that of prologues: function k is read as it was given
record Read (s' : List ℕ) (place : ℕ) (old ns new : List ℕ) : Type 0 where
  answer : ns ≡ info_numbers (read_x64 s' place (length old))
  stored : new ≡ codes_stored (read_x64 s' place (length old)) old

buffers_back : (ps : List Prologue) (p b q s : List ℕ) (w : Written) → codes_answer ps (room_in p b q s) ≡ accepted w → (k : ℕ) (f : Prologue)
    → get_elem? ps k ≡ some f → {a : Answer} {o : Outcome} {p' b' q' s' ns new : List ℕ} (old : List ℕ) {place : ℕ} → a ≡ accepted w
    → Writes a o p p' b b' q q' s s' → place ≡ get_or p' k 0 → Read s' place old ns new → ReadAsGiven f ns old new
unfolding afterwards
buffers_back ps p b q s w e k f g {p' = p'} {s' = s'} {ns} {new} old {place} is writes at h one room =
    let r : Room = room_in p b q s in
    let fit : Fits r w = fits ps r w e in
    let marks : p' ≡ w.places ++ drop (length w.places) p = (rw is at writes.placed) ∙ put_front p w.places fit.places in
    let infos : s' ≡ w.sites ++ drop (length w.sites) s = (rw is at writes.sited) ∙ put_front s w.sites fit.sites in
    let there : place ≡ get_or w.places k 0 =
    at ∙ rw marks (get_or-append w.places (drop (length w.places) p) 0 k (omega (arith, many ps r w e, found_inside ps k g))) in
    let read : read_x64 s' place (length old) ≡ good (given f) =
    rw (infos, there) (record_back ps r w e k f g (drop (length w.sites) s) one (length old) room) in
    (rw read at h.answer, rw read at h.stored)

-- ---- direct codes

-- function k of a list that was accepted
record Direct (fs codes : List ℕ) (r : Room) (w : Written) (k : ℕ) : Type 0 where
  prologues : List Prologue
  answer : codes_answer prologues r ≡ accepted w
  found : get_elem? prologues k ≡ some (prologue_at fs codes k)

direct : (fs codes : List ℕ) (r : Room) (w : Written) → seh fs codes r ≡ accepted w
    → (k : ℕ) → k < count prologue_stride fs → Direct fs codes r w k
unfolding seh prologues_of
direct fs codes r w e k h =
    let a = passed _ _ _ (not_empty (eqb (count prologue_stride fs) 0) _ w e) in
    record {
      prologues = each (prologue_at fs codes) 0 (count prologue_stride fs);
      answer = (passed _ _ _ a.1).1;
      found =
          each_get (prologue_at fs codes) 0 (count prologue_stride fs) k h
          ∙ ap (λ (i : ℕ). some (prologue_at fs codes i)) (omega arith);
    }

-- What `seh` wrote of function k, with at most one frame code, reads at its marker as it was given.
pub seh_back : (fs codes : List ℕ) (r : Room) (w : Written) → seh fs codes r ≡ accepted w
    → (k : ℕ) → k < count prologue_stride fs → frame_codes (prologue_at fs codes k).codes ≤ 1
    → (room : ℕ) → code_stride * length (prologue_at fs codes k).codes ≤ room
    → read_x64 w.sites (get_or w.places k 0) room ≡ good (given (prologue_at fs codes k))
seh_back fs codes r w e k h one room l =
    let d = direct fs codes r w e k h in
    let f : Prologue = prologue_at fs codes k in
    rw (append-nil w.sites) at (record_back d.prologues r w d.answer k f d.found [] one room l)

-- `seh`, and then the reader on its buffers
pub together : (fs codes p b q s : List ℕ) {p' b' q' s' ns new : List ℕ} (old : List ℕ) {o : Outcome} (k : ℕ) {place : ℕ}
    → Writes (seh fs codes (room_in p b q s)) o p p' b b' q q' s s' → place ≡ get_or p' k 0
    → ns ≡ info_numbers (read_x64 s' place (length old)) → new ≡ codes_stored (read_x64 s' place (length old)) old
    → ReadBack fs codes (seh fs codes (room_in p b q s)) k ns old new
together fs codes p b q s old k writes at h n w e l =
    let d = direct fs codes (room_in p b q s) w e k l in
    buffers_back d.prologues p b q s w d.answer k (prologue_at fs codes k) d.found old e writes at
    (record { answer = h; stored = n })

-- ---- COFF: the codes by a function's rows

record MadeOne (f : Function) (o : Result (List (ℕ × Seh))) (qs : Prologues) (ps : List Prologue) : Type 0 where
  codes : List (ℕ × Seh)
  others : List Prologue
  are : o ≡ good codes
  rest : qs ≡ made others
  all : ps ≡ prologue_of f codes ∷ others

made_one_lem : (at : ℕ) (f : Function) (o : Result (List (ℕ × Seh))) (qs : Prologues) (ps : List Prologue)
    → made_one at (onward o λ cs. good (prologue_of f cs)) qs ≡ made ps → MadeOne f o qs ps
unfolding made_one onward
made_one_lem at f (bad n) qs ps e = let z : ◌≡◌ {A = ℕ} 0 1 = cc in absurd (omega arith)
made_one_lem at f (good cs) (made others) ps e = record { codes = cs; others = others; are = refl; rest = refl; all = cc }
made_one_lem at f (good cs) (stopped n k) ps e = let z : ◌≡◌ {A = ℕ} 0 1 = cc in absurd (omega arith)

record MadeAt (m : Machine) (f : Function) (ps : List Prologue) (k : ℕ) : Type 0 where
  codes : List (ℕ × Seh)
  are : codes_of m f ≡ good codes
  there : get_elem? ps k ≡ some (prologue_of f codes)

made_first : (m : Machine) (x f : Function) (ps : List Prologue) (cs : List (ℕ × Seh)) (others : List Prologue) → codes_of m x ≡ good cs
    → ps ≡ prologue_of x cs ∷ others → x ≡ f → MadeAt m f ps 0
made_first m x f ps cs others e a same = record { codes = cs; are = rw same at e; there = rw (a, same) }

made_at : (m : Machine) (at : ℕ) (fs : List Function) (ps : List Prologue) (k : ℕ) (f : Function) → prologues_for m at fs ≡ made ps
    → get_elem? fs k ≡ some f → MadeAt m f ps k
unfolding prologues_for
made_at m at [] ps k f e g = let z : ◌≡◌ {A = ℕ} 0 1 = cc in absurd (omega arith)
made_at m at (x ∷ xs) ps zero f e g =
    let o = made_one_lem at x (codes_of m x) (prologues_for m (suc at) xs) ps e in
    made_first m x f ps o.codes o.others o.are o.all (cc)
made_at m at (x ∷ xs) ps (suc k) f e g =
    let o = made_one_lem at x (codes_of m x) (prologues_for m (suc at) xs) ps e in
    let r = made_at m (suc at) xs o.others k f o.rest g in
    record { codes = r.codes; are = r.are; there = ap (λ l. get_elem? l (suc k)) o.all ∙ r.there }

record Answered (q : Prologues) (r : Room) (w : Written) : Type 0 where
  prologues : List Prologue
  are : q ≡ made prologues
  answer : codes_answer prologues r ≡ accepted w

answered : (q : Prologues) (r : Room) (w : Written) → prologues_answer q r ≡ accepted w → Answered q r w
unfolding prologues_answer
answered (made ps) r w e = record { prologues = ps; are = refl; answer = e }
answered (stopped n k) r w e = let z : ◌≡◌ {A = ℕ} 0 1 = cc in absurd (omega arith)

-- function k of a list that was accepted in COFF
record ByRows (g : Given) (r : Room) (w : Written) (k : ℕ) : Type 0 where
  prologues : List Prologue
  answer : codes_answer prologues r ≡ accepted w
  made : MadeAt (machine_of g.machine) (given_function g k) prologues k

by_rows : (g : Given) (r : Room) (w : Written) → relaxed_table coff g r ≡ accepted w
    → (k : ℕ) → k < count function_stride g.functions → ByRows g r w k
unfolding relaxed_table format_answer windows_answer pick
by_rows g r w e k h =
    let m : Machine = machine_of g.machine in
    let a = passed _ _ _ (not_empty (no_functions g) _ w e) in
    let c = answered (prologues_for m 0 (given_functions g)) r w (passed _ _ _ a.1).1 in
    record {
      prologues = c.prologues;
      answer = c.answer;
      made = made_at m 0 (given_functions g) c.prologues k (given_function g k) c.are (function_at_lem g k h);
    }

-- What `relaxed_table` wrote in COFF: function k's rows have codes, and where at most one of them is a frame code
-- its record reads as these.
pub record CoffBack (g : Given) (w : Written) (k : ℕ) : Type 0 where
  pub codes : List (ℕ × Seh)
  pub are : codes_of (machine_of g.machine) (given_function g k) ≡ good codes
  pub back : frame_codes codes ≤ 1 → (room : ℕ) → code_stride * length codes ≤ room
      → read_x64 w.sites (get_or w.places k 0) room ≡ good (given (prologue_of (given_function g k) codes))

pub coff_back : (g : Given) (r : Room) (w : Written) → relaxed_table coff g r ≡ accepted w
    → (k : ℕ) → k < count function_stride g.functions → CoffBack g w k
unfolding prologue_of
coff_back g r w e k h =
    let d = by_rows g r w e k h in
    let f : Prologue = prologue_of (given_function g k) d.made.codes in
    record {
      codes = d.made.codes;
      are = d.made.are;
      back = λ one room l.
          rw (append-nil w.sites) at (record_back d.prologues r w d.answer k f d.made.there [] one room l);
    }

-- `relaxed_table` in COFF, and then the reader on its buffers
pub rows_together : (g : Given) (p b q s : List ℕ) {p' b' q' s' ns new : List ℕ} (old : List ℕ) {o : Outcome} (k : ℕ) {place : ℕ}
    → Writes (relaxed_table coff g (room_in p b q s)) o p p' b b' q q' s s' → place ≡ get_or p' k 0
    → ns ≡ info_numbers (read_x64 s' place (length old)) → new ≡ codes_stored (read_x64 s' place (length old)) old
    → RowsBack g (relaxed_table coff g (room_in p b q s)) k ns old new
rows_together g p b q s old k writes at h n w e l =
    let d = by_rows g (room_in p b q s) w e k l in
    record {
      codes = d.made.codes;
      are = d.made.are;
      read =
          buffers_back d.prologues p b q s w d.answer k (prologue_of (given_function g k) d.made.codes) d.made.there
          old e writes at (record { answer = h; stored = n });
    }

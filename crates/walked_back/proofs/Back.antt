-- The walk by what a writer wrote is the walk by the rows.
use mathlib.Core.Path.{◌≡◌, refl, sym, ap, subst, ◌∙◌}
use Prim.Native.Nat.{ℕ, zero, suc, ◌+◌, ◌*◌, ◌/◌, ◌<◌, ◌≤◌}
use native.Mathlib.Omega.{arith}
use mathlib.Core.Bool.{Bool, true, false, ◌||◌}
use mathlib.Core.Option.{some}
use mathlib.Core.List.{List, [], ◌∷◌}
use lib.Dec.{T, eqb, eqb→eq}
use lib.ListN.{length, take, get_or, get_elem?}
use lib.Seq.{get_or-take}
use Rattle.std.specs.Prelude.{All}
use Rattle.format.specs.Prelude.{pick, Result, good, bad}
use Rattle.format.specs.Put.{put}
use Rattle.format.proofs.PutLaws.{front_is}
use Rattle.format.specs.Coded.{Outcome}
use Rattle.format.specs.declared.Section.{Section}
use Rattle.format.specs.declared.Section.TheVariants.{Elf, Debug}
use Rattle.format.specs.Machine.{machine_ok, machine_of}
use Rattle.format.specs.Lists.{count, field, numbers_of}
use Rattle.format.specs.Writer.{Written}
use Rattle.format.specs.Questions.{Given, Room, Answer, accepted, no_functions, given_asks, dwarf_given, format_answer, relaxed_table, relaxed_debug_frame}
use Rattle.format.specs.Answers.{bit, outcome_of, relocation_numbers}
use Rattle.format.proofs.Accepted.{asked, both, dwarf_written, passed, not_empty}
use Rattle.format.proofs.ListLaws.{each_get, each-length, found_inside}
use Rattle.format.proofs.ReadBack.{kind_of}
use Rattle.format.proofs.Choice.{is_true}
use Rattle.unwind.specs.Together.{answer_for, bytes_in, relocs_in}
use Rattle.unwind.specs.Demand.{dwarf_output}
use Rattle.unwind.proofs.Demands.{accepted_by}
use Rattle.unwind.proofs.Fronts.{Fronts, bytes_of, relocs_of}
use Rattle.walk.specs.declared.Frame.{Frame}
use Rattle.walk.specs.Visited.{visited}
use Rattle.walk.specs.Walk.{Source, Placed, Chain, placed_at, placed_of, frame_numbers, walk_by, by_section, by_rows}
use Rattle.walk.proofs.ByRows.{Listed, chain_by_rows, chain_by_section}
use Rattle.walk.proofs.VisitedFrames.{positions, Lists, walk_lists}
use Rattle.walk.proofs.OwnNumbers.{Only, own_numbers}
use Rattle.walked.specs.Entry as entry
use Rattle.walked.specs.Entry.{chain_numbers, chain_stored}
use Rattle.walked.specs.declared.Answer as code
use Rattle.walked_back.specs.Together.{walk_for, Placing, not_readers, ByRows, WalkedBack, WalksBack}

-- ---- what is placed is what was written

module _ (g : Given) (placed : List ℕ) where
  placed_in : (k : ℕ) (f : Placed) → get_elem? (placed_of placed) k ≡ some f → k < count 2 placed
  unfolding placed_of
  placed_in k f e = omega (arith, found_inside (placed_of placed) k e, each-length (placed_at placed) 0 (count 2 placed))

  placed_size : (k : ℕ) (f : Placed) → get_elem? (placed_of placed) k ≡ some f → field 2 placed k 1 ≡ f.size
  unfolding placed_of placed_at
  placed_size k f e =
      let d = each_get (placed_at placed) 0 (count 2 placed) k (placed_in k f e) in
      let z : 0 + k ≡ k = omega arith in
      let s : some (placed_at placed k) ≡ some f = sym (ap (λ (i : ℕ). some (placed_at placed i)) z) ∙ sym d ∙ e in
      let same : placed_at placed k ≡ f = cc in
      ap (λ (x : Placed). x.size) same

  listed : (k : ℕ) → Placing g placed k → Listed g (placed_of placed) k
  listed k p = record { there = p.there; plain = p.plain; checked = p.checked; lengths = λ f e. sym (placed_size k f e) ∙ p.lengths }

  all_listed : (ks : List ℕ) → All (Placing g placed) ks → All (Listed g (placed_of placed)) ks
  all_listed ks all = λ i d h. listed (get_or ks i d) (all i d h)

-- ---- a list that was accepted has a machine

given_machine : (s : Section) (g : Given) (r : Room) (w : Written) → dwarf_given s g r ≡ accepted w → T (machine_ok g.machine)
unfolding dwarf_given given_asks
given_machine s g r w e = asked _ _ _ (both _ _ (passed (given_asks g) _ w e).0).0

has_machine : (s : Section) (g : Given) (r : Room) (w : Written) → dwarf_written s g r ≡ accepted w → T (machine_ok g.machine)
unfolding dwarf_written relaxed_table relaxed_debug_frame format_answer pick
has_machine Elf g r w e = given_machine Elf g r w (not_empty (no_functions g) _ w e)
has_machine Debug g r w e = given_machine Debug g r w (not_empty (no_functions g || false) _ w e)

-- ---- the walk

-- with another word no rules are asked for
other_word : (source other : Source) (machine file : List ℕ) (pc stack : ℕ) (functions : List ℕ) (room : ℕ) → eqb (machine_of machine).word 8 ≡ false
    → walk_by source machine file pc stack functions room ≡ walk_by other machine file pc stack functions room
unfolding walk_by pick
other_word source other machine file pc stack functions room e = rw e

module _ (s : Section) (g : Given) (r : Room) (w : Written) (e : dwarf_written s g r ≡ accepted w) (file : List ℕ) (pc stack : ℕ) (placed : List ℕ) where
  abbrev source : Source
  source = by_section w.bytes (numbers_of w.relocations) (kind_of s)

  abbrev Same : ℕ → Type 0
  Same room = walk_by source g.machine file pc stack placed room ≡ walk_by (by_rows g) g.machine file pc stack placed room

  by_word : (b : Bool) → eqb (machine_of g.machine).word 8 ≡ b → (room : ℕ) → ((machine_of g.machine).word ≡ 8 → Same room) → Same room
  by_word true d room same = same (eqb→eq (machine_of g.machine).word 8 (rw d tt))
  by_word false d room same = other_word _ _ g.machine file pc stack placed room d

  by_rows_visited : (room : ℕ) → All (Placing g placed) (visited (by_rows g) g.machine file pc stack placed) → Same room
  by_rows_visited room all =
      by_word (eqb (machine_of g.machine).word 8) refl room λ d. chain_by_rows s g r w e d g.machine file pc stack placed room (all_listed g placed _ all)

  by_section_visited : (room : ℕ) → All (Placing g placed) (visited source g.machine file pc stack placed) → Same room
  by_section_visited room all =
      by_word (eqb (machine_of g.machine).word 8) refl room λ d. chain_by_section s g r w e d g.machine file pc stack placed room (all_listed g placed _ all)

-- ---- the frames that were listed, as numbers

frame_number : (fs : List Frame) (i d : ℕ) → i < length fs → get_or (frame_numbers fs) (2 * i) 0 ≡ get_or (positions fs) i d
unfolding frame_numbers
frame_number [] i d h = absurd (omega arith)
frame_number (f ∷ fs) zero d h = refl
frame_number (f ∷ fs) (suc i) d h = let x : 2 * suc i ≡ suc (suc (2 * i)) = omega arith in rw x (frame_number fs i d (omega arith))

frames_length : (fs : List Frame) → length (frame_numbers fs) ≡ 2 * length fs
unfolding frame_numbers
frames_length [] = refl
frames_length (f ∷ fs) = let h = frames_length fs in omega (arith, h)

positions_length : (fs : List Frame) → length (positions fs) ≡ length fs
positions_length [] = refl
positions_length (f ∷ fs) = ap suc (positions_length fs)

module _ (P : ℕ → Type 0) (old new : List ℕ) (x : code.Answer) where
  listed_frames : (fs : List Frame) → length fs ≤ length old / 2 → x.frames ≡ length fs → new ≡ put old 0 (frame_numbers fs)
      → ((i : ℕ) → i < x.frames → P (field 2 new i 0)) → All P (positions fs)
  listed_frames fs fit n q all i d h =
      let m : i < length fs = omega (arith, positions_length fs, h) in
      let room : length (frame_numbers fs) ≤ length old = omega (arith, frames_length fs, fit) in
      let inside : 2 * i < length (frame_numbers fs) = omega (arith, frames_length fs, m) in
      let here : 2 * i + 0 ≡ 2 * i = omega arith in
      let front : take (length (frame_numbers fs)) new ≡ frame_numbers fs = rw q (front_is old (frame_numbers fs) room) in
      let number : field 2 new i 0 ≡ get_or (positions fs) i d
      = ap (λ (j : ℕ). get_or new j 0) here ∙ sym (get_or-take (length (frame_numbers fs)) new (2 * i) 0 inside) ∙ ap (λ (ns : List ℕ). get_or ns (2 * i) 0) front ∙ frame_number fs i d m in
      subst P number (all i (rw n m))

  listed_visited : (ks : List ℕ) (c : Result Chain) → Lists (length old) ks c → entry.numbers_of x ≡ chain_numbers c → new ≡ chain_stored c old → 0 < x.ending
      → ((i : ℕ) → i < x.frames → P (field 2 new i 0)) → All P ks
  unfolding chain_numbers chain_stored
  listed_visited ks (good c) l n q ended all =
      let frames : x.frames ≡ length c.frames = cc in
      subst (All P) l.0 (listed_frames c.frames l.1 frames q all)
  listed_visited ks (bad k) l n q ended all = let none : x.ending ≡ 0 = cc in absurd (omega arith)

number_only : (x : Result Chain) (a : code.Answer) → entry.numbers_of a ≡ chain_numbers x → Only not_readers x → T (not_readers a.number)
unfolding chain_numbers not_readers
number_only (good c) a e h = let z : a.number ≡ 0 = cc in rw z tt
number_only (bad n) a e h = let z : a.number ≡ n = cc in rw z h

rows_only : (g : Given) (file : List ℕ) (pc stack : ℕ) (placed : List ℕ) (room : ℕ) → T (machine_ok g.machine) → Only not_readers (walk_by (by_rows g) g.machine file pc stack placed room)
unfolding not_readers by_rows
rows_only g file pc stack placed room t =
    own_numbers not_readers tt tt (by_rows g) (λ k p. tt) tt tt tt g.machine file pc stack placed room (is_true (machine_ok g.machine) t)

module _ (s : Section) (debug : Bool) (g : Given) (w : Written) (a : Answer) (o : Outcome) (bytes relocations : List ℕ) (f : Fronts a o bytes relocations) (e : a ≡ accepted w) where
  walk_accepted : kind_of s ≡ bit debug → (file : List ℕ) (pc stack : ℕ) (placed : List ℕ) (room : ℕ)
      → walk_for debug g.machine o bytes relocations file pc stack placed room
      ≡ walk_by (by_section w.bytes (numbers_of w.relocations) (kind_of s)) g.machine file pc stack placed room
  unfolding walk_for bytes_of relocs_of relocation_numbers
  walk_accepted b file pc stack placed room = rw (f.bytes_are, f.relocations_are, e, b)

  module _ (r : Room) (file : List ℕ) (pc stack : ℕ) (placed old : List ℕ) (x : code.Answer) (new : List ℕ)
      (n : entry.numbers_of x ≡ chain_numbers (walk_for debug g.machine o bytes relocations file pc stack placed (length old)))
      (q : new ≡ chain_stored (walk_for debug g.machine o bytes relocations file pc stack placed (length old)) old)
      (d : a ≡ dwarf_written s g r) (b : kind_of s ≡ bit debug) where
    by_rows_lem : Same s g r w (sym d ∙ e) file pc stack placed (length old) → ByRows g file pc stack placed old x new
    by_rows_lem h =
        let same = walk_accepted b file pc stack placed (length old) ∙ h in
        let m = rw same at n in
        record { answer = m; stored = rw same at q; number = number_only _ x m (rows_only g file pc stack placed (length old) (has_machine s g r w (sym d ∙ e))) }

    both_ways : WalkedBack g file pc stack placed old x new
    both_ways =
        let y = sym d ∙ e in
        let source : Source = by_section w.bytes (numbers_of w.relocations) (kind_of s) in
        let z = walk_accepted b file pc stack placed (length old) in
        record {
          by_visited = λ all. by_rows_lem (by_rows_visited s g r w y file pc stack placed (length old) all);
          by_listed = λ ended all.
              by_rows_lem
              (by_section_visited s g r w y file pc stack placed (length old)
              (listed_visited (Placing g placed) old new x (visited source g.machine file pc stack placed) (walk_by source g.machine file pc stack placed (length old))
              (walk_lists source g.machine file pc stack placed (length old)) (rw z at n) (rw z at q) ended all));
        }

pub walks_back : (debug : Bool) (format : ℕ) (g : Given) (r : Room) (o : Outcome) (bytes relocations file : List ℕ) (pc stack : ℕ) (placed old : List ℕ) (x : code.Answer) (new : List ℕ)
    → o ≡ outcome_of (answer_for debug format g r) → Fronts (answer_for debug format g r) o bytes relocations
    → entry.numbers_of x ≡ chain_numbers (walk_for debug g.machine o bytes relocations file pc stack placed (length old))
    → new ≡ chain_stored (walk_for debug g.machine o bytes relocations file pc stack placed (length old)) old
    → WalksBack format g o file pc stack placed old x new
unfolding answer_for pick dwarf_written bit dwarf_output
walks_back true format g r o bytes relocations file pc stack placed old x new e f n q c t y =
    let w = accepted_by _ c (sym y ∙ e) in
    both_ways Debug true g w.0 _ o bytes relocations f w.1 r file pc stack placed old x new n q (rw (eqb→eq format 0 t) refl) refl
walks_back false format g r o bytes relocations file pc stack placed old x new e f n q c t y =
    let w = accepted_by _ c (sym y ∙ e) in
    both_ways Elf false g w.0 _ o bytes relocations f w.1 r file pc stack placed old x new n q (rw (eqb→eq format 0 t) refl) refl

-- the walk that the code makes, as the definition
pub walk_of : (debug : Bool) (machine : List ℕ) (o : Outcome) (bytes relocations file : List ℕ) (pc stack : ℕ) (placed : List ℕ) (room n m kind : ℕ)
    → n ≡ bytes_in o → m ≡ 5 * relocs_in o → kind ≡ bit debug
    → walk_by (by_section (take n bytes) (take m relocations) kind) machine file pc stack placed room ≡ walk_for debug machine o bytes relocations file pc stack placed room
unfolding walk_for
walk_of debug machine o bytes relocations file pc stack placed room n m kind en em ek = rw (en, em, ek)

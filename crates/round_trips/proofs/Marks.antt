-- What a writer wrote is spelled shortest wherever the reader reads it.
use mathlib.Core.Path.{◌≡◌, refl, sym, ap, ◌∙◌}
use Prim.Native.Nat.{ℕ, ◌*◌}
use mathlib.Core.Bool.{Bool, true, false}
use mathlib.Core.List.{List, [], ◌∷◌}
use lib.Dec.{eqb→eq}
use lib.ListN.{take, drop, get_or}
use lib.Seq.{drop_at}
use Rattle.std.specs.Prelude.{Ok, Err}
use Rattle.format.specs.Prelude.{pick}
use Rattle.format.specs.declared.Rules.{Rules}
use Rattle.format.specs.declared.Section.{Section}
use Rattle.format.specs.declared.Section.TheVariants.{Elf, Debug}
use Rattle.format.specs.Coded.{Outcome, Reading}
use Rattle.format.specs.Machine.{machine_of}
use Rattle.format.specs.Writer.{Written}
use Rattle.format.specs.Questions.{Given, Room, Answer, accepted}
use Rattle.format.specs.Answers.{bit, outcome_of, relocation_numbers, reading_numbers, mark_of, marked_numbers}
use Rattle.format.specs.Reader.{shortest_at}
use Rattle.format.proofs.Accepted.{dwarf_written}
use Rattle.format.proofs.ReadBack.{kind_of, shortest_back, written_shortest}
use Rattle.unwind.specs.Entries.{read_numbers}
use Rattle.unwind.specs.Together.{answer_for, bytes_in, relocs_in, reading_for}
use Rattle.unwind.specs.Demand.{dwarf_output}
use Rattle.unwind.specs.declared.Numbers.{Numbers}
use Rattle.unwind.proofs.Demands.{accepted_by, read_accepted}
use Rattle.unwind.proofs.Fronts.{Fronts, bytes_of, relocs_of}
use Rattle.listing.specs.Lines.{line_numbers}
use Rattle.listing.proofs.StoredLines.{line_length}
use Rattle.round_trips.specs.Marked.{mark_for, Marked}
use Rattle.round_trips.proofs.Refusals.{reader_not_zero}

-- the reader on the fronts of the buffers
pub mark_written : (debug : Bool) (machine : List ℕ) (o : Outcome) (bytes relocations : List ℕ) (n m kind word k p : ℕ)
    → n ≡ bytes_in o → m ≡ 5 * relocs_in o → kind ≡ bit debug → word ≡ get_or machine 0 0
    → shortest_at (take n bytes) (take m relocations) kind word k p ≡ mark_for debug machine o bytes relocations k p
unfolding mark_for
mark_written debug machine o bytes relocations n m kind word k p en em ek ew = rw (en, em, ek, ew) refl

abbrev refused_by : ℕ → Reading
refused_by n = Err n

-- the last number of an answer
last_number : (x : Numbers) (a : Rules) (b : Bool) → read_numbers x ≡ marked_numbers (Ok a) b → x.shortest ≡ bit b
unfolding marked_numbers mark_of reading_numbers line_numbers
last_number x a b e =
    let d : x.shortest ∷ [] ≡ bit b ∷ [] = ap (drop 7) e ∙ drop_at (line_numbers 0 a) (bit b ∷ []) 7 (line_length 0 a) in
    cc

first_number : (x : Numbers) (n : ℕ) (b : Bool) → read_numbers x ≡ marked_numbers (Err n) b → x.number ≡ n
unfolding marked_numbers reading_numbers
first_number x n b e = cc

module _ (s : Section) (debug : Bool) (g : Given) (w : Written) (a : Answer) (o : Outcome) (bytes relocations : List ℕ) (k q p : ℕ)
    (f : Fronts a o bytes relocations) (e : a ≡ accepted w) (b : kind_of s ≡ bit debug) where
  mark_accepted : mark_for debug g.machine o bytes relocations k p ≡ shortest_back s g w k p
  unfolding mark_for bytes_of relocs_of relocation_numbers machine_of
  mark_accepted = rw (f.bytes_are, f.relocations_are, e, b) refl

  module _ (r : Room) (d : a ≡ dwarf_written s g r) (x : Numbers)
      (n : read_numbers x ≡ marked_numbers (reading_for debug g.machine o bytes relocations k q p) (mark_for debug g.machine o bytes relocations k p)) where
    by_reading : (y : Reading) → reading_for debug g.machine o bytes relocations k q p ≡ y → x.number ≡ 0 → x.shortest ≡ 1
    unfolding reading_for bit
    by_reading (Ok rules) is zero =
        let m = mark_accepted ∙ written_shortest s g r w (sym d ∙ e) k q p rules (sym (read_accepted s debug g w a o bytes relocations k q p f e b) ∙ is) in
        last_number x rules true (rw (is, m) at n)
    by_reading (Err j) is zero =
        let z : j ≡ 0 = sym (first_number x j _ (rw is at n)) ∙ zero in
        absurd (reader_not_zero _ _ _ _ k q p (is ∙ ap (λ (i : ℕ). refused_by i) z))

pub marked : (debug : Bool) (format : ℕ) (g : Given) (r : Room) (o : Outcome) (bytes relocations : List ℕ) (k q p : ℕ) (x : Numbers)
    → o ≡ outcome_of (answer_for debug format g r) → Fronts (answer_for debug format g r) o bytes relocations
    → read_numbers x ≡ marked_numbers (reading_for debug g.machine o bytes relocations k q p) (mark_for debug g.machine o bytes relocations k p)
    → Marked format o x
unfolding answer_for pick dwarf_written bit dwarf_output
marked true format g r o bytes relocations k q p x e f n c t y =
    let w = accepted_by _ c (sym y ∙ e) in
    by_reading Debug true g w.0 _ o bytes relocations k q p f w.1 refl r (rw (eqb→eq format 0 t) refl) x n (reading_for true g.machine o bytes relocations k q p) refl
marked false format g r o bytes relocations k q p x e f n c t y =
    let w = accepted_by _ c (sym y ∙ e) in
    by_reading Elf false g w.0 _ o bytes relocations k q p f w.1 refl r (rw (eqb→eq format 0 t) refl) x n (reading_for false g.machine o bytes relocations k q p) refl

-- Demand 3 of a writer and the reader behind it.
use mathlib.Core.Path.{◌≡◌, refl, sym, ap, subst, ◌∙◌}
use Prim.Native.Nat.{ℕ, ◌<◌, ◌≤◌}
use mathlib.Core.Bool.{Bool, true, false}
use mathlib.Core.List.{List, [], ◌∷◌}
use lib.Dec.{T, ltb, ltb→lt, eqb→eq}
use lib.ListN.{take}
use Rattle.format.specs.Prelude.{pick, each}
use Rattle.format.specs.declared.Counts.{Counts}
use Rattle.format.specs.Coded.{Outcome}
use Rattle.std.specs.Prelude.{Some, None, Ok, Err}
use Rattle.format.specs.declared.Section.{Section}
use Rattle.format.specs.declared.Section.TheVariants.{Elf, Debug}
use Rattle.format.specs.Coded.{Reading}
use Rattle.format.specs.Machine.{machine_of}
use Rattle.format.specs.Lists.{function_stride, row_stride, field, count, inside, all_in, row_ok_at, mark_ok, mark, row_at}
use Rattle.format.specs.Writer.{Written}
use Rattle.format.specs.Questions.{Given, Room, Answer, refused, empty, accepted}
use Rattle.format.specs.Answers.{bit, outcome_of, relocation_numbers}
use Rattle.format.specs.Reader.{entries}
use Rattle.format.specs.RowCheck.{row_check, row_check_at}
use Rattle.format.proofs.Accepted.{dwarf_written}
use Rattle.format.proofs.ListLaws.{chained}
use Rattle.format.proofs.ReadBack.{kind_of, read_back, demand_3}
use Rattle.unwind.specs.Demand.{dwarf_output, Demand, Demanded}
use Rattle.unwind.specs.Together.{answer_for, bytes_in, reading_for}
use Rattle.unwind.proofs.Fronts.{Fronts, bytes_of, relocs_of}

-- an outcome that is an acceptance is an accepted answer's
abbrev is_accepted : Outcome → Bool
is_accepted (Ok (Some c)) = true
is_accepted (Ok None) = false
is_accepted (Err r) = false

pub accepted_by : (a : Answer) (c : Counts) → Ok (Some c) ≡ outcome_of a → (w : Written) × (a ≡ accepted w)
unfolding outcome_of
accepted_by (refused n k) c e = absurd (subst (λ (o : Outcome). T (is_accepted o)) e tt)
accepted_by empty c e = absurd (subst (λ (o : Outcome). T (is_accepted o)) e tt)
accepted_by (accepted w) c e = (w, refl)

-- a function that passes the row check is one of the list
checked_in : (fs rows : List ℕ) (k : ℕ) → T (row_check_at fs rows k) → k < count function_stride fs
unfolding row_check_at
checked_in fs rows k t =
    let f : ℕ → ℕ = λ j. field function_stride fs k j in
    ltb→lt k (count function_stride fs)
    (chained (ltb k (count function_stride fs))
    (mark_ok (f 6) ∷ inside (f 2) (f 3) (count row_stride rows) ∷ all_in (row_ok_at rows) (f 2) (f 3)
    ∷ row_check (mark (f 6)) (each (row_at rows) (f 2) (f 3)) ∷ []) 0 t)

module _ (s : Section) (debug : Bool) (g : Given) (w : Written) (a : Answer) (o : Outcome) (bytes relocations : List ℕ) (k q p : ℕ)
    (f : Fronts a o bytes relocations) (e : a ≡ accepted w) where
  front_is : take (bytes_in o) bytes ≡ w.bytes
  unfolding bytes_of
  front_is = f.bytes_are ∙ ap bytes_of e

  pub read_accepted : kind_of s ≡ bit debug → reading_for debug g.machine o bytes relocations k q p ≡ read_back s g w k q p
  unfolding reading_for relocs_of relocation_numbers machine_of
  read_accepted b = rw (front_is, f.relocations_are, e, b) refl

  demand : (r : Room) (c : Counts) (reading : Reading) → reading ≡ reading_for debug g.machine o bytes relocations k q p → q ≤ 65535
      → o ≡ Ok (Some c) → a ≡ dwarf_written s g r → kind_of s ≡ bit debug → Demand g k q p (take c.bytes bytes) reading
  unfolding bytes_in
  demand r c reading h small y d b =
      let x = demand_3 s g r w (sym d ∙ e) in
      let n : c.bytes ≡ bytes_in o = sym (ap bytes_in y) in
      record {
        tiles = (x.0.0, rw n (ap entries front_is ∙ x.0.1));
        rules = λ plain check below. h ∙ (read_accepted b ∙ x.1 k q p (checked_in g.functions g.rows k check) plain check small below);
      }

pub demanded : (debug : Bool) (format : ℕ) (g : Given) (r : Room) (o : Outcome) (bytes relocations : List ℕ) (k q p : ℕ) (reading : Reading)
    → q ≤ 65535 → o ≡ outcome_of (answer_for debug format g r) → Fronts (answer_for debug format g r) o bytes relocations
    → reading ≡ reading_for debug g.machine o bytes relocations k q p → Demanded format g o bytes k q p reading
unfolding answer_for pick dwarf_written bit dwarf_output
demanded true format g r o bytes relocations k q p reading small e f h c t y =
    let w = accepted_by _ c (sym y ∙ e) in
    demand Debug true g w.0 _ o bytes relocations k q p f w.1 r c reading h small y (rw (eqb→eq format 0 t) refl) refl
demanded false format g r o bytes relocations k q p reading small e f h c t y =
    let w = accepted_by _ c (sym y ∙ e) in
    demand Elf false g w.0 _ o bytes relocations k q p f w.1 r c reading h small y (rw (eqb→eq format 0 t) refl) refl

-- What the writer wrote is what the check is handed, and it passes.
use mathlib.Core.Path.{◌≡◌, refl, sym, ap, ◌∙◌}
use mathlib.Core.Bool.{false}
use mathlib.Core.List.{List}
use Prim.Native.Nat.{ℕ}
use lib.ListN.{get_or, take}
use Rattle.format.specs.Constants.{elf}
use Rattle.format.specs.Coded.{Outcome}
use Rattle.format.specs.declared.Section.TheVariants.{Elf}
use Rattle.format.specs.Machine.{machine_of}
use Rattle.format.specs.Writer.{Written}
use Rattle.format.specs.Questions.{Given, Room, accepted, relaxed_table}
use Rattle.format.specs.Answers.{outcome_of}
use Rattle.format.proofs.Accepted.{dwarf_written}
use Rattle.format.specs.Prelude.{pick}
use Rattle.unwind.specs.Together.{bytes_in, answer_for}
use Rattle.unwind.proofs.Fitting.{FitsIn, answer_fits}
use Rattle.unwind.proofs.Demands.{accepted_by}
use Rattle.unwind.proofs.Fronts.{Fronts, bytes_of}
use Rattle.section_check.specs.Check.{saying, check_section}
use Rattle.section_check.specs.declared.Checked.{Checked}
use Rattle.section_check.proofs.OwnSections.{AllRun, own_sections_pass}
use Rattle.checked_back.specs.Together.{check_for, PassesBack}

pub table_fits : (room : Room) (format : ℕ) (g : Given) → FitsIn room (relaxed_table format g room)
unfolding answer_for pick
table_fits room format g = answer_fits room false format g

-- the check of the fronts
pub check_of : (machine : List ℕ) (o : Outcome) (bytes : List ℕ) {n word : ℕ} {r : Checked} → n ≡ bytes_in o → word ≡ get_or machine 0 0
    → r ≡ check_section (take n bytes) word → r ≡ check_for machine o bytes
unfolding check_for
check_of machine o bytes en ew e = e ∙ rw (en, ew) refl

module _ (format : ℕ) (g : Given) (room : Room) (o : Outcome) (bytes relocations : List ℕ) (r : Checked) where
  passes_as : (w : Written) → Fronts (relaxed_table format g room) o bytes relocations → relaxed_table format g room ≡ accepted w → format ≡ elf
      → r ≡ check_for g.machine o bytes → AllRun g → r ≡ saying 0 0
  unfolding check_for bytes_of machine_of dwarf_written
  passes_as w f a is e all =
      let d : dwarf_written Elf g room ≡ accepted w = rw is at a in
      let b : take (bytes_in o) bytes ≡ w.bytes = f.bytes_are ∙ ap bytes_of a in
      e ∙ rw b (own_sections_pass g room w d all)

  pub passes_back : o ≡ outcome_of (relaxed_table format g room) → Fronts (relaxed_table format g room) o bytes relocations
      → r ≡ check_for g.machine o bytes → PassesBack format g o r
  unfolding saying
  passes_back e f h c is y plain checked =
      let w = accepted_by (relaxed_table format g room) c (sym y ∙ e) in
      let p = passes_as w.0 f w.1 is h (record { plain = plain; checked = checked }) in
      (ap (λ (x : Checked). x.number) p, ap (λ (x : Checked). x.«record») p)

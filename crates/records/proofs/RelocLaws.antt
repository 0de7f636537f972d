-- A record's relocations: those of its fields and of its steps, and how many there are.
use mathlib.Core.Path.{◌≡◌, refl, sym, ◌∙◌}
use Prim.Native.Nat.{ℕ, ◌+◌, ◌-◌, ◌*◌, ◌≤◌}
use native.Mathlib.Omega.{arith}
use mathlib.Core.Bool.{Bool, true, false}
use mathlib.Core.Option.{Option, none, some}
use mathlib.Core.List.{List, [], ◌∷◌, ◌++◌, append-nil}
use lib.ListN.{length, length-append}
use Rattle.std.specs.Prelude.{Some, None}
use Rattle.format.specs.Prelude.{pick, each}
use Rattle.format.specs.declared.Machine.{Machine}
use Rattle.format.specs.Rows.{RowAt}
use Rattle.format.specs.Lists.{Function, Landing, Named, Pointer, Relaxed, row_at, numbers_of, pair_at}
use Rattle.format.specs.Headers.{ahead, others}
use Rattle.format.proofs.ListLaws.{numbers_length, numbers_append}
use Rattle.format.specs.Records.{pointer_to, named_reloc, lsda_reloc, record_fields, sum_pair, row_relocs, record_relocs}
use Rattle.lists.specs.declared.Extent.{Extent}
use Rattle.lists.specs.declared.Labels.{Labels}
use Rattle.lists.specs.Extents.{meant_labels, meant}
use Rattle.header_keys.specs.Kinds.{asked_kind}
use Rattle.header_keys.specs.Functions.{body_of}
use Rattle.records.specs.Fields.{fields_in, sum_in, lsda_in, debug_relocs, eh_relocs, field_relocs}
use Rattle.records.specs.Labels.{steps_in}
use Rattle.records.proofs.OtherRows.{others_are}
use Rattle.records.proofs.LabelLaws.{steps_count}
use Rattle.records.proofs.FieldLaws.{fields_are, fields_length}
use Rattle.records.proofs.FieldRelocs.{sum_is, lsda_is, field_count}
use Rattle.records.proofs.StepLoops.{steps_counted}

-- ---- how many there are of any function does not depend on the places

sum_count : (place bytes : ℕ) (f : Function) (o : Option Relaxed) → length (sum_pair place bytes f o) ≡ length (sum_pair 0 0 f o)
unfolding sum_pair
sum_count place bytes f none = refl
sum_count place bytes f (some r) = refl

pointer_count : (word place : ℕ) (o : Option Pointer) → length (pointer_to word place o) ≡ length (pointer_to word 0 o)
unfolding pointer_to
pointer_count word place none = refl
pointer_count word place (some p) = refl

lsda_count : (word place table : ℕ) (ls : List Landing) (o : Option Named) → length (lsda_reloc word place table ls o) ≡ length (lsda_reloc word 0 0 ls o)
unfolding lsda_reloc named_reloc
lsda_count word place table [] none = refl
lsda_count word place table [] (some n) = pointer_count word place n.lsda
lsda_count word place table (l ∷ ls) o = refl

row_count : (w place : ℕ) (xs : List RowAt) (o : Option Relaxed) → length (row_relocs w place xs o) ≡ length (row_relocs w 0 xs o)
unfolding row_relocs
row_count w place xs none = refl
row_count w place xs (some r) = steps_count w place 0 r.pairs xs ∙ sym (steps_count w 0 0 r.pairs xs)

pub relocs_count : (debug : Bool) (m : Machine) (at cie table : ℕ) (f : Function)
    → length (record_relocs debug m at cie table f) ≡ length (record_relocs debug m 0 0 0 f)
unfolding record_relocs pick
relocs_count true m at cie table f =
    simp length-append
    (omega (
      arith,
      sum_count (at + 8 + m.word) m.word f f.relaxed,
      sum_count (0 + 8 + m.word) m.word f f.relaxed,
      row_count m.word (at + 4 + length (record_fields true m.word (at + 4 - cie) f)) (others f.rows) f.relaxed,
      row_count m.word (0 + 4 + length (record_fields true m.word (0 + 4 - 0) f)) (others f.rows) f.relaxed,
    ))
relocs_count false m at cie table f =
    simp length-append
    (omega (
      arith,
      lsda_count m.word (at + 17) table f.landings f.named,
      lsda_count m.word (0 + 17) 0 f.landings f.named,
      sum_count (at + 12) 4 f f.relaxed,
      sum_count (0 + 12) 4 f f.relaxed,
      row_count m.word (at + 4 + length (record_fields false m.word (at + 4 - cie) f)) (others f.rows) f.relaxed,
      row_count m.word (0 + 4 + length (record_fields false m.word (0 + 4 - 0) f)) (others f.rows) f.relaxed,
    ))

-- ---- those of the function that a record means

module _ (debug : Bool) (m : Machine) (at cie table : ℕ) (e : Extent) (rows pairs : List ℕ) where
  relocs_are : record_relocs debug m at cie table (meant e rows [] pairs) ≡ field_relocs debug m.word at cie table e
      ++ row_relocs m.word (at + 4 + length (fields_in debug m.word 0 e)) (others (body_of e rows).rows) (meant e rows [] pairs).relaxed
  unfolding record_relocs field_relocs debug_relocs eh_relocs sum_in lsda_in asked_kind meant
  relocs_are =
      rw (fields_are debug m.word (at + 4 - cie) e rows [] pairs, fields_length debug m.word (at + 4 - cie) e) (simp (sum_is, lsda_is))

  -- the numbers of the fields' relocations are some of all
  pub field_room : length (numbers_of (field_relocs debug m.word at cie table e)) ≤ 5 * length (record_relocs debug m at cie table (meant e rows [] pairs))
  field_room = rw (relocs_are, length-append, numbers_length) (omega arith)

  pub relocs_plain : e.relaxed ≡ None → record_relocs debug m at cie table (meant e rows [] pairs) ≡ field_relocs debug m.word at cie table e
  unfolding meant meant_labels row_relocs
  relocs_plain h = relocs_are ∙ simp (h, append-nil)

  module _ {k : ℕ} (q : (k ≡ length (ahead (each (row_at rows) e.rows_at e.rows))) × (k ≤ e.rows)) {l : Labels} (h : e.relaxed ≡ Some l) where
    relocs_relaxed : record_relocs debug m at cie table (meant e rows [] pairs) ≡ field_relocs debug m.word at cie table e
        ++ steps_in m.word (at + 4 + length (fields_in debug m.word 0 e)) 0 rows (e.rows_at + k) (e.rows - k) (each (pair_at pairs) l.pairs_at l.pairs)
    unfolding meant meant_labels row_relocs steps_in
    relocs_relaxed = relocs_are ∙ simp (h, others_are e rows q)

    pub relaxed_numbers : numbers_of (record_relocs debug m at cie table (meant e rows [] pairs)) ≡ numbers_of (field_relocs debug m.word at cie table e)
        ++ numbers_of (steps_in m.word (at + 4 + length (fields_in debug m.word 0 e)) 0 rows (e.rows_at + k) (e.rows - k) (each (pair_at pairs) l.pairs_at l.pairs))
    relaxed_numbers = rw (relocs_relaxed, numbers_append)

    pub relaxed_room : 5 * length (record_relocs debug m at cie table (meant e rows [] pairs)) ≡ length (numbers_of (field_relocs debug m.word at cie table e))
        + length (numbers_of (steps_in m.word (at + 4 + length (fields_in debug m.word 0 e)) 0 rows (e.rows_at + k) (e.rows - k) (each (pair_at pairs) l.pairs_at l.pairs)))
    relaxed_room = rw (← numbers_length, relaxed_numbers, length-append)

    pub relaxed_count : length (record_relocs debug m at cie table (meant e rows [] pairs))
        ≡ length (field_relocs debug 0 0 0 0 e) + length (steps_in 0 0 0 rows (e.rows_at + k) (e.rows - k) (each (pair_at pairs) l.pairs_at l.pairs))
    relaxed_count =
        rw (relocs_relaxed, length-append)
        (omega (
          arith,
          field_count debug m.word at cie table e,
          steps_counted m.word (at + 4 + length (fields_in debug m.word 0 e)) 0 rows (e.rows_at + k) (e.rows - k) (each (pair_at pairs) l.pairs_at l.pairs),
        ))

  pub plain_count : e.relaxed ≡ None → length (record_relocs debug m at cie table (meant e rows [] pairs)) ≡ length (field_relocs debug 0 0 0 0 e)
  plain_count h = rw (relocs_plain h) (field_count debug m.word at cie table e)

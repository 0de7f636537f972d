-- A record's bytes: its fields, the rows that do not lead, and how long they are together.
use mathlib.Core.Path.{◌≡◌, refl}
use Prim.Native.Nat.{ℕ, ◌+◌, ◌-◌, ◌≤◌}
use native.Mathlib.Omega.{arith}
use mathlib.Core.Bool.{Bool, true, false}
use mathlib.Core.List.{List, ◌++◌}
use lib.ListN.{length, length-append}
use Rattle.format.specs.Prelude.{each}
use Rattle.format.specs.declared.Machine.{Machine}
use Rattle.format.specs.Rows.{stepped_bytes}
use Rattle.format.specs.Lists.{Function, row_at}
use Rattle.format.specs.Headers.{ahead, others, padding, padded, entry}
use Rattle.format.specs.Records.{record_fields, record_bytes}
use Rattle.format.proofs.LebBack.{little-length}
use Rattle.format.proofs.EntryBack.{entry_length, padded_length}
use Rattle.lists.specs.declared.Extent.{Extent}
use Rattle.header_keys.specs.Functions.{body_of}
use Rattle.records.specs.Stepped.{rows_in}
use Rattle.records.specs.Fields.{fields_in}
use Rattle.records.proofs.OtherRows.{others_bytes}
use Rattle.records.proofs.FieldLaws.{fields_are, fields_length}

-- ---- any function

-- the distance to the header has 4 bytes whatever it is
distance_length : (debug : Bool) (word distance : ℕ) (f : Function) → length (record_fields debug word distance f) ≡ length (record_fields debug word 0 f)
unfolding record_fields
distance_length true word distance f = refl
distance_length false word distance f = simp (length-append, little-length)

body-length : (align at : ℕ) (us vs bs : List ℕ) → length us ≡ length vs
    → length (entry (padded align at (us ++ bs))) ≡ length (entry (padded align at (vs ++ bs)))
body-length align at us vs bs h =
    let e : length (us ++ bs) ≡ length (vs ++ bs) = rw (length-append us bs, length-append vs bs, h) in
    simp (entry_length, padded_length, e)

pub record_length : (debug : Bool) (m : Machine) (align at cie : ℕ) (f : Function)
    → length (record_bytes debug m align at cie f) ≡ length (record_bytes debug m align at 0 f)
unfolding record_bytes
record_length debug m align at cie f =
    let h = distance_length debug m.word (at + 4 - cie) f in
    let k = distance_length debug m.word (at + 4 - 0) f in
    body-length align at (record_fields debug m.word (at + 4 - cie) f) (record_fields debug m.word (at + 4 - 0) f) (stepped_bytes m.word 0 (others f.rows)) (cc)

-- ---- the function of a record, k of whose rows lead

module _ (debug : Bool) (m : Machine) (align at cie : ℕ) (e : Extent) (rows : List ℕ) {k : ℕ}
    (q : (k ≡ length (ahead (each (row_at rows) e.rows_at e.rows))) × (k ≤ e.rows)) where
  pub record_bytes_lem : record_bytes debug m align at cie (body_of e rows)
      ≡ entry (padded align at (fields_in debug m.word (at + 4 - cie) e ++ rows_in m.word 0 rows (e.rows_at + k) (e.rows - k)))
  unfolding record_bytes
  record_bytes_lem = rw (fields_are, others_bytes e rows q)

  pub record_long : length (record_bytes debug m align at cie (body_of e rows))
      ≡ 4 + (length (fields_in debug m.word 0 e) + length (rows_in m.word 0 rows (e.rows_at + k) (e.rows - k)))
      + padding align (at + 4 + (length (fields_in debug m.word 0 e) + length (rows_in m.word 0 rows (e.rows_at + k) (e.rows - k))))
  record_long = rw (record_bytes_lem, entry_length, padded_length, length-append, fields_length debug m.word (at + 4 - cie) e) (omega arith)

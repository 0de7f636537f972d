-- The fields of the record (FDE) at a place (DWARF 5, 6.4.1; LSB, "The Frame Description Entry Format"), as numbers.
use Rattle.std.specs.Prelude.{ℕ, ◌+◌, ◌-◌, Bool, ◌&&◌, List, leb, eqb, length, Ok, Err}
use Rattle.std.specs.Prelude as code
use Rattle.std.proofs.Math.Option.{none, some}
use Rattle.format.specs.Prelude.{pick, Read, Result, good, bad, onward, or_else}
use Rattle.format.specs.Leb.{read_little, read_uleb}
use Rattle.format.specs.Machine.{is_word_size}
use Rattle.format.specs.Reader.{RecordFields, record_tail}
use Rattle.reader.specs.Listing.{entry_at}
use Rattle.reader.specs.declared.cursor.Entry.{Entry}
use Rattle.reader.specs.Spans.{part}
use Rattle.parts.specs.Faults.{function_field, length_field, record_data_field, field_number, reading}
use Rattle.parts.specs.declared.field.Field.{Field}
use Rattle.parts.specs.declared.records.RecordRead.{RecordRead}

-- the second field, the function's place, what stands behind its length, and what the reader takes: the length and the operations
pub record RecordParts : Type 0 where
  pub header : ℕ
  pub function : ℕ
  pub rest : List ℕ
  pub fields : RecordFields

-- from the augmentation data on
unfoldable pub record_rest : (debug : Bool) → (pointer header function size : ℕ) → List ℕ → Result RecordParts
record_rest debug pointer header function size bs =
    onward (or_else (record_tail debug pointer size bs) record_data_field) λ f.
    good (record { header = header; function = function; rest = bs; fields = f })

-- the fields that `parse_record` reads, in its order
unfoldable pub record_parts : (debug : Bool) → (word pointer : ℕ) → List ℕ → Result RecordParts
record_parts debug word pointer bs =
    let n : ℕ = pick debug word 4 in
    reading function_field (read_little 4 bs) λ id r₀. reading function_field (read_little n r₀) λ place r₁.
    reading length_field (read_little n r₁) λ size r₂. record_rest debug pointer id place size r₂

-- where the pointer to call sites stands in what ends at `end`: behind the length of the augmentation data; 0 where there is none
unfoldable pub rest_from : (end : ℕ) → Read ℕ → ℕ
rest_from end none = 0
rest_from end (some x) = end - length x.1

unfoldable pub call_site_bytes : (debug : Bool) → (pointer end : ℕ) → List ℕ → ℕ
call_site_bytes debug pointer end bs = pick debug 0 (pick (eqb pointer 0) 0 (rest_from end (read_uleb bs)))

-- a refusal, and the field at fault
unfoldable pub no_record : (number fault : ℕ) → RecordRead
no_record number fault =
    record { number = number; «field» = fault; header = 0; function = 0; length = 0; call_sites = 0; operations = 0; end = 0 }

-- a record that ends at `end`; what is left stands in front of that
unfoldable pub record_numbers : (debug : Bool) → (pointer end : ℕ) → Result RecordParts → RecordRead
record_numbers debug pointer end (bad n) = no_record 64 n
record_numbers debug pointer end (good x) =
    record {
      number = 0;
      «field» = 0;
      header = x.header;
      function = x.function;
      length = x.fields.size;
      call_sites = call_site_bytes debug pointer end x.rest;
      operations = end - length x.fields.operations;
      end = end;
    }

-- what was read, or 64 with the field at fault
abbrev pub record_answer : code.Result RecordRead Field → RecordRead
record_answer (Ok r) = r
record_answer (Err f) = no_record 64 (field_number f)

-- 61: an entry stands at the place; 62: it is no header
unfoldable pub record_of : (debug : Bool) → (word pointer : ℕ) → List ℕ → Result Entry → RecordRead
record_of debug word pointer section (bad n) = no_record 61 0
record_of debug word pointer section (good e) =
    pick e.header (no_record 62 0)
    (record_numbers debug pointer e.next (record_parts debug word pointer (part section (e.place + 4) e.next)))

-- 11: word 2, 4 or 8, and kind 0 (eh) or 1 (debug)
unfoldable pub read_record_at : (section : List ℕ) (kind word pointer place : ℕ) → RecordRead
read_record_at section kind word pointer place =
    pick (is_word_size word && leb kind 1) (record_of (eqb kind 1) word pointer section (entry_at (eqb kind 1) section place)) (no_record 11 0)

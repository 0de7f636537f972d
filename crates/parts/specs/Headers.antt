-- The fields of the header (CIE) at a place (DWARF 5, 6.4.1; LSB, "The Common Information Entry Format"), as numbers.
use Rattle.std.specs.Prelude.{ℕ, ◌+◌, ◌-◌, Bool, ◌&&◌, List, leb, eqb, length, Ok, Err}
use Rattle.std.specs.Prelude as code
use Rattle.format.specs.Prelude.{pick, Result, good, bad, onward, or_else}
use Rattle.format.specs.Leb.{read_little, read_uleb, read_sleb}
use Rattle.format.specs.Machine.{is_word_size}
use Rattle.format.specs.Rows.{read_register, same_offset}
use Rattle.format.specs.Headers.{data_factor}
use Rattle.format.specs.Answers.{bit}
use Rattle.format.specs.Reader.{Letters, spellings, read_letters, read_byte, HeaderFields, header_tail}
use Rattle.reader.specs.Listing.{entry_at}
use Rattle.reader.specs.declared.cursor.Entry.{Entry}
use Rattle.reader.specs.Spans.{part}
use Rattle.parts.specs.Faults.{version_field, string_field, code_factor_field, data_factor_field, return_field, header_data_field, field_number, reading, testing}
use Rattle.parts.specs.declared.field.Field.{Field}
use Rattle.parts.specs.declared.headers.HeaderRead.{HeaderRead}

-- what the string promises, the return address register, and what the reader takes: the size of a record's pointer, the signal mark and the operations
pub record HeaderParts : Type 0 where
  pub letters : Letters
  pub ret : ℕ
  pub fields : HeaderFields

-- from the augmentation data on
unfoldable pub header_rest : (debug : Bool) → Letters → (word ret : ℕ) → List ℕ → Result HeaderParts
header_rest debug l word ret bs =
    onward (or_else (header_tail debug l word bs) header_data_field) λ f. good (record { letters = l; ret = ret; fields = f })

-- from the code alignment factor on
unfoldable pub header_from : (debug : Bool) → Letters → (word : ℕ) → List ℕ → Result HeaderParts
header_from debug l word bs =
    reading code_factor_field (read_uleb bs) λ code r₃. testing code_factor_field (eqb code 1)
    (reading data_factor_field (read_sleb r₃) λ z r₄. testing data_factor_field (same_offset z (data_factor word))
    (reading return_field (read_register r₄) λ ra r₅. header_rest debug l word ra r₅))

-- the fields that `parse_header` reads, in its order
unfoldable pub header_parts : (debug : Bool) → (word : ℕ) → List ℕ → Result HeaderParts
header_parts debug word bs =
    reading version_field (read_little 4 bs) λ id r₀. reading version_field (read_byte r₀) λ version r₁. testing version_field (eqb version 1)
    (reading string_field (read_letters (spellings debug) r₁) λ l r₂. header_from debug l word r₂)

-- a refusal, and the field at fault
unfoldable pub no_header : (number fault : ℕ) → HeaderRead
no_header number fault =
    record {
      number = number;
      «field» = fault;
      personality = 0;
      lsda = 0;
      signal = 0;
      return_register = 0;
      pointer = 0;
      operations = 0;
      end = 0;
    }

-- a header that ends at `end`; what is left stands in front of that
unfoldable pub header_numbers : (end : ℕ) → Result HeaderParts → HeaderRead
header_numbers end (bad n) = no_header 64 n
header_numbers end (good x) =
    record {
      number = 0;
      «field» = 0;
      personality = bit x.letters.personality;
      lsda = bit x.letters.lsda;
      signal = bit x.fields.signal;
      return_register = x.ret;
      pointer = x.fields.pointer;
      operations = end - length x.fields.operations;
      end = end;
    }

-- what was read, or 64 with the field at fault
abbrev pub header_answer : code.Result HeaderRead Field → HeaderRead
header_answer (Ok r) = r
header_answer (Err f) = no_header 64 (field_number f)

-- 61: an entry stands at the place; 63: it is no record
unfoldable pub header_of : (debug : Bool) → (word : ℕ) → List ℕ → Result Entry → HeaderRead
header_of debug word section (bad n) = no_header 61 0
header_of debug word section (good e) =
    pick e.header (header_numbers e.next (header_parts debug word (part section (e.place + 4) e.next))) (no_header 63 0)

-- 11: word 2, 4 or 8, and kind 0 (eh) or 1 (debug)
unfoldable pub read_header_at : (section : List ℕ) (kind word place : ℕ) → HeaderRead
read_header_at section kind word place =
    pick (is_word_size word && leb kind 1) (header_of (eqb kind 1) word section (entry_at (eqb kind 1) section place)) (no_header 11 0)

-- What the exports say of the fields of a header or a record, against what the reader takes of them.
use Rattle.std.specs.Prelude.{◌≡◌, ℕ, ◌+◌, ◌<◌, ◌≤◌, ◌&&◌, true, false, List, T, leb, eqb}
use Rattle.std.proofs.Math.Option.{Option, none, some}
use Rattle.format.specs.Prelude.{good}
use Rattle.format.specs.Machine.{is_word_size}
use Rattle.format.specs.Answers.{bit}
use Rattle.format.specs.Reader.{HeaderFields, parse_header, RecordFields, parse_record}
use Rattle.reader.specs.Listing.{entry_at}
use Rattle.reader.specs.declared.cursor.Entry.{Entry}
use Rattle.reader.specs.Spans.{part}
use Rattle.parts.specs.declared.headers.HeaderRead.{HeaderRead}
use Rattle.parts.specs.declared.records.RecordRead.{RecordRead}

-- a refusal by 64, with its field
pub record Faulty (number fault lo hi : ℕ) : Type 0 where
  pub refused : number ≡ 64
  pub least : lo ≤ fault
  pub most : fault ≤ hi

-- `field` is 0 exactly where the number is not 64
abbrev pub Named : (number fault : ℕ) → Type 0
Named number fault = (number ≡ 64 → 0 < fault) × ((number ≡ 64 → ⊥) → fault ≡ 0)

-- ---- a header

-- what is answered of a header of which the reader takes these fields: the same values, and where its operations stand
pub record HeaderReads (section : List ℕ) (f : HeaderFields) (r : HeaderRead) : Type 0 where
  pub answered : r.number ≡ 0
  pub pointer : r.pointer ≡ f.pointer
  pub signal : r.signal ≡ bit f.signal
  pub operations : part section r.operations r.end ≡ f.operations

-- where the reader takes nothing, a field is at fault
abbrev pub HeaderReading : List ℕ → HeaderRead → Option HeaderFields → Type 0
HeaderReading section r none = Faulty r.number r.«field» 1 6
HeaderReading section r (some f) = HeaderReads section f r

-- of a header at a place, with a word and a kind that the reader takes
pub record HeaderTaken (section : List ℕ) (kind word place : ℕ) (r : HeaderRead) : Type 0 where
  pub agrees :
      (e : Entry) → T (is_word_size word && leb kind 1) → entry_at (eqb kind 1) section place ≡ good e → e.header ≡ true
      → HeaderReading section r (parse_header (eqb kind 1) word (part section (e.place + 4) e.next))
  pub named : Named r.number r.«field»

-- ---- a record

-- what is answered of a record of which the reader takes these fields
pub record RecordReads (section : List ℕ) (f : RecordFields) (r : RecordRead) : Type 0 where
  pub answered : r.number ≡ 0
  pub size : r.length ≡ f.size
  pub operations : part section r.operations r.end ≡ f.operations

abbrev pub RecordReading : List ℕ → RecordRead → Option RecordFields → Type 0
RecordReading section r none = Faulty r.number r.«field» 7 9
RecordReading section r (some f) = RecordReads section f r

-- of a record at a place, with the size of the pointer to call sites that its header says
pub record RecordTaken (section : List ℕ) (kind word pointer place : ℕ) (r : RecordRead) : Type 0 where
  pub agrees :
      (e : Entry) → T (is_word_size word && leb kind 1) → entry_at (eqb kind 1) section place ≡ good e → e.header ≡ false
      → RecordReading section r (parse_record (eqb kind 1) word pointer (part section (e.place + 4) e.next))
  pub named : Named r.number r.«field»

-- What the exports say of a header's and a record's fields is what the reader takes of them, and a fault stands exactly where the reader takes nothing.
use mathlib.Core.Path.{◌≡◌, refl}
use mathlib.Core.Bool.{Bool, true, false, ◌&&◌}
use mathlib.Core.Option.{Option, none, some}
use mathlib.Core.List.{List}
use Prim.Native.Nat.{ℕ, ◌+◌, ◌-◌, ◌≤◌, ◌<◌}
use native.Mathlib.Omega.{arith}
use lib.Dec.{eqb, leb}
use lib.ListN.{length}
use Rattle.format.specs.Prelude.{pick, Read, next, Result, good, bad, onward, or_else}
use Rattle.format.specs.Leb.{read_little, read_uleb, read_sleb}
use Rattle.format.specs.Machine.{is_word_size}
use Rattle.format.specs.Rows.{read_register, same_offset}
use Rattle.format.specs.Headers.{data_factor}
use Rattle.format.specs.Answers.{bit}
use Rattle.format.specs.Reader.{Letters, spellings, read_letters, read_byte, require, HeaderFields, header_tail, parse_header, RecordFields, record_tail, parse_record}
use Rattle.reader.specs.Listing.{entry_at}
use Rattle.reader.specs.declared.cursor.Entry.{Entry}
use Rattle.reader.specs.Spans.{part}
use Rattle.parts.specs.Faults.{version_field, string_field, code_factor_field, data_factor_field, return_field, header_data_field, function_field, length_field, record_data_field, reading, testing}
use Rattle.parts.specs.Headers.{HeaderParts, header_rest, header_from, header_parts, no_header, header_numbers, header_of, read_header_at}
use Rattle.parts.specs.Records.{RecordParts, record_rest, record_parts, no_record, record_numbers, record_of, read_record_at}
use Rattle.parts.specs.Agrees.{Faulty, Named}
use Rattle.parts.specs.declared.headers.HeaderRead.{HeaderRead}
use Rattle.parts.specs.declared.records.RecordRead.{RecordRead}

-- ---- a result that agrees with what the reader takes: the part f of it, or a fault from lo to hi

pub data Agree {A B : Type 0} (f : A → B) (lo hi : ℕ) : Result A → Option B → Type 0 where
  both : (a : A) → Agree f lo hi (good a) (some (f a))
  neither : (n : ℕ) → lo ≤ n → n ≤ hi → Agree f lo hi (bad n) none

module _ {A B : Type 0} {f : A → B} {lo hi : ℕ} where
  agree_reading : {C : Type 0} (n : ℕ) → lo ≤ n → n ≤ hi → (r : Read C) {k : C → List ℕ → Result A} {l : C → List ℕ → Option B}
      → ((c : C) (bs : List ℕ) → Agree f lo hi (k c bs) (l c bs)) → Agree f lo hi (reading n r k) (next r l)
  unfolding reading next
  agree_reading n a b none h = neither n a b
  agree_reading n a b (some x) h = h x.0 x.1

  agree_testing : (n : ℕ) → lo ≤ n → n ≤ hi → (test : Bool) {r : Result A} {o : Option B} → Agree f lo hi r o → Agree f lo hi (testing n test r) (require test o)
  unfolding testing require pick
  agree_testing n a b true h = h
  agree_testing n a b false h = neither n a b

-- ---- a header

agree_rest : (debug : Bool) (l : Letters) (word ret : ℕ) (o : Option HeaderFields)
    → Agree (λ (x : HeaderParts). x.fields) 1 6 (onward (or_else o header_data_field) λ f. good (record { letters = l; ret = ret; fields = f })) o
unfolding onward or_else
agree_rest debug l word ret none = neither 6 (omega arith) (omega arith)
agree_rest debug l word ret (some f) = both (record { letters = l; ret = ret; fields = f })

pub agree_header : (debug : Bool) (word : ℕ) (bs : List ℕ) → Agree (λ (x : HeaderParts). x.fields) 1 6 (header_parts debug word bs) (parse_header debug word bs)
unfolding header_parts header_from header_rest parse_header
agree_header debug word bs =
    agree_reading version_field (omega arith) (omega arith) (read_little 4 bs) λ id r₀.
    agree_reading version_field (omega arith) (omega arith) (read_byte r₀) λ version r₁.
    agree_testing version_field (omega arith) (omega arith) (eqb version 1)
    (agree_reading string_field (omega arith) (omega arith) (read_letters (spellings debug) r₁) λ l r₂.
    agree_reading code_factor_field (omega arith) (omega arith) (read_uleb r₂) λ code r₃.
    agree_testing code_factor_field (omega arith) (omega arith) (eqb code 1)
    (agree_reading data_factor_field (omega arith) (omega arith) (read_sleb r₃) λ z r₄.
    agree_testing data_factor_field (omega arith) (omega arith) (same_offset z (data_factor word))
    (agree_reading return_field (omega arith) (omega arith) (read_register r₄) λ ret r₅. agree_rest debug l word ret (header_tail debug l word r₅))))

-- what is answered of a header that ends at `end`
pub record HeaderSays (end : ℕ) (f : HeaderFields) (r : HeaderRead) : Type 0 where
  pub answered : r.number ≡ 0
  pub pointer : r.pointer ≡ f.pointer
  pub signal : r.signal ≡ bit f.signal
  pub operations : r.operations ≡ end - length f.operations
  pub ends : r.end ≡ end

abbrev pub HeaderAgrees : (end : ℕ) → HeaderRead → Option HeaderFields → Type 0
HeaderAgrees end r none = Faulty r.number r.«field» 1 6
HeaderAgrees end r (some f) = HeaderSays end f r

header_says : (end : ℕ) {r : Result HeaderParts} {o : Option HeaderFields} → Agree (λ (x : HeaderParts). x.fields) 1 6 r o → HeaderAgrees end (header_numbers end r) o
unfolding header_numbers no_header
header_says end (both a) = record { answered = refl; pointer = refl; signal = refl; operations = refl; ends = refl }
header_says end (neither n a b) = record { refused = refl; least = a; most = b }

-- number 0 exactly where `parse_header` answers, and its fields
pub header_agrees : (debug : Bool) (word end : ℕ) (bs : List ℕ) → HeaderAgrees end (header_numbers end (header_parts debug word bs)) (parse_header debug word bs)
header_agrees debug word end bs = header_says end (agree_header debug word bs)

-- ---- a record

agree_record_rest : (header function : ℕ) (bs : List ℕ) (o : Option RecordFields)
    → Agree (λ (x : RecordParts). x.fields) 7 9 (onward (or_else o record_data_field) λ f. good (record { header = header; function = function; rest = bs; fields = f })) o
unfolding onward or_else
agree_record_rest header function bs none = neither 9 (omega arith) (omega arith)
agree_record_rest header function bs (some f) = both (record { header = header; function = function; rest = bs; fields = f })

pub agree_record : (debug : Bool) (word pointer : ℕ) (bs : List ℕ)
    → Agree (λ (x : RecordParts). x.fields) 7 9 (record_parts debug word pointer bs) (parse_record debug word pointer bs)
unfolding record_parts record_rest parse_record
agree_record debug word pointer bs =
    agree_reading function_field (omega arith) (omega arith) (read_little 4 bs) λ id r₀.
    agree_reading function_field (omega arith) (omega arith) (read_little (pick debug word 4) r₀) λ place r₁.
    agree_reading length_field (omega arith) (omega arith) (read_little (pick debug word 4) r₁) λ size r₂.
    agree_record_rest id place r₂ (record_tail debug pointer size r₂)

-- what is answered of a record that ends at `end`
pub record RecordSays (end : ℕ) (f : RecordFields) (r : RecordRead) : Type 0 where
  pub answered : r.number ≡ 0
  pub size : r.length ≡ f.size
  pub operations : r.operations ≡ end - length f.operations
  pub ends : r.end ≡ end

abbrev pub RecordAgrees : (end : ℕ) → RecordRead → Option RecordFields → Type 0
RecordAgrees end r none = Faulty r.number r.«field» 7 9
RecordAgrees end r (some f) = RecordSays end f r

record_says : (debug : Bool) (pointer end : ℕ) {r : Result RecordParts} {o : Option RecordFields}
    → Agree (λ (x : RecordParts). x.fields) 7 9 r o → RecordAgrees end (record_numbers debug pointer end r) o
unfolding record_numbers no_record
record_says debug pointer end (both a) = record { answered = refl; size = refl; operations = refl; ends = refl }
record_says debug pointer end (neither n a b) = record { refused = refl; least = a; most = b }

-- number 0 exactly where `parse_record` answers, and its fields
pub record_agrees : (debug : Bool) (word pointer end : ℕ) (bs : List ℕ)
    → RecordAgrees end (record_numbers debug pointer end (record_parts debug word pointer bs)) (parse_record debug word pointer bs)
record_agrees debug word pointer end bs = record_says debug pointer end (agree_record debug word pointer bs)

-- ---- `field` is 0 exactly where the number is not 64

named_pick : {X : Type 0} (number fault : X → ℕ) (test : Bool) (a b : X) → Named (number a) (fault a) → Named (number b) (fault b)
    → Named (number (pick test a b)) (fault (pick test a b))
unfolding pick
named_pick number fault true a b x y = x
named_pick number fault false a b x y = y

named_other : (n : ℕ) → (n ≡ 64 → ⊥) → Named n 0
named_other n h = ((λ e. absurd (h e)), (λ k. refl))

header_numbers_named : (end : ℕ) {r : Result HeaderParts} {o : Option HeaderFields} → Agree (λ (x : HeaderParts). x.fields) 1 6 r o
    → Named (header_numbers end r).number (header_numbers end r).«field»
unfolding header_numbers no_header
header_numbers_named end (both a) = named_other 0 (λ e. omega arith)
header_numbers_named end (neither n a b) = ((λ e. omega arith), (λ k. absurd (k refl)))

header_of_named : (section : List ℕ) (debug : Bool) (word : ℕ) (r : Result Entry) → Named (header_of debug word section r).number (header_of debug word section r).«field»
unfolding header_of no_header
header_of_named section debug word (bad n) = named_other 61 (λ h. omega arith)
header_of_named section debug word (good e) =
    named_pick (λ (r : HeaderRead). r.number) (λ r. r.«field») e.header _ _
    (header_numbers_named e.next (agree_header debug word (part section (e.place + 4) e.next))) (named_other 63 (λ h. omega arith))

pub header_named : (section : List ℕ) (kind word place : ℕ) → Named (read_header_at section kind word place).number (read_header_at section kind word place).«field»
unfolding read_header_at no_header
header_named section kind word place =
    named_pick (λ (r : HeaderRead). r.number) (λ r. r.«field») (is_word_size word && leb kind 1) _ _
    (header_of_named section (eqb kind 1) word (entry_at (eqb kind 1) section place)) (named_other 11 (λ h. omega arith))

record_numbers_named : (debug : Bool) (pointer end : ℕ) {r : Result RecordParts} {o : Option RecordFields} → Agree (λ (x : RecordParts). x.fields) 7 9 r o
    → Named (record_numbers debug pointer end r).number (record_numbers debug pointer end r).«field»
unfolding record_numbers no_record
record_numbers_named debug pointer end (both a) = named_other 0 (λ e. omega arith)
record_numbers_named debug pointer end (neither n a b) = ((λ e. omega arith), (λ k. absurd (k refl)))

record_of_named : (section : List ℕ) (debug : Bool) (word pointer : ℕ) (r : Result Entry)
    → Named (record_of debug word pointer section r).number (record_of debug word pointer section r).«field»
unfolding record_of no_record
record_of_named section debug word pointer (bad n) = named_other 61 (λ h. omega arith)
record_of_named section debug word pointer (good e) =
    named_pick (λ (r : RecordRead). r.number) (λ r. r.«field») e.header _ _ (named_other 62 (λ h. omega arith))
    (record_numbers_named debug pointer e.next (agree_record debug word pointer (part section (e.place + 4) e.next)))

pub record_named : (section : List ℕ) (kind word pointer place : ℕ)
    → Named (read_record_at section kind word pointer place).number (read_record_at section kind word pointer place).«field»
unfolding read_record_at no_record
record_named section kind word pointer place =
    named_pick (λ (r : RecordRead). r.number) (λ r. r.«field») (is_word_size word && leb kind 1) _ _
    (record_of_named section (eqb kind 1) word pointer (entry_at (eqb kind 1) section place)) (named_other 11 (λ h. omega arith))

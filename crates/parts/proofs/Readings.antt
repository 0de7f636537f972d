-- At an entry of a section: a header or a record is answered exactly where the reader takes its fields, with the same values and the same operations.
use Rattle.std.specs.Prelude.{Some, None}
use Rattle.std.specs.Prelude as code
use mathlib.Core.Path.{◌≡◌, refl, sym, ◌∙◌}
use mathlib.Core.Bool.{Bool, true, false, ◌&&◌}
use mathlib.Core.Option.{Option, none, some}
use mathlib.Core.List.{List}
use Prim.Native.Nat.{ℕ, ◌+◌, ◌≤◌, ◌<◌}
use native.Mathlib.Omega.{arith}
use lib.Dec.{T, leb, eqb, leb→le}
use mir.Facts.{and_yes}
use lib.ListN.{length}
use Rattle.format.specs.Prelude.{Result, good, bad}
use Rattle.format.proofs.Choice.{either, is_true}
use Rattle.format.specs.Machine.{is_word_size}
use Rattle.format.specs.Reader.{is_header, HeaderFields, parse_header, RecordFields, parse_record}
use Rattle.reader.specs.Spans.{part, entry_in, end_at}
use Rattle.reader.proofs.Tiling.{entered}
use Rattle.reader.specs.Listing.{entry_at}
use Rattle.reader.specs.declared.cursor.Entry.{Entry}
use Rattle.reader.proofs.Steps.{spanned, at_end_lem, at_none, at_there, entry_fits}
use Rattle.parts.specs.Headers.{header_parts, header_numbers, read_header_at}
use Rattle.parts.specs.Records.{record_parts, record_numbers, read_record_at}
use Rattle.parts.specs.declared.headers.HeaderRead.{HeaderRead}
use Rattle.parts.specs.declared.records.RecordRead.{RecordRead}
use Rattle.parts.proofs.Entered.{laid, body_ends, at_header, at_record}
use Rattle.parts.proofs.Headed.{header_entry_lem}
use Rattle.parts.proofs.Recorded.{record_entry_lem}
use Rattle.parts.specs.Agrees.{HeaderReading, HeaderTaken, RecordReading, RecordTaken}
use Rattle.parts.proofs.Agrees.{HeaderAgrees, header_agrees, header_named, RecordAgrees, record_agrees, record_named}
use Rattle.parts.proofs.Suffixes.{header_operations, record_operations}

-- the entry from `place` to q
module _ (section : List ℕ) (kind word place : ℕ) (w : is_word_size word ≡ true) (k : kind ≤ 1) (h : place < length section) {q : ℕ} (e : end_at section place ≡ Some q) where
  abbrev debug : Bool
  debug = eqb kind 1

  abbrev bytes : List ℕ
  bytes = part section (place + 4) q

  there : entry_at debug section place ≡ good (spanned debug section place q)
  there = at_there debug section place h e

  before : place + 4 ≤ q
  before = omega (arith, (entered section place e).long)

  ends : place + 4 + length bytes ≡ q
  ends = body_ends section (entry_fits debug section place there)

  header_reads : (r : HeaderRead) (o : Option HeaderFields) → parse_header debug word bytes ≡ o → HeaderAgrees q r o → HeaderReading section r o
  header_reads r none p a = a
  header_reads r (some f) p a =
      record {
        answered = a.answered;
        pointer = a.pointer;
        signal = a.signal;
        operations = rw (a.operations, a.ends) (header_operations section debug word (place + 4) q before (entered section place e).inside p);
      }

  pub header_at : is_header debug (entry_in section place q) ≡ true → HeaderReading section (read_header_at section kind word place) (parse_header debug word bytes)
  header_at t =
      rw (at_header (header_entry_lem section kind word place) (laid kind word w k) there t, ends)
      (header_reads (header_numbers q (header_parts debug word bytes)) (parse_header debug word bytes) refl (header_agrees debug word q bytes))

  module _ (pointer : ℕ) where
    record_reads : (r : RecordRead) (o : Option RecordFields) → parse_record debug word pointer bytes ≡ o → RecordAgrees q r o → RecordReading section r o
    record_reads r none p a = a
    record_reads r (some f) p a =
        record {
          answered = a.answered;
          size = a.size;
          operations = rw (a.operations, a.ends) (record_operations section debug word (place + 4) q before (entered section place e).inside pointer p);
        }

    pub record_at : is_header debug (entry_in section place q) ≡ false
        → RecordReading section (read_record_at section kind word pointer place) (parse_record debug word pointer bytes)
    record_at t =
        rw (at_record (record_entry_lem section kind word pointer place) (laid kind word w k) there t, ends)
        (record_reads (record_numbers debug pointer q (record_parts debug word pointer bytes)) (parse_record debug word pointer bytes) refl (record_agrees debug word pointer q bytes))

-- ---- an entry that stands at a place

record There (debug : Bool) (section : List ℕ) (place : ℕ) (e : Entry) : Type 0 where
  end : ℕ
  ends : end_at section place ≡ Some end
  inside : place < length section
  is : spanned debug section place end ≡ e

module _ (debug : Bool) (section : List ℕ) (place : ℕ) (e : Entry) (here : entry_at debug section place ≡ good e) where
  there_by : (o : code.Option ℕ) → end_at section place ≡ o → place < length section → There debug section place e
  there_by None q h = let z : ◌≡◌ {A = Result Entry} (bad 61) (good e) = sym (at_none debug section place h q) ∙ here in let y : ◌≡◌ {A = ℕ} 0 1 = cc in absurd (omega arith)
  there_by (Some n) q h =
      let same : good (spanned debug section place n) ≡ good e = sym (at_there debug section place h q) ∙ here in
      record { end = n; ends = q; inside = h; is = cc }

  there_is : There debug section place e
  there_is =
      either (length section) place
      (λ h. let z : ◌≡◌ {A = Result Entry} (bad 62) (good e) = sym (at_end_lem debug section place h) ∙ here in let y : ◌≡◌ {A = ℕ} 0 1 = cc in absurd (omega arith))
      (λ h. there_by (end_at section place) refl h)

-- ---- what the exports promise

module _ (section : List ℕ) (kind word place : ℕ) where
  header_taken_at : (e : Entry) → There (eqb kind 1) section place e → T (is_word_size word && leb kind 1) → e.header ≡ true
      → HeaderReading section (read_header_at section kind word place) (parse_header (eqb kind 1) word (part section (e.place + 4) e.next))
  header_taken_at e k t h =
      let a = and_yes (is_word_size word) (leb kind 1) t in
      rw (← k.is) (header_at section kind word place (is_true (is_word_size word) a.0) (leb→le kind 1 a.1) k.inside k.ends (rw (← k.is) at h))

  pub header_taken : {r : HeaderRead} → r ≡ read_header_at section kind word place → HeaderTaken section kind word place r
  header_taken e =
      rw e
      (record {
        agrees = λ x t here h. header_taken_at x (there_is (eqb kind 1) section place x here) t h;
        named = header_named section kind word place;
      })

  module _ (pointer : ℕ) where
    record_taken_at : (e : Entry) → There (eqb kind 1) section place e → T (is_word_size word && leb kind 1) → e.header ≡ false
        → RecordReading section (read_record_at section kind word pointer place) (parse_record (eqb kind 1) word pointer (part section (e.place + 4) e.next))
    record_taken_at e k t h =
        let a = and_yes (is_word_size word) (leb kind 1) t in
        rw (← k.is) (record_at section kind word place (is_true (is_word_size word) a.0) (leb→le kind 1 a.1) k.inside k.ends pointer (rw (← k.is) at h))

    pub record_taken : {r : RecordRead} → r ≡ read_record_at section kind word pointer place → RecordTaken section kind word pointer place r
    record_taken e =
        rw e
        (record {
          agrees = λ x t here h. record_taken_at x (there_is (eqb kind 1) section place x here) t h;
          named = record_named section kind word pointer place;
        })

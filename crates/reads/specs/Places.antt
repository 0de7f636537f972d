-- Where the operations of a record and of its header are (document 01, "Rules and row check", questions 11 and 61 to 65), and the rules from there.
use Rattle.std.specs.Prelude.{ℕ, ◌+◌, ◌-◌, Bool, ◌&&◌, List, length, ◌==◌, nat_le}
use Rattle.std.proofs.Math.Option.{Option}
use Rattle.std.proofs.Math.ListN.{get_elem?}
use Rattle.format.specs.Prelude.{pick, after, Result, good, bad, onward, or_else}
use Rattle.format.specs.Machine.{is_word_size}
use Rattle.format.specs.Lists.{Relocation, relocations_of}
use Rattle.format.specs.Answers.{bit}
use Rattle.format.specs.Reader.{Entry, entries, records, header_place, header_at, Found, parsed}
use Rattle.format.specs.Coded.{result_of, Reading}
use Rattle.std.specs.Prelude.{Ok, Err}
use Rattle.std.specs.Prelude as code
use Rattle.reader.specs.Finds.{rules_from}
use Rattle.reader.specs.declared.location.Located as reader
use Rattle.reads.specs.declared.Located.{Located}

-- 11: word 2, 4 or 8, and kind 0 (eh) or 1 (debug)
unfoldable pub asked : (kind word : ℕ) → Bool
asked kind word = is_word_size word && nat_le kind 1

-- an entry ends as many bytes behind its 4-byte length as it says
unfoldable pub end_of : Entry → ℕ
end_of e = e.at + 4 + length e.body

-- the operations of an entry are its last bytes
unfoldable pub operations_at : Entry → List ℕ → ℕ
operations_at e operations = end_of e - length operations

unfoldable pub places_of : (word : ℕ) → (header found : Entry) → Found → Located
places_of word h e x =
    record {
      number = 0;
      header = operations_at h x.header.operations;
      header_end = end_of h;
      «record» = operations_at e x.found.operations;
      record_end = end_of e;
      length = x.found.size;
      pointer = x.header.pointer;
      signal = bit x.header.signal;
      word = word;
      shortest = bit x.shortest;
    }

-- the question's number, and all else 0
unfoldable pub refused : ℕ → Located
refused n = record { number = n; header = 0; header_end = 0; «record» = 0; record_end = 0; length = 0; pointer = 0; signal = 0; word = 0; shortest = 0 }

-- as an export answers it
unfoldable pub located_as : code.Result Located ℕ → Located
located_as (Ok l) = l
located_as (Err n) = refused n

-- 64, of the header and then of the record
unfoldable pub locate_entries : (debug : Bool) → ℕ → (header found : Entry) → Result Located
locate_entries debug word h e = onward (parsed debug word h e) λ x. good (places_of word h e x)

-- 63: the entry that is a record's header
unfoldable pub header_of : (debug : Bool) → List Relocation → List Entry → Entry → Option Entry
header_of debug rs es e = after (header_place debug rs e) λ place. header_at debug place e.at es

-- 61 to 64 of record k
unfoldable pub locate_nth : (debug : Bool) → List Relocation → (word k : ℕ) → List ℕ → Result Located
locate_nth debug rs word k section =
    onward (or_else (entries section) 61) λ es.
    onward (or_else (get_elem? (records debug es) k) 62) λ e.
    onward (or_else (header_of debug rs es e) 63) λ h.
    locate_entries debug word h e

unfoldable pub locate_record : (section relocations : List ℕ) (kind word k : ℕ) → Located
locate_record section relocations kind word k =
    located_as (result_of (pick (asked kind word) (locate_nth (kind == 1) (relocations_of relocations) word k section) (bad 11)))

-- ---- the rules from there

-- the numbers as the reader takes them
unfoldable pub reader_places : Located → reader.Located
reader_places l =
    record {
      header = l.header;
      header_end = l.header_end;
      «record» = l.«record»;
      record_end = l.record_end;
      size = l.length;
      pointer = l.pointer;
      signal = (l.signal == 1);
      word = l.word;
      shortest = (l.shortest == 1);
    }

-- a refusal stays; of other numbers 64 where they do not lie in the section, and then 65 to 69
unfoldable pub rules_of : List ℕ → Located → (q p : ℕ) → Reading
rules_of section l q p = pick (l.number == 0) (rules_from section (reader_places l) q p) (Err l.number)

-- What the code's answers and what it carries mean, for the contracts of its functions.
use Rattle.std.specs.Prelude.{◌≡◌, ℕ, ◌^◌, ◌<◌, ◌≤◌, Bool, List, Some, None}
use Rattle.std.specs.Prelude as code
use Rattle.format.specs.Prelude.{Result}
use Rattle.format.specs.Coded.{result_of, numbered}
use Rattle.format.specs.declared.question.Question.{Question}
use Rattle.format.specs.Answers.{bit}
use Rattle.format.specs.Reader.{Entry, header_at}
use Rattle.reader.specs.declared.location.Located as reader
use Rattle.reader.specs.Finds.{Searching}
use Rattle.reads.specs.Index.{nowhere, place_or, records_of, indexed_as, list_after}
use Rattle.reads.specs.declared.Indexed.{Indexed}
use Rattle.reads.specs.declared.Located.{Located}

-- the numbers of what the reader located
unfoldable pub located_numbers : reader.Located → Located
located_numbers l =
    record {
      number = 0;
      header = l.header;
      header_end = l.header_end;
      «record» = l.«record»;
      record_end = l.record_end;
      length = l.size;
      pointer = l.pointer;
      signal = bit l.signal;
      word = l.word;
      shortest = bit l.shortest;
    }

-- the number that is stored for a header's place
unfoldable pub stored_as : code.Option ℕ → ℕ
stored_as (Some p) = p
stored_as None = nowhere

-- a header starts at a place, for any record behind it; it is none where no record is behind it
pub record Headed (debug : Bool) (es : List Entry) (place : ℕ) : Type 0 where
  pub starts : (before : ℕ) → place < before → before < 2 ^ 64 → place_or (header_at debug place before es) ≡ place

-- no relocation in front of the i-th has a place from `place` on
pub record Skipped (xs : List ℕ) (place i : ℕ) : Type 0 where
  pub searching : (q : ℕ) → place ≤ q → Searching xs q i

-- the count of an index's records is answered, and the index is stored in a lent list
pub record Stores (a : Result (List ℕ)) (r : code.Result ℕ Question) (old new : List ℕ) : Type 0 where
  pub answered : numbered r ≡ result_of (records_of a)
  pub stored : new ≡ list_after a old

-- the same of what the export answers
pub record Indexes (a : Result (List ℕ)) (r : Indexed) (old new : List ℕ) : Type 0 where
  pub answered : r ≡ indexed_as (result_of (records_of a))
  pub stored : new ≡ list_after a old

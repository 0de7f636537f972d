-- What the iterator over a section's records gives.
use Rattle.std.specs.Prelude.{◌≡◌, ◌≤◌, false, List, [], ◌∷◌, Some, None}
use Rattle.std.specs.Prelude as code
use Rattle.format.specs.Reader.{Entry, is_header, records}
use Rattle.reader.specs.Spans.{entry_of, entries_from, listed, Holds}
use Rattle.reader.specs.declared.records.Records.{Records}
use Rattle.reader.specs.declared.section.Span.{Span}

-- the records that are left
unfoldable pub left : Records → List Entry
left r = records r.debug (listed (entries_from r.rest.section.now r.rest.at))

-- the first of them, which it moves past
pub record GaveRecord (s : Records) (e : Span) (t : Records) : Type 0 where
  pub holds : Holds s.rest.section.now e
  pub no_header : is_header s.debug (entry_of s.rest.section.now e) ≡ false
  pub first : left s ≡ entry_of s.rest.section.now e ∷ left t
  pub ahead : s.rest.at ≤ e.at
  pub past : t.rest.at ≡ e.end
  pub same : t.rest.section ≡ s.rest.section
  pub same_debug : t.debug ≡ s.debug

-- none, where none is left
pub record RecordsEnded (s t : Records) : Type 0 where
  pub all : left s ≡ []
  pub same : t.rest.section ≡ s.rest.section
  pub same_debug : t.debug ≡ s.debug

-- the one or the other
abbrev pub GivesRecord : Records → code.Option Span → Records → Type 0
GivesRecord s (Some e) t = GaveRecord s e t
GivesRecord s None t = RecordsEnded s t

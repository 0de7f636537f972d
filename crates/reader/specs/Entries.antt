-- What the iterator over a section's entries gives.
use Rattle.std.specs.Prelude.{◌≡◌, ◌≤◌, length, Some, None}
use Rattle.std.specs.Prelude as code
use Rattle.reader.specs.Spans.{Ends}
use Rattle.reader.specs.declared.entries.Entries.{Entries}
use Rattle.reader.specs.declared.section.Span.{Span}

-- an entry of its section, the one at its position, which it moves past
pub record Gave (s : Entries) (e : Span) (t : Entries) : Type 0 where
  pub here : e.at ≡ s.at
  pub ends : Ends s.section.now e.at e.end
  pub same : t.section ≡ s.section
  pub past : t.at ≡ e.end

-- none, at the end of the section
pub record Ended (s t : Entries) : Type 0 where
  pub all : length s.section.now ≤ s.at
  pub same : t.section ≡ s.section

-- the one or the other
abbrev pub Gives : Entries → code.Option Span → Entries → Type 0
Gives s (Some e) t = Gave s e t
Gives s None t = Ended s t

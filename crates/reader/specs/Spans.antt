-- Entries of a section by the positions where they start and end.
use Rattle.std.specs.Prelude.{◌≡◌, ℕ, suc, ◌+◌, ◌-◌, ◌≤◌, Bool, List, [], ◌∷◌, T, length, take, drop, Some, None}
use Rattle.std.specs.Prelude as code
use Rattle.std.proofs.Math.Option.{Option, none, some}
use Rattle.format.specs.Prelude.{Read}
use Rattle.format.specs.Questions.{is_some}
use Rattle.format.specs.Reader.{Entry, read_entry, entries, entries_f, header_at}
use Rattle.reader.specs.declared.section.Span.{Span}

-- the bytes from a up to b
abbrev pub part : List ℕ → (a b : ℕ) → List ℕ
part s a b = take (b - a) (drop a s)

-- the entry whose length stands at `at`, and which ends in front of `end`
abbrev pub entry_in : List ℕ → (at end : ℕ) → Entry
entry_in s at end = record { at = at; body = part s (at + 4) end }

-- the entry that stands there
abbrev pub entry_of : List ℕ → Span → Entry
entry_of s e = entry_in s e.at e.end

-- a section has room for such an entry
abbrev pub Holds : List ℕ → Span → Type 0
Holds s e = (e.at + 8 ≤ e.end) × (e.end ≤ length s)

-- the entries from a position on, where they tile what is left
unfoldable pub entries_from : List ℕ → ℕ → Option (List Entry)
entries_from s at = entries_f (suc (length (drop at s))) at (drop at s)

-- these entries, none where they do not tile it
unfoldable pub listed : Option (List Entry) → List Entry
listed none = []
listed (some es) = es

-- where the entry at a position ends
unfoldable pub end_from : (size : ℕ) → Read (List ℕ) → code.Option ℕ
end_from size none = None
end_from size (some x) = Some (size - length x.1)

unfoldable pub end_at : List ℕ → ℕ → code.Option ℕ
end_at s p = end_from (length s) (read_entry (drop p s))

-- the first of the entries from `at` on ends at `end`, and entries follow
pub record Ends (s : List ℕ) (at end : ℕ) : Type 0 where
  pub long : at + 8 ≤ end
  pub inside : end ≤ length s
  pub tiled : T (is_some (entries_from s end))
  pub rest : listed (entries_from s at) ≡ entry_in s at end ∷ listed (entries_from s end)

-- entries tile the section from a position on, and a header there or further on is found by a search from there
pub record Ahead (s : List ℕ) (from : ℕ) : Type 0 where
  pub inside : from ≤ length s
  pub tiled : T (is_some (entries_from s from))
  pub found : (debug : Bool) (place before : ℕ) → from ≤ place
      → header_at debug place before (listed (entries s)) ≡ header_at debug place before (listed (entries_from s from))

-- the entry that was looked for
pub record Stands (s : List ℕ) (at end : ℕ) (x : Option Entry) : Type 0 where
  pub long : at + 8 ≤ end
  pub inside : end ≤ length s
  pub found : x ≡ some (entry_in s at end)

-- that entry, or none
abbrev pub Spans : List ℕ → code.Option Span → Option Entry → Type 0
Spans s (Some e) x = Stands s e.at e.end x
Spans s None x = x ≡ none

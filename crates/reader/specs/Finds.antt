-- What is found of record k: where its operations and its header's are, the few numbers that go with them, and the rules from there on.
use Rattle.std.specs.Prelude.{◌≡◌, Bool, true, false, ◌&&◌, ℕ, ◌-◌, ◌/◌, ◌≤◌, List, [], ◌∷◌, length, T, leb, eqb, Ok, Err, Some, None}
use Rattle.std.specs.Prelude as code
use Rattle.std.proofs.Math.ListN.{get_elem?}
use Rattle.format.specs.Prelude.{pick, after, each, Result, good, bad, onward, or_else}
use Rattle.format.specs.Machine.{is_word_size}
use Rattle.format.specs.Lists.{Relocation, relocation_at, relocations_of}
use Rattle.format.specs.Rules.{State, blank, answer}
use Rattle.format.specs.Reader.{Entry, entries, records, header_place, header_at, first_addend, Found, locate, run, run_to, shortest_to}
use Rattle.format.specs.Coded.{Reading}
use Rattle.format.specs.Numbers.{number_of}
use Rattle.format.specs.declared.question.Question.{Question}
use Rattle.reader.specs.Spans.{part, entry_of, Holds}
use Rattle.reader.specs.declared.location.Located.{Located}
use Rattle.reader.specs.declared.section.Layout.{Layout}
use Rattle.reader.specs.declared.section.Section.{Section}
use Rattle.reader.specs.declared.section.Span.{Span}

-- 11: word 2, 4 or 8, and kind 0 (eh) or 1 (debug); then the fields are laid out by these
abbrev pub LaidOut : (kind word : ℕ) → code.Option Layout → Type 0
LaidOut kind word (Some l) = (is_word_size word && leb kind 1 ≡ true) × (l.debug ≡ eqb kind 1) × (l.word ≡ word)
LaidOut kind word None = is_word_size word && leb kind 1 ≡ false

-- a section of these bytes and relocations, whose fields are laid out so
abbrev pub SectionOf : (bytes relocations : List ℕ) (kind word : ℕ) → code.Option Section → Type 0
SectionOf bs rs kind word (Some s) = (s.bytes.now ≡ bs) × (s.relocations.now ≡ rs) × LaidOut kind word (Some s.layout)
SectionOf bs rs kind word None = LaidOut kind word None

-- the first relocation at a place is one of those from the i-th on
pub record Searching (xs : List ℕ) (place i : ℕ) : Type 0 where
  pub inside : i ≤ length xs / 5
  pub rest : first_addend place (relocations_of xs) ≡ first_addend place (each (relocation_at xs) i (length xs / 5 - i))

-- where the operations of the header are, and those of the record
unfoldable pub spans_of : Located → List Span
spans_of l = record { at = l.header; end = l.header_end } ∷ record { at = l.«record»; end = l.record_end } ∷ []

-- the fields of the record and of its header, by positions of the section
abbrev pub found : List ℕ → Located → Found
found s l =
    record {
      header = record { pointer = l.pointer; signal = l.signal; operations = part s l.header l.header_end };
      found = record { size = l.size; operations = part s l.«record» l.record_end };
      shortest = l.shortest;
    }

-- the header's operations and then the record's, up to a step that would pass p
abbrev pub run_both : (word p : ℕ) → Found → Result State
run_both word p x =
    onward (run true word p blank.current.rules blank x.header.operations) λ t. run false word p t.current.rules t x.found.operations

-- 61 to 63: the header of record k, and the record
unfoldable pub two_entries : (debug : Bool) → List Relocation → (k : ℕ) → List ℕ → Result (Entry × Entry)
two_entries debug rs k section =
    onward (or_else (entries section) 61) λ es.
    onward (or_else (get_elem? (records debug es) k) 62) λ e.
    onward (or_else (after (header_place debug rs e) λ place. header_at debug place e.at es) 63) λ h.
    good (h, e)

-- where they stand, or the question
abbrev pub Stand : List ℕ → code.Result (Span × Span) Question → Result (Entry × Entry) → Type 0
Stand s (Ok x) r = Holds s x.0 × Holds s x.1 × (r ≡ good (entry_of s x.0, entry_of s x.1))
Stand s (Err q) r = r ≡ bad (number_of q)

-- an answer, that its positions lie in the section, and its word
pub record Stated (s : List ℕ) (word : ℕ) (l : Located) (x : Result Found) : Type 0 where
  pub answer : x ≡ good (found s l)
  pub header_ordered : l.header ≤ l.header_end
  pub header_inside : l.header_end ≤ length s
  pub record_ordered : l.«record» ≤ l.record_end
  pub record_inside : l.record_end ≤ length s
  pub same_word : l.word ≡ word
  pub is_word : T (is_word_size word)

-- 61 to 64: what is found, or the question
abbrev pub Locates : List ℕ → ℕ → code.Result Located Question → Result Found → Type 0
Locates s word (Ok l) x = Stated s word l x
Locates s word (Err q) x = x ≡ bad (number_of q)

-- 11, and then 61 to 64
unfoldable pub locate_in : (section relocations : List ℕ) (kind word k : ℕ) → Result Found
locate_in section relocations kind word k =
    pick (is_word_size word && leb kind 1) (locate (eqb kind 1) (relocations_of relocations) word k section) (bad 11)

-- numbers whose positions lie in the section, and whose word is one
unfoldable pub in_section : List ℕ → Located → Bool
in_section s l =
    leb l.header l.header_end && (leb l.header_end (length s) && (leb l.«record» l.record_end
    && (leb l.record_end (length s) && is_word_size l.word)))

-- the rules at p for register q from these numbers on; 64: numbers that are not so
unfoldable pub rules_from : List ℕ → Located → (q p : ℕ) → Reading
rules_from s l q p = answer q (pick (in_section s l) (run_to l.word p (found s l)) (bad 64))

-- whether every number that was read for them is spelled shortest
unfoldable pub shortest_from : List ℕ → Located → (p : ℕ) → Bool
shortest_from s l p = in_section s l && shortest_to l.word p (found s l)

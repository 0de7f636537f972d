-- What stands at a position, by the code's tests.
use mathlib.Core.Path.{◌≡◌, sym, ap, ◌∙◌}
use mathlib.Core.Bool.{Bool, true, false, ◌&&◌}
use Prim.Native.Nat.{ℕ, ◌+◌, ◌-◌, ◌≤◌, ◌<◌}
use native.Mathlib.Omega.{arith}
use mathlib.Core.List.{List}
use lib.Dec.{eqb, leb}
use lib.ListN.{length, drop, length-drop}
use lib.Seq.{length-take-le}
use borrow.Author.Tests.{le-leb, lt-leb}
use Rattle.format.specs.Prelude.{pick, Result, good, bad}
use Rattle.format.specs.Machine.{is_word_size}
use Rattle.reader.specs.Spans.{part}
use Rattle.reader.specs.Listing.{entry_at}
use Rattle.reader.specs.declared.cursor.Entry.{Entry}
use Rattle.reader.proofs.Steps.{Fits, entry_fits}
use Rattle.reader.proofs.Seeking.{answer_is, answer_no}
use Rattle.format.specs.Coded.{result_of, numbered}
use Rattle.format.specs.Numbers.{number_of}
use Rattle.format.specs.declared.question.Question.{Question}
use Rattle.std.specs.Prelude.{Ok, Err}
use Rattle.std.specs.Prelude as code
use Rattle.parts.specs.Entries.{stopped, standing, next_entry}

module _ (section : List ℕ) (kind at : ℕ) where
  pub entry_kind : 1 < kind → next_entry section kind at ≡ stopped 11 at
  unfolding next_entry pick
  entry_kind h = simp (lt-leb kind 1 h)

  pub entry_there : kind ≤ 1 → next_entry section kind at ≡ standing at (entry_at (eqb kind 1) section at)
  unfolding next_entry pick
  entry_there h = simp (le-leb kind 1 h)

-- ---- the bytes behind an entry's length

module _ (section : List ℕ) {p : ℕ} {e : Entry} (f : Fits section p e) where
  pub body_ends : e.place + 4 + length (part section (e.place + 4) e.next) ≡ e.next
  body_ends =
      let n : ℕ = e.next - (e.place + 4) in
      omega (arith, f.here, f.past, length-take-le n (drop (e.place + 4) section) (omega (arith, length-drop (e.place + 4) section, f.here, f.past, f.inside)))

-- the position in front of what is left
pub left : (s : List ℕ) (base q : ℕ) → q ≤ length s → base + length s - length (drop q s) ≡ base + q
left s base q h = omega (arith, length-drop q s)

pub laid : (kind word : ℕ) → is_word_size word ≡ true → kind ≤ 1 → is_word_size word && leb kind 1 ≡ true
laid kind word w k = rw (w, le-leb kind 1 k)

-- ---- a reader of the entry at a position, by its tests: the word and the kind, an entry, a header or a record

abbrev pub body : List ℕ → Entry → List ℕ
body section e = part section (e.place + 4) e.next

unfoldable pub by_header : {A : Type 0} → List ℕ → (none : A) → (onHeader onRecord : ℕ → List ℕ → A) → Result Entry → A
by_header section none onHeader onRecord (bad n) = none
by_header section none onHeader onRecord (good e) = pick e.header (onHeader e.next (body section e)) (onRecord e.next (body section e))

-- it answers `no` of a word or a kind, `none` where no entry stands, and else by where the entry ends and by its bytes
pub record ByEntry {A : Type 0} (section : List ℕ) (kind word place : ℕ) (here no none : A) (onHeader onRecord : ℕ → List ℕ → A) : Type 0 where
  pub says : here ≡ pick (is_word_size word && leb kind 1) (by_header section none onHeader onRecord (entry_at (eqb kind 1) section place)) no

module _ {A : Type 0} {section : List ℕ} {kind word place : ℕ} {here no none : A} {onHeader onRecord : ℕ → List ℕ → A} (c : ByEntry section kind word place here no none onHeader onRecord)
  where
    pub unlaid : is_word_size word && leb kind 1 ≡ false → here ≡ no
    unfolding pick
    unlaid w = c.says ∙ rw w

    module _ (w : is_word_size word && leb kind 1 ≡ true) where
      pub entryless : {n : ℕ} → entry_at (eqb kind 1) section place ≡ bad n → here ≡ none
      unfolding by_header pick
      entryless e = c.says ∙ rw (w, e)

      module _ {e : Entry} (same : entry_at (eqb kind 1) section place ≡ good e) where
        pub at_header : e.header ≡ true → here ≡ onHeader (e.place + 4 + length (body section e)) (body section e)
        unfolding by_header pick
        at_header h = c.says ∙ rw (w, same, h, body_ends section (entry_fits (eqb kind 1) section place same))

        pub at_record : e.header ≡ false → here ≡ onRecord (e.place + 4 + length (body section e)) (body section e)
        unfolding by_header pick
        at_record h = c.says ∙ rw (w, same, h, body_ends section (entry_fits (eqb kind 1) section place same))

-- ---- what was read with a layout

module _ (section : List ℕ) (debug : Bool) (place : ℕ) {r : code.Result Entry Question} (m : numbered r ≡ result_of (entry_at debug section place)) where
  pub no_entry : {d : Bool} → debug ≡ d → {q : Question} → r ≡ Err q → entry_at d section place ≡ bad (number_of q)
  no_entry f e = rw f at (answer_no _ (sym m ∙ ap numbered e))

  module _ {e : Entry} (q : r ≡ Ok e) where
    pub an_entry : {d : Bool} → debug ≡ d → entry_at d section place ≡ good e
    an_entry f = rw f at (answer_is _ (sym m ∙ ap numbered q))

    -- its bytes lie in the section
    pub lies : (e.place + 4 ≤ e.next) × (e.next ≤ length section)
    lies =
        let f = entry_fits debug section place (answer_is _ (sym m ∙ ap numbered q)) in
        (omega (arith, f.here, f.past), f.inside)

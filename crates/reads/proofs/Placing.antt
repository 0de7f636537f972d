-- Located entries: from the fields that were read to the numbers that are answered.
use Rattle.std.proofs.Common.{◌≡◌, ℕ, ◌+◌, ◌-◌, ◌<◌, ◌≤◌, Bool, true, false, ◌&&◌, T, eqb, leb, List, length, drop, refl, ap, arith, length-drop, length-take-le, le-ltb, lt-ltb, eq-eqb, ne_eqb}
use mathlib.Core.Option.{none, some}
use mir.Facts.{and_yes}
use lib.ListN.{get_elem?}
use Rattle.format.specs.Prelude.{pick, next, after, Result, bad, onward, or_else}
use Rattle.format.specs.Machine.{is_word_size}
use Rattle.format.specs.Lists.{Relocation, relocations_of}
use Rattle.format.specs.Reader.{Found, read_entry, entries, records, header_place, header_at, parsed}
use Rattle.reader.specs.Spans.{part, entry_in}
use Rattle.reader.specs.Finds.{Stated, two_entries}
use Rattle.reader.specs.declared.location.Located as reader
use Rattle.reader.proofs.Whole.{of_entries}
use Rattle.std.specs.Prelude.{Some, None, Ok, Err}
use Rattle.std.specs.Prelude as code
use Rattle.format.specs.Coded.{result_of}
use Rattle.reads.specs.Standing.{located_numbers}
use Rattle.reader.specs.Spans.{end_at}
use Rattle.reader.specs.Finds.{rules_from, shortest_from}
use Rattle.reader.proofs.Tiling.{entered, none_read}
use Rattle.reads.specs.Addresses.{entry_at}
use Rattle.reads.specs.Index.{locate_in, locate_at}
use Rattle.reads.specs.Places.{reader_places, rules_of, asked, end_of, operations_at, places_of, located_as, locate_entries, header_of, locate_nth, locate_record}
use Rattle.reads.specs.declared.Located.{Located}

-- ---- 11

module _ (kind word : ℕ) where
  pub asked_word : asked kind word ≡ true → T (is_word_size word)
  unfolding asked
  asked_word e = let t : T (is_word_size word && leb kind 1) = rw e tt in (and_yes (is_word_size word) (leb kind 1) t).0

module _ (section relocations : List ℕ) (kind word k : ℕ) where
  pub locate_unasked : asked kind word ≡ false → located_as (Err 11) ≡ locate_record section relocations kind word k
  unfolding locate_record pick
  locate_unasked e = rw e refl

  pub locate_asked : asked kind word ≡ true → located_as (result_of (locate_nth (eqb kind 1) (relocations_of relocations) word k section)) ≡ locate_record section relocations kind word k
  unfolding locate_record pick
  locate_asked e = rw e refl

module _ (section : List ℕ) (kind word place header : ℕ) where
  pub at_unasked : asked kind word ≡ false → located_as (Err 11) ≡ locate_at section kind word place header
  unfolding locate_at pick
  at_unasked e = rw e refl

  pub at_asked : asked kind word ≡ true → located_as (result_of (locate_in (eqb kind 1) word section place header)) ≡ locate_at section kind word place header
  unfolding locate_at pick
  at_asked e = rw e refl

-- ---- the entry at a place

module _ (s : List ℕ) (p : ℕ) where
  pub entry_none : end_at s p ≡ None → entry_at s p ≡ none
  unfolding entry_at end_at next
  entry_none e = rw (none_read s (read_entry (drop p s)) e) refl

  pub entry_here : {q : ℕ} → end_at s p ≡ Some q → entry_at s p ≡ some (entry_in s p q)
  unfolding entry_at next
  entry_here e = rw (entered s p e).read refl

-- ---- 64

part_length : (s : List ℕ) (a b : ℕ) → a ≤ b → b ≤ length s → length (part s a b) ≡ b - a
part_length s a b h l = length-take-le (b - a) (drop a s) (omega (arith, length-drop a s))

pub end_in : (s : List ℕ) (at end : ℕ) → at + 8 ≤ end → end ≤ length s → end_of (entry_in s at end) ≡ end
unfolding end_of
end_in s at end l i = omega (arith, part_length s (at + 4) end (omega arith) i)

pub operations_in : (s : List ℕ) (at end p : ℕ) → at + 8 ≤ end → end ≤ length s → p ≤ end → operations_at (entry_in s at end) (part s p end) ≡ p
unfolding operations_at
operations_in s at end p l i h = rw (end_in s at end l i, part_length s p end h i) (omega arith)

module _ (s : List ℕ) (debug : Bool) (word cie past at end : ℕ) where
  abbrev fields : Result Found
  fields = parsed debug word (entry_in s cie past) (entry_in s at end)

  abbrev whole : Result Located
  whole = locate_entries debug word (entry_in s cie past) (entry_in s at end)

  pub entries_refused : {n : ℕ} → fields ≡ bad n → Err n ≡ result_of whole
  unfolding locate_entries onward
  entries_refused e = rw e refl

  pub entries_located : cie + 8 ≤ past → past ≤ length s → at + 8 ≤ end → end ≤ length s → {l : reader.Located} → Stated s word l fields
      → l.header_end ≡ past → l.record_end ≡ end → Ok (located_numbers l) ≡ result_of whole
  unfolding locate_entries onward places_of located_numbers
  entries_located h₁ h₂ h₃ h₄ {l} x e f =
      rw (
        x.answer,
        e,
        f,
        end_in s cie past h₁ h₂,
        end_in s at end h₃ h₄,
        operations_in s cie past l.header h₁ h₂ (omega (arith, x.header_ordered)),
        operations_in s at end l.record h₃ h₄ (omega (arith, x.record_ordered)),
        x.same_word,
      )
      refl

-- ---- 61, 62 and 63

pub nth_both : (s : List ℕ) (rs : List Relocation) (debug : Bool) (word k : ℕ)
    → locate_nth debug rs word k s ≡ onward (two_entries debug rs k s) (λ x. locate_entries debug word x.0 x.1)
unfolding locate_nth header_of two_entries
nth_both s rs debug word k =
    of_entries (locate_entries debug word) (entries s) (λ es. get_elem? (records debug es) k) (λ es e. after (header_place debug rs e) λ place. header_at debug place e.at es)

-- ---- by places

module _ (s : List ℕ) (debug : Bool) (word at cie : ℕ) where
  abbrev there : code.Result Located ℕ
  there = result_of (locate_in debug word s at cie)

  pub at_behind : at ≤ cie → Err 63 ≡ there
  unfolding locate_in pick
  at_behind h = rw (le-ltb cie at h) refl

  module _ (h : cie < at) where
    pub at_headless : end_at s cie ≡ None → Err 64 ≡ there
    unfolding locate_in pick onward or_else
    at_headless e = rw (lt-ltb cie at h, entry_none s cie e) refl

    module _ {past : ℕ} (e : end_at s cie ≡ Some past) where
      pub at_missing : end_at s at ≡ None → Err 64 ≡ there
      unfolding locate_in pick onward or_else
      at_missing f = rw (lt-ltb cie at h, entry_here s cie e, entry_none s at f) refl

      pub at_both : {end : ℕ} → end_at s at ≡ Some end → result_of (locate_entries debug word (entry_in s cie past) (entry_in s at end)) ≡ there
      unfolding locate_in pick onward or_else
      at_both f = rw (lt-ltb cie at h, entry_here s cie e, entry_here s at f) refl

-- ---- the rules from there

module _ (section : List ℕ) (l : Located) (q p : ℕ) where
  pub rules_refused : (l.number ≡ 0 → ⊥) → Err l.number ≡ rules_of section l q p
  unfolding rules_of pick
  rules_refused n = rw (ne_eqb l.number 0 n) refl

  pub rules_there : l.number ≡ 0 → rules_from section (reader_places l) q p ≡ rules_of section l q p
  unfolding rules_of pick
  rules_there e = rw (eq-eqb l.number 0 e) refl

-- of the same places
pub same_rules : (s : List ℕ) (q p : ℕ) {l k : reader.Located} → l ≡ k → rules_from s l q p ≡ rules_from s k q p
same_rules s q p e = ap (λ (x : reader.Located). rules_from s x q p) e

pub same_mark : (s : List ℕ) (p : ℕ) {l k : reader.Located} → l ≡ k → shortest_from s l p ≡ shortest_from s k p
same_mark s p e = ap (λ (x : reader.Located). shortest_from s x p) e

-- What stands at a position, by where the entry there ends.
use mathlib.Core.Path.{◌≡◌, refl, sym, ap, ◌∙◌}
use mathlib.Core.Bool.{Bool}
use mathlib.Core.Option.{none, some}
use mathlib.Core.List.{List, [], ◌∷◌}
use Prim.Native.Nat.{ℕ, ◌+◌, ◌-◌, ◌≤◌, ◌<◌}
use native.Mathlib.Omega.{arith}
use lib.ListN.{length, drop, length-drop, drop_of_length-le}
use lib.Seq.{length-take-le}
use Rattle.format.specs.Reader.{read_entry, is_header}
use Rattle.format.proofs.Choice.{either}
use Rattle.reader.specs.Spans.{part, entry_in, end_at}
use Rattle.std.specs.Prelude.{Some, None}
use Rattle.std.specs.Prelude as code
use Rattle.reader.proofs.Tiling.{entered, none_read}
use Rattle.format.specs.Prelude.{Read, good, bad}
use Rattle.reader.specs.Listing.{shown, entry_read, entry_from, entry_at}
use Rattle.reader.specs.declared.cursor.Entry.{Entry}

-- the entry from p to q
abbrev pub spanned : (debug : Bool) → List ℕ → (p q : ℕ) → Entry
spanned debug s p q = record { header = is_header debug (entry_in s p q); place = p; length = q - (p + 4); next = q }

pub shown_span : (debug : Bool) (s : List ℕ) (p q : ℕ) → p + 8 ≤ q → q ≤ length s → shown debug (entry_in s p q) ≡ spanned debug s p q
unfolding shown
shown_span debug s p q l h =
    let e : length (part s (p + 4) q) ≡ q - (p + 4) = length-take-le (q - (p + 4)) (drop (p + 4) s) (omega (arith, length-drop (p + 4) s)) in
    let m : p + 4 + length (part s (p + 4) q) ≡ q = omega arith in
    rw (m, e)

from_bytes : (debug : Bool) (p : ℕ) (bs : List ℕ) → 0 < length bs → entry_from debug p bs ≡ entry_read debug p (read_entry bs)
unfolding entry_from
from_bytes debug p [] h = absurd (omega arith)
from_bytes debug p (b ∷ bs) h = refl

module _ (debug : Bool) (s : List ℕ) (p : ℕ) where
  pub at_end_lem : length s ≤ p → entry_at debug s p ≡ bad 62
  unfolding entry_at entry_from
  at_end_lem h = rw (drop_of_length-le s h)

  module _ (h : p < length s) where
    read_here : entry_at debug s p ≡ entry_read debug p (read_entry (drop p s))
    unfolding entry_at
    read_here = from_bytes debug p (drop p s) (omega (arith, length-drop p s))

    pub at_none : end_at s p ≡ None → entry_at debug s p ≡ bad 61
    unfolding end_at entry_read
    at_none e = read_here ∙ rw (none_read s (read_entry (drop p s)) e)

    pub at_there : {q : ℕ} → end_at s p ≡ Some q → entry_at debug s p ≡ good (spanned debug s p q)
    unfolding entry_read
    at_there {q} e = let a = entered s p e in read_here ∙ rw a.read (ap good (shown_span debug s p q a.long a.inside))

-- ---- what a caller knows of an entry

-- it stands at the position asked, and it and the next one's position lie in the section
pub record Fits (s : List ℕ) (p : ℕ) (e : Entry) : Type 0 where
  pub here : e.place ≡ p
  pub least : 4 ≤ e.length
  pub past : e.next ≡ p + 4 + e.length
  pub inside : e.next ≤ length s

spanned_fits : (debug : Bool) (s : List ℕ) (p q : ℕ) → p + 8 ≤ q → q ≤ length s → Fits s p (spanned debug s p q)
spanned_fits debug s p q l h = record { here = refl; least = omega arith; past = omega arith; inside = h }

read_number : (debug : Bool) (p : ℕ) (r : Read (List ℕ)) {n : ℕ} → entry_read debug p r ≡ bad n → 0 < n
unfolding entry_read
read_number debug p none {n} e = let z : 61 ≡ n = cc in omega arith
read_number debug p (some x) e = let z : ◌≡◌ {A = ℕ} 0 1 = cc in absurd (omega arith)

from_number : (debug : Bool) (p : ℕ) (bs : List ℕ) {n : ℕ} → entry_from debug p bs ≡ bad n → 0 < n
unfolding entry_from
from_number debug p [] {n} e = let z : 62 ≡ n = cc in omega arith
from_number debug p (b ∷ bs) e = read_number debug p (read_entry (b ∷ bs)) e

-- a refusal has a question's number
pub refused_by : (debug : Bool) (s : List ℕ) (p : ℕ) {n : ℕ} → entry_at debug s p ≡ bad n → 0 < n
unfolding entry_at
refused_by debug s p e = from_number debug p (drop p s) e

module _ (debug : Bool) (s : List ℕ) (p : ℕ) where
  none_here : {n : ℕ} {e : Entry} → entry_at debug s p ≡ bad n → entry_at debug s p ≡ good e → Fits s p e
  none_here a b = let w = sym a ∙ b in let z : ◌≡◌ {A = ℕ} 0 1 = cc in absurd (omega arith)

  at_number : (r : code.Option ℕ) → end_at s p ≡ r → p < length s → {e : Entry} → entry_at debug s p ≡ good e → Fits s p e
  at_number None o h b = none_here (at_none debug s p h o) b
  at_number (Some q) o h {e} b =
      let a = entered s p o in
      let w = sym (at_there debug s p h o) ∙ b in
      let g : spanned debug s p q ≡ e = cc in
      rw (← g) (spanned_fits debug s p q a.long a.inside)

  pub entry_fits : {e : Entry} → entry_at debug s p ≡ good e → Fits s p e
  entry_fits {e} b = either (length s) p (λ h. none_here (at_end_lem debug s p h) b) (λ h. at_number (end_at s p) refl h b)

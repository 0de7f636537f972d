-- The operations that the reader takes are the bytes from where the exports say that they stand up to the entry's end.
use mathlib.Core.Path.{◌≡◌, refl, sym, ◌∙◌}
use mathlib.Core.Bool.{Bool, true, false}
use mathlib.Core.Option.{Option, none, some}
use mathlib.Core.List.{List}
use Prim.Native.Nat.{ℕ, ◌+◌, ◌-◌, ◌≤◌}
use native.Mathlib.Omega.{arith}
use lib.Dec.{eqb, leb}
use lib.ListN.{length, drop, length-drop}
use lib.Seq.{drop-drop, length-take-le}
use Rattle.format.specs.Prelude.{pick, Read, next, after}
use Rattle.format.specs.Rows.{same_offset}
use Rattle.format.specs.Headers.{data_factor}
use Rattle.format.specs.Reader.{Letters, spellings, letters_in, require, HeaderFields, header_tail, parse_header, RecordFields, record_tail, parse_record}
use Rattle.operations.proofs.PositionLaws.{takes_little, takes_uleb, takes_sleb}
use Rattle.reader.specs.Spans.{part}
use Rattle.reader.proofs.Suffixes.{Leaves, unread, leaves, of_takes, leaves_register, leaves_byte, leaves_counted, leaves_letters}
use Rattle.reader.proofs.Whole.{drop-part}

-- ---- what is taken ends with the operations

pub data Ends {F : Type 0} (operations : F → List ℕ) (bs : List ℕ) : Option F → Type 0 where
  refused : Ends operations bs none
  ends : (f : F) (n : ℕ) → n ≤ length bs → operations f ≡ drop n bs → Ends operations bs (some f)

module _ {F : Type 0} {operations : F → List ℕ} where
  ends_past : (n : ℕ) (bs : List ℕ) {o : Option F} → n ≤ length bs → Ends operations (drop n bs) o → Ends operations bs o
  ends_past n bs h refused = refused
  ends_past n bs h (ends f k m e) = ends f (n + k) (omega (arith, length-drop n bs)) (e ∙ rw drop-drop)

  ends_next : {A : Type 0} {bs : List ℕ} {r : Read A} {k : A → List ℕ → Option F} → Leaves bs r → ((a : A) (rest : List ℕ) → Ends operations rest (k a rest)) → Ends operations bs (next r k)
  unfolding next
  ends_next unread u = refused
  ends_next {bs = bs} (leaves n v m) u = ends_past n bs m (u v (drop n bs))

  ends_after : {A : Type 0} {bs : List ℕ} (o : Option A) {k : A → Option F} → ((a : A) → Ends operations bs (k a)) → Ends operations bs (after o k)
  unfolding after
  ends_after none u = refused
  ends_after (some a) u = u a

  ends_require : {bs : List ℕ} (test : Bool) {o : Option F} → Ends operations bs o → Ends operations bs (require test o)
  unfolding require pick
  ends_require true e = e
  ends_require false e = refused

  -- such bytes of a section stand at its positions
  stand : (section : List ℕ) (a b : ℕ) → a ≤ b → b ≤ length section → {o : Option F} {f : F} → Ends operations (part section a b) o → o ≡ some f
      → part section (b - length (operations f)) b ≡ operations f
  stand section a b h k refused e = let z : ◌≡◌ {A = ℕ} 0 1 = cc in absurd (omega arith)
  stand section a b h k {f = f} (ends g n m s) e =
      let l : length (part section a b) ≡ b - a = length-take-le (b - a) (drop a section) (omega (arith, length-drop a section)) in
      let w : operations f ≡ drop n (part section a b) = cc in
      let p : b - length (drop n (part section a b)) ≡ a + n = omega (arith, length-drop n (part section a b)) in
      rw (w, p) (sym (drop-part section a b n))

-- ---- a header and a record

ends_header_tail : (debug : Bool) (l : Letters) (word : ℕ) (bs : List ℕ) → Ends (λ (f : HeaderFields). f.operations) bs (header_tail debug l word bs)
unfolding header_tail
ends_header_tail true l word bs = ends _ 0 (omega arith) refl
ends_header_tail false l word bs = ends_next (leaves_counted bs) λ aug ops. ends_after (letters_in l word aug) λ n. ends _ 0 (omega arith) refl

ends_header : (debug : Bool) (word : ℕ) (bs : List ℕ) → Ends (λ (f : HeaderFields). f.operations) bs (parse_header debug word bs)
unfolding parse_header
ends_header debug word bs =
    ends_next (of_takes (takes_little 4 bs)) λ id r₀. ends_next (leaves_byte r₀) λ version r₁. ends_require (eqb version 1)
    (ends_next (leaves_letters (spellings debug) r₁) λ l r₂. ends_next (of_takes (takes_uleb r₂)) λ code r₃. ends_require (eqb code 1)
    (ends_next (of_takes (takes_sleb r₃)) λ z r₄. ends_require (same_offset z (data_factor word))
    (ends_next (leaves_register r₄) λ ret r₅. ends_header_tail debug l word r₅)))

ends_record_tail : (debug : Bool) (pointer size : ℕ) (bs : List ℕ) → Ends (λ (f : RecordFields). f.operations) bs (record_tail debug pointer size bs)
unfolding record_tail
ends_record_tail true pointer size bs = ends _ 0 (omega arith) refl
ends_record_tail false pointer size bs = ends_next (leaves_counted bs) λ aug ops. ends_require (leb pointer (length aug)) (ends _ 0 (omega arith) refl)

ends_record : (debug : Bool) (word pointer : ℕ) (bs : List ℕ) → Ends (λ (f : RecordFields). f.operations) bs (parse_record debug word pointer bs)
unfolding parse_record
ends_record debug word pointer bs =
    ends_next (of_takes (takes_little 4 bs)) λ id r₀. ends_next (of_takes (takes_little (pick debug word 4) r₀)) λ place r₁.
    ends_next (of_takes (takes_little (pick debug word 4) r₁)) λ size r₂. ends_record_tail debug pointer size r₂

module _ (section : List ℕ) (debug : Bool) (word a b : ℕ) (h : a ≤ b) (k : b ≤ length section) where
  pub header_operations : {f : HeaderFields} → parse_header debug word (part section a b) ≡ some f → part section (b - length f.operations) b ≡ f.operations
  header_operations e = stand section a b h k (ends_header debug word (part section a b)) e

  pub record_operations : (pointer : ℕ) {f : RecordFields} → parse_record debug word pointer (part section a b) ≡ some f
      → part section (b - length f.operations) b ≡ f.operations
  record_operations pointer e = stand section a b h k (ends_record debug word pointer (part section a b)) e

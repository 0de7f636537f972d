-- A function's fields and its address: readers at positions, and sums modulo the word's bits.
use Rattle.std.proofs.Common.{◌≡◌, ℕ, suc, ◌+◌, ◌-◌, ◌*◌, ◌%◌, ◌^◌, ◌<◌, ◌≤◌, Bool, true, false, ◌&&◌, ◌||◌, T, eqb, ltb, leb, List, sym, refl, ap, ◌∙◌, ⊎_elim, arith, pow-add}
use mathlib.Core.Option.{Option}
use native.Mathlib.Nat.{mod-add-mod, mod-mod_of_dvd, dvd-mul_left}
use borrow.Author.Tests.{le-leb, lt-leb}
use mir.Facts.{or_yes, eqb_yes}
use Rattle.format.specs.Prelude.{pick, next, after}
use Rattle.format.specs.Reader.{is_header, require}
use Rattle.reader.specs.Spans.{end_at}
use Rattle.reads.specs.Places.{asked}
use Rattle.reads.proofs.Placing.{entry_none, entry_here}
use Rattle.format.specs.Machine.{is_word_size}
use Rattle.operations.specs.declared.fields.Position.{Position}
use Rattle.format.proofs.Choice.{if-le, if-gt}
use Rattle.format.proofs.FieldsBack.{word_small}
use Rattle.operations.specs.Positions.{little_at, from}
use Rattle.operations.proofs.PositionLaws.{little_rest, little_none}
use Rattle.reader.proofs.Recorded.{field_small}
use Rattle.reader.specs.Spans.{part, entry_in}
use Rattle.reads.specs.Addresses.{function_fields, sdata4, start_of, function_of, function_found, placed_as, function_at, record_of, holder_as, holder_in, holds}
use Rattle.format.specs.Prelude.{or_else}
use Rattle.format.specs.Coded.{result_of}
use Rattle.format.proofs.Asked.{option_of, value_is, none_is}
use Rattle.std.specs.Prelude.{Some, None, Ok, Err}
use Rattle.std.specs.Prelude as code
use Rattle.format.specs.Coded.{numbered}

-- ---- the fields

module _ (s : List ℕ) (debug : Bool) (word : ℕ) where
  abbrev fields : code.Option (ℕ × ℕ)
  fields = option_of (function_fields debug word s)

  pub fields_none : little_at 4 s (from 0) ≡ None → None ≡ fields
  unfolding function_fields next
  fields_none e = rw (little_none s (from 0) 4 e) refl

  module _ (t : T (is_word_size word)) {id : ℕ} {p : Position} (e : little_at 4 s (from 0) ≡ Some (id, p)) {n : ℕ} (w : n ≡ pick debug word 4) where
    pub fields_byte : 0 < n
    fields_byte = omega (arith, (field_small debug word t).0)

    pub fields_placeless : little_at n s p ≡ None → None ≡ fields
    unfolding function_fields next
    fields_placeless f = rw (← w, little_rest s (from 0) (omega arith) e, little_none s p n f) refl

    module _ {v : ℕ} {q : Position} (f : little_at n s p ≡ Some (v, q)) where
      pub fields_sizeless : little_at n s q ≡ None → None ≡ fields
      unfolding function_fields next
      fields_sizeless g = rw (← w, little_rest s (from 0) (omega arith) e, little_rest s p fields_byte f, little_none s q n g) refl

      pub fields_there : {size : ℕ} {u : Position} → little_at n s q ≡ Some (size, u) → Some (v, size) ≡ fields
      unfolding function_fields next
      fields_there g = rw (← w, little_rest s (from 0) (omega arith) e, little_rest s p fields_byte f, little_rest s q fields_byte g) refl

-- ---- addresses

-- a word that is neither 8 nor 4 is 2
pub word_two : (word : ℕ) → T (is_word_size word) → (word ≡ 8 → ⊥) → (word ≡ 4 → ⊥) → word ≡ 2
unfolding is_word_size
word_two w t a b =
    ⊎_elim (λ h. ⊎_elim (λ x. eqb_yes x) (λ x. absurd (b (eqb_yes x))) (or_yes (eqb w 2) (eqb w 4) h)) (λ x. absurd (a (eqb_yes x)))
    (or_yes (eqb w 2 || eqb w 4) (eqb w 8) t)

module _ (word : ℕ) (t : T (is_word_size word)) where
  split : 2 ^ 64 ≡ 2 ^ (64 - 8 * word) * 2 ^ (8 * word)
  split =
      let h = word_small word t in
      let e : 64 ≡ 64 - 8 * word + 8 * word = omega (arith, h.1) in
      ap (λ (k : ℕ). 2 ^ k) e ∙ pow-add 2 (64 - 8 * word) (8 * word)

  narrowed : (n : ℕ) → n % 2 ^ 64 % 2 ^ (8 * word) ≡ n % 2 ^ (8 * word)
  narrowed n = ap (λ (m : ℕ). n % m % 2 ^ (8 * word)) split ∙ mod-mod_of_dvd (2 ^ (8 * word)) n (dvd-mul_left (2 ^ (8 * word)) (2 ^ (64 - 8 * word)))

  -- two sums that wrap at 64 bits, and the word's bits of the second
  sums : (x f y z : ℕ) → y ≡ x % 2 ^ 64 → z ≡ (y + f) % 2 ^ 64 → z ≡ (x + f) % 2 ^ 64
  sums x f y z d e = e ∙ ap (λ (k : ℕ). (k + f) % 2 ^ 64) d ∙ mod-add-mod x (2 ^ 64) f

  module _ (address at field : ℕ) {y z r : ℕ} (d : y ≡ (address + (at + 8)) % 2 ^ 64) (e : z ≡ (y + field) % 2 ^ 64) where
    -- not negative
    pub start_above : field < 2 ^ 31 → r ≡ z % 2 ^ (8 * word) → r ≡ start_of false word address at field
    unfolding start_of sdata4
    start_above h g =
        g ∙ ap (λ (k : ℕ). k % 2 ^ (8 * word)) (sums (address + (at + 8)) field y z d e) ∙ narrowed (address + (at + 8) + field)
        ∙ ap (λ (k : ℕ). (address + (at + 8) + k) % 2 ^ (8 * word)) (sym (if-le (suc field) (2 ^ 31) field (field + (2 ^ 64 - 2 ^ 32)) h))

    -- negative
    pub start_below : {u : ℕ} → 2 ^ 31 ≤ field → u ≡ (z + 18446744069414584320) % 2 ^ 64 → r ≡ u % 2 ^ (8 * word) → r ≡ start_of false word address at field
    unfolding start_of sdata4
    start_below {u} h k g =
        let x : ℕ = address + (at + 8) in
        let a : address + (at + 8) + field + 18446744069414584320 ≡ address + (at + 8) + (field + (2 ^ 64 - 2 ^ 32)) = omega arith in
        g ∙ ap (λ (k : ℕ). k % 2 ^ (8 * word)) (sums (address + (at + 8) + field) 18446744069414584320 z u (sums (address + (at + 8)) field y z d e) k)
        ∙ narrowed (address + (at + 8) + field + 18446744069414584320)
        ∙ ap (λ (k : ℕ). k % 2 ^ (8 * word)) a
        ∙ ap (λ (k : ℕ). (address + (at + 8) + k) % 2 ^ (8 * word)) (sym (if-gt (suc field) (2 ^ 31) field (field + (2 ^ 64 - 2 ^ 32)) (omega arith)))

-- ---- the function of a record

module _ (s : List ℕ) (debug : Bool) (word address at end : ℕ) where
  abbrev fields_in : code.Option (ℕ × ℕ)
  fields_in = option_of (function_fields debug word (part s (at + 4) end))

  pub function_bad : fields_in ≡ None → None ≡ option_of (function_of debug word address (entry_in s at end))
  unfolding function_of after
  function_bad e = rw (none_is (function_fields debug word (part s (at + 4) end)) e) refl

  pub function_there : {v size start : ℕ} → fields_in ≡ Some (v, size) → start ≡ start_of debug word address at v
      → Some (start, size) ≡ option_of (function_of debug word address (entry_in s at end))
  unfolding function_of after
  function_there e f = rw (value_is (function_fields debug word (part s (at + 4) end)) e, f) refl

-- ---- what a function holds

module _ (pc : ℕ) (o : Option (ℕ × ℕ)) where
  pub holds_none : option_of o ≡ None → false ≡ holds pc o
  unfolding holds
  holds_none e = rw (none_is o e) refl

  module _ {start size : ℕ} (e : option_of o ≡ Some (start, size)) where
    holds_by : (leb start pc && ltb (pc - start) size) ≡ holds pc o
    unfolding holds
    holds_by = rw (value_is o e) refl

    pub holds_from : start ≤ pc → ltb (pc - start) size ≡ holds pc o
    holds_from h = sym (ap (λ (b : Bool). b && ltb (pc - start) size) (le-leb start pc h)) ∙ holds_by

    pub holds_later : pc < start → leb start pc ≡ holds pc o
    holds_later h = lt-leb start pc h ∙ sym (ap (λ (b : Bool). b && ltb (pc - start) size) (lt-leb start pc h)) ∙ holds_by

-- ---- the function of the record at a place

module _ (s : List ℕ) (debug : Bool) (word address place : ℕ) where
  abbrev wanted : code.Result (ℕ × ℕ) ℕ
  wanted = result_of (function_found debug word address place s)

  pub function_missing : end_at s place ≡ None → Err 64 ≡ wanted
  unfolding function_found after or_else
  function_missing e = rw (entry_none s place e) refl

  module _ {end : ℕ} (e : end_at s place ≡ Some end) where
    pub function_header : is_header debug (entry_in s place end) ≡ true → Err 64 ≡ wanted
    unfolding function_found after require pick or_else
    function_header y = rw (entry_here s place e, y) refl

    module _ (y : is_header debug (entry_in s place end) ≡ false) where
      abbrev of_entry : code.Option (ℕ × ℕ)
      of_entry = option_of (function_of debug word address (entry_in s place end))

      pub function_short : of_entry ≡ None → Err 64 ≡ wanted
      unfolding function_found after require pick or_else
      function_short n = rw (entry_here s place e, y, none_is (function_of debug word address (entry_in s place end)) n) refl

      pub function_record : {f : ℕ × ℕ} → of_entry ≡ Some f → Ok f ≡ wanted
      unfolding function_found after require pick or_else
      function_record n = rw (entry_here s place e, y, value_is (function_of debug word address (entry_in s place end)) n) refl

module _ (section : List ℕ) (kind word address place : ℕ) where
  pub function_unasked : asked kind word ≡ false → placed_as (Err 11) ≡ function_at section kind word address place
  unfolding function_at pick
  function_unasked e = rw e refl

  pub function_asked : asked kind word ≡ true → placed_as (result_of (function_found (eqb kind 1) word address place section)) ≡ function_at section kind word address place
  unfolding function_at pick
  function_asked e = rw e refl

-- ---- 11 of the record that holds an address

module _ (section : List ℕ) (kind word address pc : ℕ) where
  pub holder_unasked : asked kind word ≡ false → holder_as (Err 11) ≡ record_of section kind word address pc
  unfolding record_of pick
  holder_unasked e = rw e refl

  pub holder_asked : asked kind word ≡ true → holder_as (result_of (holder_in (eqb kind 1) word address pc section)) ≡ record_of section kind word address pc
  unfolding record_of pick
  holder_asked e = rw e refl

-- The record that holds an address and its header: one question behind the other.
use Rattle.std.proofs.Common.{◌≡◌, refl, ℕ, Bool, true, false, eqb, List}
use Rattle.std.specs.Prelude.{Ok, Err}
use Rattle.format.specs.Prelude.{pick, Result, good, bad, onward}
use Rattle.format.specs.Coded.{result_of}
use Rattle.format.specs.Lists.{Relocation, relocations_of}
use Rattle.format.specs.Reader.{Entry}
use Rattle.reader.specs.Finds.{two_entries}
use Rattle.reads.specs.Places.{asked}
use Rattle.reads.specs.Addresses.{holder_in}
use Rattle.lookup.specs.Entries.{entries_in, entries_as, entries_of}

refused : {A B : Type 0} (x : Result A) (f : A → Result B) {n : ℕ} → Err n ≡ result_of x → Err n ≡ result_of (onward x f)
unfolding onward
refused (good a) f e = cc
refused (bad m) f e = cc

went_on : {A B : Type 0} (x : Result A) (f : A → Result B) {a : A} → Ok a ≡ result_of x → result_of (f a) ≡ result_of (onward x f)
unfolding onward
went_on (good b) f e = cc
went_on (bad m) f e = cc

module _ (debug : Bool) (word : ℕ) (rs : List Relocation) (address pc : ℕ) (s : List ℕ) where
  pub no_holder : {n : ℕ} → Err n ≡ result_of (holder_in debug word address pc s) → Err n ≡ result_of (entries_in debug word rs address pc s)
  unfolding entries_in
  no_holder e = refused (holder_in debug word address pc s) _ e

  module _ {h : ℕ × ℕ} (e : Ok h ≡ result_of (holder_in debug word address pc s)) where
    pub no_header : {n : ℕ} → two_entries debug rs h.0 s ≡ bad n → Err n ≡ result_of (entries_in debug word rs address pc s)
    unfolding entries_in onward
    no_header t = rw (← went_on (holder_in debug word address pc s) _ e, t) refl

    pub both : {x : Entry × Entry} → two_entries debug rs h.0 s ≡ good x → Ok (h.0, h.1, x.0.at) ≡ result_of (entries_in debug word rs address pc s)
    unfolding entries_in onward
    both t = rw (← went_on (holder_in debug word address pc s) _ e, t) refl

module _ (section relocations : List ℕ) (kind word address pc : ℕ) where
  pub entries_unasked : asked kind word ≡ false → entries_as (Err 11) ≡ entries_of section relocations kind word address pc
  unfolding entries_of pick
  entries_unasked e = rw e refl

  pub entries_asked : asked kind word ≡ true
      → entries_as (result_of (entries_in (eqb kind 1) word (relocations_of relocations) address pc section)) ≡ entries_of section relocations kind word address pc
  unfolding entries_of pick
  entries_asked e = rw e refl

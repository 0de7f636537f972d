-- What a function's entries are padded to.
use mathlib.Core.Path.{◌≡◌, refl}
use Prim.Native.Nat.{ℕ, ◌≤◌, ◌<◌}
use native.Mathlib.Omega.{arith}
use mathlib.Core.Bool.{Bool, true, false}
use Rattle.format.specs.Prelude.{pick}
use Rattle.format.specs.declared.Machine.{Machine}
use Rattle.format.specs.declared.Section.{Section}
use Rattle.format.specs.declared.Section.TheVariants.{Elf, Debug}
use Rattle.format.specs.Writer.{align_for}
use Rattle.format.proofs.FieldsBack.{word_small}
use Rattle.format.proofs.Fits.{MachineFits}
use Rattle.format.proofs.SectionSize.{Aligned}

pub at_last : (s : Section) (word : ℕ) {last : Bool} → last ≡ true → word ≡ align_for s word last
unfolding align_for pick
at_last Elf word e = rw e
at_last Debug word e = refl

pub small_word : (s : Section) (word : ℕ) (last : Bool) → word < 4 → word ≡ align_for s word last
unfolding align_for pick
small_word Elf word true h = refl
small_word Elf word false h = omega arith
small_word Debug word last h = refl

pub in_elf : (word : ℕ) {last : Bool} → last ≡ false → 4 ≤ word → 4 ≡ align_for Elf word last
unfolding align_for pick
in_elf word e h = rw e (omega arith)

pub in_debug : (word : ℕ) (last : Bool) → word ≡ align_for Debug word last
unfolding align_for
in_debug word last = refl

pub align_ok : (s : Section) (m : Machine) → MachineFits m → (last : Bool) → Aligned (align_for s m.word last)
unfolding align_for pick
align_ok Elf m fit true = let w = word_small m.word fit.is_word in record { some_bytes = w.0; at_most_8 = w.1 }
align_ok Elf m fit false = let w = word_small m.word fit.is_word in record { some_bytes = omega arith; at_most_8 = omega arith }
align_ok Debug m fit last = let w = word_small m.word fit.is_word in record { some_bytes = w.0; at_most_8 = w.1 }

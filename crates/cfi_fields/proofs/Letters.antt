-- One letter of an augmentation string, and those behind it.
use Rattle.std.proofs.Common.{◌≡◌, refl, ℕ, suc, ◌+◌, ◌≤◌, ◌<◌, List, [], ◌∷◌, length, drop, length-drop, drop-cons, add-one, Ok, arith}
use Rattle.std.specs.Prelude.{slice_index}
use Rattle.cfi_entries.specs.Refusals.{◌>>=◌}
use Rattle.cfi_pointers.specs.declared.size.AddressSize.{AddressSize}
use Rattle.cfi_pointers.specs.declared.pointer.Bases.{Bases}
use Rattle.cfi_fields.specs.declared.augmentation.Augmented.{Augmented}
use Rattle.cfi_fields.specs.Augmentations.{with_letter, with_letters}

module _ (a : AddressSize) (b : Bases) (s : List ℕ) (t : ℕ) where
  pub letters_more : (ls : List ℕ) (i : ℕ) (x : Augmented) → i < length ls
      → with_letters a b s t (drop i ls) x ≡ (with_letter a b s t (slice_index ls i) x >>= with_letters a b s t (drop (i + 1) ls))
  unfolding with_letters
  letters_more ls i x h = rw (drop-cons ls i 0, add-one) refl

  none_left : (ls : List ℕ) (x : Augmented) → length ls ≡ 0 → with_letters a b s t ls x ≡ Ok x
  unfolding with_letters
  none_left [] x e = refl
  none_left (l ∷ ls) x e = absurd (omega arith)

  pub letters_end : (ls : List ℕ) (i : ℕ) (x : Augmented) → length ls ≤ i → with_letters a b s t (drop i ls) x ≡ Ok x
  letters_end ls i x h = none_left (drop i ls) x (omega (arith, length-drop i ls))

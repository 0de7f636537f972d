use Rattle.std.proofs.Common.{◌≡◌, ◌≤◌, length, drop}
use Rattle.cfi_fields.specs.Augmentations.{with_letters}
use Rattle.cfi_fields.proofs.augmentation.with_letters.Given as goal

-- what is left of the letters adds to x what all add to the first
abbrev pub invariant-loop-letter : goal.invariant-loop-letter
invariant-loop-letter l = record {
  inside : l.x.next ≤ length l.s;
  same : with_letters l.size l.bases l.s l.string (drop l.letter-index l.letters) l.x ≡ with_letters l.size l.bases l.s l.string l.letters l.fn.first;
}

-- What a test in the code says of a definition's test.
use mathlib.Core.Path.{◌≡◌, sym, ◌∙◌}
use Prim.Native.Nat.{ℕ, ◌+◌, ◌≤◌, ◌<◌}
use mathlib.Core.Bool.{Bool, true, false, not}
use borrow.Author.Tests.{le-leb, lt-leb, leb-true, not-true, not-false}
use lib.Dec.{leb}
use Rattle.format.specs.Lists.{inside}
use Rattle.format.proofs.Choice.{either}

-- two tests that hold together are one
pub same_leb : (a b c d : ℕ) → (a ≤ b → c ≤ d) → (b < a → d < c) → leb a b ≡ leb c d
same_leb a b c d f g = either a b (λ h. le-leb a b h ∙ sym (le-leb c d (f h))) (λ h. lt-leb a b h ∙ sym (lt-leb c d (g h)))

-- what a callee answered, from a test of its negation
pub accepted : {r x : Bool} → r ≡ x → not r ≡ false → x ≡ true
accepted {r} e t = sym e ∙ not-false r t

pub refused : {r x : Bool} → r ≡ x → not r ≡ true → x ≡ false
refused {r} e t = sym e ∙ not-true r t

-- a range inside its list ends in it
pub reached : (at n size : ℕ) → inside at n size ≡ true → at + n ≤ size
unfolding inside
reached at n size e = leb-true (at + n) size e

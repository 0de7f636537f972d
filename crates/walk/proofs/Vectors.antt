-- Closed cases of the definitions, computed.
use mathlib.Core.Path.{◌≡◌, refl}
use mathlib.Core.Bool.{true, false}
use mathlib.Core.Option.{none, some}
use mathlib.Core.List.{List, [], ◌∷◌}
use Prim.Native.Nat.{ℕ}
use lib.IntN.{pos, negsuc}
use Rattle.format.specs.Prelude.{pick, next, each}
use Rattle.format.specs.Leb.{read_little}
use Rattle.format.specs.Reader.{require}
use Rattle.walk.specs.Recorded.{matches, read_trailer}
use Rattle.walk.specs.Walk.{Memory, sum_of, load, looked_up, holds, held_from, placed_at, placed_of}

past : sum_of 18446744073709551615 (pos 1) ≡ none
unfolding sum_of require pick
past = refl

below : sum_of 7 (negsuc 7) ≡ none
unfolding sum_of require pick
below = refl

zeroth : sum_of 8 (negsuc 7) ≡ some 0
unfolding sum_of require pick
zeroth = refl

abbrev stack : List ℕ
stack = 9 ∷ 1 ∷ 2 ∷ 0 ∷ 0 ∷ 0 ∷ 0 ∷ 0 ∷ 0 ∷ []

abbrev stack_at : Memory
stack_at = record { address = 100; bytes = stack }

word : load stack_at 101 ≡ some 513
unfolding load require pick next read_little
word = refl

outside : load stack_at 102 ≡ none
unfolding load require pick next read_little
outside = refl

before : load stack_at 99 ≡ none
unfolding load require pick
before = refl

nowhere : looked_up false 0 ≡ none
unfolding looked_up
nowhere = refl

exactly : looked_up true 0 ≡ some 0
unfolding looked_up
exactly = refl

-- two functions hold 12: the first counts
first : held_from 12 0 (placed_of (20 ∷ 5 ∷ 10 ∷ 3 ∷ 12 ∷ 1 ∷ [])) ≡ some (record { position = 1; offset = 2 })
unfolding held_from holds placed_of placed_at each pick
first = refl

-- the end of a function is not in it
end : held_from 13 0 (placed_of (10 ∷ 3 ∷ [])) ≡ none
unfolding held_from holds placed_of placed_at each pick
end = refl

-- one byte of stack, one register, and the trailer 8, 1, 1
trailer : read_trailer (7 ∷ 1 ∷ 0 ∷ 0 ∷ 0 ∷ 0 ∷ 0 ∷ 0 ∷ 0 ∷ 8 ∷ 0 ∷ 0 ∷ 0 ∷ 0 ∷ 0 ∷ 0 ∷ 0 ∷ 1 ∷ 0 ∷ 0 ∷ 0 ∷ 1 ∷ 0 ∷ 0 ∷ 0 ∷ [])
    ≡ some (record { size = 1; count = 1 })
unfolding read_trailer matches require pick next read_little
trailer = refl

-- a stack length of 2 does not match
longer : read_trailer (7 ∷ 1 ∷ 0 ∷ 0 ∷ 0 ∷ 0 ∷ 0 ∷ 0 ∷ 0 ∷ 8 ∷ 0 ∷ 0 ∷ 0 ∷ 0 ∷ 0 ∷ 0 ∷ 0 ∷ 1 ∷ 0 ∷ 0 ∷ 0 ∷ 2 ∷ 0 ∷ 0 ∷ 0 ∷ []) ≡ none
unfolding read_trailer matches require pick next read_little
longer = refl

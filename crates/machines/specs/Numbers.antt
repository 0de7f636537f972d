-- A machine as the list of numbers that the writers take (document 01, "Machine, function and row").
use Rattle.std.specs.Prelude.{ℕ, List, ◌∷◌, length, leb}
use Rattle.format.specs.Prelude.{pick}
use Rattle.format.specs.Put.{put}
use Rattle.format.specs.declared.Machine.{Machine}

-- word, pushed bytes, stack pointer, return address, frame pointer, a 0, and the map
unfoldable pub machine_numbers : Machine → List ℕ
machine_numbers m = m.word ∷ m.pushed ∷ m.stack ∷ m.ret ∷ m.frame ∷ 0 ∷ m.map

-- numbers at the front of a lent list, and 0; or 54, and the list as it was, where they do not fit
unfoldable pub stored : List ℕ → List ℕ → ℕ × List ℕ
stored numbers old = pick (leb (length numbers) (length old)) (0, put old 0 numbers) (54, old)

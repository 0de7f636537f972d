-- What the export of the walk answers, and what it leaves in the lent list (docs/SPECIFICATION.md, Walk).
use Rattle.std.specs.Prelude.{ℕ, ◌/◌, List, [], ◌∷◌, length, leb}
use Rattle.format.specs.Prelude.{pick, Result, good, bad}
use Rattle.format.specs.Put.{put}
use Rattle.walk.specs.declared.Frame.{Frame}
use Rattle.walk.specs.Walk.{Source, Chain, frame_numbers, walk_by}
use Rattle.walk.specs.Found.{found}
use Rattle.walked.specs.declared.Answer.{Answer}

-- its numbers, in the order of include/dekvoz.h
abbrev pub numbers_of : Answer → List ℕ
numbers_of r = r.number ∷ r.frames ∷ r.ending ∷ []

-- 0, the count of frames and the ending; or a refusal's number
unfoldable pub chain_numbers : Result Chain → List ℕ
chain_numbers (good c) = 0 ∷ length c.frames ∷ c.ending ∷ []
chain_numbers (bad n) = n ∷ 0 ∷ 0 ∷ []

-- the frames at the front, two numbers each; nothing where the walk is refused
unfoldable pub chain_stored : Result Chain → List ℕ → List ℕ
chain_stored (good c) old = put old 0 (frame_numbers c.frames)
chain_stored (bad n) old = old

-- ---- the export that lists what was found, also where the walk is refused

-- the frames, where a lent list has room for all of them
unfoldable pub that_fit : (room : ℕ) → List Frame → List Frame
that_fit room fs = pick (leb (length fs) (room / 2)) fs []

-- 0, how many are stored and the ending; or a refusal's number and how many are stored
unfoldable pub found_numbers : Result Chain → (stored : ℕ) → List ℕ
found_numbers (good c) k = 0 ∷ k ∷ c.ending ∷ []
found_numbers (bad n) k = n ∷ k ∷ 0 ∷ []

-- what the export answers, and what it leaves in the lent list
unfoldable pub found_answer : Source → (machine file : List ℕ) → (pc stack : ℕ) → (functions : List ℕ) → (room : ℕ) → List ℕ
found_answer source machine file pc stack functions room =
    found_numbers (walk_by source machine file pc stack functions room)
    (length (that_fit room (found source machine file pc stack functions)))

unfoldable pub found_left : Source → (machine file : List ℕ) → (pc stack : ℕ) → (functions old : List ℕ) → List ℕ
found_left source machine file pc stack functions old =
    put old 0 (frame_numbers (that_fit (length old) (found source machine file pc stack functions)))

-- Questions 51 to 54, by the counts of what is needed and of what is lent.
use Rattle.std.specs.Prelude.{leb}
use Rattle.format.specs.declared.Counts.{Counts}
use Rattle.format.specs.Questions.{Question, ask, and_then}

unfoldable pub room_for : (needed lent : Counts) → Question
room_for c r =
    and_then (ask (leb c.places r.places) 51 0)
    (and_then (ask (leb c.bytes r.bytes) 52 0)
    (and_then (ask (leb c.relocations r.relocations) 53 0) (ask (leb c.sites r.sites) 54 0)))

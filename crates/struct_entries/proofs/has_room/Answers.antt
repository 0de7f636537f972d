-- `struct_entries::has_room` meets its contract.
use mathlib.Core.Bool.{not}
use mathlib.Core.Path.{ap}
use Rattle.lists.proofs.Answers.{accepted, refused}
use Prim.Native.Nat.{◌*◌, ◌-◌, ◌≤◌}
use borrow.Author.Rules.{rules}
use borrow.Author.Tests.{leb-true, leb-false}
use Rattle.struct_entries.proofs.Rooms.{too_far, too_many, one_more}
use Rattle.struct_entries.proofs.has_room.Goals as goal
use Rattle.struct_entries.proofs.has_room.Goals.{Else-not-fits}

pub returns-then-room-at : goal.returns-then-room-at
returns-then-room-at c = too_far _ _ _ _ c.if-room-at.true

pub returns-then-not-fits : goal.returns-then-not-fits
returns-then-not-fits c = too_many _ _ _ _ c.if-room-at.false (leb-false _ _ (refused c.fits.ensures (ap not c.if-not-fits.true)))

inside : (c : Else-not-fits) → c.args.stride * c.args.i ≤ c.args.room - c.args.at
inside c = leb-true _ _ (accepted c.fits.ensures (ap not c.if-not-fits.false))

pub overflow_mul-result : goal.overflow_mul-result
overflow_mul-result c = search (inside c, rules)

pub returns : goal.returns
returns c = one_more _ _ _ _ c.if-room-at.false (inside c)

-- `struct_entries::put_record` stores its record where it fits.
use mathlib.Core.Bool.{not}
use mathlib.Core.Path.{ap}
use native.Mathlib.Omega.{arith}
use borrow.Author.Tests.{leb-true}
use Rattle.lists.proofs.Answers.{accepted, refused}
use Rattle.struct_entries.proofs.Stored.{no_room, copied}
use Rattle.struct_entries.proofs.put_record.Goals as goal

pub returns-then-not-has_room : goal.returns-then-not-has_room
returns-then-not-has_room c = no_room _ _ _ (refused c.has_room.ensures (ap not c.if-not-has_room.true))

pub returns : goal.returns
returns c = copied c.args.numbers.now _ (leb-true _ _ (accepted c.has_room.ensures (ap not c.if-not-has_room.false))) (omega arith) c.copy_from_slice.ensures.after

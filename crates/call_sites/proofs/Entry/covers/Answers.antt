-- `call_sites::Entry::covers` meets its contract.
use mathlib.Core.Path.{refl, ◌∙◌}
use native.Mathlib.Omega.{arith}
use borrow.Author.Tests.{lt-leb}
use Rattle.call_sites.proofs.OneEntry.{before_start, from_start}
use Rattle.call_sites.proofs.Entry.covers.Goals as goal

pub returns-then-self-offset : goal.returns-then-self-offset
returns-then-self-offset c = let e = c.args.self in from_start e.start e.length e.pad c.args.offset c.if-self-offset.true refl

pub returns-else-self-offset : goal.returns-else-self-offset
returns-else-self-offset c = let e = c.args.self in lt-leb e.start c.args.offset (omega (arith, c.if-self-offset.false)) ∙ before_start e.start e.length e.pad c.args.offset (omega (arith, c.if-self-offset.false))

-- `header_keys::leads_at` meets its contract.
use borrow.Author.Tests.{eq-eqb, ne_eqb}
use Rattle.format.specs.Lists.{row_at}
use Rattle.format.specs.Headers.{leads}
use Rattle.header_keys.proofs.Counting.{remembers}
use Rattle.header_keys.proofs.leads_at.Goals as goal

pub returns-then-offset_at-ne0 : goal.returns-then-offset_at-ne0
unfolding leads row_at
returns-then-offset_at-ne0 c = simp (← c.offset_at.ensures, ne_eqb _ _ c.if-offset_at-ne0.true)

pub returns : goal.returns
unfolding leads row_at
returns c = simp (← c.offset_at.ensures, eq-eqb _ _ c.if-offset_at-ne0.false, remembers)

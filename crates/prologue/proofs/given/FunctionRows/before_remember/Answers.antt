-- `given::FunctionRows::before_remember` meets its contract.
use mathlib.Core.Path.{◌≡◌}
use mathlib.Core.Bool.{true, false}
use borrow.Author.Rules.{rules}
use borrow.Author.Tests.{tests}
use lib.Dec.{eqb}
use Rattle.std.proofs.lemmas.Iterator.{first_from_Range}
use Rattle.format.specs.Rows.{kind_of}
use Rattle.format.specs.Lists.{row_at}
use Rattle.prologue.proofs.Turns.{first_is}
use Rattle.prologue.proofs.given.FunctionRows.before_remember.Goals as goal

pub returns : goal.returns
returns c =
    let rows = c.args.self.now.rows.now in
    let h = first_from_Range _ _ _ c.find.result (λ k. eqb (kind_of (row_at rows k).1) 6 ≡ true) (λ k. eqb (kind_of (row_at rows k).1) 6 ≡ false) c.find.ensures.ran (λ x q k. search (rules, tests)) (λ x q k. search (rules, tests)) in
    rw (c.unwrap_or.ensures, c.len-n.ensures) (rw c.len-n.ensures at (first_is rows c.len-n.result c.find.result h))

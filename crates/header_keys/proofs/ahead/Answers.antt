-- `header_keys::ahead` meets its contract.
use mathlib.Core.Path.{◌≡◌}
use mathlib.Core.Bool.{true, false}
use Prim.Native.Nat.{◌+◌}
use borrow.Author.Rules.{rules}
use borrow.Author.Tests.{tests}
use Rattle.std.proofs.lemmas.Iterator.{first_from_Range}
use Rattle.format.specs.Headers.{leads}
use Rattle.format.specs.Lists.{row_at}
use Rattle.header_keys.proofs.Counting.{counted}
use Rattle.header_keys.proofs.ahead.Goals as goal

pub returns : goal.returns
returns c =
    let f = row_at c.args.rows.now in
    let at = c.args.e.now.rows_at in
    let h = first_from_Range _ _ _ c.find.result (λ k. leads (f (at + k)) ≡ false) (λ k. leads (f (at + k)) ≡ true) c.find.ensures.ran (λ x q k. search (rules, tests)) (λ x q k. search (rules, tests)) in
    rw c.unwrap_or.ensures (counted f at c.args.e.now.rows c.find.result h)

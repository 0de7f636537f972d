-- `header_keys::leading_at` meets its contract.
use mathlib.Core.Path.{◌≡◌, sym, ◌∙◌}
use Prim.Native.Nat.{◌+◌, ◌-◌, ◌<◌}
use native.Mathlib.Omega.{arith}
use borrow.Author.Rules.{rules}
use lib.ListN.{get_or}
use Rattle.format.specs.declared.Row.TheVariants.{RememberState}
use Rattle.format.specs.Lists.{row_at}
use Rattle.format.specs.Headers.{leading}
use Rattle.format.proofs.ListLaws.{in_range}
use Rattle.header_keys.specs.Functions.{body_of}
use Rattle.header_keys.proofs.Places.{call_row, own_row}
use Rattle.header_keys.proofs.leading_at.Goals as goal
use Rattle.header_keys.proofs.leading_at.Goals.{Else-i-n}

pub implied_at-requires : goal.implied_at-requires
implied_at-requires c =
    (c.requires.0, (call_row c.args.m.now c.args.e.now c.args.rows.now _ _ c.implied_count-n.ensures.0 c.if-i-n.true).0)

pub returns-then-i-n : goal.returns-then-i-n
returns-then-i-n c =
    c.implied_at.ensures ∙ sym (call_row _ _ _ _ _ c.implied_count-n.ensures.0 c.if-i-n.true).1

-- the row is one of the function's own
own : (c : Else-i-n)
    → let j = c.args.i - c.implied_count-n.result in
    (j < c.args.e.now.rows) × (get_or (leading c.args.m.now (body_of c.args.e.now c.args.rows.now)) c.args.i RememberState ≡ (row_at c.args.rows.now (c.args.e.now.rows_at + j)).1)
own c =
    own_row c.args.m.now c.args.e.now c.args.rows.now c.args.i _ c.implied_count-n.ensures.0 c.if-i-n.false c.requires.2

pub overflow_add-e : goal.overflow_add-e
overflow_add-e c = search (rules, (own c).0, c.requires.1.inside)

pub row_at-requires : goal.row_at-requires
row_at-requires c = (
  omega (arith, (own c).0, c.requires.1.inside),
  in_range _ c.args.e.now.rows_at c.args.e.now.rows _ c.requires.1.ok (own c).0,
)

pub returns : goal.returns
returns c = c.row_at.ensures ∙ sym (own (goal.at.returns c).Else-i-n).1

-- `rules::function_check` meets its contract.
use mathlib.Core.Bool.{not}
use mathlib.Core.Path.{ap}
use native.Mathlib.Omega.{arith}
use borrow.Author.Rules.{rules}
use borrow.Author.Tests.{lt-ltb, le-leb}
use Rattle.lists.proofs.Answers.{accepted, reached}
use Prim.Native.Nat.{◌<◌}
use Rattle.format.specs.Lists.{count, function_stride, row_ok_at, row_at, mark_ok, mark}
use Rattle.format.specs.RowCheck.{row_check_at}
use Rattle.rules.specs.Whole.{all_follow}
use Rattle.rules.proofs.function_check.Goals as goal

pub rows_check-requires-clause-room : goal.rows_check-requires-clause-room
rows_check-requires-clause-room c = search (reached _ _ _ (accepted c.inside.ensures (ap not c.if-not-inside.false)), rules)

pub rows_check-requires-clause-given : goal.rows_check-requires-clause-given
rows_check-requires-clause-given c i l h = omega (arith, h, reached _ _ _ (accepted c.inside.ensures (ap not c.if-not-inside.false)))

pub returns : goal.returns
unfolding row_check_at mark_ok mark all_follow
returns c =
    let e = c.rows_check.ensures (row_ok_at c.args.rows.now) (row_at c.args.rows.now) (λ i r l h p. p) in
    let h : c.args.f.k < count function_stride c.args.f.list.now = omega (arith, c.args.f.held) in
    rw (lt-ltb _ _ h, ← c.number-simple.ensures, ← c.number-at.ensures, ← c.number-n.ensures, le-leb _ _ c.if-simple-gt1.false, accepted c.inside.ensures (ap not c.if-not-inside.false)) e

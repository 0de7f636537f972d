-- `call_sites::table_at` meets its contract.
use mathlib.Core.Path.{sym}
use native.Mathlib.Omega.{arith}
use Rattle.operations.proofs.PositionLaws.{uleb_ahead}
use Rattle.call_sites.proofs.Tables.{no_head, other_head, no_size, past_end, table_there}
use Rattle.call_sites.proofs.table_at.Goals as goal
use Rattle.call_sites.proofs.table_at.Goals.{then-size-lt3-via-then-size-lt3, then-size-lt3-via-else-size-lt3+then-size-p}

pub returns-then-size-lt3 : goal.returns-then-size-lt3
returns-then-size-lt3 c = elim c.then-size-lt3.branch [
  | then-size-lt3-via-then-size-lt3 w ↦ no_head c.args.sites.now c.args.place (omega (arith, w.if-size-lt3.true))
  | then-size-lt3-via-else-size-lt3+then-size-p w ↦ no_head c.args.sites.now c.args.place (omega (arith, w.if-size-lt3.false, w.if-size-p.true))
]

pub returns-then-not-head_ok : goal.returns-then-not-head_ok
returns-then-not-head_ok c = let a = c.args in other_head a.sites.now a.place (omega arith) c.head_ok.ensures c.if-not-head_ok.true

pub returns-in_err-n : goal.returns-in_err-n
returns-in_err-n c = let a = c.args in rw c.from_residual.ensures (no_size a.sites.now a.place (omega arith) c.head_ok.ensures c.if-not-head_ok.false (rw c.from-head.ensures at (sym c.in_err-n.ensures)))

pub overflow_sub-size-2 : goal.overflow_sub-size-2
overflow_sub-size-2 c = omega (arith, (uleb_ahead _ _ (rw c.from-head.ensures at (sym c.in_ok-n.ensures))).1)

pub slice_bounds-result-end : goal.slice_bounds-result-end
slice_bounds-result-end c = omega (arith, c.if-size-at.false, (uleb_ahead _ _ (rw c.from-head.ensures at (sym c.in_ok-n.ensures))).1)

pub returns-then-size-at : goal.returns-then-size-at
returns-then-size-at c = let a = c.args in past_end a.sites.now a.place (omega arith) c.head_ok.ensures c.if-not-head_ok.false (rw c.from-head.ensures at (sym c.in_ok-n.ensures)) c.if-size-at.true

pub returns : goal.returns
returns c = let a = c.args in table_there a.sites.now a.place (omega arith) c.head_ok.ensures c.if-not-head_ok.false (rw c.from-head.ensures at (sym c.in_ok-n.ensures)) c.if-size-at.false

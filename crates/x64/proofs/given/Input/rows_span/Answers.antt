-- `given::Input::rows_span` meets its contract.
use mathlib.Core.Path.{refl}
use Prim.Native.Nat.{◌≤◌}
use native.Mathlib.Omega.{arith}
use native.Mathlib.Nat.{add-sub_cancel_left}
use borrow.Author.Rules.{rules}
use Rattle.std.proofs.lemmas.Result.{err_from_is_err_and}
use Rattle.format.specs.Lists.{most_records}
use Rattle.header_keys.specs.Functions.{RowsReady}
use Rattle.lists.specs.Extents.{extent_at}
use Rattle.prologue.proofs.Rows.{function_part}
use Rattle.x64.specs.Listed.{records_in}
use Rattle.x64.proofs.Spans.{rows_bounds, rows_askable, rows_refused, rows_found, rows_few}
use Rattle.x64.proofs.given.Input.rows_span.Goals as goal
use Rattle.x64.proofs.given.Input.rows_span.Goals.{After-extent_at-e}

-- the rows lie inside the list, and are few
inside : (c : After-extent_at-e) → RowsReady c.args.self.now.list.now c.extent_at-e.result.rows_at c.extent_at-e.result.rows × (c.extent_at-e.result.rows ≤ most_records)
unfolding extent_at
inside c = let h = rows_bounds (rows_askable c.requires.1 (c.args.self.now.listed.each_one _ c.requires.0)) in rw c.extent_at-e.ensures (h.1, h.2)

pub extent_at-e-requires : goal.extent_at-e-requires
extent_at-e-requires c = omega (arith, (rows_bounds (rows_askable c.requires.1 (c.args.self.now.listed.each_one _ c.requires.0))).0)

pub overflow_mul-from : goal.overflow_mul-from
overflow_mul-from c = let h = (inside (goal.at.overflow_mul-from c).After-extent_at-e).0.inside in search rules

pub overflow_mul-all : goal.overflow_mul-all
overflow_mul-all c = let h = (inside (goal.at.overflow_mul-all c).After-extent_at-e).0.inside in search rules

pub overflow_add-all : goal.overflow_add-all
overflow_add-all c = let h = (inside (goal.at.overflow_add-all c).After-extent_at-e).0.inside in search rules

pub offset_bounds-self-from : goal.offset_bounds-self-from
offset_bounds-self-from c = let h = (inside (goal.at.offset_bounds-self-from c).After-extent_at-e).0.inside in search rules

pub slice_bounds-all-end : goal.slice_bounds-all-end
slice_bounds-all-end c = let h = (inside (goal.at.slice_bounds-all-end c).After-extent_at-e).0.inside in search rules

pub invariant_of-all : goal.invariant_of-all
invariant_of-all c = record { ready = rw add-sub_cancel_left (function_part (inside (goal.at.invariant_of-all c).After-extent_at-e).0) }

pub returns-in_err-shape : goal.returns-in_err-shape
unfolding extent_at
returns-in_err-shape c =
    let p = err_from_is_err_and c.from_residual.result c.from_residual.ensures.1 in
    let b = rows_bounds (rows_askable c.requires.1 (c.args.self.now.listed.each_one _ c.requires.0)) in
    rw (p.1, p.2) (rows_refused _ _ _ _ b.1.inside _ (rw (add-sub_cancel_left, c.extent_at-e.ensures, c.in_err-shape.was) at c.prologue.ensures))

pub invariant_of-result : goal.invariant_of-result
unfolding extent_at records_in
invariant_of-result c =
    let b = rows_bounds (rows_askable c.requires.1 (c.args.self.now.listed.each_one _ c.requires.0)) in
    let h = rw (add-sub_cancel_left, c.extent_at-e.ensures, c.in_ok-shape.was) at c.prologue.ensures in
    record { few = omega (arith, rows_few c.args.machine c.args.self.now.functions.now c.args.self.now.list.now c.args.k b.1.inside c.in_ok-shape.shape h, b.2) }

pub returns : goal.returns
unfolding extent_at
returns c =
    let e = c.extent_at-e.ensures in
    let b = rows_bounds (rows_askable c.requires.1 (c.args.self.now.listed.each_one _ c.requires.0)) in
    let h = rw (add-sub_cancel_left, e, c.in_ok-shape.was) at c.prologue.ensures in
    rows_found _ _ _ _ b.1.inside _ h _ refl (rw e) (rw e) c.prologue_end.ensures

-- `given::Input::direct_span` meets its contract.
use mathlib.Core.Path.{refl}
use Prim.Native.Nat.{◌+◌, ◌≤◌}
use native.Mathlib.Omega.{arith}
use native.Mathlib.Nat.{add-sub_cancel_left}
use borrow.Author.Rules.{rules}
use Rattle.format.specs.Lists.{count, code_stride, most_records}
use Rattle.x64.specs.Listed.{records_in}
use Rattle.x64.proofs.Parts.{part_count}
use Rattle.x64.proofs.Spans.{direct_bounds, direct_askable, direct_found}
use Rattle.x64.proofs.given.Input.direct_span.Goals as goal
use Rattle.x64.proofs.given.Input.direct_span.Goals.{After-prologue_at-p}

-- the codes lie inside the list, and are few
inside : (c : After-prologue_at-p) → (c.prologue_at-p.result.codes_at + c.prologue_at-p.result.codes ≤ count code_stride c.args.self.now.list.now) × (c.prologue_at-p.result.codes ≤ most_records)
inside c = let h = direct_bounds (direct_askable c.requires.1 (c.args.self.now.listed.each_one _ c.requires.0)) in simp c.prologue_at-p.ensures (h.1, h.2)

pub prologue_at-p-requires : goal.prologue_at-p-requires
prologue_at-p-requires c = omega (arith, (direct_bounds (direct_askable c.requires.1 (c.args.self.now.listed.each_one _ c.requires.0))).0)

pub overflow_mul-from : goal.overflow_mul-from
overflow_mul-from c = let h = inside (goal.at.overflow_mul-from c).After-prologue_at-p in search rules

pub overflow_mul-result : goal.overflow_mul-result
overflow_mul-result c = let h = inside (goal.at.overflow_mul-result c).After-prologue_at-p in search rules

pub overflow_add-result : goal.overflow_add-result
overflow_add-result c = let h = inside (goal.at.overflow_add-result c).After-prologue_at-p in search rules

pub offset_bounds-self-from : goal.offset_bounds-self-from
offset_bounds-self-from c = let h = inside (goal.at.offset_bounds-self-from c).After-prologue_at-p in search rules

pub slice_bounds-result-end : goal.slice_bounds-result-end
slice_bounds-result-end c = let h = inside (goal.at.slice_bounds-result-end c).After-prologue_at-p in search rules

pub invariant_of-result : goal.invariant_of-result
unfolding records_in
invariant_of-result c =
    let h = inside (goal.at.invariant_of-result c).After-prologue_at-p in
    let p = c.prologue_at-p.result in
    record { few = rw add-sub_cancel_left (omega (arith, part_count c.args.self.now.list.now p.codes_at p.codes h.0, h.1)) }

pub returns : goal.returns
returns c =
    let e = c.prologue_at-p.ensures in
    let h = direct_bounds (direct_askable c.requires.1 (c.args.self.now.listed.each_one _ c.requires.0)) in
    direct_found _ _ refl (rw e) (rw e) (rw e) h.1 (rw (add-sub_cancel_left, e))

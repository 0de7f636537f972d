-- `sites_back::table_place` meets its contract.
use mathlib.Core.Path.{sym, ◌∙◌}
use native.Mathlib.Omega.{arith}
use Rattle.sites_back.proofs.Places.{untiled, no_record, pointer}
use Rattle.sites_back.proofs.table_place.Goals as goal

pub returns-then-not-tiles : goal.returns-then-not-tiles
returns-then-not-tiles c = let a = c.args in untiled a.section.now _ a.k (sym c.tiles.ensures ∙ c.if-not-tiles.true)

pub record_span-requires : goal.record_span-requires
record_span-requires c = rw (sym c.tiles.ensures ∙ c.if-not-tiles.false) tt

pub returns-in_err-record : goal.returns-in_err-record
returns-in_err-record c = rw c.from_residual.ensures (no_record _ _ _ c.in_err-record.ensures)

pub overflow_add-record : goal.overflow_add-record
overflow_add-record c = let t = c.in_ok-record.ensures in record { fits = omega (arith, t.long, t.inside) }

pub returns-in_err-place : goal.returns-in_err-place
returns-in_err-place c = rw c.from_residual-in_err-place.ensures (sym c.in_err-place.was ∙ pointer _ _ _ c.in_ok-record.ensures c.first_addend.ensures)

pub returns : goal.returns
returns c = sym c.in_ok-place.was ∙ pointer _ _ _ c.in_ok-record.ensures c.first_addend.ensures

-- `sites_back::written_place` meets its contract.
use mathlib.Core.Path.{sym, ap, ◌∙◌}
use Prim.Native.Nat.{◌-◌, ◌^◌}
use Rattle.std.specs.Prelude.{unwrap_or}
use lib.Seq.{length-take-le}
use Rattle.sites_back.specs.Back.{written_place}
use Rattle.sites_back.proofs.Places.{place_or}
use Rattle.sites_back.proofs.written_place.Goals as goal

pub numbers_in-m-requires : goal.numbers_in-m-requires
numbers_in-m-requires c = c.requires.1

pub slice_bounds-table_place-end : goal.slice_bounds-table_place-end
slice_bounds-table_place-end c = sym (length-take-le _ _ (rw c.bytes_in-n.ensures c.requires.0))

pub slice_bounds-table_place-end-2 : goal.slice_bounds-table_place-end-2
slice_bounds-table_place-end-2 c = sym (length-take-le _ _ (rw c.numbers_in-m.ensures c.requires.1))

pub returns : goal.returns
unfolding written_place
returns c =
    rw (← c.bytes_in-n.ensures, ← c.numbers_in-m.ensures)
    (c.unwrap_or.ensures ∙ (ap (λ o. unwrap_or o (2 ^ 64 - 1)) c.table_place.ensures ∙ place_or _))

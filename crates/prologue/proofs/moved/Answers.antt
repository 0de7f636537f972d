-- `prologue::moved` meets its contract.
use borrow.Enum.Refused.{opened}
use mathlib.Core.Path.{◌∙◌}
use native.Mathlib.Omega.{arith}
use mathlib.Core.List.{[], ◌∷◌}
use mir.Facts.{to_z-of_z}
use Rattle.rows.proofs.Signs.{passed}
use Rattle.prologue.proofs.Arms.{other_kind}
use Rattle.prologue.proofs.Pieced.{moved_by_lem, stays}
use Rattle.prologue.proofs.moved.Goals as goal

pub returns-in_default : goal.returns-in_default
returns-in_default c = to_z-of_z c.ranges.sofar ∙ stays c.args.sofar _ c.args.i c.row_at.ensures (other_kind (0 ∷ 2 ∷ 3 ∷ 4 ∷ 5 ∷ 6 ∷ 7 ∷ 8 ∷ 9 ∷ 10 ∷ []) 1 c.row_at.result tt (opened c.in_default.in_default-own.keys2))

pub returns : goal.returns
returns c =
    let e = passed c.in-DefCfaOffset.z (omega (arith, c.in-DefCfaOffset.known_told-1-own.given)) in
    e ∙ moved_by_lem c.args.sofar _ c.args.i c.in-DefCfaOffset.z c.row_at.ensures c.in-DefCfaOffset.is

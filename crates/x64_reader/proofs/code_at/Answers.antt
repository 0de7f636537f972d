-- `x64_reader::code_at` meets its contract.
use mathlib.Core.Path.{refl, sym, subst}
use Rattle.std.specs.Prelude.{Some}
use Rattle.x64_reader.specs.Reads.{Small}
use native.Mathlib.Omega.{arith}
use Rattle.x64_reader.proofs.Codes.{little_small, short_code, no_operation, no_operand, one_code, few_op}
use Rattle.x64_reader.proofs.code_at.Goals as goal
use Rattle.x64_reader.proofs.code_at.Goals.{then-s-lt2-via-then-s-lt2, then-s-lt2-via-else-s-lt2+then-s-from}
use Rattle.format.proofs.Asked.{none_is, value_is}

pub returns-then-s-lt2 : goal.returns-then-s-lt2
returns-then-s-lt2 c = elim c.then-s-lt2.branch [
  | then-s-lt2-via-then-s-lt2 w ↦ let a = c.args in short_code a.frame a.s.now a.at (omega (arith, w.if-s-lt2.true))
  | then-s-lt2-via-else-s-lt2+then-s-from w ↦ let a = c.args in short_code a.frame a.s.now a.at (omega (arith, w.if-s-lt2.false, w.if-s-from.true))
]

pub returns-in_err-n : goal.returns-in_err-n
returns-in_err-n c = let a = c.args in rw c.from_residual.ensures (no_operation a.frame a.s.now a.at (omega arith) refl c.wide-b.ensures.0 (none_is _ (sym c.in_err-n.ensures)))

pub read_le-requires : goal.read_le-requires
read_le-requires c = omega (arith, few_op _ _ (value_is _ (sym c.in_ok-n.ensures)))

pub returns-in_err-v : goal.returns-in_err-v
returns-in_err-v c =
    let a = c.args in
    rw c.from_residual-in_err-v.ensures (no_operand a.frame a.s.now a.at (omega arith) refl c.wide-b.ensures.0 (value_is _ (sym c.in_ok-n.ensures)) (sym c.in_err-v.ensures))

pub meaning-requires : goal.meaning-requires
meaning-requires c =
    let small : Small (Some (c.in_ok-v.v, c.in_ok-v.past)) = subst Small (sym c.in_ok-v.ensures) (little_small _ _ _ (few_op _ _ (value_is _ (sym c.in_ok-n.ensures))) (λ i. omega (arith, c.type_inv.s i))) in
    (omega (arith, c.wide-b.ensures.1), small)

pub returns : goal.returns
returns c =
    let a = c.args in
    one_code a.frame a.s.now a.at (omega arith) c.from.ensures c.wide-b.ensures.0 (value_is _ (sym c.in_ok-n.ensures)) (sym c.in_ok-v.ensures) c.meaning.ensures

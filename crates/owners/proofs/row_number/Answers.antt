-- `owners::row_number` meets its contract.
use mir.Syntax.{w64}
use mir.Facts.{to_z-of_z}
use borrow.Author.Rules.{rules}
use Rattle.owners.specs.Chains.{row_number}
use Rattle.owners.proofs.Digests.{kind_low}
use Rattle.owners.proofs.row_number.Goals as goal

pub overflow_add-result : goal.overflow_add-result
overflow_add-result c = search (rules, kind_low c.args.r, c.kind.ensures)

pub overflow_add-result-2 : goal.overflow_add-result-2
overflow_add-result-2 c = search (rules, kind_low c.args.r, c.kind.ensures)

pub returns : goal.returns
unfolding row_number
returns c =
    let z = rw (to_z-of_z {w = w64} (record { sfits = c.offset.type_inv })) at c.size.ensures.0 in (
      rw (← c.kind.ensures, ← c.register.ensures, ← c.offset.ensures, ← z),
      search (rules, kind_low c.args.r, c.kind.ensures),
    )

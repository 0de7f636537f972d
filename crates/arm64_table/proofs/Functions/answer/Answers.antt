-- `Functions::answer` meets its contract.
use Rattle.lists.proofs.Rooms.{stays, goes}
use Rattle.std.proofs.lemmas.Result.{err_from_is_err_and}
use Rattle.format.specs.Coded.{numbered_at}
use mathlib.Core.Path.{sym, ap, ◌∙◌}
use Rattle.lists.proofs.Lent.{same}
use Rattle.arm64_table.proofs.Results.{all_fine}
use Rattle.arm64_table.proofs.Functions.answer.Goals as goal

pub invariant_of-all : goal.invariant_of-all
invariant_of-all c = record { fine = all_fine c.args.self.now.listed (sym c.first_no.ensures ∙ ap numbered_at c.in_ok-first_no.was) }

pub returns-in_err-first_no : goal.returns-in_err-first_no
returns-in_err-first_no c = let p = err_from_is_err_and c.from_residual.result c.from_residual.ensures.1 in (rw (p.1, p.2) (stays _ _ (sym c.first_no.ensures ∙ ap numbered_at c.in_err-first_no.was)), same)

pub returns : goal.returns
returns c = (goes _ (sym c.first_no.ensures ∙ ap numbered_at c.in_ok-first_no.was) c.write.ensures.0, c.write.ensures.1)

-- `walked::Marks::mark_operation` meets its contract.
use mathlib.Core.Logic.{⊎_elim}
use Rattle.walked.specs.Named.{operation_names}
use Rattle.walked.proofs.Marks.mark_operation.Goals as goal

pub returns-in-Nop : goal.returns-in-Nop
unfolding operation_names
returns-in-Nop c = λ q b e. (e, ⊎_elim (λ x. rw x) (λ x. rw x.1) c.in-Nop.is)

pub returns-in-Does : goal.returns-in-Does
unfolding operation_names
returns-in-Does c = λ q b e. let h = c.mark_row.ensures q b e in (h.0, rw c.in-Does.is h.1)

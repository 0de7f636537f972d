-- `walked::Marks::mark_row` meets its contract.
use mathlib.Core.Logic.{⊎_elim}
use Rattle.walked.specs.Named.{names}
use Rattle.walked.proofs.Marks.mark_row.Goals as goal

pub returns-in-Offset : goal.returns-in-Offset
unfolding names
returns-in-Offset c = λ q b e.
    let h = c.mark.ensures q b e in (
      h.0,
      ⊎_elim (λ x. rw x.1 h.1)
          (⊎_elim (λ x. rw x h.1)
          (⊎_elim (λ x. rw x h.1)
          (⊎_elim (λ x. rw x h.1) (λ x. rw x.1 h.1))))
          c.in-Offset.is,
    )

pub returns-in-DefCfa : goal.returns-in-DefCfa
unfolding names
returns-in-DefCfa c = λ q b e. (
  e,
  ⊎_elim (λ x. rw x.2)
      (⊎_elim (λ x. rw x.1)
      (⊎_elim (λ x. rw x.1)
      (⊎_elim (λ x. rw x)
      (⊎_elim (λ x. rw x) (λ x. rw x)))))
      c.in-DefCfa.is,
)

-- `rules::Order::step` meets its contract.
use mathlib.Core.Path.{refl}
use mathlib.Core.Bool.{true}
use mathlib.Core.Logic.{⊎_elim}
use Rattle.format.specs.Rows.{kind_of}
use Rattle.format.specs.RowCheck.{may_lead, in_order}
use Rattle.rules.proofs.Ordering.{passed, kept_back}
use Rattle.rules.proofs.Order.step.Goals as goal

pub returns-in-DefCfa : goal.returns-in-DefCfa
unfolding kind_of may_lead in_order
returns-in-DefCfa c = rw (c.in-DefCfa.is, c.passes.ensures) (passed c.args.self c.args.first _ true refl true refl λ rs. refl)

pub returns-in-DefCfaOffset : goal.returns-in-DefCfaOffset
unfolding kind_of may_lead in_order
returns-in-DefCfaOffset c =
    let a = c.args in
    rw c.passes-in-DefCfaOffset.ensures
    (⊎_elim
    (λ x. rw x.1 (passed a.self a.first _ a.self.framed refl a.self.framed refl λ rs. refl))
    (λ x. rw x.1 (passed a.self a.first _ a.self.framed refl a.self.framed refl λ rs. refl))
    c.in-DefCfaOffset.is)

pub returns-in-Restore : goal.returns-in-Restore
unfolding kind_of may_lead in_order
returns-in-Restore c = rw (c.in-Restore.is, c.passes-in-Restore.ensures) (kept_back c.args.self c.args.first _ c.args.self.framed refl refl λ rs. refl)

pub returns-in-Offset : goal.returns-in-Offset
unfolding kind_of may_lead in_order
returns-in-Offset c =
    let a = c.args in
    rw c.passes-in-Offset.ensures
    (⊎_elim
    (λ x. rw x.2 (passed a.self a.first _ a.self.framed refl true refl λ rs. refl))
    (λ y.
    ⊎_elim
    (λ x. rw x.1 (passed a.self a.first _ a.self.framed refl true refl λ rs. refl))
    (λ z.
    ⊎_elim
    (λ x. rw x (passed a.self a.first _ a.self.framed refl true refl λ rs. refl))
    (λ w.
    ⊎_elim
    (λ x. rw x.1 (passed a.self a.first _ a.self.framed refl true refl λ rs. refl))
    (λ x. rw x.2 (passed a.self a.first _ a.self.framed refl true refl λ rs. refl))
    w)
    z)
    y)
    c.in-Offset.is)

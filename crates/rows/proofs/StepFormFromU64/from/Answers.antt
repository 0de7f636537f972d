-- `rows::StepForm::from` of a number meets its contract.
use Rattle.rows.proofs.Steps.{meant_four}
use Rattle.rows.proofs.StepFormFromU64.from.Goals as goal

pub returns-in_default : goal.returns-in_default
returns-in_default c =
    meant_four c.args.form c.in_default.in_default-own.rest.0.0.1 c.in_default.in_default-own.rest.0.1 c.in_default.in_default-own.rest.1

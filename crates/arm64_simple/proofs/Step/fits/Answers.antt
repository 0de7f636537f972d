-- `Step::fits` meets its contract.
use mathlib.Core.Path.{sym, ap, ◌∙◌}
use Rattle.arm64.specs.Codes.{form_for, register_fits}
use Rattle.arm64_simple.proofs.Loops.{fits_yes, fits_no}
use Rattle.arm64_simple.proofs.Step.fits.Goals as goal

pub returns-then-register_ok : goal.returns-then-register_ok
returns-then-register_ok c = c.code_fits.ensures ∙ fits_yes c.args.self (ap (λ x. register_fits (form_for x) x) (sym c.shorter.ensures) ∙ sym c.register_ok.ensures ∙ c.if-register_ok.true)

pub returns-else-register_ok : goal.returns-else-register_ok
returns-else-register_ok c = c.if-register_ok.false ∙ fits_no c.args.self (ap (λ x. register_fits (form_for x) x) (sym c.shorter.ensures) ∙ sym c.register_ok.ensures ∙ c.if-register_ok.false)

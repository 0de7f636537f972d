-- `arm64_spelled::code_fits` meets its contract.
use mathlib.Core.Path.{sym, ap, ◌∙◌}
use mathlib.Core.Bool.{◌&&◌}
use Rattle.arm64.specs.Codes.{form_for, code_fits, offset_fits}
use Rattle.arm64_spelled.proofs.FitLaws.{fits_by}
use Rattle.arm64_spelled.proofs.code_fits.Goals as goal

pub returns-then-register_fits : goal.returns-then-register_fits
returns-then-register_fits c = rw (c.of-s.ensures.0, c.of-s.ensures.1) at c.offset_fits.ensures ∙ sym (fits_by c.args.c (sym (rw (c.of-s.ensures.0, c.of-s.ensures.1) at c.register_fits.ensures) ∙ c.if-register_fits.true))

pub returns-else-register_fits : goal.returns-else-register_fits
unfolding code_fits
returns-else-register_fits c = c.if-register_fits.false ∙ sym (ap (λ b. b && offset_fits (form_for c.args.c) c.args.c) (sym (rw (c.of-s.ensures.0, c.of-s.ensures.1) at c.register_fits.ensures) ∙ c.if-register_fits.false))

-- `arm64_spelled::code_size` meets its contract.
use mathlib.Core.Path.{sym, ap, ◌∙◌}
use Rattle.arm64.proofs.CodeBytes.{code-length}
use Rattle.arm64_spelled.proofs.code_size.Goals as goal

pub returns : goal.returns
returns c = (ap (λ f. f.size) c.of.ensures.1 ∙ sym (code-length c.args.c), c.of.result.good.some_bytes, c.of.result.good.few_bytes)

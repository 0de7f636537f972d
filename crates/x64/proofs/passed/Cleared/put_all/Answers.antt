-- `passed::Cleared::put_all` meets its contract.
use Rattle.x64.proofs.Writing.{all_stored}
use mathlib.Core.Path.{refl}
use native.Mathlib.Omega.{arith}
use Rattle.x64.proofs.passed.Cleared.put_all.Goals as goal

pub overflow_mul-result : goal.overflow_mul-result
overflow_mul-result c = record { fits = omega (arith, c.args.self.now.input.listed.most) }

pub returns : goal.returns
returns c = (
  all_stored c.args.self.now.input.listed c.args.self.now.agreed c.requires.0 c.fill.ensures c.put_runtime.ensures c.put_infos.ensures.0 c.put_infos.ensures.1,
  record { places = refl; bytes = refl; relocations = refl; sites = refl },
)

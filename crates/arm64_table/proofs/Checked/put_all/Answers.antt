-- `Checked::put_all` meets its contract.
use Rattle.arm64_function.specs.Listed.{function_in}
use Rattle.arm64_table.proofs.Results.{all_stored}
use mathlib.Core.Path.{refl}
use native.Mathlib.Omega.{arith}
use Rattle.arm64_table.proofs.Checked.put_all.Goals as goal

pub put_rows-requires : goal.put_rows-requires
put_rows-requires c = let p = c.requires in (p.3, omega (arith, p.1, p.4))

pub put_infos-requires : goal.put_infos-requires
put_infos-requires c = let p = c.requires in (p.2, omega (arith, p.0, p.5))

pub returns : goal.returns
returns c = let a = c.args in let p = c.requires in (all_stored (function_in a.self.now.functions.lists) a.self.now.functions.count p.0 p.1 c.put_rows.ensures.0 c.put_rows.ensures.1 c.put_infos.ensures.0 c.put_infos.ensures.1, record { places = refl; bytes = refl; relocations = refl; sites = refl })

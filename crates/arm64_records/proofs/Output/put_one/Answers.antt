-- `Output::put_one` meets its contract.
use mathlib.Core.Path.{◌≡◌, refl}
use Prim.Native.Nat.{◌-◌, ◌/◌}
use native.Mathlib.Omega.{arith}
use lib.ListN.{length}
use Rattle.arm64_runs.specs.Left.{codes_left}
use Rattle.arm64_runs.proofs.Stores.{code_numbers-length}
use Rattle.arm64_records.proofs.Output.put_one.Goals as goal

pub returns : goal.returns
returns c = (let l = code_numbers-length (codes_left c.args.run) in let m : c.put-past.result / 3 - c.args.at ≡ length (codes_left c.args.run) = omega (arith, c.put-past.ensures.past) in record { behind = omega (arith, c.put-past.ensures.past); numbers = record { past = omega arith; stored = rw m at c.put_three.ensures.stored }; codes = record { past = omega (arith, c.put-past.ensures.past); stored = c.put-past.ensures.stored } }, record { epilogues = refl; codes = refl })

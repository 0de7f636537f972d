-- `struct_entries::long_enough` meets its contract.
use mathlib.Core.Path.{sym}
use Prim.Native.Nat.{◌-◌, ◌*◌, ◌/◌}
use native.Mathlib.Omega.{arith}
use borrow.Author.Tests.{lt-leb}
use Rattle.lists.proofs.Answers.{same_leb}
use Rattle.struct_entries.specs.Entries.{needed}
use Rattle.struct_entries.proofs.long_enough.Goals as goal

pub returns-then-n-functions : goal.returns-then-n-functions
unfolding needed
returns-then-n-functions c = let a = c.args in sym (lt-leb (needed a.functions a.rows) a.n (omega arith))

pub returns : goal.returns
unfolding needed
returns c = let a = c.args in same_leb a.rows ((a.n - 18 * a.functions) / 4) (needed a.functions a.rows) a.n (λ h. omega arith) (λ h. omega arith)

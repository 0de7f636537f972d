-- `owners::slot` meets its contract.
use mathlib.Core.Path.{ap, ◌∙◌}
use Prim.Native.Nat.{◌%◌}
use native.Mathlib.Nat.{mod-lt}
use native.Mathlib.Omega.{arith}
use Rattle.header_keys.specs.Functions.{key_in}
use Rattle.owners.specs.Chains.{digest_of, slot_at}
use Rattle.owners.proofs.Comparing.{rows_taken}
use Rattle.owners.proofs.slot.Goals as goal

pub digest-requires : goal.digest-requires
digest-requires c =
    rows_taken c.args.x.now.section c.args.x.now.lists.functions.now c.args.x.now.lists.rows.now c.args.k c.function.result c.function.ensures
    (c.requires.0.rows_ready c.args.k (omega arith))

pub returns : goal.returns
unfolding slot_at
returns c = (
  ap (λ d. d % c.args.size) (c.digest.ensures ∙ ap (λ e. digest_of (key_in c.args.x.now.machine e c.args.x.now.lists.rows.now)) c.function.ensures),
  mod-lt c.digest.result c.requires.1,
)

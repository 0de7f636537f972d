-- `Summary::with` meets its contract.
use Prim.Native.Nat.{◌+◌, ◌/◌}
use mathlib.Core.Path.{ap}
use Rattle.x64.proofs.Walks.{answered}
use Rattle.x64.proofs.Summary.with.Goals as goal

pub returns : goal.returns
returns c =
    record {
      codes = answered _ _ _ c.and.ensures c.code_no.ensures;
      slots = ap (λ n. c.args.self.slots + n / 2) c.nodes_size.ensures;
      frames = answered _ _ _ c.and-2.ensures c.frame_no.ensures;
    }

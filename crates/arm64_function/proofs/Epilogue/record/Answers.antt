-- `Epilogue::record` meets its contract.
use native.Mathlib.Omega.{arith}
use Rattle.arm64_function.proofs.Epilogue.«record».Goals as goal

pub invariant_of-result : goal.invariant_of-result
invariant_of-result c = record { held = omega (arith, c.args.self.now.among.1, c.args.self.now.function.ready.room) }

-- `Function::packed_one` meets its contract.
use native.Mathlib.Omega.{arith}
use mathlib.Core.Path.{sym, ◌∙◌}
use Rattle.arm64_function.proofs.PackedWord.{unshared, shared}
use Rattle.arm64_function.proofs.Function.packed_one.Goals as goal

pub epilogue-only-requires : goal.epilogue-only-requires
epilogue-only-requires c = (omega arith, c.requires.one)

pub shares-requires : goal.shares-requires
shares-requires c = rw (c.epilogue-only.ensures.0, c.epilogue-only.ensures.1) c.requires.start

pub returns-then-not-shares : goal.returns-then-not-shares
returns-then-not-shares c = unshared c.args.self.now.epilogues.now c.args.self.now.codes.now c.args.self.now.parts c.args.self.now.size (sym (rw (c.epilogue-only.ensures.0, c.epilogue-only.ensures.1) at c.shares.ensures) ∙ c.if-not-shares.true)

pub returns : goal.returns
returns c = shared c.args.self.now.epilogues.now c.args.self.now.codes.now c.args.self.now.parts c.args.self.now.size (sym (rw (c.epilogue-only.ensures.0, c.epilogue-only.ensures.1) at c.shares.ensures) ∙ c.if-not-shares.false) c.prologue.ensures.0 (rw (c.epilogue-only.ensures.0, c.epilogue-only.ensures.1) at c.run.ensures.0) c.packed.ensures

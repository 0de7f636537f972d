-- `Checked::put_own` meets its contract.
use native.Mathlib.Omega.{arith}
use mathlib.Core.Path.{subst, sym, ap, ◌∙◌}
use Rattle.format.proofs.PutLaws.{idle}
use Rattle.format.proofs.Wrote.{Wrote}
use Rattle.arm64.specs.Runs.{no_pair, run_fits}
use Rattle.arm64_function.proofs.Codes.{nothing_own, own_length, own_bytes}
use Rattle.arm64_function.proofs.Checked.put_own.Goals as goal

pub epilogue-epilogue-requires : goal.epilogue-epilogue-requires
epilogue-epilogue-requires c = c.requires.0

pub returns-then-size-eq0 : goal.returns-then-size-eq0
returns-then-size-eq0 c = subst (Wrote c.args.out.now c.args.out.now c.args.at c.args.at) (nothing_own c.args.self.now.function.epilogues.now c.args.self.now.function.codes.now c.args.self.now.function.parts c.args.i (rw (c.epilogue-epilogue.ensures.0, c.epilogue-epilogue.ensures.1) at c.own_size-size.ensures.0) c.if-size-eq0.true) idle

pub put_run-requires : goal.put_run-requires
put_run-requires c = (ap (run_fits no_pair) (rw (c.epilogue-epilogue.ensures.0, c.epilogue-epilogue.ensures.1) at c.run.ensures.0) ∙ c.args.self.now.whole.fitted.epilogues c.args.i c.requires.0.0 c.requires.0.1, own_length c.args.self.now.function.epilogues.now c.args.self.now.function.codes.now c.args.self.now.function.parts c.args.i (rw (c.epilogue-epilogue.ensures.0, c.epilogue-epilogue.ensures.1) at c.run.ensures.0) (rw (c.epilogue-epilogue.ensures.0, c.epilogue-epilogue.ensures.1) at c.own_size-size.ensures.0) (omega (arith, c.if-size-eq0.false)), omega (arith, c.requires.1, (rw (c.epilogue-epilogue.ensures.0, c.epilogue-epilogue.ensures.1) at c.own_size-size.ensures.0), c.if-size-eq0.false))

pub returns : goal.returns
returns c = rw (sym (own_bytes c.args.self.now.function.epilogues.now c.args.self.now.function.codes.now c.args.self.now.function.parts c.args.i (rw (c.epilogue-epilogue.ensures.0, c.epilogue-epilogue.ensures.1) at c.run.ensures.0) (rw (c.epilogue-epilogue.ensures.0, c.epilogue-epilogue.ensures.1) at c.own_size-size.ensures.0) (omega (arith, c.if-size-eq0.false)))) c.put_run.ensures

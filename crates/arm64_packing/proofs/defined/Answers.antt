-- `arm64_packing::defined` meets its contract.
use mathlib.Core.Path.{refl, sym, ◌∙◌}
use native.Mathlib.Omega.{arith}
use Rattle.arm64_packing.proofs.Answers.{long_function, many_vectors, large_frame, many_registers, fields_held}
use Rattle.arm64_packing.proofs.defined.Goals as goal

pub returns-then-p-gt2047 : goal.returns-then-p-gt2047
returns-then-p-gt2047 c = sym (long_function c.args.p c.if-p-gt2047.true)

pub returns-then-p-gt7 : goal.returns-then-p-gt7
returns-then-p-gt7 c = sym (many_vectors c.args.p c.if-p-gt7.true)

pub returns-then-p-gt511 : goal.returns-then-p-gt511
returns-then-p-gt511 c = sym (large_frame c.args.p c.if-p-gt511.true)

pub returns-then-p-gt10 : goal.returns-then-p-gt10
returns-then-p-gt10 c = sym (many_registers c.args.p c.if-p-gt10.true)

pub invariant_of-w : goal.invariant_of-w
invariant_of-w c = record { small = record { low_length = omega (arith, c.if-p-gt2047.false); low_vectors = omega (arith, c.if-p-gt7.false); low_registers = omega (arith, c.if-p-gt10.false); low_homes = omega (arith, c.requires.0); low_chain = c.requires.1; low_frame = omega (arith, c.if-p-gt511.false) } }

pub returns-then-not-ok : goal.returns-then-not-ok
returns-then-not-ok c = sym (fields_held c.args.p (omega (arith, c.if-p-gt2047.false)) (omega (arith, c.if-p-gt7.false)) (omega (arith, c.if-p-gt511.false))) ∙ sym c.ok.ensures.0 ∙ c.if-not-ok.true

pub returns : goal.returns
returns c = (refl, sym (fields_held c.args.p (omega (arith, c.if-p-gt2047.false)) (omega (arith, c.if-p-gt7.false)) (omega (arith, c.if-p-gt511.false))) ∙ sym c.ok.ensures.0 ∙ c.if-not-ok.false)

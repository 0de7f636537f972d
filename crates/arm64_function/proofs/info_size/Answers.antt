-- `arm64_function::info_size` meets its contract.
use native.Mathlib.Omega.{arith}
use lib.ListN.{length}
use mathlib.Core.Path.{refl, sym, ap, ◌∙◌}
use Rattle.arm64_function.proofs.Record.{info_none, info_of_lem}
use Rattle.arm64_function.proofs.Taken.{record_taken}
use Rattle.arm64_function.proofs.info_size.Goals as goal

pub returns-then-is_some : goal.returns-then-is_some
returns-then-is_some c = (ap length (info_none c.args.x.now.functions.now c.args.x.now.epilogues.now c.args.x.now.codes.now c.args.k _ c.packed_word.ensures (sym c.is_some.ensures ∙ c.if-is_some.true)), omega arith)

pub returns : goal.returns
returns c = (c.record_size.ensures.0 ∙ ap length (record_taken c.of.ensures ∙ info_of_lem c.args.x.now.functions.now c.args.x.now.epilogues.now c.args.x.now.codes.now c.args.k _ c.packed_word.ensures (sym c.is_some.ensures ∙ c.if-is_some.false) refl), c.record_size.ensures.1)

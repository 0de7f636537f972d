-- `arm64_function::put_info` meets its contract.
use native.Mathlib.Omega.{arith}
use Rattle.format.proofs.PutLaws.{idle}
use Rattle.format.proofs.Wrote.{Wrote}
use lib.ListN.{length}
use mathlib.Core.Path.{refl, subst, sym, ap, ◌∙◌}
use Rattle.arm64_function.proofs.Record.{info_none, info_of_lem}
use Rattle.arm64_function.proofs.Taken.{record_taken}
use Rattle.arm64_function.proofs.put_info.Goals as goal

pub returns-then-is_some : goal.returns-then-is_some
returns-then-is_some c = subst (Wrote c.args.out.now c.args.out.now c.args.at c.args.at) (info_none c.args.x.now.functions.now c.args.x.now.epilogues.now c.args.x.now.codes.now c.args.k _ c.packed_word.ensures (sym c.is_some.ensures ∙ c.if-is_some.true)) idle

pub put_record-requires : goal.put_record-requires
put_record-requires c = (omega (arith, c.requires.1, ap length (record_taken c.of.ensures ∙ info_of_lem c.args.x.now.functions.now c.args.x.now.epilogues.now c.args.x.now.codes.now c.args.k _ c.packed_word.ensures (sym c.is_some.ensures ∙ c.if-is_some.false) refl)))

pub returns : goal.returns
returns c = rw (sym (record_taken c.of.ensures ∙ info_of_lem c.args.x.now.functions.now c.args.x.now.epilogues.now c.args.x.now.codes.now c.args.k _ c.packed_word.ensures (sym c.is_some.ensures ∙ c.if-is_some.false) refl)) c.put_record.ensures

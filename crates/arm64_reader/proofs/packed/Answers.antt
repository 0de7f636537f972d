-- `arm64_reader::packed` meets its contract.
use mathlib.Core.Path.{refl, sym, ◌∙◌}
use Rattle.arm64_records.proofs.Lent.{same}
use Rattle.arm64_reader.proofs.Answers.{refuses, found_none, packed_no}
use Rattle.arm64_reader.proofs.packed.Goals as goal

pub returns-then-not-ok : goal.returns-then-not-ok
returns-then-not-ok c = (rw (← c.of-w.ensures) (refuses (found_none c.args.to.now.epilogues.now c.args.to.now.codes.now (packed_no c.of-w.result.fields (sym c.ok.ensures.0 ∙ c.if-not-ok.true))) refl), same)

pub returns-then-w-eq2 : goal.returns-then-w-eq2
returns-then-w-eq2 c = (rw (← c.of-w.ensures) c.fragment.ensures.0, c.fragment.ensures.1)

pub returns : goal.returns
returns c = (rw (← c.of-w.ensures) c.function.ensures.0, c.function.ensures.1)

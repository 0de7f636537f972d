-- `arm64_packing::packed` meets its contract.
use mathlib.Core.Path.{sym, ap, ◌∙◌}
use Rattle.std.specs.Prelude.{Some}
use Rattle.arm64_simple.specs.Written.{written_in}
use Rattle.arm64_packing.proofs.Answers.{not_defined, other_prologue, other_epilogue, stood}
use Rattle.arm64_packing.proofs.packed.Goals as goal

pub defined-requires : goal.defined-requires
defined-requires c = (c.candidate.ensures.2, c.candidate.ensures.3)

pub returns-in_err-w : goal.returns-in_err-w
returns-in_err-w c = c.from_residual.ensures ∙ not_defined (written_in c.args.prologue.now) (written_in c.args.epilogue.now) c.candidate.ensures.0 c.in_err-w.ensures

pub returns-then-not-same_places : goal.returns-then-not-same_places
returns-then-not-same_places c = other_prologue (written_in c.args.prologue.now) (written_in c.args.epilogue.now) (c.in_ok-w.ensures.0 ∙ c.candidate.ensures.0) c.in_ok-w.ensures.1 (sym c.same_places.ensures ∙ c.if-not-same_places.true)

pub returns-then-not-same_places-2 : goal.returns-then-not-same_places-2
returns-then-not-same_places-2 c = other_epilogue (written_in c.args.prologue.now) (written_in c.args.epilogue.now) (c.in_ok-w.ensures.0 ∙ c.candidate.ensures.0) c.in_ok-w.ensures.1 (sym c.same_places.ensures ∙ c.if-not-same_places.false) (sym c.same_places-2.ensures ∙ c.if-not-same_places-2.true)

pub packed_word-requires : goal.packed_word-requires
packed_word-requires c = ap (λ p. p.flag) c.in_ok-w.ensures.0 ∙ c.candidate.ensures.1

pub returns : goal.returns
returns c = ap Some c.packed_word.ensures ∙ stood (written_in c.args.prologue.now) (written_in c.args.epilogue.now) (c.in_ok-w.ensures.0 ∙ c.candidate.ensures.0) c.in_ok-w.ensures.1 (sym c.same_places.ensures ∙ c.if-not-same_places.false) (sym c.same_places-2.ensures ∙ c.if-not-same_places-2.false)

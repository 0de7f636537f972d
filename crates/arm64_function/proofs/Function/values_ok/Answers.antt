-- `Function::values_ok` meets its contract.
use mathlib.Core.Path.{sym, ap, ◌∙◌}
use Rattle.arm64.specs.Runs.{no_pair, run_fits}
use Rattle.arm64_function.proofs.Asked.{no_prologue, no_epilogue, too_many, by_size}
use Rattle.arm64_function.proofs.Function.values_ok.Goals as goal

pub returns-then-not-fit : goal.returns-then-not-fit
returns-then-not-fit c = no_prologue c.args.self.now.epilogues.now c.args.self.now.codes.now c.args.self.now.parts (sym (c.fit.ensures ∙ ap (run_fits no_pair) c.prologue.ensures.0) ∙ c.if-not-fit.true)

pub returns-then-not-runs_fit : goal.returns-then-not-runs_fit
returns-then-not-runs_fit c = no_epilogue c.args.self.now.epilogues.now c.args.self.now.codes.now c.args.self.now.parts (sym (c.fit.ensures ∙ ap (run_fits no_pair) c.prologue.ensures.0) ∙ c.if-not-fit.false) (sym c.runs_fit.ensures ∙ c.if-not-runs_fit.true)

pub returns-then-self-gt-MOST_EPILOGUES : goal.returns-then-self-gt-MOST_EPILOGUES
returns-then-self-gt-MOST_EPILOGUES c = too_many c.args.self.now.epilogues.now c.args.self.now.codes.now c.args.self.now.parts (sym (c.fit.ensures ∙ ap (run_fits no_pair) c.prologue.ensures.0) ∙ c.if-not-fit.false) (sym c.runs_fit.ensures ∙ c.if-not-runs_fit.false) c.if-self-gt-MOST_EPILOGUES.true

pub returns : goal.returns
returns c = c.is_some.ensures ∙ by_size c.args.self.now.epilogues.now c.args.self.now.codes.now c.args.self.now.parts (sym (c.fit.ensures ∙ ap (run_fits no_pair) c.prologue.ensures.0) ∙ c.if-not-fit.false) (sym c.runs_fit.ensures ∙ c.if-not-runs_fit.false) c.if-self-gt-MOST_EPILOGUES.false c.codes_size.ensures

-- The codes of a run step by step: what stands before each, how it is given and how it is written.
use Rattle.std.specs.Prelude.{◌-◌, Bool, ◌&&◌, List, [], ◌∷◌}
use Rattle.format.specs.Prelude.{each}
use Rattle.arm64.specs.declared.Code.{Code}
use Rattle.arm64.specs.Codes.{form_for, register_fits, code_fits}
use Rattle.arm64.specs.Runs.{shorter, simple, pair_behind}
use Rattle.arm64_simple.specs.declared.Step.{Step}
use Rattle.arm64_simple.specs.declared.Steps.{Steps}
use Rattle.arm64_simple.specs.Saves.{saved_at}

unfoldable pub steps : (b : Code) → List Code → List Step
steps b [] = []
steps b (c ∷ cs) = record { before = b; given = c; written = simple b c } ∷ steps (pair_behind b (simple b c)) cs

-- those from the next on
abbrev pub steps_left : Steps → List Step
steps_left s = steps s.before (each (saved_at s.codes.list.now s.codes.run) s.next (s.codes.run.count - s.next))

-- question 83
unfoldable pub step_fits : Step → Bool
step_fits s = register_fits (form_for (shorter s.given)) (shorter s.given) && code_fits s.written

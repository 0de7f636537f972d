-- `given::Input::length_asked` meets its contract.
use mathlib.Core.Path.{ap, ◌∙◌}
use Prim.Native.Nat.{ℕ}
use Rattle.codes.specs.Codes.{yes_or_no}
use Rattle.x64.specs.Sources.{long_no}
use Rattle.x64.proofs.given.Input.length_asked.Goals as goal

pub returns : goal.returns
returns c = c.long_no.ensures ∙ ap (λ (x : ℕ × ℕ). yes_or_no (long_no x.1)) c.named-size.ensures

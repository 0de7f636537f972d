-- What a log means, beside the rules that hold.
use Rattle.std.specs.Prelude.{◌≡◌, List, [], ◌∷◌, reverse, set, length, Some, None}
use Rattle.std.specs.Prelude as code
use Rattle.std.proofs.Math.Option.{none, some}
use Rattle.cfi_rules.specs.declared.rule.Rule.{Rule}
use Rattle.cfi_rules.specs.declared.rule.Frame.{Frame}
use Rattle.cfi_rules.specs.declared.rule.Noted.{Noted}
use Rattle.cfi_rules.specs.declared.rule.Noted.TheVariants.{Mark, Was}
use Rattle.cfi_rules.specs.Registers.{Held, Back, changed, total}

-- the stored states, the last first, from the log's entries, the last first: each change is taken back on the
-- way to its mark
unfoldable pub stored_of : List Rule → List Noted → List Held
stored_of rules [] = []
stored_of rules (Mark frame ∷ es) = record { rules = rules; frame = frame; changes = 0 } ∷ stored_of rules es
stored_of rules (Was reg r ∷ es) = changed (stored_of (set rules reg r) es)

-- changes taken back up to a mark, or where there is none, all of them
abbrev pub Undone : code.Option Frame → List Rule → List Noted → Back → Type 0
Undone (Some frame) rules log b =
    (b ≡ some (rules, frame, stored_of rules (reverse log)))
    × (total (stored_of rules (reverse log)) ≡ length log)
Undone None rules log b = (b ≡ none) × (log ≡ [])

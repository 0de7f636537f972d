-- Document 01's number and values for each case of an answer.
use Rattle.std.specs.Prelude.{◌≡◌, ℕ, Bool, true, false, List, [], ◌∷◌, ◌++◌, length}
use Rattle.std.specs.Int.{w64}
use Rattle.std.proofs.Common.{of_z}
use Rattle.format.specs.declared.CfaRule.{CfaRule}
use Rattle.format.specs.declared.CfaRule.TheVariants.{Unset, Register}
use Rattle.format.specs.declared.Rule.{Rule}
use Rattle.format.specs.declared.Rule.TheVariants.{Unstated, Undefined, Saved, SameValue, InRegister}
use Rattle.format.specs.Coded.{Reading}
use Rattle.std.specs.Prelude.{Ok, Err}
use Rattle.format.specs.Coded.{Outcome}
use Rattle.std.specs.Prelude.{Some, None}
use Rattle.format.specs.Writer.{Written}
use Rattle.format.specs.Lists.{numbers_of}
use Rattle.format.specs.Put.{put}
use Rattle.format.specs.Questions.{Answer, refused, empty, accepted}

-- ---- the reader: number (0: answered), frame (0 none, 1 register plus offset), its register and offset, rule (0 unstated, 1 undefined,
-- 2 saved, 3 same value, 4 in a register), its offset or register, signing. Offsets are 64-bit two's complement; a field without meaning is 0.

unfoldable pub cfa_numbers : CfaRule → List ℕ
cfa_numbers Unset = 0 ∷ 0 ∷ 0 ∷ []
cfa_numbers (Register reg z) = 1 ∷ reg ∷ of_z w64 z ∷ []

unfoldable pub rule_numbers : Rule → List ℕ
rule_numbers Unstated = 0 ∷ 0 ∷ []
rule_numbers Undefined = 1 ∷ 0 ∷ []
rule_numbers (Saved z) = 2 ∷ of_z w64 z ∷ []
rule_numbers SameValue = 3 ∷ 0 ∷ []
rule_numbers (InRegister reg) = 4 ∷ reg ∷ []

unfoldable pub bit : Bool → ℕ
bit false = 0
bit true = 1

unfoldable pub reading_numbers : Reading → List ℕ
reading_numbers (Ok a) = 0 ∷ (cfa_numbers a.cfa ++ (rule_numbers a.rule ++ (bit a.signing ∷ [])))
reading_numbers (Err n) = n ∷ 0 ∷ 0 ∷ 0 ∷ 0 ∷ 0 ∷ 0 ∷ []

-- and last whether every number that was read is spelled shortest (document 02, W-206)
unfoldable pub mark_of : Reading → Bool → ℕ
mark_of (Ok a) shortest = bit shortest
mark_of (Err n) shortest = 0

unfoldable pub marked_numbers : Reading → (shortest : Bool) → List ℕ
marked_numbers r shortest = reading_numbers r ++ (mark_of r shortest ∷ [])

-- ---- the writers: number (0: accepted), position, and the counts of header places (or markers), bytes, relocations and call-site (or x64 info) bytes

unfoldable pub outcome_numbers : Outcome → List ℕ
outcome_numbers (Ok (Some c)) = 0 ∷ 0 ∷ c.places ∷ c.bytes ∷ c.relocations ∷ c.sites ∷ []
outcome_numbers (Ok None) = 0 ∷ 0 ∷ 0 ∷ 0 ∷ 0 ∷ 0 ∷ []
outcome_numbers (Err r) = r.0 ∷ r.1 ∷ 0 ∷ 0 ∷ 0 ∷ 0 ∷ []

-- what a writer's function answers, by what the definition answers
unfoldable pub outcome_of : Answer → Outcome
outcome_of (refused n k) = Err (n, k)
outcome_of empty = Ok None
outcome_of (accepted w) =
    Ok (Some (record { places = length w.places; bytes = length w.bytes; relocations = length w.relocations; sites = length w.sites }))

-- what a lent buffer holds at exit: on acceptance the result at its front and the rest as it was; else it is unchanged
unfoldable pub afterwards : (Written → List ℕ) → Answer → List ℕ → List ℕ
afterwards part (refused n k) old = old
afterwards part empty old = old
afterwards part (accepted w) old = put old 0 (part w)

-- the relocations as numbers, five each
unfoldable pub relocation_numbers : Written → List ℕ
relocation_numbers w = numbers_of w.relocations

-- what a writer does, by what the definition answers: its outcome, and what its four lent buffers hold at exit
pub record Writes (a : Answer) (o : Outcome) (places places' bytes bytes' relocations relocations' sites sites' : List ℕ) : Type 0 where
  pub outcome : o ≡ outcome_of a
  pub placed : places' ≡ afterwards (λ w. w.places) a places
  pub stored : bytes' ≡ afterwards (λ w. w.bytes) a bytes
  pub related : relocations' ≡ afterwards relocation_numbers a relocations
  pub sited : sites' ≡ afterwards (λ w. w.sites) a sites

-- The loops over an iterator of an entry's operations.
use mathlib.Core.Path.{◌≡◌, subst, ap, ◌∙◌}
use mathlib.Core.List.{List}
use Prim.Native.Nat.{ℕ, ◌≤◌, ◌<◌}
use lib.ListN.{length}
use denote.Ref.{Bor}
use Rattle.std.specs.Prelude.{IfSome, Some}
use Rattle.std.specs.Prelude as code
use Rattle.format.specs.declared.Operation.{Operation}
use Rattle.operations.specs.Positions.{operation_at}
use Rattle.operations.specs.declared.fields.Position.{Position}
use Rattle.reader.specs.Operations.{Read}
use Rattle.reader.specs.declared.operation.Operations.{Operations}

-- the iterator goes over these bytes, and I holds of its position
pub record Along (bs : List ℕ) (word : ℕ) (I : Position → Type 0) (it : Operations) : Type 0 where
  pub same : it.bytes.now ≡ bs
  pub same_word : it.word ≡ word
  pub here : I it.at

pub along : {b : Bor (List ℕ)} {word : ℕ} {I : Position → Type 0} {it : Operations} {p : Position} → it.bytes ≡ b → it.at ≡ p → it.word ≡ word → I p
    → Along b.now word I it
along {b} {word} {I} {it} {p} e f g i = record { same = ap (λ b. b.now) e; same_word = g; here = rw f i }

module _ {bs : List ℕ} {word : ℕ} {I : Position → Type 0} {it : Operations} (o : Along bs word I it) where
  module _ {r : code.Option (Operation × Position)} {t : Operations} (g : Read it r t) where
    pub read : operation_at word bs it.at ≡ r
    read = rw (← o.same, ← o.same_word) g.read

    pub inside : it.at.at < length bs
    inside = rw (← o.same) g.inside

    -- past an operation
    pub onward : {op : Operation} {next : Position} {J : Position → Type 0} → r ≡ Some (op, next) → J next → Along bs word J t
    onward {op} {next} {J} e j =
        let p : t.at ≡ next = subst (λ (r : code.Option (Operation × Position)). IfSome r λ x. t.at ≡ x.1) e g.past in
        record { same = ap (λ b. b.now) g.same ∙ o.same; same_word = g.same_word ∙ o.same_word; here = rw p j }

  pub all_read : length it.bytes.now ≤ it.at.at → length bs ≤ it.at.at
  all_read h = rw (← o.same) h

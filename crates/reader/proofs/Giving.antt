-- The loops over an iterator of a section's entries.
use mathlib.Core.Path.{◌≡◌, subst, ap, ◌∙◌}
use mathlib.Core.List.{List}
use Prim.Native.Nat.{ℕ, ◌≤◌}
use lib.ListN.{length}
use denote.Ref.{Bor}
use Rattle.reader.specs.Spans.{Holds, Ends}
use Rattle.reader.specs.Entries.{Gave, Ended}
use Rattle.reader.specs.declared.entries.Entries.{Entries}
use Rattle.reader.specs.declared.section.Span.{Span}

-- the iterator goes over this section, and I holds of its position
pub record Over (s : List ℕ) (I : ℕ → Type 0) (it : Entries) : Type 0 where
  pub same : it.section.now ≡ s
  pub here : I it.at

module _ {s : List ℕ} {I : ℕ → Type 0} {it t : Entries} (o : Over s I it) where
  module _ {e : Span} (g : Gave it e t) where
    pub ends : Ends s e.at e.end
    ends = subst (λ (bs : List ℕ). Ends bs e.at e.end) o.same g.ends

    pub held : Holds s e
    held = (ends.long, ends.inside)

    pub at : I e.at
    at = rw g.here o.here

    -- past the entry
    pub past : {J : ℕ → Type 0} → J e.end → Over s J t
    past {J} j = record { same = ap (λ b. b.now) g.same ∙ o.same; here = rw g.past j }

  pub stopped : Ended it t → length s ≤ it.at
  stopped g = rw (← o.same) g.all

pub begin : {b : Bor (List ℕ)} {I : ℕ → Type 0} {it : Entries} {n : ℕ} → it.section ≡ b → it.at ≡ n → I n → Over b.now I it
begin {b} {I} {it} {n} e f i = record { same = ap (λ b. b.now) e; here = rw f i }

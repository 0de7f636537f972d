-- One entry at a position: its four numbers one behind the other, and whether it covers an offset.
use mathlib.Core.Path.{◌≡◌, sym, ap, ◌∙◌}
use Prim.Native.Nat.{ℕ, suc, ◌+◌, ◌-◌, ◌^◌, ◌≤◌, ◌<◌}
use native.Mathlib.Omega.{arith}
use mathlib.Core.Bool.{Bool, false}
use mathlib.Core.Option.{none}
use mathlib.Core.List.{List}
use lib.Dec.{ltb}
use lib.ListN.{drop}
use borrow.Author.Tests.{lt-ltb, le-ltb, le-leb, lt-leb}
use Rattle.std.specs.Prelude.{Some, None}
use Rattle.format.specs.Prelude.{next}
use Rattle.operations.specs.declared.fields.Position.{Position}
use Rattle.format.specs.CallSiteReader.{site_of, read_site, covers}
use Rattle.format.proofs.Choice.{if-le, if-gt, either}
use Rattle.operations.specs.Positions.{uleb_at}
use Rattle.operations.proofs.PositionLaws.{uleb_ahead, uleb_rest, uleb_none}
use Rattle.call_sites.specs.Reads.{short_from, EntryThere}
use Rattle.call_sites.proofs.Marks.{number_on}

module _ (s : List ℕ) (p : Position) where
  pub no_start : uleb_at s p ≡ None → read_site (drop p.at s) ≡ none
  unfolding read_site next
  no_start e = rw (uleb_none s p e)

  module _ {start : ℕ} {q₁ : Position} (e₁ : uleb_at s p ≡ Some (start, q₁)) where
    pub no_length : uleb_at s q₁ ≡ None → read_site (drop p.at s) ≡ none
    unfolding read_site next
    no_length e = rw (uleb_rest s p e₁, uleb_none s q₁ e)

    module _ {size : ℕ} {q₂ : Position} (e₂ : uleb_at s q₁ ≡ Some (size, q₂)) where
      pub no_pad : uleb_at s q₂ ≡ None → read_site (drop p.at s) ≡ none
      unfolding read_site next
      no_pad e = rw (uleb_rest s p e₁, uleb_rest s q₁ e₂, uleb_none s q₂ e)

      module _ {pad : ℕ} {q₃ : Position} (e₃ : uleb_at s q₂ ≡ Some (pad, q₃)) where
        pub no_action : uleb_at s q₃ ≡ None → read_site (drop p.at s) ≡ none
        unfolding read_site next
        no_action e = rw (uleb_rest s p e₁, uleb_rest s q₁ e₂, uleb_rest s q₂ e₃, uleb_none s q₃ e)

        module _ {action : ℕ} {q : Position} (e₄ : uleb_at s q₃ ≡ Some (action, q)) where
          four_on : (f : ℕ) → 4 ≤ f → short_from s p f ≡ short_from s q (f - 4)
          four_on f h =
              let g : ℕ = f - 4 in
              let i : f ≡ suc (suc (suc (suc g))) = omega arith in
              ap (short_from s p) i ∙ number_on s p e₁ (suc (suc (suc g))) ∙ number_on s q₁ e₂ (suc (suc g)) ∙ number_on s q₂ e₃ (suc g) ∙ number_on s q₃ e₄ g

          pub too_far : 2 ^ 64 ≤ start + size → read_site (drop p.at s) ≡ none
          unfolding read_site next
          too_far h =
              let m : 2 ^ 64 < suc (start + size) = omega arith in
              rw (uleb_rest s p e₁, uleb_rest s q₁ e₂, uleb_rest s q₂ e₃, uleb_rest s q₃ e₄, if-gt (suc (start + size)) (2 ^ 64))

          pub one_entry : start + size < 2 ^ 64 → EntryThere s p (site_of start size pad) q
          unfolding read_site next
          one_entry h = record {
            ahead = omega (arith, (uleb_ahead s p e₁).0, (uleb_ahead s q₁ e₂).0, (uleb_ahead s q₂ e₃).0, (uleb_ahead s q₃ e₄).0);
            inside = (uleb_ahead s q₃ e₄).1;
            reads = rw (uleb_rest s p e₁, uleb_rest s q₁ e₂, uleb_rest s q₂ e₃, uleb_rest s q₃ e₄, if-le (suc (start + size)) (2 ^ 64));
            marks = four_on;
          }

-- ---- an offset

pub before_start : (start size pad offset : ℕ) → offset < start → false ≡ covers offset (site_of start size pad)
unfolding covers site_of
before_start start size pad offset h = rw (lt-leb start offset h)

pub from_start : (start size pad offset : ℕ) {b : Bool} → start ≤ offset → b ≡ ltb (offset - start) size → b ≡ covers offset (site_of start size pad)
unfolding covers site_of
from_start start size pad offset h e =
    e ∙ rw (le-leb start offset h)
    (either (suc (offset - start)) size (λ l. lt-ltb (offset - start) size l ∙ sym (lt-ltb offset (start + size) (omega arith)))
    (λ g. le-ltb (offset - start) size (omega arith) ∙ sym (le-ltb offset (start + size) (omega arith))))

-- The marks of a table's numbers: what is left of them at a position.
use mathlib.Core.Path.{◌≡◌, refl, sym, ap, ◌∙◌}
use Prim.Native.Nat.{ℕ, zero, suc, ◌-◌, ◌≤◌, ◌<◌}
use native.Mathlib.Omega.{arith}
use mathlib.Core.Bool.{Bool, true, ◌&&◌, and-true, and_assoc}
use mathlib.Core.Option.{some}
use mathlib.Core.List.{List, [], ◌∷◌}
use lib.Dec.{eqb}
use lib.ListN.{length, drop, length-drop, drop_of_length-le}
use Rattle.std.specs.Prelude.{Some}
use Rattle.format.specs.Prelude.{next}
use Rattle.format.specs.Leb.{uleb}
use Rattle.format.specs.Shortest.{unsigned, shortest, read_mark, marked, numbers_short, every_short_f}
use Rattle.operations.specs.declared.fields.Position.{Position}
use Rattle.operations.specs.Positions.{uleb_at}
use Rattle.operations.proofs.PositionLaws.{uleb_ahead, uleb_rest, uleb_past, past_mark}
use Rattle.call_sites.specs.Reads.{short_from}

every_step : (f : ℕ) (bs : List ℕ) → 0 < length bs → every_short_f (suc f) bs ≡ marked (read_mark unsigned bs) (every_short_f f)
unfolding every_short_f
every_step f [] l = absurd (omega arith)
every_step f (b ∷ bs) l = refl

pub every_done : (f : ℕ) → every_short_f f [] ≡ true
unfolding every_short_f
every_done zero = refl
every_done (suc f) = refl

module _ (s : List ℕ) (p : Position) {v : ℕ} {q : Position} (e : uleb_at s p ≡ Some (v, q)) where
  -- whether it is spelled shortest
  number_short : Bool
  number_short = eqb (length (drop p.at s) - length (drop q.at s)) (length (uleb v))

  mark_there : read_mark unsigned (drop p.at s) ≡ some (number_short, drop q.at s)
  unfolding read_mark shortest next number_short
  mark_there = rw (uleb_rest s p e)

  mark_kept : q.shortest ≡ (p.shortest && number_short)
  unfolding numbers_short marked
  mark_kept = past_mark (uleb_past s p e) ∙ ap (λ (b : Bool). p.shortest && b) (rw (mark_there, and-true number_short))

  -- a number's mark goes over to the position past it
  pub number_on : (f : ℕ) → short_from s p (suc f) ≡ short_from s q f
  unfolding marked
  number_on f =
      let o : every_short_f (suc f) (drop p.at s) ≡ (number_short && every_short_f f (drop q.at s)) =
      every_step f (drop p.at s) (omega (arith, uleb_ahead s p e, length-drop p.at s)) ∙ rw mark_there in
      ap (λ (b : Bool). p.shortest && b) o ∙ sym (and_assoc p.shortest number_short (every_short_f f (drop q.at s)))
      ∙ ap (λ (b : Bool). b && every_short_f f (drop q.at s)) (sym mark_kept)

-- at the end of the bytes only the numbers in front are left
pub at_end : (s : List ℕ) (p : Position) (f : ℕ) → length s ≤ p.at → short_from s p f ≡ p.shortest
at_end s p f h = rw (drop_of_length-le s h, every_done f, and-true p.shortest)

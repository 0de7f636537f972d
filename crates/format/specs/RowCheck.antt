-- The row check (document 01, "Rules and row check").
use Rattle.std.specs.Prelude.{ℕ, Bool, true, false, not, ◌&&◌, ◌||◌, List, [], ◌∷◌, map, length, ltb, eqb}
use Rattle.format.specs.Prelude.{all, each}
use Rattle.format.specs.declared.Row.{Row}
use Rattle.format.specs.declared.Row.TheVariants.{DefCfa, DefCfaOffset, DefCfaRegister, Offset, Restore, Undefined, RememberState, RestoreState, NegateRaState, SameValue, InRegister}
use Rattle.format.specs.Rows.{RowAt, kind_of}
use Rattle.format.specs.Lists.{function_stride, row_stride, field, count, inside, all_in, row_ok_at, mark_ok, mark, row_at}
use Rattle.format.specs.Headers.{ahead}

-- no Restore (4) or RestoreState (7) leads
unfoldable pub may_lead : Row → Bool
may_lead r = not (eqb (kind_of r) 4 || eqb (kind_of r) 7)

-- Each RestoreState has an open RememberState, at most 16 are open, and DefCfaOffset and DefCfaRegister meet a frame address rule.
-- `framed`: there is one; `opened`: for each open RememberState whether there was one there, which is what its RestoreState brings back.
unfoldable pub in_order : (framed : Bool) (opened : List Bool) → List Row → Bool
in_order framed opened [] = true
in_order framed opened (DefCfa reg z ∷ rs) = in_order true opened rs
in_order framed opened (DefCfaOffset z ∷ rs) = framed && in_order framed opened rs
in_order framed opened (DefCfaRegister reg ∷ rs) = framed && in_order framed opened rs
in_order framed opened (Offset reg z ∷ rs) = in_order framed opened rs
in_order framed opened (Restore reg ∷ rs) = in_order framed opened rs
in_order framed opened (Undefined reg ∷ rs) = in_order framed opened rs
in_order framed opened (RememberState ∷ rs) = ltb (length opened) 16 && in_order framed (framed ∷ opened) rs
in_order framed [] (RestoreState ∷ rs) = false
in_order framed (b ∷ opened) (RestoreState ∷ rs) = in_order b opened rs
in_order framed opened (NegateRaState ∷ rs) = in_order framed opened rs
in_order framed opened (SameValue reg ∷ rs) = in_order framed opened rs
in_order framed opened (InRegister reg other ∷ rs) = in_order framed opened rs

unfoldable pub rows_of : List RowAt → List Row
rows_of xs = map (λ x. x.1) xs

-- the check of a function: unless simple a frame address rule leads
unfoldable pub row_check : (simple : Bool) → List RowAt → Bool
row_check simple xs = all may_lead (ahead xs) && in_order (not simple) [] (rows_of xs)

-- function k of the lists; k past the list, a simple mark above 1, rows outside their list and numbers that are no row are a no
unfoldable pub row_check_at : (fs rows : List ℕ) → ℕ → Bool
row_check_at fs rows k =
    let f : ℕ → ℕ = λ j. field function_stride fs k j in
    ltb k (count function_stride fs) && mark_ok (f 6) && inside (f 2) (f 3) (count row_stride rows) && all_in (row_ok_at rows) (f 2) (f 3)
    && row_check (mark (f 6)) (each (row_at rows) (f 2) (f 3))

-- What one record yields, from direct codes and from rows, and the codes of a function.
use mathlib.Core.Path.{◌≡◌, refl}
use Prim.Native.Nat.{ℕ, zero, suc, ◌≤◌}
use native.Mathlib.Omega.{arith}
use mathlib.Core.List.{List, [], ◌∷◌, ◌++◌}
use lib.IntN.{ℤ}
use lib.ListN.{length}
use Rattle.std.proofs.Common.{Bor}
use Rattle.format.specs.Prelude.{Result, good, bad, each}
use Rattle.format.specs.declared.Machine.{Machine}
use Rattle.format.specs.declared.Seh.{Seh}
use Rattle.format.specs.Lists.{code_at}
use Rattle.format.specs.X64.{Step, code_for}
use Rattle.prologue.specs.declared.given.X64Machine.{X64Machine}
use Rattle.prologue.specs.declared.given.Shape.{Shape}
use Rattle.prologue.specs.Given.{rows_in}
use Rattle.prologue.specs.Pieces.{code_in, codes_in, row_step, step_in, piece_in, moved_in, pieces_from}
use Rattle.format.proofs.Choice.{picked}
use Rattle.x64.specs.declared.given.Records.{Records}
use Rattle.x64.specs.declared.given.Records.TheVariants.{Codes, ByRows}
use Rattle.x64.specs.Sources.{piece_at, moved_at, codes_from}

-- ---- one record

code_few : (off : ℕ) (r : Result Seh) → length (code_in off r ++ []) ≤ 1
unfolding code_in
code_few off (good c) = omega arith
code_few off (bad n) = omega arith

module _ (m : Machine) (below : ℤ) where
  abbrev Few : List (ℕ × Step) → Type 0
  Few xs = length (codes_in m below xs) ≤ 1

  no_step : Few []
  unfolding codes_in
  no_step = omega arith

  one_step : (off : ℕ) (s : Step) → Few ((off, s) ∷ [])
  unfolding codes_in
  one_step off s = code_few off (code_for m below s)

  row_few : (sofar : ℤ) (rows : List ℕ) (at i end : ℕ) → length (piece_in m below sofar rows at i end) ≤ 1
  unfolding piece_in step_in row_step
  row_few sofar rows at i end =
      picked Few _ (picked Few _ no_step (one_step _ _)) (picked Few _ (picked Few _ (one_step _ _) (one_step _ _)) (picked Few _ (one_step _ _) no_step))

pub piece_few : (r : Records) (sofar : ℤ) (i : ℕ) → length (piece_at r sofar i) ≤ 1
unfolding piece_at
piece_few (Codes list) sofar i = omega arith
piece_few (ByRows m p) sofar i = row_few m.machine.now p.below sofar p.rows.rows.now 0 i (rows_in p.rows)

-- ---- the codes of a function

pub direct_codes : (list : Bor (List ℕ)) (sofar : ℤ) (i n : ℕ) → each (code_at list.now) i n ≡ codes_from (Codes list) sofar i n
unfolding each codes_from piece_at moved_at
direct_codes list sofar i zero = refl
direct_codes list sofar i (suc n) = rw (direct_codes list sofar (suc i) n)

pub rows_codes : (m : X64Machine) (p : Shape) (sofar : ℤ) (i n : ℕ) → pieces_from m.machine.now p.below sofar p.rows.rows.now 0 i (rows_in p.rows) n ≡ codes_from (ByRows m p) sofar i n
unfolding pieces_from codes_from piece_at moved_at
rows_codes m p sofar i zero = refl
rows_codes m p sofar i (suc n) = rw (rows_codes m p (moved_in sofar p.rows.rows.now i) (suc i) n)

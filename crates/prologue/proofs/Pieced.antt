-- What a row yields, by its kind, and the pieces of a prologue as a loop goes over them.
use mathlib.Core.Path.{◌≡◌, refl, ◌∙◌}
use Prim.Native.Nat.{ℕ, suc, ◌+◌, ◌-◌, ◌≤◌, ◌<◌}
use native.Mathlib.Omega.{arith}
use native.Mathlib.Numerals.{add-one}
use mathlib.Core.Bool.{Bool, true, false}
use mathlib.Core.List.{List, [], ◌∷◌, ◌++◌, append-nil}
use lib.Dec.{T}
use lib.IntN.{ℤ, pos, ◌+ℤ◌, ◌-ℤ◌}
use borrow.Author.Tests.{ne_eqb, lt-leb}
use Rattle.format.specs.Prelude.{pick}
use Rattle.format.specs.declared.Machine.{Machine}
use Rattle.format.specs.declared.Row.{Row}
use Rattle.format.specs.declared.Row.TheVariants.{DefCfa, DefCfaOffset, DefCfaRegister, Offset}
use Rattle.format.specs.declared.Seh.TheVariants.{Push, Alloc, Frame, Save}
use Rattle.format.specs.Rows.{kind_of, reg_of, offset_of}
use Rattle.format.specs.Lists.{field, row_stride, row_at, row_ok_at}
use Rattle.format.specs.X64.{Step, push, alloc, frame, save, code_for}
use Rattle.prologue.specs.Groups.{joined, joins}
use Rattle.prologue.specs.Pieces.{row_step, step_in, moved_by, moved_in, code_in, codes_in, piece_in, pieces_from, named_code}
use Rattle.prologue.specs.Readable.{Short}
use Rattle.format.proofs.Choice.{picked}
use Rattle.prologue.proofs.Rows.{row_at_short}

-- ---- one row

module _ (m : Machine) (below sofar : ℤ) (off : ℕ) (a b : Bool) where
  one_code : (s : Step) → codes_in m below ((off, s) ∷ []) ≡ code_in off (code_for m below s)
  unfolding codes_in
  one_code s = append-nil (code_in off (code_for m below s))

  set_step : (reg : ℕ) (z : ℤ) → codes_in m below (row_step off sofar a b (DefCfa reg z)) ≡ named_code m off m.frame (λ x. Frame x.number (pos 0))
  unfolding row_step kind_of pick code_for named_code
  set_step reg z = one_code frame

  early_step : (reg : ℕ) → codes_in m below (row_step off sofar a b (DefCfaRegister reg)) ≡ named_code m off m.frame (λ x. Frame x.number (pos 0))
  unfolding row_step kind_of pick code_for named_code
  early_step reg = one_code frame

  alloc_step : (z : ℤ) → codes_in m below (row_step off sofar a b (DefCfaOffset z)) ≡ pick a [] ((off, Alloc (z -ℤ sofar)) ∷ [])
  unfolding row_step kind_of offset_of codes_in code_in code_for pick
  alloc_step z = go a
    where
      go : (c : Bool) → codes_in m below (pick c [] ((off, alloc (z -ℤ sofar)) ∷ [])) ≡ pick c [] ((off, Alloc (z -ℤ sofar)) ∷ [])
      go true = refl
      go false = refl

  slot_step : (reg : ℕ) (z : ℤ) → codes_in m below (row_step off sofar a b (Offset reg z))
      ≡ pick b (named_code m off reg (λ x. Push x.number)) (named_code m off reg (λ x. Save x.number x.vector (below +ℤ z)))
  unfolding row_step kind_of reg_of offset_of code_for named_code pick
  slot_step reg z = go b
    where
      go : (c : Bool) → codes_in m below (pick c ((off, push reg) ∷ []) ((off, save reg z) ∷ []))
          ≡ pick c (code_in off (code_for m below (push reg))) (code_in off (code_for m below (save reg z)))
      go true = one_code (push reg)
      go false = one_code (save reg z)

  no_step : (r : Row) → 4 ≤ kind_of r → codes_in m below (row_step off sofar a b r) ≡ []
  unfolding row_step codes_in pick
  no_step r h = simp (ne_eqb (kind_of r) 1 (λ e. omega arith), ne_eqb (kind_of r) 3 (λ e. omega arith), lt-leb (kind_of r) 2 (omega arith))

-- row i by what was read of it
module _ (m : Machine) (below sofar : ℤ) (rows : List ℕ) (at i end : ℕ) {r : Row} (e : r ≡ (row_at rows i).1) where
  module _ {off : ℕ} (o : off ≡ field row_stride rows i 0) where
    there : {s : Row} → r ≡ s → piece_in m below sofar rows at i end ≡ codes_in m below (row_step off sofar (joins rows i end) (joined rows at i) s)
    unfolding piece_in step_in row_at
    there f = rw (← e, f, o)

    pub set_piece : (reg : ℕ) (z : ℤ) → r ≡ DefCfa reg z → piece_in m below sofar rows at i end ≡ named_code m off m.frame (λ x. Frame x.number (pos 0))
    set_piece reg z f = there f ∙ set_step m below sofar off (joins rows i end) (joined rows at i) reg z

    pub early_piece : (reg : ℕ) → r ≡ DefCfaRegister reg → piece_in m below sofar rows at i end ≡ named_code m off m.frame (λ x. Frame x.number (pos 0))
    early_piece reg f = there f ∙ early_step m below sofar off (joins rows i end) (joined rows at i) reg

    pub alloc_piece : (z : ℤ) → r ≡ DefCfaOffset z → piece_in m below sofar rows at i end ≡ pick (joins rows i end) [] ((off, Alloc (z -ℤ sofar)) ∷ [])
    alloc_piece z f = there f ∙ alloc_step m below sofar off (joins rows i end) (joined rows at i) z

    pub slot_piece : (reg : ℕ) (z : ℤ) → r ≡ Offset reg z → piece_in m below sofar rows at i end
        ≡ pick (joined rows at i) (named_code m off reg (λ x. Push x.number)) (named_code m off reg (λ x. Save x.number x.vector (below +ℤ z)))
    slot_piece reg z f = there f ∙ slot_step m below sofar off (joins rows i end) (joined rows at i) reg z

    pub no_piece : 4 ≤ kind_of r → piece_in m below sofar rows at i end ≡ []
    no_piece h = there refl ∙ no_step m below sofar off (joins rows i end) (joined rows at i) r h

-- ---- the distance behind a row

pub moved_by_lem : (sofar : ℤ) (rows : List ℕ) (i : ℕ) {r : Row} (z : ℤ) → r ≡ (row_at rows i).1 → r ≡ DefCfaOffset z → z ≡ moved_in sofar rows i
unfolding moved_in moved_by kind_of offset_of pick
moved_by_lem sofar rows i z e f = rw (← e, f)

pub stays : (sofar : ℤ) (rows : List ℕ) (i : ℕ) {r : Row} → r ≡ (row_at rows i).1 → (kind_of r ≡ 1 → ⊥) → sofar ≡ moved_in sofar rows i
unfolding moved_in moved_by pick
stays sofar rows i {r} e n = rw (← e, ne_eqb (kind_of r) 1 n)

pub moved_short : (sofar : ℤ) (rows : List ℕ) (i : ℕ) → T (row_ok_at rows i) → Short sofar → Short (moved_in sofar rows i)
unfolding moved_in moved_by
moved_short sofar rows i t h = picked Short _ (row_at_short rows i t) h

-- ---- the pieces from row i on

module _ (m : Machine) (below sofar : ℤ) (rows : List ℕ) (at i end : ℕ) where
  pub pieces_more : i < end
      → pieces_from m below sofar rows at i end (end - i)
      ≡ piece_in m below sofar rows at i end ++ pieces_from m below (moved_in sofar rows i) rows at (i + 1) end (end - (i + 1))
  unfolding pieces_from
  pieces_more h = let e : end - i ≡ suc (end - suc i) = omega arith in rw (e, add-one)

  pub pieces_over : end ≤ i → pieces_from m below sofar rows at i end (end - i) ≡ []
  unfolding pieces_from
  pieces_over h = let e : end - i ≡ 0 = omega arith in rw e

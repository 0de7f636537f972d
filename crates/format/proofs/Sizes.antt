-- How long rows, steps and numbers are.
use mathlib.Core.Path.{◌≡◌, refl, ap, ◌∙◌}
use Prim.Native.Nat.{ℕ, zero, suc, ◌+◌, ◌-◌, ◌*◌, ◌/◌, ◌^◌, ◌≤◌, ◌<◌}
use native.Mathlib.Omega.{arith}
use native.Mathlib.Nat.{div-le_self}
use mathlib.Core.Bool.{Bool, true, false}
use mathlib.Core.List.{List, [], ◌∷◌, ◌++◌}
use lib.ListN.{length, length-append}
use lib.Dec.{leb, eqb}
use lib.IntN.{ℤ, pos, negsuc}
use lib.Pow.{pow_mono, pow-add}
use lib.Count.{count_leading_zeros, leading_top}
use Rattle.format.specs.Prelude.{pick}
use Rattle.format.specs.Leb.{uleb_f, uleb}
use Rattle.format.specs.declared.Row.{Row}
use Rattle.format.specs.declared.Row.TheVariants.{DefCfa, DefCfaOffset, DefCfaRegister, Offset, Restore, Undefined, RememberState, RestoreState, NegateRaState, SameValue, InRegister}
use Rattle.format.specs.Rows.{RowAt, factor, cfa_bytes, with_register, saved_bytes, row_bytes, step_in, step_form, step_bytes, stepped_bytes, rows_bytes, kind_of, reg_of, offset_of}
use Rattle.format.proofs.Choice.{if-le, if-gt, either}
use Rattle.format.proofs.LebBack.{little-length, uleb_short, sleb_short_pos, sleb_short_neg}
use Rattle.format.proofs.RowBack.{Off32, RowFits, Small, other_of, factor_small}
use Rattle.format.proofs.WalkBack.{RowsAtOk, RowsOk}

-- ---- rows and steps

pick_short : (b : Bool) (xs ys : List ℕ) (n : ℕ) → length xs ≤ n → length ys ≤ n → length (pick b xs ys) ≤ n
unfolding pick
pick_short true xs ys n h k = h
pick_short false xs ys n h k = k

-- a register of 16 bits
reg_short : (reg : ℕ) → reg < 65536 → length (uleb reg) ≤ 3
reg_short reg h = uleb_short 2 reg (omega arith)

cfa_short : (w plain sf : ℕ) (reg : List ℕ) (z : ℤ) → Off32 z → length (cfa_bytes w plain sf reg z) ≤ 6 + length reg
unfolding cfa_bytes factor
cfa_short w plain sf reg (pos n) h = simp length-append (omega (arith, uleb_short 4 n (omega arith)))
cfa_short w plain sf reg (negsuc n) h =
    simp length-append (omega (arith, sleb_short_pos 4 (suc n / w) (omega (arith, div-le_self (suc n) w))))

with_short : (short long reg : ℕ) (bs : List ℕ) → reg < 65536 → length (with_register short long reg bs) ≤ 4 + length bs
unfolding with_register
with_short short long reg bs h =
    pick_short (leb reg 63) ((short + reg) ∷ bs) (long ∷ (uleb reg ++ bs)) (4 + length bs) (omega arith)
    (simp length-append (omega (arith, reg_short reg h)))

saved_short : (reg : ℕ) (z : ℤ) → reg < 65536 → Small z → length (saved_bytes reg z) ≤ 9
unfolding saved_bytes
saved_short reg (pos n) h k = omega (arith, with_short 0x80 0x05 reg (uleb n) h, uleb_short 4 n (omega arith))
saved_short reg (negsuc n) h k = simp length-append (omega (arith, reg_short reg h, sleb_short_neg 4 n (omega arith)))

pub row_short : (w : ℕ) (r : Row) → RowFits w r → length (row_bytes w r) ≤ 9
unfolding row_bytes pick kind_of reg_of offset_of other_of
row_short w (DefCfa reg z) h = omega (arith, cfa_short w 0x0c 0x12 (uleb reg) z h.off, reg_short reg h.reg)
row_short w (DefCfaOffset z) h = omega (arith, cfa_short w 0x0e 0x13 [] z h.off)
row_short w (DefCfaRegister reg) h = omega (arith, reg_short reg h.reg)
row_short w (Offset reg z) h = saved_short reg (factor w z) h.reg (factor_small w z h.off)
row_short w (Restore reg) h = omega (arith, with_short 0xc0 0x06 reg [] h.reg)
row_short w (Undefined reg) h = omega (arith, reg_short reg h.reg)
row_short w RememberState h = omega arith
row_short w RestoreState h = omega arith
row_short w NegateRaState h = omega arith
row_short w (SameValue reg) h = omega (arith, reg_short reg h.reg)
row_short w (InRegister reg other) h = simp length-append (omega (arith, reg_short reg h.reg, reg_short other h.other))

step_in_short : (form n : ℕ) → length (step_in form n) ≤ 5
unfolding step_in
step_in_short zero n = omega arith
step_in_short (suc zero) n = omega (arith, little-length 1 n)
step_in_short (suc (suc zero)) n = omega (arith, little-length 2 n)
step_in_short (suc (suc (suc k))) n = omega (arith, little-length 4 n)

pub step_short : (n : ℕ) → length (step_bytes n) ≤ 5
unfolding step_bytes
step_short n = pick_short (eqb n 0) [] (step_in (step_form n) n) 5 (omega arith) (step_in_short (step_form n) n)

pub rows_at_short : (w at : ℕ) (xs : List RowAt) → RowsAtOk w at xs → length (stepped_bytes w at xs) ≤ 14 * length xs
unfolding stepped_bytes
rows_at_short w at [] ok = omega arith
rows_at_short w at (x ∷ xs) ok =
    simp length-append (omega (arith, step_short (x.0 - at), row_short w x.1 ok.2, rows_at_short w x.0 xs ok.3))

pub rows_short : (w : ℕ) (rs : List Row) → RowsOk w rs → length (rows_bytes w rs) ≤ 9 * length rs
unfolding rows_bytes
rows_short w [] ok = omega arith
rows_short w (r ∷ rs) ok = simp length-append (omega (arith, row_short w r ok.0, rows_short w rs ok.1))

-- ---- unsigned numbers

-- a number of one group has its highest bit below bit 7, and another has it there or above
top_last : (n j : ℕ) → n < 128 → 2 ^ j ≤ n → j < 7
top_last n j h lo = either 7 j (λ g. absurd (omega (arith, pow_mono {i = 7} {j = j} g))) λ l. l

top_more : (n j : ℕ) → 128 ≤ n → n < 2 ^ suc j → 7 ≤ j
top_more n j h hi = either 7 j (λ g. g) λ l. absurd (omega (arith, pow_mono {i = suc j} {j = 7} (omega arith)))

-- the highest bit is bit j
uleb_top_f : (f n j : ℕ) → n < 128 ^ suc f → 2 ^ j ≤ n → n < 2 ^ suc j → length (uleb_f f n) ≡ j / 7 + 1
unfolding uleb_f
uleb_top_f zero n j h lo hi = omega (arith, top_last n j (omega arith) lo)
uleb_top_f (suc f) n j h lo hi =
    either (suc n) 128 (λ l. rw (if-le (suc n) 128) (omega (arith, top_last n j l lo)))
    (λ g.
    rw (if-gt (suc n) 128)
    (let m : 7 ≤ j = top_more n j (omega arith) hi in
    let k : ℕ = j - 7 in
    let a : 2 ^ j ≡ 2 ^ k * 128 = ap (λ (i : ℕ). 2 ^ i) (omega arith) ∙ pow-add 2 k 7 in
    let b : 2 ^ suc j ≡ 2 ^ suc k * 128 = ap (λ (i : ℕ). 2 ^ i) (omega arith) ∙ pow-add 2 (suc k) 7 in
    omega (arith, uleb_top_f f (n / 128) k (omega arith) (omega arith) (omega arith))))

pub uleb_size : (n : ℕ) → 0 < n → n < 2 ^ 64 → length (uleb n) ≡ (70 - count_leading_zeros 64 n) / 7
unfolding uleb
uleb_size n h₀ h =
    let t = leading_top 64 n h₀ h in
    omega (arith, uleb_top_f 9 n t.0 (omega arith) t.2 t.3, t.1)

pub uleb_size_0 : length (uleb 0) ≡ 1
unfolding uleb uleb_f pick
uleb_size_0 = refl

-- Every row and every step, there and back.
use mathlib.Core.Path.{◌≡◌, refl, ap, ◌∙◌}
use Prim.Native.Nat.{ℕ, zero, suc, ◌+◌, ◌*◌, ◌/◌, ◌%◌, ◌^◌, ◌≤◌, ◌<◌}
use native.Mathlib.Omega.{arith}
use native.Mathlib.Nat.{div-add-mod', zero-mul, div-le_self}
use mathlib.Core.Logic.{◌≢◌}
use mathlib.Core.Option.{some}
use mathlib.Core.List.{List, [], ◌∷◌, ◌++◌, append_assoc}
use lib.Dec.{T, eqb, ltb→lt, lt→ltb, eqb→eq}
use lib.IntN.{ℤ, pos, negsuc, neg_ℤ, nat_abs}
use Rattle.format.specs.Prelude.{pick, next}
use Rattle.format.specs.Constants.{in_register_kind}
use Rattle.format.specs.Leb.{uleb, sleb, fits64}
use Rattle.format.specs.declared.Row.{Row}
use Rattle.format.specs.declared.Row.TheVariants.{DefCfa, DefCfaOffset, DefCfaRegister, Offset, Restore, Undefined, RememberState, RestoreState, NegateRaState, SameValue, InRegister}
use Rattle.format.specs.declared.Operation.TheVariants.{Step, Does}
use Rattle.format.specs.Rows.{factor, cfa_bytes, with_register, saved_bytes, row_bytes, step_in, step_form, step_bytes, unfactor, read_register, in_range, read_offset, read_factored, read_signed, one, two, read_extended, read_operation, whole, whole_below, row_whole, kind_of, reg_of, offset_of}
use Rattle.format.proofs.Choice.{pick_yes, if-le, if-gt, if-ne, either}
use Rattle.format.proofs.LebBack.{little_back, uleb_back, sleb_back}

-- ---- which rows are written

abbrev pub Off32 : ℤ → Type 0
Off32 (pos n) = n < 2 ^ 31
Off32 (negsuc n) = n < 2 ^ 31

-- the register that holds the value of an InRegister (or 0)
unfoldable pub other_of : Row → ℕ
other_of r = pick (eqb (kind_of r) in_register_kind) (nat_abs (offset_of r)) 0

-- the registers in 16 bits, the offset in 32, and a multiple of the word where it is factored
pub record RowFits (w : ℕ) (r : Row) : Type 0 where
  pub reg : reg_of r < 65536
  pub off : Off32 (offset_of r)
  pub other : other_of r < 65536
  pub whole : T (row_whole w r)

-- ---- factoring

neg_back : (w n : ℕ) → unfactor w (neg_ℤ (pos n)) ≡ pos (n * w)
unfolding unfactor
neg_back w zero = rw zero-mul
neg_back w (suc n) = refl

exact : (w n : ℕ) → n % w ≡ 0 → n / w * w ≡ n
exact w n e = omega (arith, div-add-mod' n w)

factor_back : (w : ℕ) (z : ℤ) → T (whole w z) → unfactor w (factor w z) ≡ z
unfolding factor unfactor whole
factor_back w (pos n) t = neg_back w (n / w) ∙ ap pos (exact w n (eqb→eq (n % w) 0 t))
factor_back w (negsuc n) t = rw (exact w (suc n) (eqb→eq (suc n % w) 0 t))

-- ---- the parts of an operation

pub register_back : (reg : ℕ) (rest : List ℕ) → reg < 65536 → read_register (uleb reg ++ rest) ≡ some (reg, rest)
unfolding read_register next
register_back reg rest h = rw (uleb_back reg rest (omega arith)) (let k : reg ≤ 0xffff = omega arith in rw if-le)

offset_back : (n : ℕ) (rest : List ℕ) → n < 2 ^ 63 → read_offset (uleb n ++ rest) ≡ some (pos n, rest)
unfolding read_offset in_range next fits64
offset_back n rest h = rw (uleb_back n rest (omega arith)) (rw if-le)

factored_back : (w n : ℕ) (rest : List ℕ) → n < 2 ^ 64 → T (fits64 (unfactor w (pos n)))
    → read_factored w (uleb n ++ rest) ≡ some (unfactor w (pos n), rest)
unfolding read_factored in_range next
factored_back w n rest h t = rw (uleb_back n rest h) (rw pick_yes)

signed_back : (w : ℕ) (z : ℤ) (rest : List ℕ) → T (fits64 z) → T (fits64 (unfactor w z))
    → read_signed w (sleb z ++ rest) ≡ some (unfactor w z, rest)
unfolding read_signed in_range next
signed_back w z rest h t = rw (sleb_back z rest h) (rw pick_yes)

-- ---- the ranges

-- the range of a factored offset, wider than Off32: minus 2^31 at word 1 becomes 2^31
abbrev pub Small : ℤ → Type 0
Small (pos n) = n < 2 ^ 32
Small (negsuc n) = n < 2 ^ 32

neg_small : (n : ℕ) → n < 2 ^ 32 → Small (neg_ℤ (pos n))
neg_small zero h = omega arith
neg_small (suc n) h = omega arith

pub factor_small : (w : ℕ) (z : ℤ) → Off32 z → Small (factor w z)
unfolding factor
factor_small w (pos n) h = neg_small (n / w) (omega (arith, div-le_self n w))
factor_small w (negsuc n) h = omega (arith, div-le_self (suc n) w)

small_fits : (z : ℤ) → Small z → T (fits64 z)
unfolding fits64
small_fits (pos n) h = lt→ltb n (2 ^ 63) (omega arith)
small_fits (negsuc n) h = lt→ltb n (2 ^ 63) (omega arith)

off_small : (z : ℤ) → Off32 z → Small z
off_small (pos n) h = omega arith
off_small (negsuc n) h = omega arith

pub factor_fits : (w : ℕ) (z : ℤ) → Off32 z → T (fits64 (factor w z))
factor_fits w z h = small_fits (factor w z) (factor_small w z h)

-- what is read of a factored offset
unfactor_fits : (w : ℕ) (z : ℤ) → Off32 z → T (whole w z) → T (fits64 (unfactor w (factor w z)))
unfactor_fits w z h t = rw (factor_back w z t) (small_fits z (off_small z h))

-- ---- the operations

-- the three kinds of opcode that hold a number
module _ (w n : ℕ) (bs : List ℕ) (h : n ≤ 63) where
  op_step : read_operation w ((0x40 + n) ∷ bs) ≡ some (Step n, bs)
  unfolding read_operation
  op_step =
      let a : 0x40 < suc (0x40 + n) = omega arith in
      let b : suc (0x40 + n) ≤ 0x80 = omega arith in
      rw (if-gt (suc (0x40 + n)) 0x40, if-le (suc (0x40 + n)) 0x80) (ap (λ (v : ℕ). some (Step v, bs)) (omega arith))

  op_saved : read_operation w ((0x80 + n) ∷ bs) ≡ one (read_factored w bs) λ z. Does (Offset n z)
  unfolding read_operation
  op_saved =
      let a : 0x40 < suc (0x80 + n) = omega arith in
      let b : 0x80 < suc (0x80 + n) = omega arith in
      let c : suc (0x80 + n) ≤ 0xc0 = omega arith in
      rw (if-gt (suc (0x80 + n)) 0x40, if-gt (suc (0x80 + n)) 0x80, if-le) (ap (λ (v : ℕ). one (read_factored w bs) λ z. Does (Offset v z)) (omega arith))

  op_restore : read_operation w ((0xc0 + n) ∷ bs) ≡ some (Does (Restore n), bs)
  unfolding read_operation
  op_restore =
      let a : 0x40 < suc (0xc0 + n) = omega arith in
      let b : 0x80 < suc (0xc0 + n) = omega arith in
      let c : 0xc0 < suc (0xc0 + n) = omega arith in
      rw (if-gt (suc (0xc0 + n)) 0x40, if-gt (suc (0xc0 + n)) 0x80, if-gt) (ap (λ (v : ℕ). some (Does (Restore v), bs)) (omega arith))

saved_back : (w reg : ℕ) (f : ℤ) (rest : List ℕ) → reg < 65536 → T (fits64 f) → T (fits64 (unfactor w f))
    → read_operation w (saved_bytes reg f ++ rest) ≡ some (Does (Offset reg (unfactor w f)), rest)
unfolding read_operation read_extended one two saved_bytes with_register next fits64 pick
saved_back w reg (pos n) rest hr hf hu =
    let k : n < 2 ^ 64 = omega (arith, ltb→lt n (2 ^ 63) hf) in
    either reg 63
    (λ l. rw (if-le reg 63) (rw (op_saved w reg _ l, factored_back w n rest k hu)))
    (λ g. rw (if-gt reg 63, append_assoc, register_back reg _ hr, factored_back w n rest k hu))
saved_back w reg (negsuc n) rest hr hf hu = rw (append_assoc, register_back reg _ hr, signed_back w (negsuc n) rest hf hu)

cfa_back : (w reg : ℕ) (z : ℤ) (rest : List ℕ) → reg < 65536 → Off32 z → T (whole_below w z)
    → read_operation w (cfa_bytes w 0x0c 0x12 (uleb reg) z ++ rest) ≡ some (Does (DefCfa reg z), rest)
unfolding read_operation read_extended one two cfa_bytes whole_below next pick
cfa_back w reg (pos n) rest hr h t = rw (append_assoc, register_back reg _ hr, offset_back n rest (omega arith))
cfa_back w reg (negsuc n) rest hr h t =
    rw (
      append_assoc,
      register_back reg _ hr,
      signed_back w (factor w (negsuc n)) rest (factor_fits w (negsuc n) h) (unfactor_fits w (negsuc n) h t),
      factor_back w (negsuc n) t,
    )

cfa_offset_back : (w : ℕ) (z : ℤ) (rest : List ℕ) → Off32 z → T (whole_below w z)
    → read_operation w (cfa_bytes w 0x0e 0x13 [] z ++ rest) ≡ some (Does (DefCfaOffset z), rest)
unfolding read_operation read_extended one two cfa_bytes whole_below next pick
cfa_offset_back w (pos n) rest h t = rw (offset_back n rest (omega arith))
cfa_offset_back w (negsuc n) rest h t =
    rw (signed_back w (factor w (negsuc n)) rest (factor_fits w (negsuc n) h) (unfactor_fits w (negsuc n) h t), factor_back w (negsuc n) t)

restore_back : (w reg : ℕ) (rest : List ℕ) → reg < 65536 → read_operation w (with_register 0xc0 0x06 reg [] ++ rest) ≡ some (Does (Restore reg), rest)
unfolding read_operation read_extended one with_register next pick
restore_back w reg rest hr =
    either reg 63 (λ l. rw (if-le reg 63, op_restore w reg rest l)) (λ g. rw (if-gt reg 63, append_assoc, register_back reg _ hr))

pub row_back : (w : ℕ) (r : Row) (rest : List ℕ) → RowFits w r → read_operation w (row_bytes w r ++ rest) ≡ some (Does r, rest)
unfolding row_bytes read_operation read_extended one two next pick kind_of reg_of offset_of other_of row_whole
row_back w (DefCfa reg z) rest h = cfa_back w reg z rest h.reg h.off h.whole
row_back w (DefCfaOffset z) rest h = cfa_offset_back w z rest h.off h.whole
row_back w (DefCfaRegister reg) rest h = rw (register_back reg rest h.reg)
row_back w (Offset reg z) rest h =
    saved_back w reg (factor w z) rest h.reg (factor_fits w z h.off) (unfactor_fits w z h.off h.whole)
    ∙ ap (λ (y : ℤ). some (Does (Offset reg y), rest)) (factor_back w z h.whole)
row_back w (Restore reg) rest h = restore_back w reg rest h.reg
row_back w (Undefined reg) rest h = rw (register_back reg rest h.reg)
row_back w RememberState rest h = refl
row_back w RestoreState rest h = refl
row_back w NegateRaState rest h = refl
row_back w (SameValue reg) rest h = rw (register_back reg rest h.reg)
row_back w (InRegister reg other) rest h = rw (append_assoc, register_back reg _ h.reg, register_back other rest h.other)

-- ---- steps

-- the numbers that a form of a step holds
abbrev pub Holds : ℕ → ℕ → Type 0
Holds zero n = n ≤ 0x3f
Holds (suc zero) n = n < 256
Holds (suc (suc zero)) n = n < 65536
Holds (suc (suc (suc k))) n = n < 2 ^ 32

-- in every form that holds it, also 0
pub step_back : (w form n : ℕ) (rest : List ℕ) → Holds form n → read_operation w (step_in form n ++ rest) ≡ some (Step n, rest)
unfolding step_in read_operation read_extended one next pick
step_back w zero n rest h = op_step w n rest h
step_back w (suc zero) n rest h = rw (little_back 1 n rest (omega arith))
step_back w (suc (suc zero)) n rest h = rw (little_back 2 n rest (omega arith))
step_back w (suc (suc (suc k))) n rest h = rw (little_back 4 n rest (omega arith))

pub shortest_holds : (n : ℕ) → n < 2 ^ 32 → Holds (step_form n) n
unfolding step_form
shortest_holds n h =
    either n 0x3f (λ l. rw (if-le n 0x3f) l)
    λ g. rw (if-gt n 0x3f)
    (either n 0xff (λ l. rw (if-le n 0xff) (omega arith))
    λ g'. rw (if-gt n 0xff) (either n 0xffff (λ l. rw (if-le n 0xffff) (omega arith)) λ g''. rw (if-gt n 0xffff) h))

pub steps_back : (w n : ℕ) (rest : List ℕ) → 0 < n → n < 2 ^ 32 → read_operation w (step_bytes n ++ rest) ≡ some (Step n, rest)
unfolding step_bytes
steps_back w n rest h₀ h = let k : n ≢ 0 = omega arith in rw (if-ne n 0) (step_back w (step_form n) n rest (shortest_holds n h))

pub step_none : step_bytes 0 ≡ []
unfolding step_bytes pick
step_none = refl

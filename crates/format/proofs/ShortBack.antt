-- The writers spell every number shortest: rows, steps in every form, headers and records.
use mathlib.Core.Path.{◌≡◌, refl, ap, ◌∙◌}
use Prim.Native.Nat.{ℕ, zero, suc, ◌+◌, ◌-◌, ◌^◌, ◌≤◌, ◌<◌}
use native.Mathlib.Omega.{arith}
use mathlib.Core.Bool.{Bool, true, false}
use mathlib.Core.Logic.{◌≢◌}
use mathlib.Core.Option.{some}
use mathlib.Core.List.{List, [], ◌∷◌, ◌++◌, append_assoc}
use lib.ListN.{length, replicate, length-append, length-replicate}
use lib.Dec.{T, ltb→lt}
use lib.IntN.{ℤ, pos, negsuc}
use borrow.Author.Tests.{eq-eqb}
use Rattle.format.specs.Prelude.{pick, next}
use Rattle.format.specs.Leb.{little, uleb, sleb, fits64}
use Rattle.format.specs.declared.Machine.{Machine}
use Rattle.format.specs.declared.Row.{Row}
use Rattle.format.specs.declared.Row.TheVariants.{DefCfa, DefCfaOffset, DefCfaRegister, Offset, Restore, Undefined, RememberState, RestoreState, NegateRaState, SameValue, InRegister}
use Rattle.format.specs.declared.Operation.{Operation}
use Rattle.format.specs.declared.Operation.TheVariants.{Nop, Step, Does}
use Rattle.format.specs.Rows.{RowAt, factor, cfa_bytes, with_register, saved_bytes, row_bytes, step_in, step_bytes, step_form, stepped_bytes, rows_bytes, read_operation, read_extended, kind_of, reg_of, offset_of}
use Rattle.format.specs.Lists.{Function}
use Rattle.format.specs.Headers.{Kind, Key, counted, augmentation_data, header_data, data_factor, header_fields}
use Rattle.format.specs.Records.{lsda_blank, record_fields}
use Rattle.format.specs.Reader.{header_numbers, mark_after, header_short, record_short}
use Rattle.format.specs.Shortest.{Number, unsigned, signed, shortest, read_mark, marked, numbers_short, extended_operands, operands_of, operation_short, behind, while_read, run_short_f, run_short}
use Rattle.format.proofs.Choice.{if-le, if-gt, if-ne, either}
use Rattle.format.proofs.LebBack.{uleb_back, sleb_back}
use Rattle.format.proofs.RowBack.{Off32, RowFits, other_of, factor_fits, row_back, shortest_holds, steps_back, step_none}
use Rattle.format.proofs.WalkBack.{Reads, RowsOk, RowsAtOk}
use Rattle.format.proofs.FieldsBack.{word_small}
use Rattle.format.proofs.HeaderBack.{HeaderOk, letters_back, data_short, factor_fits as factor-in}

-- ---- one number

pub unsigned_short : (n : ℕ) (rest : List ℕ) → n < 2 ^ 64 → read_mark unsigned (uleb n ++ rest) ≡ some (true, rest)
unfolding read_mark shortest next
unsigned_short n rest h =
    rw (uleb_back n rest h)
    (ap (λ (b : Bool). some (b, rest)) (eq-eqb (length (uleb n ++ rest) - length rest) (length (uleb n)) (omega (arith, length-append (uleb n) rest))))

pub signed_short : (z : ℤ) (rest : List ℕ) → T (fits64 z) → read_mark signed (sleb z ++ rest) ≡ some (true, rest)
unfolding read_mark shortest next
signed_short z rest h =
    rw (sleb_back z rest h)
    (ap (λ (b : Bool). some (b, rest)) (eq-eqb (length (sleb z ++ rest) - length rest) (length (sleb z)) (omega (arith, length-append (sleb z) rest))))

-- in front of other numbers
module _ (ns : List Number) (rest : List ℕ) where
  pub unsigned_then : (n : ℕ) → n < 2 ^ 64 → numbers_short (unsigned ∷ ns) (uleb n ++ rest) ≡ numbers_short ns rest
  unfolding numbers_short marked
  unsigned_then n h = rw (unsigned_short n rest h)

  pub signed_then : (z : ℤ) → T (fits64 z) → numbers_short (signed ∷ ns) (sleb z ++ rest) ≡ numbers_short ns rest
  unfolding numbers_short marked
  signed_then z h = rw (signed_short z rest h)

no_more : (rest : List ℕ) → numbers_short [] rest ≡ true
unfolding numbers_short
no_more rest = refl

-- ---- operations

module _ (n : ℕ) (h : n ≤ 63) where
  operands_step : operands_of (0x40 + n) ≡ []
  unfolding operands_of
  operands_step =
      let a : 0x40 < suc (0x40 + n) = omega arith in
      let b : suc (0x40 + n) ≤ 0x80 = omega arith in
      rw (if-gt (suc (0x40 + n)) 0x40, if-le (suc (0x40 + n)) 0x80)

  operands_saved : operands_of (0x80 + n) ≡ unsigned ∷ []
  unfolding operands_of
  operands_saved =
      let a : 0x40 < suc (0x80 + n) = omega arith in
      let b : 0x80 < suc (0x80 + n) = omega arith in
      let c : suc (0x80 + n) ≤ 0xc0 = omega arith in
      rw (if-gt (suc (0x80 + n)) 0x40, if-gt (suc (0x80 + n)) 0x80, if-le (suc (0x80 + n)) 0xc0)

  operands_restore : operands_of (0xc0 + n) ≡ []
  unfolding operands_of
  operands_restore =
      let a : 0x40 < suc (0xc0 + n) = omega arith in
      let b : 0x80 < suc (0xc0 + n) = omega arith in
      let c : 0xc0 < suc (0xc0 + n) = omega arith in
      rw (if-gt (suc (0xc0 + n)) 0x40, if-gt (suc (0xc0 + n)) 0x80, if-gt (suc (0xc0 + n)) 0xc0)

-- a register, and what stands behind it
reg_then : (ns : List Number) (reg : ℕ) (rest : List ℕ) → reg < 65536 → numbers_short (unsigned ∷ ns) (uleb reg ++ rest) ≡ numbers_short ns rest
reg_then ns reg rest h = unsigned_then ns rest reg (omega arith)

saved_short : (reg : ℕ) (f : ℤ) (rest : List ℕ) → reg < 65536 → T (fits64 f) → operation_short (saved_bytes reg f ++ rest) ≡ true
unfolding operation_short operands_of extended_operands saved_bytes with_register fits64 pick
saved_short reg (pos n) rest hr hf =
    let k : n < 2 ^ 64 = omega (arith, ltb→lt n (2 ^ 63) hf) in
    either reg 63
    (λ l. rw (if-le reg 63) (rw (operands_saved reg l) (unsigned_then [] rest n k ∙ no_more rest)))
    (λ g. rw (if-gt reg 63, append_assoc) (reg_then (unsigned ∷ []) reg (uleb n ++ rest) hr ∙ unsigned_then [] rest n k ∙ no_more rest))
saved_short reg (negsuc n) rest hr hf =
    rw append_assoc (reg_then (signed ∷ []) reg (sleb (negsuc n) ++ rest) hr ∙ signed_then [] rest (negsuc n) hf ∙ no_more rest)

cfa_short : (w reg : ℕ) (z : ℤ) (rest : List ℕ) → reg < 65536 → Off32 z → operation_short (cfa_bytes w 0x0c 0x12 (uleb reg) z ++ rest) ≡ true
unfolding operation_short operands_of extended_operands cfa_bytes pick
cfa_short w reg (pos n) rest hr h =
    rw append_assoc (reg_then (unsigned ∷ []) reg (uleb n ++ rest) hr ∙ unsigned_then [] rest n (omega arith) ∙ no_more rest)
cfa_short w reg (negsuc n) rest hr h =
    rw append_assoc
    (reg_then (signed ∷ []) reg (sleb (factor w (negsuc n)) ++ rest) hr ∙ signed_then [] rest (factor w (negsuc n)) (factor_fits w (negsuc n) h) ∙ no_more rest)

cfa_offset_short : (w : ℕ) (z : ℤ) (rest : List ℕ) → Off32 z → operation_short (cfa_bytes w 0x0e 0x13 [] z ++ rest) ≡ true
unfolding operation_short operands_of extended_operands cfa_bytes pick
cfa_offset_short w (pos n) rest h = unsigned_then [] rest n (omega arith) ∙ no_more rest
cfa_offset_short w (negsuc n) rest h = signed_then [] rest (factor w (negsuc n)) (factor_fits w (negsuc n) h) ∙ no_more rest

restore_short : (reg : ℕ) (rest : List ℕ) → reg < 65536 → operation_short (with_register 0xc0 0x06 reg [] ++ rest) ≡ true
unfolding operation_short operands_of extended_operands with_register pick
restore_short reg rest hr =
    either reg 63 (λ l. rw (if-le reg 63) (rw (operands_restore reg l) (no_more rest)))
    (λ g. rw (if-gt reg 63, append_assoc) (reg_then [] reg rest hr ∙ no_more rest))

pub row_short : (w : ℕ) (r : Row) (rest : List ℕ) → RowFits w r → operation_short (row_bytes w r ++ rest) ≡ true
unfolding row_bytes operation_short operands_of extended_operands pick kind_of reg_of offset_of other_of
row_short w (DefCfa reg z) rest h = cfa_short w reg z rest h.reg h.off
row_short w (DefCfaOffset z) rest h = cfa_offset_short w z rest h.off
row_short w (DefCfaRegister reg) rest h = reg_then [] reg rest h.reg ∙ no_more rest
row_short w (Offset reg z) rest h = saved_short reg (factor w z) rest h.reg (factor_fits w z h.off)
row_short w (Restore reg) rest h = restore_short reg rest h.reg
row_short w (Undefined reg) rest h = reg_then [] reg rest h.reg ∙ no_more rest
row_short w RememberState rest h = no_more rest
row_short w RestoreState rest h = no_more rest
row_short w NegateRaState rest h = no_more rest
row_short w (SameValue reg) rest h = reg_then [] reg rest h.reg ∙ no_more rest
row_short w (InRegister reg other) rest h =
    rw append_assoc (reg_then (unsigned ∷ []) reg (uleb other ++ rest) h.reg ∙ reg_then [] other rest h.other ∙ no_more rest)

-- a step has no LEB number, in any form
pub step_short : (form n : ℕ) (rest : List ℕ) → (form ≡ 0 → n ≤ 0x3f) → operation_short (step_in form n ++ rest) ≡ true
unfolding step_in operation_short operands_of extended_operands pick
step_short zero n rest h = rw (operands_step n (h refl)) (no_more rest)
step_short (suc zero) n rest h = no_more _
step_short (suc (suc zero)) n rest h = no_more _
step_short (suc (suc (suc k))) n rest h = no_more _

pub steps_short : (n : ℕ) (rest : List ℕ) → 0 < n → n < 2 ^ 32 → operation_short (step_bytes n ++ rest) ≡ true
unfolding step_bytes
steps_short n rest h₀ h =
    let k : n ≢ 0 = omega arith in
    rw (if-ne n 0) (step_short (step_form n) n rest λ e. rw e at (shortest_holds n h))

-- ---- runs

module _ (w p : ℕ) where
  -- whatever the place, and however far the run goes
  abbrev pub Short : List ℕ → Type 0
  Short ys = (f loc : ℕ) → run_short_f w p f loc ys ≡ true

  going : (op : Operation) (loc : ℕ) (more : ℕ → Bool) → ((l : ℕ) → more l ≡ true) → behind p op loc more ≡ true
  unfolding behind
  going Nop loc more h = h loc
  going (Step n) loc more h = either (loc + n) p (λ a. rw (if-le (loc + n) p) (h (loc + n))) (λ b. if-gt (loc + n) p _ true b)
  going (Does row) loc more h = h loc

  next_short : (f loc : ℕ) (bs : List ℕ) (op : Operation) (r : List ℕ) → read_operation w bs ≡ some (op, r) → operation_short bs ≡ true → Short r
      → run_short_f w p f loc bs ≡ true
  unfolding run_short_f while_read
  next_short zero loc bs op r e m h = refl
  next_short (suc f) loc [] op r e m h = refl
  next_short (suc f) loc (b ∷ bs) op r e m h = rw (e, m) (going op loc _ λ l. h f l)

  -- bytes that are read as an operation of shortest numbers, in front of ys
  one_short : (e ys : List ℕ) (op : Operation) → Reads w e op → operation_short (e ++ ys) ≡ true → Short ys → Short (e ++ ys)
  one_short e ys op read m h f loc = next_short f loc (e ++ ys) op ys (read ys) m h

  pub pad_short : (n : ℕ) → Short (replicate n 0)
  unfolding run_short_f while_read operation_short operands_of extended_operands read_operation read_extended numbers_short behind pick
  pad_short zero zero loc = refl
  pad_short zero (suc f) loc = refl
  pad_short (suc n) zero loc = refl
  pad_short (suc n) (suc f) loc = pad_short n f loc

  pub row_before : (r : Row) (ys : List ℕ) → RowFits w r → Short ys → Short (row_bytes w r ++ ys)
  row_before r ys ok h = one_short (row_bytes w r) ys (Does r) (λ rest. row_back w r rest ok) (row_short w r ys ok) h

  pub step_before : (n : ℕ) (ys : List ℕ) → n < 2 ^ 32 → Short ys → Short (step_bytes n ++ ys)
  step_before n ys h s =
      either 1 n (λ l. one_short (step_bytes n) ys (Step n) (λ rest. steps_back w n rest l h) (steps_short n ys l h) s)
      (λ g. let z : n ≡ 0 = omega arith in let none' : step_bytes n ≡ [] = ap step_bytes z ∙ step_none in rw none' s)

  rows_run : (rs : List Row) (n : ℕ) → RowsOk w rs → Short (rows_bytes w rs ++ replicate n 0)
  unfolding rows_bytes
  rows_run [] n ok = pad_short n
  rows_run (r ∷ rs) n ok = rw append_assoc (row_before r (rows_bytes w rs ++ replicate n 0) ok.0 (rows_run rs n ok.1))

  stepped_run : (xs : List RowAt) (n at : ℕ) → RowsAtOk w at xs → Short (stepped_bytes w at xs ++ replicate n 0)
  unfolding stepped_bytes
  stepped_run [] n at ok = pad_short n
  stepped_run (x ∷ xs) n at ok =
      let zs : List ℕ = stepped_bytes w x.0 xs ++ replicate n 0 in
      let whole : stepped_bytes w at (x ∷ xs) ++ replicate n 0 ≡ step_bytes (x.0 - at) ++ (row_bytes w x.1 ++ zs) = simp append_assoc in
      rw whole (step_before (x.0 - at) (row_bytes w x.1 ++ zs) ok.1 (row_before x.1 zs ok.2 (stepped_run xs n x.0 ok.3)))

-- the operations of a header and of a record, with zeros behind them, at every p
pub rows_shortest : (w p : ℕ) (rs : List Row) (n : ℕ) → RowsOk w rs → run_short w p (rows_bytes w rs ++ replicate n 0) ≡ true
unfolding run_short
rows_shortest w p rs n ok = rows_run w p rs n ok _ 0

pub stepped_shortest : (w p : ℕ) (xs : List RowAt) (n : ℕ) → RowsAtOk w 0 xs → run_short w p (stepped_bytes w 0 xs ++ replicate n 0) ≡ true
unfolding run_short
stepped_shortest w p xs n ok = stepped_run w p xs n 0 ok _ 0

-- ---- the fields of a header and of a record

counted_shortest : (xs ops : List ℕ) → length xs < 2 ^ 64 → numbers_short (unsigned ∷ []) (counted xs ++ ops) ≡ true
unfolding counted
counted_shortest xs ops h = rw append_assoc (unsigned_then [] (xs ++ ops) (length xs) h ∙ no_more (xs ++ ops))

data_shortest : (debug : Bool) (word : ℕ) (kind : Kind) (ops : List ℕ) → word ≤ 8
    → numbers_short (pick debug [] (unsigned ∷ [])) (header_data debug word kind ++ ops) ≡ true
unfolding header_data pick
data_shortest true word kind ops h = no_more ops
data_shortest false word kind ops h = counted_shortest (augmentation_data word kind) ops (omega (arith, data_short word kind h))

pub header_shortest : (debug : Bool) (m : Machine) (k : Key) (ops : List ℕ) → HeaderOk debug m k → header_short debug (header_fields debug m k ++ ops) ≡ true
unfolding header_short header_fields header_numbers mark_after little
header_shortest debug m k ops ok =
    let w : (0 < m.word) × (m.word ≤ 8) = word_small m.word ok.is_word in
    simp append_assoc
    (rw (letters_back debug k)
    (unsigned_then _ _ 1 (omega arith)
    ∙ signed_then _ _ (data_factor m.word) (factor-in m.word ok.is_word)
    ∙ unsigned_then _ _ m.ret (omega (arith, ok.ret_small))
    ∙ data_shortest debug m.word k.kind ops w.1))

pub record_shortest : (debug : Bool) (word distance : ℕ) (f : Function) (ops : List ℕ) → lsda_blank word f.landings f.named < 2 ^ 64
    → record_short debug (record_fields debug word distance f ++ ops) ≡ true
unfolding record_short record_fields little pick
record_shortest true word distance f ops h = no_more _
record_shortest false word distance f ops h =
    counted_shortest (replicate (lsda_blank word f.landings f.named) 0) ops (rw (length-replicate {A = ℕ} (lsda_blank word f.landings f.named) 0) h)

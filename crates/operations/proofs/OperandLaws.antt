-- What stands behind an opcode: from what a LEB number or a field is read as to what its operation is.
use mathlib.Core.Path.{◌≡◌, refl, sym, ap, ◌∙◌}
use mathlib.Core.Option.{none, some}
use mathlib.Core.Bool.{Bool, true, ◌&&◌, and-true}
use mathlib.Core.List.{List, [], ◌∷◌}
use Prim.Native.Nat.{ℕ, suc, ◌+◌, ◌-◌, ◌≤◌, ◌<◌}
use native.Mathlib.Omega.{arith}
use native.Mathlib.Numerals.{add-one}
use mathlib.Core.Logic.{◌≢◌}
use borrow.Author.Tests.{ne_eqb}
use lib.Dec.{leb, ltb, eqb, leb→le}
use lib.IntN.{ℤ, pos}
use lib.ListN.{length, drop, get_or, drop_of_length-le}
use lib.Seq.{drop-cons}
use Rattle.std.specs.Prelude.{Some, None}
use Rattle.format.specs.Prelude.{pick, Read, next}
use Rattle.format.specs.Leb.{uleb, fits64, read_uleb}
use Rattle.format.specs.Rows.{unfactor, read_register, in_range, read_offset, read_factored, read_signed, one, two, read_extended, read_operation}
use Rattle.format.specs.declared.Row.{Row}
use Rattle.format.specs.declared.Row.TheVariants.{DefCfaOffset, Offset, Restore, InRegister}
use Rattle.format.specs.declared.Operation.{Operation}
use Rattle.format.specs.declared.Operation.TheVariants.{Step, Does}
use Rattle.format.proofs.Choice.{pick_yes, pick_no, if-le, if-gt, tested}
use Rattle.format.specs.Shortest.{Number, unsigned, shortest, read_mark, numbers_short, operands_of, operation_short}
use Rattle.operations.specs.declared.fields.Position.{Position}
use Rattle.operations.specs.Positions.{past, read_from, uleb_at, sleb_at, little_at, operation_at}
use Rattle.operations.proofs.PositionLaws.{Past, Ahead, Takes, takes_pick, read_ahead, read_past, read_none, uleb_ahead, uleb_rest, uleb_past, uleb_none, sleb_ahead, sleb_rest, sleb_past, sleb_none, little_ahead, little_rest, little_past, little_none, mark_first, past_both, past_drop}
use Rattle.operations.proofs.OperationLaws.{takes_register, takes_offset, takes_factored, takes_signed}
use Rattle.operations.specs.Reads.{register_at, plain_at, factored_at, signed_at, held, read_operand, operand_at, pair_row, step_at, register_row_at, offset_row_at, pair_row_at, in_register_at, saved_at, extended_at, operand_number}

-- the position in front of what is left
in_front : (s : List ℕ) {p q : Position} {b : Bool} → Past p b q → q.at ≤ length s → past p b (length s - length (drop q.at s)) ≡ q
in_front s {p} {q} {b} e h = ap (past p b) (past_drop s q.at h) ∙ e.is

-- ---- operands

held_there : (s : List ℕ) {p : Position} {b : Bool} (z : ℤ) (q : Position) → Past p b q → q.at ≤ length s
    → read_from p b (length s) (in_range z (drop q.at s)) ≡ held z q
unfolding read_from in_range held
held_there s z q e h =
    tested (fits64 z)
    (λ t. rw (pick_yes {X = Read ℤ} (fits64 z) _ _ t) (ap (λ r. Some (z, r)) (in_front s e h) ∙ sym (pick_yes (fits64 z) (Some (z, q)) None t)))
    (λ t. rw (pick_no {X = Read ℤ} (fits64 z) _ _ t) (sym (pick_no (fits64 z) (Some (z, q)) None t)))

module _ (s : List ℕ) (p : Position) where
  module _ {v : ℕ} {q : Position} (e : uleb_at s p ≡ Some (v, q)) where
    pub register_held : v ≤ 0xffff → register_at s p ≡ Some (v, q)
    unfolding register_at read_register next read_from
    register_held h = rw (uleb_rest s p e, if-le v 0xffff) (ap (λ r. Some (v, r)) (in_front s (uleb_past s p e) (uleb_ahead s p e).1))

    pub register_over : 0xffff < v → register_at s p ≡ None
    unfolding register_at read_register next read_from
    register_over h = rw (uleb_rest s p e, if-gt v 0xffff)

    pub plain_held : plain_at s p ≡ held (pos v) q
    unfolding plain_at read_offset next
    plain_held = rw (uleb_rest s p e) (held_there s (pos v) q (uleb_past s p e) (uleb_ahead s p e).1)

    pub factored_held : (w : ℕ) → factored_at w s p ≡ held (unfactor w (pos v)) q
    unfolding factored_at read_factored next
    factored_held w = rw (uleb_rest s p e) (held_there s (unfactor w (pos v)) q (uleb_past s p e) (uleb_ahead s p e).1)

  pub signed_held : (w : ℕ) {v : ℤ} {q : Position} → sleb_at s p ≡ Some (v, q) → signed_at w s p ≡ held (unfactor w v) q
  unfolding signed_at read_signed next
  signed_held w {v} {q} e = rw (sleb_rest s p e) (held_there s (unfactor w v) q (sleb_past s p e) (sleb_ahead s p e).1)

  module _ (e : uleb_at s p ≡ None) where
    pub register_none : register_at s p ≡ None
    unfolding register_at read_register next read_from
    register_none = rw (uleb_none s p e)

    pub plain_none : plain_at s p ≡ None
    unfolding plain_at read_offset next read_from
    plain_none = rw (uleb_none s p e)

    pub factored_none : (w : ℕ) → factored_at w s p ≡ None
    unfolding factored_at read_factored next read_from
    factored_none w = rw (uleb_none s p e)

  pub signed_none : (w : ℕ) → sleb_at s p ≡ None → signed_at w s p ≡ None
  unfolding signed_at read_signed next read_from
  signed_none w e = rw (sleb_none s p e)

-- the offset behind an opcode
module _ (w b : ℕ) (s : List ℕ) (p : Position) where
  pub operand_factored : b ≡ 0x05 → factored_at w s p ≡ operand_at w b s p
  unfolding operand_at operand_number read_operand factored_at pick
  operand_factored e = rw e

  pub operand_first : b ≡ 0x0c → plain_at s p ≡ operand_at w b s p
  unfolding operand_at operand_number read_operand plain_at pick
  operand_first e = rw e

  pub operand_second : b ≡ 0x0e → plain_at s p ≡ operand_at w b s p
  unfolding operand_at operand_number read_operand plain_at pick
  operand_second e = rw e

  pub operand_signed : b ≢ 0x05 → b ≢ 0x0c → b ≢ 0x0e → signed_at w s p ≡ operand_at w b s p
  unfolding operand_at operand_number read_operand signed_at pick
  operand_signed e f g = rw (ne_eqb b 0x05 e, ne_eqb b 0x0c f, ne_eqb b 0x0e g)

takes_operand : (w b : ℕ) (bs : List ℕ) → Takes 1 10 bs (read_operand w b bs)
unfolding read_operand
takes_operand w b bs =
    takes_pick (eqb b 0x05) (takes_factored w bs) (takes_pick (eqb b 0x0c) (takes_offset bs) (takes_pick (eqb b 0x0e) (takes_offset bs) (takes_signed w bs)))

-- ---- operations

module _ (s : List ℕ) where
  -- of one operand
  one_some : {A : Type 0} {r : Read A} {v : A} {p : Position} {b : Bool} (q : Position) (f : A → Operation) → r ≡ some (v, drop q.at s) → Past p b q → q.at ≤ length s
      → read_from p b (length s) (one r f) ≡ Some (f v, q)
  unfolding one next read_from
  one_some {v = v} q f e i h = rw e (ap (λ r. Some (f v, r)) (in_front s i h))

  one_none : {A : Type 0} {r : Read A} (p : Position) (b : Bool) (f : A → Operation) → r ≡ none → read_from p b (length s) (one r f) ≡ None
  unfolding one next read_from
  one_none p b f e = rw e

  module _ (p : Position) (n : ℕ) where
    pub step_some : {v : ℕ} {q : Position} → 0 < n → little_at n s p ≡ Some (v, q) → step_at n s p ≡ Some (Step v, q)
    unfolding step_at
    step_some {q = q} h e = one_some q Step (little_rest s p h e) (little_past s p h e) (little_ahead s p h e).1

    pub step_none : little_at n s p ≡ None → step_at n s p ≡ None
    unfolding step_at
    step_none e = one_none p true Step (little_none s p n e)

-- a register that was read has 16 bits, and is the number that was read
small : (r : Read ℕ) {v : ℕ} {rest : List ℕ} → next {B = ℕ × List ℕ} r (λ v r. pick (leb v 0xffff) (some (v, r)) none) ≡ some (v, rest)
    → (v ≤ 0xffff) × (r ≡ some (v, rest))
unfolding next
small none e = let z : ◌≡◌ {A = ℕ} 0 1 = cc in absurd (omega arith)
small (some x) {v} {rest} e =
    tested (leb x.0 0xffff)
    (λ t.
    let same : some (x.0, x.1) ≡ some (v, rest) = sym (pick_yes {X = Read ℕ} (leb x.0 0xffff) (some (x.0, x.1)) none t) ∙ e in
    let first : x.0 ≡ v = cc in
    (omega (arith, leb→le x.0 0xffff t), same))
    (λ t. let z : ◌≡◌ {A = ℕ} 0 1 = cc (pick_no {X = Read ℕ} (leb x.0 0xffff) (some (x.0, x.1)) none t) in absurd (omega arith))

-- an unsigned number in front of others
first_mark : (ns : List Number) (bs : List ℕ) {rest : List ℕ} {v : ℕ} → read_uleb bs ≡ some (v, rest)
    → numbers_short (unsigned ∷ ns) bs ≡ (numbers_short (unsigned ∷ []) bs && numbers_short ns rest)
unfolding read_mark shortest next
first_mark ns bs {rest} {v} e = mark_first unsigned ns bs {m = eqb (length bs - length rest) (length (uleb v))} (rw e)

module _ (s : List ℕ) (p : Position) where
  module _ {v : ℕ} {q : Position} (e : register_at s p ≡ Some (v, q)) where
    register_ahead : Ahead 1 10 s p.at q.at (read_register (drop p.at s)) v
    unfolding register_at
    register_ahead = read_ahead (omega arith) s p _ (takes_register (drop p.at s)) e

    register_past : Past p (numbers_short (unsigned ∷ []) (drop p.at s)) q
    unfolding register_at
    register_past = read_past p _ (length s) (read_register (drop p.at s)) e

    register_is : (v ≤ 0xffff) × (read_uleb (drop p.at s) ≡ some (v, drop q.at s))
    unfolding read_register
    register_is = small _ register_ahead.rest

    -- and a number behind it
    behind_register : (n : Number) {r : Position} → Past q (numbers_short (n ∷ []) (drop q.at s)) r → Past p (numbers_short (unsigned ∷ n ∷ []) (drop p.at s)) r
    behind_register n i = past_both register_past i (first_mark (n ∷ []) (drop p.at s) register_is.1)

    pub register_row_some : (of : ℕ → Row) → register_row_at of s p ≡ Some (Does (of v), q)
    unfolding register_row_at
    register_row_some of = one_some s q (λ reg. Does (of reg)) register_ahead.rest register_past register_ahead.inside

    -- a register and an offset
    module _ (w b : ℕ) where
      pub pair_none : operand_at w b s q ≡ None → pair_row_at w b s p ≡ None
      unfolding pair_row_at two next operand_at
      pair_none g = rw register_ahead.rest (one_none s p _ (λ z. Does (pair_row b v z)) (read_none q _ (length s) (read_operand w b (drop q.at s)) g))

      pub pair_some : {z : ℤ} {r : Position} → operand_at w b s q ≡ Some (z, r) → pair_row_at w b s p ≡ Some (Does (pair_row b v z), r)
      unfolding pair_row_at two next operand_at
      pair_some {z} {r} g =
          let a = read_ahead (omega arith) s q _ (takes_operand w b (drop q.at s)) g in
          let i = read_past q _ (length s) (read_operand w b (drop q.at s)) g in
          rw register_ahead.rest (one_some s r (λ y. Does (pair_row b v y)) a.rest (behind_register (operand_number b) i) a.inside)

  register_gone : register_at s p ≡ None → read_register (drop p.at s) ≡ none
  unfolding register_at
  register_gone e = read_none p _ (length s) (read_register (drop p.at s)) e

  pub register_row_none : (of : ℕ → Row) → register_at s p ≡ None → register_row_at of s p ≡ None
  unfolding register_row_at
  register_row_none of e = one_none s p _ (λ reg. Does (of reg)) (register_gone e)

  pub pair_unnamed : (w b : ℕ) → register_at s p ≡ None → pair_row_at w b s p ≡ None
  unfolding pair_row_at two next read_from
  pair_unnamed w b e = rw (register_gone e)

  -- an offset
  module _ (w b : ℕ) where
    pub offset_row_some : {z : ℤ} {q : Position} → operand_at w b s p ≡ Some (z, q) → offset_row_at w b s p ≡ Some (Does (DefCfaOffset z), q)
    unfolding offset_row_at operand_at
    offset_row_some {q = q} e =
        let a = read_ahead (omega arith) s p _ (takes_operand w b (drop p.at s)) e in
        one_some s q (λ z. Does (DefCfaOffset z)) a.rest (read_past p _ (length s) (read_operand w b (drop p.at s)) e) a.inside

    pub offset_row_none : operand_at w b s p ≡ None → offset_row_at w b s p ≡ None
    unfolding offset_row_at operand_at
    offset_row_none e = one_none s p _ (λ z. Does (DefCfaOffset z)) (read_none p _ (length s) (read_operand w b (drop p.at s)) e)

  module _ (w reg : ℕ) where
    pub saved_some : {z : ℤ} {q : Position} → factored_at w s p ≡ Some (z, q) → saved_at w reg s p ≡ Some (Does (Offset reg z), q)
    unfolding saved_at factored_at
    saved_some {q = q} e =
        let a = read_ahead (omega arith) s p _ (takes_factored w (drop p.at s)) e in
        one_some s q (λ z. Does (Offset reg z)) a.rest (read_past p _ (length s) (read_factored w (drop p.at s)) e) a.inside

    pub saved_none : factored_at w s p ≡ None → saved_at w reg s p ≡ None
    unfolding saved_at factored_at
    saved_none e = one_none s p _ (λ z. Does (Offset reg z)) (read_none p _ (length s) (read_factored w (drop p.at s)) e)

-- two registers
module _ (s : List ℕ) (p : Position) where
  pub in_register_unnamed : register_at s p ≡ None → in_register_at s p ≡ None
  unfolding in_register_at two next read_from
  in_register_unnamed e = rw (register_gone s p e)

  module _ {v : ℕ} {q : Position} (e : register_at s p ≡ Some (v, q)) where
    pub in_register_none : register_at s q ≡ None → in_register_at s p ≡ None
    unfolding in_register_at two next
    in_register_none g = rw (register_ahead s p e).rest (one_none s p _ (λ o. Does (InRegister v o)) (register_gone s q g))

    pub in_register_some : {o : ℕ} {r : Position} → register_at s q ≡ Some (o, r) → in_register_at s p ≡ Some (Does (InRegister v o), r)
    unfolding in_register_at two next
    in_register_some {o} {r} g =
        rw (register_ahead s p e).rest (one_some s r (λ x. Does (InRegister v x)) (register_ahead s q g).rest (behind_register s p e unsigned (register_past s q g)) (register_ahead s q g).inside)

-- ---- by the opcode

-- the position as it is, past nothing
pub here : (s : List ℕ) (p : Position) (op : Operation) → p.at ≤ length s → read_from p true (length s) (some (op, drop p.at s)) ≡ Some (op, p)
unfolding read_from past
here s p op h = rw (past_drop s p.at h, and-true p.shortest)

pub past_end : (w : ℕ) (s : List ℕ) (p : Position) → length s ≤ p.at → operation_at w s p ≡ None
unfolding operation_at read_operation read_from
past_end w s p h = rw (drop_of_length-le s h)

-- the position past the opcode
abbrev behind : Position → Position
behind p = record { at = p.at + 1; shortest = p.shortest }

-- nothing of the position but its mark is passed on
mark_alone : (p : Position) (b : Bool) (n : ℕ) (r : Read Operation) → read_from p b n r ≡ read_from (behind p) b n r
unfolding read_from past
mark_alone p b n none = refl
mark_alone p b n (some x) = refl

module _ (w : ℕ) (s : List ℕ) (p : Position) (h : p.at < length s) where
  abbrev opcode : ℕ
  opcode = get_or s p.at 0

  opened : drop p.at s ≡ opcode ∷ drop (p.at + 1) s
  opened = rw add-one (drop-cons s p.at 0 h)

  pub op_extended : opcode < 0x40 → operation_at w s p ≡ extended_at w opcode s (behind p)
  unfolding operation_at read_operation extended_at operation_short operands_of
  op_extended a =
      rw (opened, if-le {X = Read Operation} (suc opcode) 0x40, if-le {X = List Number} (suc opcode) 0x40) (mark_alone p _ (length s) (read_extended w opcode (drop (p.at + 1) s)))

  pub op_step : 0x40 ≤ opcode → opcode < 0x80 → operation_at w s p ≡ Some (Step (opcode - 0x40), behind p)
  unfolding operation_at read_operation operation_short operands_of numbers_short
  op_step a b =
      let a' : 0x40 < suc opcode = omega arith in
      rw (opened, if-gt {X = Read Operation} (suc opcode) 0x40, if-le {X = Read Operation} (suc opcode) 0x80, if-gt {X = List Number} (suc opcode) 0x40, if-le {X = List Number} (suc opcode) 0x80)
      (mark_alone p true (length s) (some (Step (opcode - 0x40), drop (p.at + 1) s)) ∙ here s (behind p) (Step (opcode - 0x40)) (omega arith))

  module _ (a : 0x80 ≤ opcode) where
    high : operation_at w s p
        ≡ read_from p (numbers_short (pick (ltb opcode 0xc0) (unsigned ∷ []) []) (drop (p.at + 1) s)) (length s)
        (pick (ltb opcode 0xc0) (one (read_factored w (drop (p.at + 1) s)) λ z. Does (Offset (opcode - 0x80) z)) (some (Does (Restore (opcode - 0xc0)), drop (p.at + 1) s)))
    unfolding operation_at read_operation operation_short operands_of
    high =
        let a' : 0x40 < suc opcode = omega arith in
        let b' : 0x80 < suc opcode = omega arith in
        rw (opened, if-gt {X = Read Operation} (suc opcode) 0x40, if-gt {X = Read Operation} (suc opcode) 0x80, if-gt {X = List Number} (suc opcode) 0x40, if-gt {X = List Number} (suc opcode) 0x80)

    pub op_saved : opcode < 0xc0 → operation_at w s p ≡ saved_at w (opcode - 0x80) s (behind p)
    unfolding saved_at
    op_saved b =
        high ∙ rw (if-le {X = Read Operation} (suc opcode) 0xc0, if-le {X = List Number} (suc opcode) 0xc0)
        (mark_alone p _ (length s) (one (read_factored w (drop (p.at + 1) s)) λ z. Does (Offset (opcode - 0x80) z)))

    pub op_restore : 0xc0 ≤ opcode → operation_at w s p ≡ Some (Does (Restore (opcode - 0xc0)), behind p)
    unfolding numbers_short
    op_restore b =
        let b' : 0xc0 < suc opcode = omega arith in
        high ∙ rw (if-gt {X = Read Operation} (suc opcode) 0xc0, if-gt {X = List Number} (suc opcode) 0xc0)
        (mark_alone p true (length s) (some (Does (Restore (opcode - 0xc0)), drop (p.at + 1) s)) ∙ here s (behind p) (Does (Restore (opcode - 0xc0))) (omega arith))

-- Laws of operations at positions: how far the position past an operation is, and what is left there. So a walk ends.
use mathlib.Core.Path.{◌≡◌}
use Prim.Native.Nat.{ℕ, ◌-◌, ◌≤◌, ◌<◌}
use native.Mathlib.Omega.{arith}
use mathlib.Core.Option.{none, some}
use mathlib.Core.List.{List, [], ◌∷◌}
use lib.ListN.{length, drop}
use lib.Dec.{leb, ltb, eqb}
use lib.IntN.{ℤ, pos}
use Rattle.std.specs.Prelude.{Some, None}
use Rattle.format.specs.Prelude.{Read}
use Rattle.format.specs.Leb.{fits64}
use Rattle.format.specs.Shortest.{operation_short}
use Rattle.format.specs.declared.Row.{Row}
use Rattle.format.specs.declared.Row.TheVariants.{DefCfa, DefCfaOffset, DefCfaRegister, Offset, Restore, Undefined, RememberState, RestoreState, NegateRaState, SameValue, InRegister}
use Rattle.format.specs.declared.Operation.{Operation}
use Rattle.format.specs.declared.Operation.TheVariants.{Nop, Step, Does}
use Rattle.format.specs.Rows.{unfactor, read_register, in_range, read_offset, read_factored, read_signed, one, two, read_extended, read_operation}
use Rattle.operations.specs.declared.fields.Position.{Position}
use Rattle.operations.specs.Positions.{operation_at}
use Rattle.operations.proofs.PositionLaws.{Past, Takes, nothing, takes_pick, takes_byte, takes_next, takes_within, gives, takes_little, takes_uleb, takes_sleb, Ahead, read_ahead, read_past, read_none}

-- ---- operands

takes_one : {A : Type 0} {lo hi : ℕ} {bs : List ℕ} {r : Read A} (f : A → Operation) → Takes lo hi bs r → Takes lo hi bs (one r f)
unfolding one
takes_one f t = takes_within (omega arith) (omega arith) (takes_next t (λ v r. gives (f v) r))

pub takes_register : (bs : List ℕ) → Takes 1 10 bs (read_register bs)
unfolding read_register
takes_register bs = takes_next (takes_uleb bs) (λ v r. takes_pick (leb v 0xffff) (gives v r) nothing)

takes_range : (z : ℤ) (r : List ℕ) → Takes 0 0 r (in_range z r)
unfolding in_range
takes_range z r = takes_pick (fits64 z) (gives z r) nothing

pub takes_offset : (bs : List ℕ) → Takes 1 10 bs (read_offset bs)
unfolding read_offset
takes_offset bs = takes_next (takes_uleb bs) (λ v r. takes_range (pos v) r)

pub takes_factored : (w : ℕ) (bs : List ℕ) → Takes 1 10 bs (read_factored w bs)
unfolding read_factored
takes_factored w bs = takes_next (takes_uleb bs) (λ v r. takes_range (unfactor w (pos v)) r)

pub takes_signed : (w : ℕ) (bs : List ℕ) → Takes 1 10 bs (read_signed w bs)
unfolding read_signed
takes_signed w bs = takes_next (takes_sleb bs) (λ v r. takes_range (unfactor w v) r)

takes_two : {A : Type 0} (read : List ℕ → Read A) → ((r : List ℕ) → Takes 1 10 r (read r)) → (f : ℕ → A → Row) (bs : List ℕ) → Takes 2 20 bs (two read f bs)
unfolding two
takes_two read t f bs = takes_next (takes_register bs) (λ reg r. takes_one (λ v. Does (f reg v)) (t r))

-- ---- operations: at least one byte, at most 21

any : {lo hi : ℕ} {bs : List ℕ} {r : Read Operation} → hi ≤ 20 → Takes lo hi bs r → Takes 0 20 bs r
any h t = takes_within (omega arith) h t

takes_extended : (w b : ℕ) (bs : List ℕ) → Takes 0 20 bs (read_extended w b bs)
unfolding read_extended
takes_extended w b bs =
    takes_pick (eqb b 0x00) (any (omega arith) (gives Nop bs))
    (takes_pick (eqb b 0x02) (any (omega arith) (takes_one Step (takes_little 1 bs)))
    (takes_pick (eqb b 0x03) (any (omega arith) (takes_one Step (takes_little 2 bs)))
    (takes_pick (eqb b 0x04) (any (omega arith) (takes_one Step (takes_little 4 bs)))
    (takes_pick (eqb b 0x05) (any (omega arith) (takes_two (read_factored w) (takes_factored w) Offset bs))
    (takes_pick (eqb b 0x06) (any (omega arith) (takes_one (λ reg. Does (Restore reg)) (takes_register bs)))
    (takes_pick (eqb b 0x07) (any (omega arith) (takes_one (λ reg. Does (Undefined reg)) (takes_register bs)))
    (takes_pick (eqb b 0x08) (any (omega arith) (takes_one (λ reg. Does (SameValue reg)) (takes_register bs)))
    (takes_pick (eqb b 0x09) (any (omega arith) (takes_two read_register takes_register InRegister bs))
    (takes_pick (eqb b 0x0a) (any (omega arith) (gives (Does RememberState) bs))
    (takes_pick (eqb b 0x0b) (any (omega arith) (gives (Does RestoreState) bs))
    (takes_pick (eqb b 0x0c) (any (omega arith) (takes_two read_offset takes_offset DefCfa bs))
    (takes_pick (eqb b 0x0d) (any (omega arith) (takes_one (λ reg. Does (DefCfaRegister reg)) (takes_register bs)))
    (takes_pick (eqb b 0x0e) (any (omega arith) (takes_one (λ z. Does (DefCfaOffset z)) (takes_offset bs)))
    (takes_pick (eqb b 0x11) (any (omega arith) (takes_two (read_signed w) (takes_signed w) Offset bs))
    (takes_pick (eqb b 0x12) (any (omega arith) (takes_two (read_signed w) (takes_signed w) DefCfa bs))
    (takes_pick (eqb b 0x13) (any (omega arith) (takes_one (λ z. Does (DefCfaOffset z)) (takes_signed w bs)))
    (takes_pick (eqb b 0x2d) (any (omega arith) (gives (Does NegateRaState) bs)) nothing)))))))))))))))))

pub takes_operation : (w : ℕ) (bs : List ℕ) → Takes 1 21 bs (read_operation w bs)
unfolding read_operation
takes_operation w [] = nothing
takes_operation w (b ∷ bs) =
    takes_byte b
    (takes_pick (ltb b 0x40) (takes_extended w b bs)
    (takes_pick (ltb b 0x80) (any (omega arith) (gives (Step (b - 0x40)) bs))
    (takes_pick (ltb b 0xc0) (any (omega arith) (takes_one (λ z. Does (Offset (b - 0x80) z)) (takes_factored w bs)))
    (any (omega arith) (gives (Does (Restore (b - 0xc0))) bs)))))

-- ---- what the callers know

module _ (w : ℕ) (s : List ℕ) (p : Position) where
  module _ {op : Operation} {q : Position} (e : operation_at w s p ≡ Some (op, q)) where
    there : Ahead 1 21 s p.at q.at (read_operation w (drop p.at s)) op
    unfolding operation_at
    there = read_ahead (omega arith) s p _ (takes_operation w (drop p.at s)) e

    pub operation_ahead : (p.at < q.at) × (q.at ≤ length s)
    operation_ahead = (omega (arith, there.least), there.inside)

    pub operation_rest : read_operation w (drop p.at s) ≡ some (op, drop q.at s)
    operation_rest = there.rest

    pub operation_past : Past p (operation_short (drop p.at s)) q
    unfolding operation_at
    operation_past = read_past p _ (length s) (read_operation w (drop p.at s)) e

  pub operation_none : operation_at w s p ≡ None → read_operation w (drop p.at s) ≡ none
  unfolding operation_at
  operation_none e = read_none p _ (length s) (read_operation w (drop p.at s)) e

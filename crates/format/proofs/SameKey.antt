-- Two headers that are one have equal keys.
use mathlib.Core.Path.{◌≡◌, refl, ap}
use Prim.Native.Nat.{ℕ}
use mathlib.Core.Bool.{Bool, true, false, ◌&&◌, beq}
use mathlib.Core.Option.{Option, none, some}
use mathlib.Core.List.{List, [], ◌∷◌}
use lib.Dec.{T, eqb}
use lib.IntN.{ℤ, pos, negsuc, nat_abs}
use native.Mathlib.Omega.{arith}
use mir.Facts.{and_yes, eqb_yes}
use Rattle.format.specs.Prelude.{pick}
use Rattle.format.specs.Writer.{Seen, place_in}
use Rattle.format.proofs.Choice.{pick_yes, pick_no, tested}
use Rattle.format.proofs.Each.{Each}
use Rattle.format.specs.declared.Row.{Row}
use Rattle.format.specs.declared.Row.TheVariants.{DefCfa, DefCfaOffset, DefCfaRegister, Offset, Restore, Undefined, RememberState, RestoreState, NegateRaState, SameValue, InRegister}
use Rattle.format.specs.Rows.{same_offset, kind_of, reg_of, offset_of, same_row}
use Rattle.format.specs.Headers.{Kind, plain, personal, named, Key, same_encoding, same_kind, same_rows, same_key}

-- ---- rows

-- a row by its kind, register and second operand
unfoldable row_from : (kind reg : ℕ) → ℤ → Row
row_from kind reg z =
    pick (eqb kind 0) (DefCfa reg z)
    (pick (eqb kind 1) (DefCfaOffset z)
    (pick (eqb kind 2) (DefCfaRegister reg)
    (pick (eqb kind 3) (Offset reg z)
    (pick (eqb kind 4) (Restore reg)
    (pick (eqb kind 5) (Undefined reg)
    (pick (eqb kind 6) RememberState
    (pick (eqb kind 7) RestoreState
    (pick (eqb kind 8) NegateRaState
    (pick (eqb kind 9) (SameValue reg) (InRegister reg (nat_abs z)))))))))))

row_again : (r : Row) → row_from (kind_of r) (reg_of r) (offset_of r) ≡ r
unfolding row_from kind_of reg_of offset_of pick
row_again (DefCfa reg z) = refl
row_again (DefCfaOffset z) = refl
row_again (DefCfaRegister reg) = refl
row_again (Offset reg z) = refl
row_again (Restore reg) = refl
row_again (Undefined reg) = refl
row_again RememberState = refl
row_again RestoreState = refl
row_again NegateRaState = refl
row_again (SameValue reg) = refl
row_again (InRegister reg other) = refl

same_offset_lem : (a b : ℤ) → T (same_offset a b) → a ≡ b
unfolding same_offset
same_offset_lem (pos a) (pos b) t = ap pos (eqb_yes t)
same_offset_lem (pos a) (negsuc b) t = absurd t
same_offset_lem (negsuc a) (pos b) t = absurd t
same_offset_lem (negsuc a) (negsuc b) t = ap negsuc (eqb_yes t)

pub same_row_lem : (a b : Row) → T (same_row a b) → a ≡ b
unfolding same_row
same_row_lem a b t =
    let h = and_yes (eqb (kind_of a) (kind_of b) && eqb (reg_of a) (reg_of b)) (same_offset (offset_of a) (offset_of b)) t in
    let g = and_yes (eqb (kind_of a) (kind_of b)) (eqb (reg_of a) (reg_of b)) h.0 in
    let kind : kind_of a ≡ kind_of b = eqb_yes g.0 in
    let reg : reg_of a ≡ reg_of b = eqb_yes g.1 in
    let off : offset_of a ≡ offset_of b = same_offset_lem (offset_of a) (offset_of b) h.1 in
    cc (row_again a, row_again b)

pub same_rows_lem : (xs ys : List Row) → T (same_rows xs ys) → xs ≡ ys
unfolding same_rows
same_rows_lem [] [] t = refl
same_rows_lem [] (b ∷ ys) t = absurd t
same_rows_lem (a ∷ xs) [] t = absurd t
same_rows_lem (a ∷ xs) (b ∷ ys) t =
    let h = and_yes (same_row a b) (same_rows xs ys) t in
    cc (same_row_lem a b h.0, same_rows_lem xs ys h.1)

-- ---- kinds

same_encoding_lem : (a b : Option ℕ) → T (same_encoding a b) → a ≡ b
unfolding same_encoding
same_encoding_lem none none t = refl
same_encoding_lem none (some b) t = absurd t
same_encoding_lem (some a) none t = absurd t
same_encoding_lem (some a) (some b) t = ap some (eqb_yes t)

pub same_kind_lem : (a b : Kind) → T (same_kind a b) → a ≡ b
unfolding same_kind
same_kind_lem plain plain t = refl
same_kind_lem plain personal t = absurd t
same_kind_lem plain (named e s l) t = absurd t
same_kind_lem personal plain t = absurd t
same_kind_lem personal personal t = refl
same_kind_lem personal (named e s l) t = absurd t
same_kind_lem (named e s l) plain t = absurd t
same_kind_lem (named e s l) personal t = absurd t
same_kind_lem (named e s l) (named e' s' l') t =
    let h = and_yes (eqb e e' && eqb s s') (same_encoding l l') t in
    let g = and_yes (eqb e e') (eqb s s') h.0 in
    let e≡ : e ≡ e' = eqb_yes g.0 in
    let s≡ : s ≡ s' = eqb_yes g.1 in
    cc (same_encoding_lem l l' h.1)

-- ---- keys

same_mark : (a b : Bool) → T (beq a b) → a ≡ b
same_mark false false t = refl
same_mark false true t = absurd t
same_mark true false t = absurd t
same_mark true true t = refl

unfoldable key_from : Kind → Bool → List Row → Key
key_from kind signal rows = record { kind = kind; signal = signal; rows = rows }

key_again : (k : Key) → key_from k.kind k.signal k.rows ≡ k
unfolding key_from
key_again k = refl

pub same_key_lem : (a b : Key) → T (same_key a b) → a ≡ b
unfolding same_key
same_key_lem a b t =
    let h = and_yes (same_kind a.kind b.kind && beq a.signal b.signal) (same_rows a.rows b.rows) t in
    let g = and_yes (same_kind a.kind b.kind) (beq a.signal b.signal) h.0 in
    cc (
      key_again a,
      key_again b,
      same_kind_lem a.kind b.kind g.0,
      same_mark a.signal b.signal g.1,
      same_rows_lem a.rows b.rows h.1,
    )

-- what holds of each earlier key and place holds of a key at the place that is found for it
pub place_in_lem : (P : Key → ℕ → Type 0) (k : Key) (cie : ℕ) (seen : List Seen) → place_in k seen ≡ some cie → Each (λ n. P n.key n.place) seen → P k cie
unfolding place_in
place_in_lem P k cie [] e h = let z : ◌≡◌ {A = ℕ} 0 1 = cc in absurd (omega arith)
place_in_lem P k cie (n ∷ seen) e h =
    tested (same_key n.key k)
    (λ t.
    let here : some n.place ≡ some cie = rw pick_yes at e in
    let key : n.key ≡ k = same_key_lem n.key k t in
    let place : n.place ≡ cie = cc in
    rw (← key, ← place) h.0)
    (λ t. place_in_lem P k cie seen (rw pick_no at e) h.1)

-- What a row does to the rules stored.
use mathlib.Core.Path.{◌≡◌, refl, sym, ap, subst, ◌∙◌}
use Prim.Native.Nat.{ℕ, suc, ◌+◌, ◌-◌, ◌≤◌, ◌<◌}
use native.Mathlib.Omega.{arith}
use native.Mathlib.Numerals.{add-one}
use mathlib.Core.List.{List, ◌∷◌, reverse, reverse-append}
use lib.ListN.{length, get_or, set, take, length-take, length-reverse}
use lib.Seq.{take-suc, take-suc-set}
use lib.IntN.{ℤ}
use Rattle.std.specs.Prelude.{Ok, Err, Some, None}
use mathlib.Core.Bool.{true, false}
use lib.Dec.{T}
use Rattle.std.specs.Prelude as code
use Rattle.std.specs.Option.{is_some}
use Rattle.format.specs.declared.Operation.{Operation}
use Rattle.format.specs.declared.Operation.TheVariants.{Nop, Step, Does}
use Rattle.format.specs.declared.Row.{Row}
use Rattle.format.specs.declared.Rule.{Rule}
use Rattle.format.specs.declared.Rule.TheVariants.{Unstated}
use Rattle.format.specs.Prelude.{Result, good, bad, onward}
use Rattle.format.specs.declared.CfaRule.{CfaRule}
use Rattle.format.specs.declared.CfaRule.TheVariants.{Unset, Register}
use Rattle.format.specs.declared.Rules.{Rules}
use Rattle.format.proofs.Choice.{if-le, if-gt}
use Rattle.reader.specs.OneRegister.{Run, set_cfa, register_rule, change_offset, change_register, remember, recall, act, stepped, perform}
use Rattle.reader.specs.declared.state.State.{State}
use Rattle.reader.specs.States.{run_of}

-- a CFA rule that has no register, or no offset, to be kept; and one that has both
module _ (z : ℤ) (reg : ℕ) (s : Run) where
  pub no_change : (c : CfaRule) {n : ℕ} → register_rule c ≡ Err n → (change_offset z c s ≡ bad n) × (change_register reg c s ≡ bad n)
  unfolding register_rule change_offset change_register
  no_change Unset e = (cc, cc)
  no_change (Register r y) e = let f : ◌≡◌ {A = ℕ} 0 1 = cc in absurd (omega arith)

  pub change : (c : CfaRule) {r : ℕ} {x : ℤ} → register_rule c ≡ Ok (r, x)
      → (change_offset z c s ≡ good (set_cfa (Register r z) s)) × (change_register reg c s ≡ good (set_cfa (Register reg x) s))
  unfolding register_rule change_offset change_register
  change Unset e = let f : ◌≡◌ {A = ℕ} 0 1 = cc in absurd (omega arith)
  change (Register r' x') {r} {x} e =
      let p : ◌≡◌ {A = ℕ × ℤ} (r', x') (r, x) = cc in
      (ap (λ (u : ℕ × ℤ). good (set_cfa (Register u.0 z) s)) p, ap (λ (u : ℕ × ℤ). good (set_cfa (Register reg u.1) s)) p)

-- ---- rules stored, the last first

abbrev stored_of : List Rules → ℕ → List Rules
stored_of ks n = reverse (take n ks)

-- what stands in a place where nothing is stored
abbrev nothing : Rules
nothing = record { cfa = Unset; rule = Unstated; signing = false }

stored_length : (ks : List Rules) (n : ℕ) → n ≤ length ks → length (stored_of ks n) ≡ n
stored_length ks n h = simp (length-reverse, length-take) (omega arith)

stored_more : (ks : List Rules) (k : Rules) (n : ℕ) → n < length ks
    → stored_of (set ks n k) (suc n) ≡ k ∷ stored_of ks n
stored_more ks k n h = rw (take-suc-set ks n k h, reverse-append)

stored_last : (ks : List Rules) (n : ℕ) → n < length ks
    → stored_of ks (suc n) ≡ get_or ks n nothing ∷ stored_of ks n
stored_last ks n h = rw (take-suc ks n nothing h, reverse-append)

module _ (s : State) where
  stored_count : length (stored_of s.stored s.depth) ≡ s.depth
  stored_count = stored_length s.stored s.depth (omega (arith, s.deep, s.long))

  pub full : 16 ≤ s.depth → remember (run_of s) ≡ bad 68
  unfolding remember run_of
  full l = if-gt (suc (length (stored_of s.stored s.depth))) 16 _ _ (omega (arith, l, stored_count))

  pub empty : s.depth ≡ 0 → recall (run_of s).stored (run_of s) ≡ bad 67
  unfolding recall run_of
  empty e = rw e

  module _ (t : State) where
    pub remembered : s.depth < 16 → t.rules ≡ s.rules → t.depth ≡ s.depth + 1
        → t.stored ≡ set s.stored s.depth s.rules → remember (run_of s) ≡ good (run_of t)
    unfolding remember run_of
    remembered l r d m =
        rw (r, d, m, add-one s.depth, stored_more s.stored s.rules s.depth (omega (arith, s.long)))
        (if-le (suc (length (stored_of s.stored s.depth))) 16 _ _ (omega (arith, l, stored_count)))

    pub recalled : 0 < s.depth → t.rules ≡ get_or s.stored (s.depth - 1) nothing → t.depth ≡ s.depth - 1
        → t.stored ≡ s.stored → recall (run_of s).stored (run_of s) ≡ good (run_of t)
    unfolding recall run_of
    recalled l r d m =
        let e : s.depth ≡ suc (s.depth - 1) = omega arith in
        let f : stored_of s.stored s.depth
        ≡ get_or s.stored (s.depth - 1) nothing ∷ stored_of s.stored (s.depth - 1) =
        ap (stored_of s.stored) e ∙ stored_last s.stored (s.depth - 1) (omega (arith, s.deep, s.long)) in
        rw (f, r, d, m)

-- ---- an operation

-- a step or none, and the run after it
abbrev Handed : Type 0
Handed = code.Option ℕ × Run

same : {x y : Handed} → good x ≡ good y → x ≡ y
same e = cc

not_both : {n : ℕ} → ◌≡◌ {A = code.Option ℕ} None (Some n) → ⊥
not_both e = let z : ◌≡◌ {A = ℕ} 0 1 = cc in absurd (omega arith)

step_of : {m n : ℕ} → ◌≡◌ {A = code.Option ℕ} (Some m) (Some n) → m ≡ n
step_of e = cc

module _ (q : ℕ) (initial : code.Option Rule) (s : Run) where
  -- where none is handed on it is padding or a row
  pub data Done (op : Operation) (t : Run) : Type 0 where
    padded : op ≡ Nop → t ≡ s → Done op t
    acted : (row : Row) → op ≡ Does row → act q initial row s ≡ good t → Done op t

  -- where it is refused, a step in a header or a row
  pub data Refused (op : Operation) (m : ℕ) : Type 0 where
    header_step : (n : ℕ) → op ≡ Step n → initial ≡ None → m ≡ 66 → Refused op m
    row_refused : (row : Row) → op ≡ Does row → act q initial row s ≡ bad m → Refused op m

  -- a step is handed on where there is an initial rule
  pub no_initial : (n : ℕ) (o : code.Option Rule) → is_some o ≡ false → stepped n o s ≡ bad 66
  unfolding stepped
  no_initial n None e = refl
  no_initial n (Some r) e = absurd (subst T e tt)

  pub with_initial : (n : ℕ) (o : code.Option Rule) → is_some o ≡ true → stepped n o s ≡ good (Some n, s)
  unfolding stepped
  with_initial n None e = absurd (subst T (sym e) tt)
  with_initial n (Some r) e = refl

  no_step : (n : ℕ) (o : code.Option Rule) {t : Run} → stepped n o s ≡ good (None, t) → ⊥
  unfolding stepped
  no_step n None e = let z : ◌≡◌ {A = ℕ} 0 1 = cc in absurd (omega arith)
  no_step n (Some r) {t} e = not_both (ap (λ (u : Handed). u.0) (sym (same {x = (Some n, s)} {y = (None, t)} e)))

  acted_by : (a : Result Run) {t : Run} → onward {B = Handed} a (λ t. good (None, t)) ≡ good (None, t) → a ≡ good t
  unfolding onward
  acted_by (good r) {t} e = ap good (ap (λ (u : Handed). u.1) (same {x = (None, r)} {y = (None, t)} e))
  acted_by (bad n) e = let z : ◌≡◌ {A = ℕ} 0 1 = cc in absurd (omega arith)

  pub done : (op : Operation) {t : Run} → perform q initial op s ≡ good (None, t) → Done op t
  unfolding perform
  done Nop {t} e = padded refl (sym (ap (λ (u : Handed). u.1) (same {x = (None, s)} {y = (None, t)} e)))
  done (Step n) e = absurd (no_step n initial e)
  done (Does row) e = acted row refl (acted_by (act q initial row s) e)

  refused_step : (n : ℕ) (o : code.Option Rule) {m : ℕ} → stepped n o s ≡ bad m → (o ≡ None) × (m ≡ 66)
  unfolding stepped
  refused_step n None e = (refl, cc)
  refused_step n (Some r) e = let z : ◌≡◌ {A = ℕ} 0 1 = cc in absurd (omega arith)

  refused_by : (a : Result Run) {m : ℕ} → onward {B = Handed} a (λ t. good (None, t)) ≡ bad m → a ≡ bad m
  unfolding onward
  refused_by (good r) e = let z : ◌≡◌ {A = ℕ} 0 1 = cc in absurd (omega arith)
  refused_by (bad n) e = cc

  pub refused : (op : Operation) {m : ℕ} → perform q initial op s ≡ bad m → Refused op m
  unfolding perform
  refused Nop e = let z : ◌≡◌ {A = ℕ} 0 1 = cc in absurd (omega arith)
  refused (Step n) e = let r = refused_step n initial e in header_step n refl r.0 r.1
  refused (Does row) e = row_refused row refl (refused_by (act q initial row s) e)

  handed_step : (n : ℕ) (o : code.Option Rule) {m : ℕ} {t : Run} → stepped n o s ≡ good (Some m, t) → (n ≡ m) × (is_some o ≡ true) × (t ≡ s)
  unfolding stepped
  handed_step n None e = let z : ◌≡◌ {A = ℕ} 0 1 = cc in absurd (omega arith)
  handed_step n (Some r) {m} {t} e =
      let p = same {x = (Some n, s)} {y = (Some m, t)} e in
      (step_of (ap (λ (u : Handed). u.0) p), refl, sym (ap (λ (u : Handed). u.1) p))

  not_handed : (a : Result Run) {m : ℕ} {t : Run} → onward {B = Handed} a (λ t. good (None, t)) ≡ good (Some m, t) → ⊥
  unfolding onward
  not_handed (good r) {m} {t} e = not_both (ap (λ (u : Handed). u.0) (same {x = (None, r)} {y = (Some m, t)} e))
  not_handed (bad n) e = let z : ◌≡◌ {A = ℕ} 0 1 = cc in absurd (omega arith)

  -- what is handed on is a step, of a record
  pub handed : (op : Operation) {m : ℕ} {t : Run} → perform q initial op s ≡ good (Some m, t) → (op ≡ Step m) × (is_some initial ≡ true) × (t ≡ s)
  unfolding perform
  handed Nop {m} {t} e = absurd (not_both (ap (λ (u : Handed). u.0) (same {x = (None, s)} {y = (Some m, t)} e)))
  handed (Step n) e = let r = handed_step n initial e in (ap Step r.0, r.1, r.2)
  handed (Does row) e = absurd (not_handed (act q initial row s) e)

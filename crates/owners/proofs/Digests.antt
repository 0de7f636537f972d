-- Digests of keys, row by row.
use mathlib.Core.Path.{◌≡◌, refl, sym, ap, ◌∙◌}
use Prim.Native.Nat.{ℕ, suc, ◌+◌, ◌^◌, ◌≤◌, ◌<◌}
use native.Mathlib.Omega.{arith}
use native.Mathlib.Numerals.{add-one}
use mathlib.Core.List.{List, [], ◌∷◌}
use lib.ListN.{length, drop, get_or, drop_of_length-le}
use lib.Seq.{drop-cons}
use Rattle.format.specs.declared.Machine.{Machine}
use Rattle.format.specs.declared.Row.{Row}
use Rattle.format.specs.declared.Row.TheVariants.{DefCfa, DefCfaOffset, DefCfaRegister, Offset, Restore, Undefined, RememberState, RestoreState, NegateRaState, SameValue, InRegister}
use Rattle.format.specs.Rows.{kind_of}
use Rattle.format.specs.Headers.{key_of}
use Rattle.lists.specs.declared.Extent.{Extent}
use Rattle.lists.specs.Extents.{meant}
use Rattle.header_keys.specs.Functions.{key_in}
use Rattle.header_keys.specs.Kinds.{kind_in}
use Rattle.header_keys.proofs.KindMeans.{kind_means}
use Rattle.owners.specs.Owners.{leading_in}
use Rattle.owners.specs.Chains.{mixed, rows_digest, kind_number, digest_of}

pub kind_low : (r : Row) → kind_of r ≤ 10
unfolding kind_of
kind_low (DefCfa reg z) = omega arith
kind_low (DefCfaOffset z) = omega arith
kind_low (DefCfaRegister reg) = omega arith
kind_low (Offset reg z) = omega arith
kind_low (Restore reg) = omega arith
kind_low (Undefined reg) = omega arith
kind_low RememberState = omega arith
kind_low RestoreState = omega arith
kind_low NegateRaState = omega arith
kind_low (SameValue reg) = omega arith
kind_low (InRegister reg other) = omega arith

-- ---- rows

-- d is the digest of the first i of n rows
pub record Digesting (xs : List Row) (from n d i : ℕ) : Type 0 where
  pub high : i ≤ n
  pub counted : n ≡ length xs
  pub small : d < 2 ^ 34
  pub rest : rows_digest from xs ≡ rows_digest d (drop i xs)

pub start : {xs : List Row} {n d : ℕ} → n ≡ length xs → d < 2 ^ 34 → Digesting xs d n d 0
start p q = record { high = omega arith; counted = p; small = q; rest = refl }

module _ {xs : List Row} {from n d i : ℕ} (c : Digesting xs from n d i) where
  pub turn : {d' : ℕ} {r : Row} → i < n → r ≡ get_or xs i RememberState → (d' ≡ mixed d r) × (d' < 2 ^ 34) → Digesting xs from n d' (i + 1)
  unfolding rows_digest
  turn {d'} {r} h e q =
      let p : drop i xs ≡ get_or xs i RememberState ∷ drop (suc i) xs = drop-cons xs i RememberState (omega (arith, c.counted)) in
      record {
        high = omega arith;
        counted = c.counted;
        small = q.1;
        rest = c.rest ∙ rw (p, add-one i, q.0, e) refl;
      }

  pub ended : n ≤ i → d ≡ rows_digest from xs
  unfolding rows_digest
  ended h =
      let p : drop i xs ≡ [] = drop_of_length-le xs {i = i} (omega (arith, c.counted)) in
      sym (c.rest ∙ rw p refl)

-- ---- the key

pub digest_is : (m : Machine) (e : Extent) (rows : List ℕ) → digest_of (key_in m e rows) ≡ rows_digest (kind_number (kind_in e)) (leading_in m e rows)
unfolding digest_of key_of meant
digest_is m e rows = ap (λ k. rows_digest (kind_number k) (leading_in m e rows)) (kind_means m e rows)

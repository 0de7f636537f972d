-- The lists that the search works in, before it: as they were made, or cleared again.
use mathlib.Core.Path.{◌≡◌, refl, ◌∙◌}
use Prim.Native.Nat.{ℕ, ◌+◌, ◌≤◌, ◌<◌}
use mathlib.Core.List.{List}
use native.Mathlib.Omega.{arith}
use lib.ListN.{length, get_or, set, length-set, replicate, get_or-replicate, length-replicate}
use lib.Seq.{get_or-set_same, get_or-set_other}
use Rattle.format.proofs.Choice.{either}
use Rattle.owners.specs.Chains.{Unused}

pub unused : (n slots room : ℕ) → n ≤ 65536 → 0 < slots → n ≤ room → Unused n (replicate slots 0) (replicate room 0) (replicate room 0)
unused n slots room few some_slot long =
    let a = length-replicate {A = ℕ} slots 0 in
    let b = length-replicate {A = ℕ} room 0 in
    record {
      enough = record { few = few; some_slot = omega arith; links_long = omega arith; owners_long = omega arith };
      clear = λ h l. get_or-replicate slots h 0 0 (omega arith);
    }

-- the first h slots are clear
pub record Clearing (heads₀ heads : List ℕ) (h : ℕ) : Type 0 where
  pub kept : length heads ≡ length heads₀
  pub clear : (j : ℕ) → j < h → get_or heads j 0 ≡ 0

pub start : (heads : List ℕ) → Clearing heads heads 0
start heads = record { kept = refl; clear = λ j l. absurd (omega arith) }

module _ {heads₀ heads : List ℕ} {h : ℕ} (c : Clearing heads₀ heads h) where
  pub turn : h < length heads → Clearing heads₀ (set heads h 0) (h + 1)
  turn l = record {
    kept = length-set heads h 0 ∙ c.kept;
    clear = λ j k.
        either h j
        (λ p.
        let e : h ≡ j = omega arith in
        rw (← e) (get_or-set_same heads h 0 0 l))
        (λ p. get_or-set_other heads h j 0 0 (λ e. omega arith) ∙ c.clear j p);
  }

  pub ended : length heads ≤ h → (length heads ≡ length heads₀) × ((j : ℕ) → j < length heads → get_or heads j 0 ≡ 0)
  ended l = (c.kept, λ j k. c.clear j (omega arith))

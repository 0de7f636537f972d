-- The rules of all registers: what a reading's numbers are, and the turns of the loop that stores them.
use Rattle.std.proofs.Common.{◌≡◌, refl, ℕ, zero, suc, ◌+◌, ◌*◌, ◌-◌, ◌<◌, ◌≤◌, Bool, List, [], ◌∷◌, length, length-append, add-one, arith}
use Rattle.std.specs.Prelude.{Ok, Err, set}
use Rattle.format.specs.Coded.{Reading}
use Rattle.format.specs.Put.{put}
use Rattle.format.specs.Answers.{cfa_numbers, rule_numbers, marked_numbers, reading_numbers, mark_of}
use Rattle.format.specs.declared.CfaRule.{CfaRule}
use Rattle.format.specs.declared.CfaRule.TheVariants.{Unset, Register}
use Rattle.format.specs.declared.Rule.{Rule}
use Rattle.format.specs.declared.Rule.TheVariants.{Unstated, Undefined, Saved, SameValue, InRegister}
use Rattle.format.specs.declared.Rules.{Rules}
use Rattle.format.proofs.Storing.{Storing}
use Rattle.format.proofs.Storing as storing
use Rattle.unwind.specs.Entries.{read_numbers}
use Rattle.unwind.specs.declared.Numbers.{Numbers}
use Rattle.lookup.specs.Registers.{registers_in, rule_part, rules_listed, all_rules_as}
use Rattle.lookup.specs.declared.AllRules.{AllRules}

-- ---- a reading's numbers

-- what is taken of them: all but the rule, and the rule
abbrev all_but : Numbers → (n : ℕ) → AllRules
all_but r n =
    record {
      number = 0;
      frame = r.frame;
      frame_register = r.frame_register;
      frame_offset = r.frame_offset;
      signing = r.signing;
      shortest = r.shortest;
      registers = n;
    }

taken : (r : Numbers) (c : CfaRule) (u : Rule) (b : Bool) (shortest : Bool) (n : ℕ)
    → read_numbers r ≡ marked_numbers (Ok (record { cfa = c; rule = u; signing = b })) shortest
    → (all_but r n ≡ all_rules_as (Ok (record { cfa = c; rule = u; signing = b })) shortest n) × (r.rule ∷ r.rule_value ∷ [] ≡ rule_numbers u)
unfolding marked_numbers reading_numbers mark_of cfa_numbers rule_numbers all_rules_as
taken r Unset Unstated b shortest n e = (cc, cc)
taken r Unset Undefined b shortest n e = (cc, cc)
taken r Unset (Saved z) b shortest n e = (cc, cc)
taken r Unset SameValue b shortest n e = (cc, cc)
taken r Unset (InRegister o) b shortest n e = (cc, cc)
taken r (Register q y) Unstated b shortest n e = (cc, cc)
taken r (Register q y) Undefined b shortest n e = (cc, cc)
taken r (Register q y) (Saved z) b shortest n e = (cc, cc)
taken r (Register q y) SameValue b shortest n e = (cc, cc)
taken r (Register q y) (InRegister o) b shortest n e = (cc, cc)

pub told_of : (r : Numbers) (a : Rules) (shortest : Bool) (n : ℕ) → read_numbers r ≡ marked_numbers (Ok a) shortest → all_but r n ≡ all_rules_as (Ok a) shortest n
told_of r a shortest n e = (taken r a.cfa a.rule a.signing shortest n e).0

pub part_of : (r : Numbers) (x : Reading) (shortest : Bool) → read_numbers r ≡ marked_numbers x shortest → r.rule ∷ r.rule_value ∷ [] ≡ rule_part x
unfolding rule_part marked_numbers reading_numbers mark_of
part_of r (Ok a) shortest e = (taken r a.cfa a.rule a.signing shortest 0 e).1
part_of r (Err n) shortest e = cc

-- ---- the loop

two_numbers : (u : Rule) → length (rule_numbers u) ≡ 2
unfolding rule_numbers
two_numbers Unstated = refl
two_numbers Undefined = refl
two_numbers (Saved z) = refl
two_numbers SameValue = refl
two_numbers (InRegister o) = refl

two_each : (x : Reading) → length (rule_part x) ≡ 2
unfolding rule_part
two_each (Ok a) = two_numbers a.rule
two_each (Err n) = refl

length_listed : (r : ℕ → Reading) (q n : ℕ) → length (rules_listed r q n) ≡ 2 * n
unfolding rules_listed
length_listed r q zero = refl
length_listed r q (suc n) = omega (arith, length-append (rule_part (r q)) (rules_listed r (suc q) n), two_each (r q), length_listed r (suc q) n)

-- what is stored of n registers' rules, before the i-th
pub record Listing (r : ℕ → Reading) (n : ℕ) (xs₀ xs : List ℕ) (i : ℕ) : Type 0 where
  pub inside : i ≤ n
  pub storing : Storing xs₀ xs 0 (2 * i) (rules_listed r 0 n) (rules_listed r i (n - i))

pub list_start : (r : ℕ → Reading) (n : ℕ) (xs : List ℕ) → 2 * n ≤ length xs → Listing r n xs xs 0
list_start r n xs h =
    let e : n - 0 ≡ n = omega arith in
    record { inside = omega arith; storing = rw e (storing.start (omega (arith, length_listed r 0 n))) }

module _ {r : ℕ → Reading} {n : ℕ} {xs₀ xs : List ℕ} {i : ℕ} (k : Listing r n xs₀ xs i) where
  pub room : i < n → 2 * i + 1 < length xs
  room h = omega (arith, k.storing.room, length_listed r i (n - i))

  module _ (h : i < n) {a b : ℕ} (e : a ∷ b ∷ [] ≡ rule_part (r i)) where
    one_more : rules_listed r i (n - i) ≡ a ∷ b ∷ rules_listed r (i + 1) (n - (i + 1))
    unfolding rules_listed
    one_more =
        let m : n - i ≡ suc (n - (i + 1)) = omega arith in
        rw (m, ← e, add-one i) refl

    pub list_turn : Listing r n xs₀ (set (set xs (2 * i) a) (2 * i + 1) b) (i + 1)
    list_turn =
        let t : Storing xs₀ (set (set xs (2 * i) a) (2 * i + 1) b) 0 (2 * i + 1 + 1) (rules_listed r 0 n) (rules_listed r (i + 1) (n - (i + 1))) = storing.turn (storing.turn (rw one_more at k.storing)) in
        let e : 2 * i + 1 + 1 ≡ 2 * (i + 1) = omega arith in
        record { inside = omega arith; storing = rw e at t }

  pub list_ended : n ≤ i → xs ≡ put xs₀ 0 (rules_listed r 0 n)
  unfolding rules_listed put
  list_ended h =
      let e : n - i ≡ 0 = omega arith in
      rw e at k.storing.same

-- ---- how many registers there is room for

pub fits : (n : ℕ) → 2 * registers_in n ≤ n
unfolding registers_in
fits n = omega arith

pub few : (n : ℕ) → registers_in n ≤ 65536
unfolding registers_in
few n = omega arith

-- The first address of a symbol, found.
use Rattle.std.proofs.Common.{◌≡◌, ℕ, suc, ◌+◌, ◌*◌, ◌/◌, zero, ◌<◌, ◌≤◌, Bool, true, false, eqb, List, length, get_or, refl, ap, add-zero, zero-add, arith}
use mathlib.Core.Option.{Option, none, some}
use Rattle.format.specs.Prelude.{pick, after, first, each}
use Rattle.std.specs.Prelude.{Some, None, MatchOption, option_map}
use Rattle.std.specs.Prelude as code
use Rattle.format.proofs.Asked.{option_of}
use Rattle.format.proofs.Choice.{either}
use Rattle.apply.specs.Values.{symbol_at, symbols_of, address_of}

-- the first of those from `at` on whose test says yes, where `find` found it at r
first_at : {A : Type 0} (test : A → Bool) (f : ℕ → A) (at n : ℕ) (r : code.Option ℕ)
    → MatchOption r ((k : ℕ) → at ≤ k → k < at + n → test (f k) ≡ false)
    (λ i. (at ≤ i) × (i < at + n) × (test (f i) ≡ true) × ((k : ℕ) → at ≤ k → k < i → test (f k) ≡ false))
    → option_map f r ≡ option_of (first test (each f at n))
unfolding first each pick
first_at test f at zero None h = refl
first_at test f at zero (Some i) h = absurd (omega (arith, h.0, h.1))
first_at test f at (suc n) None h =
    rw (h at (omega arith) (omega arith)) (first_at test f (suc at) n None (λ k l g. h k (omega arith) (omega arith)))
first_at test f at (suc n) (Some i) h =
    either i at
    (λ l. let e : i ≡ at = omega (arith, h.0) in let g : test (f at) ≡ true = rw e at h.2 in rw (e, g))
    (λ l.
    rw (h.3 at (omega arith) l)
    (first_at test f (suc at) n (Some i) (omega arith, omega (arith, h.1), h.2, λ k g m. h.3 k (omega arith) m)))

seconds : (xs : List ℕ) (o : Option (ℕ × ℕ)) (r : code.Option ℕ) → option_map (symbol_at xs) r ≡ option_of o
    → option_map (λ i. get_or xs (2 * i + 1) 0) r ≡ option_of (after o λ a. some a.1)
unfolding symbol_at after
seconds xs none None e = refl
seconds xs none (Some i) e = cc
seconds xs (some a) None e = cc
seconds xs (some a) (Some i) e = let f : (get_or xs (2 * i + 0) 0, get_or xs (2 * i + 1) 0) ≡ a = cc in ap (λ (x : ℕ × ℕ). Some x.1) f

pub address_found : (xs : List ℕ) (symbol : ℕ) (r : code.Option ℕ)
    → MatchOption r ((k : ℕ) → 0 ≤ k → k < length xs / 2 → eqb (get_or xs (2 * k) 0) symbol ≡ false)
    (λ i. (0 ≤ i) × (i < length xs / 2) × (eqb (get_or xs (2 * i) 0) symbol ≡ true) × ((k : ℕ) → 0 ≤ k → k < i → eqb (get_or xs (2 * k) 0) symbol ≡ false))
    → option_map (λ i. get_or xs (2 * i + 1) 0) r ≡ option_of (address_of (symbols_of xs) symbol)
unfolding address_of symbols_of symbol_at
address_found xs symbol r h = seconds xs _ r (first_at (λ a. eqb a.0 symbol) (symbol_at xs) 0 (length xs / 2) r (simp (add-zero, zero-add) h))

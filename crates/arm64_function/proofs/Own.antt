-- Runs of their own: what loops over a function's epilogues know.
use mathlib.Core.Path.{◌≡◌, refl, sym, ap, subst, ◌∙◌}
use mathlib.Core.Bool.{Bool, true, false, cond, ◌||◌, false≢true}
use mathlib.Core.List.{List, [], ◌∷◌, ◌++◌, append-nil, append_assoc}
use Prim.Native.Nat.{ℕ, zero, suc, ◌+◌, ◌-◌, ◌≤◌, ◌<◌}
use native.Mathlib.Omega.{arith}
use Rattle.std.specs.List.{find}
use Rattle.std.specs.Option.{option_map}
use Rattle.arm64_function.proofs.Backwards.{backwards_from}
use lib.ListN.{length, length-append}
use borrow.Author.Tests.{lt-ltb, le-ltb}
use Rattle.format.specs.Prelude.{pick, each}
use Rattle.std.specs.Prelude.{Option, Some, None, IfSome}
use Rattle.std.specs.Option.{unwrap_or, is_some}
use Rattle.std.proofs.lemmas.Bool.{and_parts}
use Rattle.std.proofs.lemmas.Iterator.Adapters.{option_map_id}
use Rattle.format.proofs.Choice.{if-gt}
use Rattle.arm64.specs.declared.Code.{Code}
use Rattle.arm64.specs.Codes.{code_bytes}
use Rattle.arm64.specs.Runs.{no_pair, same_code, same_codes, simplify, run_fits, backwards, run_bytes, run_size, leads, is_in, own_runs, runs_bytes}
use Rattle.arm64_simple.specs.Saves.{saves}
use Rattle.arm64_function.specs.declared.Parts.{Parts}
use Rattle.arm64.proofs.MeaningLaws.{equal}
use Rattle.arm64.proofs.PackingLaws.{equal_all}
use Rattle.arm64_function.specs.Own.{prologue_in, run_at, seen_from, seen_at, own_at, own_in, later_at, codes_in, Nearest, held_to, epilogue_at, fits_at}

-- ---- a run that leads in another is no longer

leading_size : (r ps : List Code) → leads r ps ≡ true → length (backwards r) ≤ length (backwards ps)
unfolding leads backwards
leading_size [] ps e = omega arith
leading_size (c ∷ cs) [] e = absurd (false≢true e)
leading_size (c ∷ cs) (p ∷ ps) e =
    let h = and_parts (same_code c p) (leads cs ps) e in
    let l = leading_size cs ps h.1 in
    let g : length (code_bytes c) ≡ length (code_bytes p) = ap (λ x. length (code_bytes x)) (equal c p h.0) in
    omega (arith, length-append (backwards cs) (code_bytes c), length-append (backwards ps) (code_bytes p))

pub run_size_lem : (r : List Code) → run_size r ≡ length (backwards r) + 1
unfolding run_size run_bytes
run_size_lem r = length-append (backwards r) (0xe4 ∷ [])

pub leading : (r ps : List Code) → leads r ps ≡ true → length (backwards r) ≤ length (backwards ps)
leading r ps e = leading_size r ps e

-- ---- runs of their own, one after the other

module _ (P : List Code) (R : ℕ → List Code) (at end : ℕ) where
  -- those from epilogue i on
  abbrev pub later_in : ℕ → List (List Code)
  later_in i = own_runs P (seen_from R at (i - at)) (each R i (end - i))

  abbrev own_one : ℕ → List (List Code)
  own_one i = pick (leads (R i) P || is_in (R i) (seen_from R at (i - at))) [] (R i ∷ [])

  later_start : own_runs P [] (each R at (end - at)) ≡ later_in at
  unfolding seen_from
  later_start = let e : 0 ≡ at - at = omega arith in ap (λ (m : ℕ). own_runs P (seen_from R at m) (each R at (end - at))) e

  pub seen_next : (i : ℕ) → at ≤ i → seen_from R at ((i + 1) - at) ≡ R i ∷ seen_from R at (i - at)
  unfolding seen_from
  seen_next i h =
      let e : (i + 1) - at ≡ suc (i - at) = omega arith in
      let g : at + (i - at) ≡ i = omega arith in
      ap (seen_from R at) e ∙ ap (λ (k : ℕ). R k ∷ seen_from R at (i - at)) g

  later_first : (i : ℕ) → at ≤ i → i < end → later_in i ≡ own_one i ++ later_in (i + 1)
  unfolding own_runs each
  later_first i h l =
      let e : end - i ≡ suc (end - (i + 1)) = omega arith in
      let g : suc i ≡ i + 1 = omega arith in
      ap (λ (n : ℕ). own_runs P (seen_from R at (i - at)) (each R i n)) e
      ∙ ap (λ (k : ℕ). own_one i ++ own_runs P (R i ∷ seen_from R at (i - at)) (each R k (end - (i + 1)))) g
      ∙ ap (λ s. own_one i ++ own_runs P s (each R (i + 1) (end - (i + 1)))) (sym (seen_next i h))

  later_none : (i : ℕ) → end ≤ i → later_in i ≡ []
  unfolding own_runs each
  later_none i h = let e : end - i ≡ 0 = omega arith in ap (λ (n : ℕ). own_runs P (seen_from R at (i - at)) (each R i n)) e

pub runs_bytes-append : (qs bs : List (List Code)) → runs_bytes (qs ++ bs) ≡ runs_bytes qs ++ runs_bytes bs
unfolding runs_bytes
runs_bytes-append [] bs = refl
runs_bytes-append (q ∷ qs) bs =
    ap (λ l. run_bytes q ++ l) (runs_bytes-append qs bs) ∙ sym (append_assoc (run_bytes q) (runs_bytes qs) (runs_bytes bs))

-- ---- the search for the nearest epilogue with the same run

pub record Searching (es cs : List ℕ) (p : Parts) (i j : ℕ) : Type 0 where
  pub low : p.first ≤ j
  pub high : j ≤ i
  pub rest : is_in (run_at es cs i) (seen_at es cs p i) ≡ is_in (run_at es cs i) (seen_at es cs p j)

pub searching_start : {es cs : List ℕ} {p : Parts} {i : ℕ} → p.first ≤ i → Searching es cs p i i
searching_start h = record { low = h; high = omega arith; rest = refl }

pub is_in_first : (r q : List Code) (qs : List (List Code)) → is_in r (q ∷ qs) ≡ (same_codes r q || is_in r qs)
unfolding is_in
is_in_first r q qs = refl

is_in_none : (R : ℕ → List Code) (r : List Code) (at : ℕ) → is_in r (seen_from R at 0) ≡ false
unfolding is_in seen_from
is_in_none R r at = refl

-- the codes that are saved, as they are written
pub run_is : (es cs : List ℕ) (i : ℕ) {s : List Code} → s ≡ saves cs (epilogue_at es i) → simplify no_pair s ≡ run_at es cs i
unfolding run_at
run_is es cs i e = ap (simplify no_pair) e

pub prologue_is : (cs : List ℕ) (p : Parts) {s : List Code} → s ≡ saves cs p.prologue → simplify no_pair s ≡ prologue_in cs p
unfolding prologue_in
prologue_is cs p e = ap (simplify no_pair) e

module _ {es cs : List ℕ} {p : Parts} {i j : ℕ} (s : Searching es cs p i (j + 1)) (h : p.first ≤ j) where
  here : is_in (run_at es cs i) (seen_at es cs p i) ≡ (same_codes (run_at es cs i) (run_at es cs j) || is_in (run_at es cs i) (seen_at es cs p j))
  here =
      s.rest ∙ ap (is_in (run_at es cs i)) (seen_next [] (run_at es cs) p.first 0 j h)
      ∙ is_in_first (run_at es cs i) (run_at es cs j) (seen_at es cs p j)

  searching_turn : same_codes (run_at es cs i) (run_at es cs j) ≡ false → Searching es cs p i j
  searching_turn n =
      record { low = h; high = omega (arith, s.high); rest = here ∙ ap (λ x. x || is_in (run_at es cs i) (seen_at es cs p j)) n }

  searching_found : same_codes (run_at es cs i) (run_at es cs j) ≡ true → Nearest es cs p i j
  searching_found y =
      record {
        low = h;
        high = omega (arith, s.high);
        same = λ l. equal_all (run_at es cs i) (run_at es cs j) y;
        seen = here ∙ ap (λ x. x || is_in (run_at es cs i) (seen_at es cs p j)) y ∙ sym (lt-ltb j i (omega (arith, s.high)));
      }

pub searching_ended : {es cs : List ℕ} {p : Parts} {i j : ℕ} → Searching es cs p i j → j ≤ p.first → Nearest es cs p i i
searching_ended {es} {cs} {p} {i} {j} s h =
    let e : j - p.first ≡ 0 = omega (arith, h) in
    record {
      low = omega (arith, s.low, s.high);
      high = omega arith;
      same = λ l. absurd (omega (arith, l));
      seen = s.rest ∙ ap (λ (m : ℕ). is_in (run_at es cs i) (seen_from (run_at es cs) p.first m)) e ∙ is_in_none (run_at es cs) (run_at es cs i) p.first
          ∙ sym (le-ltb i i (omega arith));
    }

module _ (es cs : List ℕ) (p : Parts) (i : ℕ) where
  -- epilogue j has the run of epilogue i
  abbrev pub same_at : ℕ → Bool
  same_at j = same_codes (run_at es cs i) (run_at es cs j)

  abbrev pub Near : Option ℕ → Type 0
  Near r = Nearest es cs p i (unwrap_or r i) × IfSome r (λ j. j < i)

  near_step : (n : ℕ) (b : Bool) → same_at (p.first + n) ≡ b → Searching es cs p i (p.first + n + 1)
      → (Searching es cs p i (p.first + n) → Near (find same_at (backwards_from p.first n))) → Near (cond b (Some (p.first + n)) (find same_at (backwards_from p.first n)))
  near_step n true e s h = (searching_found s (omega arith) e, omega (arith, s.high))
  near_step n false e s h = h (searching_turn s (omega arith) e)

  near_from : (n : ℕ) → Searching es cs p i (p.first + n) → Near (find same_at (backwards_from p.first n))
  near_from zero s = (searching_ended s (omega arith), tt)
  near_from (suc n) s =
      let e : p.first + suc n ≡ p.first + n + 1 = omega arith in
      near_step n (same_at (p.first + n)) refl (subst (Searching es cs p i) e s) (near_from n)

  -- the search from epilogue i back
  pub near_found : p.first ≤ i → (r : Option ℕ) → option_map (λ x. x) r ≡ find same_at (backwards_from p.first (i - p.first)) → Near r
  near_found h r e =
      let g : i ≡ p.first + (i - p.first) = omega (arith, h) in
      subst Near (sym e ∙ option_map_id r) (near_from (i - p.first) (subst (Searching es cs p i) g (searching_start h)))

-- by whether one was found
pub near_some : (r : Option ℕ) (i : ℕ) → IfSome r (λ j. j < i) → is_some r ≡ true → unwrap_or r i < i
near_some None i h e = absurd (false≢true e)
near_some (Some j) i h e = h

pub near_none : (r : Option ℕ) (i : ℕ) → is_some r ≡ false → i ≤ unwrap_or r i
near_none None i e = omega arith
near_none (Some j) i e = absurd (false≢true (sym e))

-- ---- a run of its own

pub not_own : (r : List Code) (b : Bool) → b ≡ true → pick b [] (r ∷ []) ≡ []
unfolding pick
not_own r b e = ap (λ (x : Bool). pick x [] (r ∷ [])) e

pub is_own : (r : List Code) (b : Bool) → b ≡ false → pick b [] (r ∷ []) ≡ r ∷ []
unfolding pick
is_own r b e = ap (λ (x : Bool). pick x [] (r ∷ [])) e

module _ (es cs : List ℕ) (p : Parts) (i : ℕ) where
  pub own_leading : leads (run_at es cs i) (prologue_in cs p) ≡ true → own_at es cs p i ≡ []
  unfolding own_at
  own_leading e = not_own (run_at es cs i) _ (ap (λ x. x || is_in (run_at es cs i) (seen_at es cs p i)) e)

  module _ {j : ℕ} (n : Nearest es cs p i j) (e : leads (run_at es cs i) (prologue_in cs p) ≡ false) where
    pub own_shared : j < i → own_at es cs p i ≡ []
    unfolding own_at
    own_shared h = not_own (run_at es cs i) _ (ap (λ x. x || is_in (run_at es cs i) (seen_at es cs p i)) e ∙ n.seen ∙ lt-ltb j i h)

    pub own_alone : i ≤ j → own_at es cs p i ≡ run_at es cs i ∷ []
    unfolding own_at
    own_alone h = is_own (run_at es cs i) _ (ap (λ x. x || is_in (run_at es cs i) (seen_at es cs p i)) e ∙ n.seen ∙ le-ltb j i h)

pub none_size : {q : List (List Code)} → q ≡ [] → 0 ≡ length (runs_bytes q)
unfolding runs_bytes
none_size e = sym (ap (λ x. length (runs_bytes x)) e)

pub one_bytes : (r : List Code) → runs_bytes (r ∷ []) ≡ run_bytes r
unfolding runs_bytes
one_bytes r = append-nil (run_bytes r)

pub one_size : {q : List (List Code)} {r : List Code} → q ≡ r ∷ [] → length (backwards r) + 1 ≡ length (runs_bytes q)
unfolding run_size
one_size {q} {r} e = sym (ap (λ x. length (runs_bytes x)) e ∙ ap length (one_bytes r) ∙ run_size_lem r)

pub fits_is : (es cs : List ℕ) (i : ℕ) {s : List Code} → s ≡ saves cs (epilogue_at es i) → run_fits no_pair s ≡ fits_at es cs i
unfolding fits_at
fits_is es cs i e = ap (run_fits no_pair) e

-- ---- the sum of the runs

pub later_own : (es cs : List ℕ) (p : Parts) (i : ℕ) → p.first ≤ i → i < p.end → later_at es cs p i ≡ own_at es cs p i ++ later_at es cs p (i + 1)
unfolding own_at
later_own es cs p i h l = later_first (prologue_in cs p) (run_at es cs) p.first p.end i h l

pub later_all : (es cs : List ℕ) (p : Parts) → own_in es cs p ≡ later_at es cs p p.first
unfolding own_in
later_all es cs p = later_start (prologue_in cs p) (run_at es cs) p.first p.end

pub later_end : (es cs : List ℕ) (p : Parts) (i : ℕ) → p.end ≤ i → later_at es cs p i ≡ []
later_end es cs p i h = later_none (prologue_in cs p) (run_at es cs) p.first p.end i h

no_bytes : runs_bytes [] ≡ []
unfolding runs_bytes
no_bytes = refl

pub bytes_own : (es cs : List ℕ) (p : Parts) (i : ℕ) → p.first ≤ i → i < p.end
    → runs_bytes (later_at es cs p i) ≡ runs_bytes (own_at es cs p i) ++ runs_bytes (later_at es cs p (i + 1))
bytes_own es cs p i h l = ap runs_bytes (later_own es cs p i h l) ∙ runs_bytes-append (own_at es cs p i) (later_at es cs p (i + 1))

pub bytes_end : (es cs : List ℕ) (p : Parts) (i : ℕ) → p.end ≤ i → runs_bytes (later_at es cs p i) ≡ []
bytes_end es cs p i h = ap runs_bytes (later_end es cs p i h) ∙ no_bytes

-- the codes are the prologue's and those of the runs from the first on
pub codes_all : (es cs : List ℕ) (p : Parts) → codes_in es cs p ≡ run_bytes (prologue_in cs p) ++ runs_bytes (later_at es cs p p.first)
unfolding codes_in
codes_all es cs p = ap (λ o. run_bytes (prologue_in cs p) ++ runs_bytes o) (later_all es cs p)

pub record Summing (es cs : List ℕ) (p : Parts) (size i : ℕ) : Type 0 where
  pub low : p.first ≤ i
  pub rest : length (codes_in es cs p) ≡ size + length (runs_bytes (later_at es cs p i))

pub prologue_size : (cs : List ℕ) (p : Parts) {n : ℕ} → n ≡ length (backwards (prologue_in cs p)) → n + 1 ≡ run_size (prologue_in cs p)
prologue_size cs p {n} e = ap (λ (k : ℕ). k + 1) e ∙ sym (run_size_lem (prologue_in cs p))

pub size_is : (r : List Code) → length (run_bytes r) ≡ run_size r
unfolding run_size
size_is r = refl

pub summing_start : {es cs : List ℕ} {p : Parts} {n : ℕ} → n ≡ length (backwards (prologue_in cs p)) → Summing es cs p (n + 1) p.first
summing_start {es} {cs} {p} {n} e =
    let g = ap length (codes_all es cs p) ∙ length-append (run_bytes (prologue_in cs p)) (runs_bytes (later_at es cs p p.first)) in
    record { low = omega arith; rest = omega (arith, g, prologue_size cs p e, size_is (prologue_in cs p)) }

pub summing_turn : {es cs : List ℕ} {p : Parts} {size i x : ℕ} → Summing es cs p size i → i < p.end → x ≡ length (runs_bytes (own_at es cs p i))
    → Summing es cs p (size + x) (i + 1)
summing_turn {es} {cs} {p} {size} {i} {x} s h e =
    let g = ap length (bytes_own es cs p i s.low h) ∙ length-append (runs_bytes (own_at es cs p i)) (runs_bytes (later_at es cs p (i + 1))) in
    record { low = omega (arith, s.low); rest = omega (arith, s.rest, g, e) }

held_high : (n : ℕ) → 1020 < n → None ≡ held_to n
unfolding held_to
held_high n h = rw (if-gt n 1020)

pub summing_high : {es cs : List ℕ} {p : Parts} {size i : ℕ} → Summing es cs p size i → 1020 < size → None ≡ held_to (length (codes_in es cs p))
summing_high {es} {cs} {p} s h = held_high (length (codes_in es cs p)) (omega (arith, s.rest, h))

pub summing_all : {es cs : List ℕ} {p : Parts} {size i : ℕ} → Summing es cs p size i → p.end ≤ i → size ≡ length (codes_in es cs p)
summing_all {es} {cs} {p} {size} {i} s h = omega (arith, s.rest, ap length (bytes_end es cs p i h))

pub leads_is : (es cs : List ℕ) (p : Parts) (i : ℕ) {r s : List Code} {b : Bool} → r ≡ saves cs (epilogue_at es i) → s ≡ saves cs p.prologue
    → b ≡ leads (simplify no_pair r) (simplify no_pair s) → b ≡ leads (run_at es cs i) (prologue_in cs p)
leads_is es cs p i {r} {s} e g k = k ∙ ap (λ x. leads x (simplify no_pair s)) (run_is es cs i e) ∙ ap (leads (run_at es cs i)) (prologue_is cs p g)

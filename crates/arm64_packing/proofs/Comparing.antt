-- A run compared with the places of a packed word: what the loop knows at each turn, and the epilogue's places backwards.
use mathlib.Core.Path.{◌≡◌, refl, sym, ap, ◌∙◌}
use mathlib.Core.Bool.{Bool, true, false, not, ◌&&◌}
use mathlib.Core.List.{List, [], ◌∷◌, ◌++◌, append-nil}
use Prim.Native.Nat.{ℕ, zero, suc, ◌+◌, ◌-◌, ◌≤◌, ◌<◌}
use native.Mathlib.Omega.{arith}
use Rattle.arm64.specs.declared.Code.{Code}
use Rattle.arm64.specs.declared.Packed.{Packed}
use Rattle.arm64.specs.declared.Part.TheVariants.{Prologue, Epilogue}
use mathlib.Core.Option.{Option, none, some}
use Rattle.std.specs.Prelude.{Some, None}
use Rattle.std.specs.Prelude as code
use Rattle.std.specs.Option.{MatchOption, is_some}
use Rattle.std.proofs.lemmas.Bool.{not-true, not-false}
use Rattle.std.specs.Cmp.{both_ways}
use Rattle.arm64.specs.Packed.{with_slot, slots_from, slot_at, packed_prologue, packed_epilogue}
use Rattle.arm64.specs.Meaning.{reverse}
use Rattle.arm64.specs.Runs.{no_pair, same_code, same_codes, resolved}
use Rattle.arm64.proofs.PackingLaws.{equal_all, reverse_twice, same_all}
use Rattle.arm64_packed.proofs.Places.{next_slot, last_slot}
use Rattle.arm64_simple.specs.declared.Run.{Run}
use Rattle.arm64_simple.specs.Saves.{saves}
use Rattle.arm64_simple.specs.declared.Step.{Step}
use Rattle.arm64_simple.specs.Steps.{steps}
use Rattle.arm64_simple.proofs.Loops.{resolves, resolves_all}
use Rattle.arm64_packing.specs.Places.{placed, given}

-- ---- the loop

short : (d : Code) (es : List Code) → same_codes [] (d ∷ es) ≡ false
unfolding same_codes
short d es = refl

same_next : (c d : Code) (cs es : List Code) → same_codes (c ∷ cs) (d ∷ es) ≡ (same_code c d && same_codes cs es)
unfolding same_codes
same_next c d cs es = refl

pub record Matching (all : List Code) (f : ℕ → Option Code) (left : List Step) (next : ℕ) : Type 0 where
  pub most : next ≤ 19
  pub same : same_codes all (slots_from f 0 19) ≡ same_codes (resolves left) (slots_from f next (19 - next))

pub matching_start : (cs : List ℕ) (r : Run) (f : ℕ → Option Code) {left : List Step} → left ≡ steps no_pair (saves cs r) → Matching (given cs r) f left 0
matching_start cs r f l =
    record { most = omega arith; same = ap (λ x. same_codes x (slots_from f 0 19)) (sym (ap resolves l ∙ resolves_all no_pair (saves cs r))) }

module _ {all : List Code} {f : ℕ → Option Code} {left : List Step} {i : ℕ} (m : Matching all f left i) where
  module _ (h : i < 19) where
    behind : {o : Option Code} → f i ≡ o
        → same_codes all (slots_from f 0 19) ≡ same_codes (resolves left) (with_slot o (slots_from f (i + 1) (19 - (i + 1))))
    behind e =
        m.same ∙ ap (same_codes (resolves left)) (next_slot f i h)
        ∙ ap (λ t. same_codes (resolves left) (with_slot t (slots_from f (i + 1) (19 - (i + 1))))) e

    pub matching_empty : f i ≡ none → Matching all f left (i + 1)
    unfolding with_slot
    matching_empty e = record { most = omega arith; same = behind e }

    module _ {d : Code} (e : f i ≡ some d) where
      pub matching_short : left ≡ [] → false ≡ same_codes all (slots_from f 0 19)
      unfolding with_slot
      matching_short n =
          sym
          (behind e ∙ ap (λ x. same_codes (resolves x) (d ∷ slots_from f (i + 1) (19 - (i + 1)))) n
          ∙ short d (slots_from f (i + 1) (19 - (i + 1))))

      module _ {later : List Step} {s : Step} (n : left ≡ s ∷ later) {y : Code} (g : y ≡ resolved s.before s.written) where
        cut : same_codes all (slots_from f 0 19) ≡ (same_code y d && same_codes (resolves later) (slots_from f (i + 1) (19 - (i + 1))))
        unfolding with_slot
        cut =
            behind e ∙ ap (λ x. same_codes (resolves x) (d ∷ slots_from f (i + 1) (19 - (i + 1)))) n
            ∙ same_next (resolved s.before s.written) d (resolves later) (slots_from f (i + 1) (19 - (i + 1)))
            ∙ ap (λ z. same_code z d && same_codes (resolves later) (slots_from f (i + 1) (19 - (i + 1)))) (sym g)

        pub matching_stopped : same_code y d ≡ false → false ≡ same_codes all (slots_from f 0 19)
        matching_stopped o = sym (cut ∙ ap (λ t. t && same_codes (resolves later) (slots_from f (i + 1) (19 - (i + 1)))) o)

        pub matching_turn : same_code y d ≡ true → Matching all f later (i + 1)
        matching_turn o =
            record { most = omega arith; same = cut ∙ ap (λ t. t && same_codes (resolves later) (slots_from f (i + 1) (19 - (i + 1)))) o }

  module _ (h : 19 ≤ i) where
    ended : same_codes all (slots_from f 0 19) ≡ same_codes (resolves left) []
    ended = m.same ∙ ap (same_codes (resolves left)) (last_slot f i h)

    -- by what the next step is
    pub matching_ended : (later : List Step) (r : code.Option Step) {b : Bool} → MatchOption r ((left ≡ []) × (later ≡ [])) (λ s. left ≡ s ∷ later)
        → is_some r ≡ not b → b ≡ same_codes all (slots_from f 0 19)
    unfolding same_codes
    matching_ended later None {b} n e = not-false b (sym e) ∙ sym (ended ∙ ap (λ x. same_codes (resolves x) []) n.0)
    matching_ended later (Some s) {b} n e = not-true b (sym e) ∙ sym (ended ∙ ap (λ x. same_codes (resolves x) []) n)

-- ---- the epilogue's places backwards

with_append : (s : Option Code) (cs ds : List Code) → with_slot s (cs ++ ds) ≡ with_slot s cs ++ ds
unfolding with_slot
with_append (some c) cs ds = refl
with_append none cs ds = refl

slots_last : (f : ℕ → Option Code) (k n : ℕ) → slots_from f k (suc n) ≡ slots_from f k n ++ with_slot (f (k + n)) []
unfolding slots_from
slots_last f k zero = let e : k ≡ k + 0 = omega arith in ap (λ (i : ℕ). with_slot (f i) []) e
slots_last f k (suc n) =
    let e : suc k + n ≡ k + suc n = omega arith in
    ap (with_slot (f k)) (slots_last f (suc k) n) ∙ with_append (f k) (slots_from f (suc k) n) (with_slot (f (suc k + n)) [])
    ∙ ap (λ (i : ℕ). with_slot (f k) (slots_from f (suc k) n) ++ with_slot (f i) []) e

reverse_with : (s : Option Code) (cs : List Code) → reverse (with_slot s cs) ≡ reverse cs ++ with_slot s []
unfolding with_slot reverse
reverse_with (some c) cs = refl
reverse_with none cs = sym (append-nil (reverse cs))

places_back : (f : ℕ → Option Code) (n k m : ℕ) → n + k + m ≡ 19 → reverse (slots_from (λ i. f (18 - i)) k n) ≡ slots_from f m n
unfolding slots_from reverse
places_back f zero k m e = refl
places_back f (suc n) k m e =
    let g : n + suc k + m ≡ 19 = omega (arith, e) in
    let h : 18 - k ≡ m + n = omega (arith, e) in
    reverse_with (f (18 - k)) (slots_from (λ i. f (18 - i)) (suc k) n)
    ∙ ap (λ cs. cs ++ with_slot (f (18 - k)) []) (places_back f n (suc k) m g) ∙ ap (λ (i : ℕ). slots_from f m n ++ with_slot (f i) []) h
    ∙ sym (slots_last f m n)

epilogue_places : (p : Packed) → reverse (slots_from (placed Epilogue p) 0 19) ≡ packed_epilogue p
unfolding placed packed_epilogue
epilogue_places p = places_back (slot_at Epilogue p) 19 0 0 refl

-- ---- lists that are the same backwards

of_equal : {xs ys : List Code} → xs ≡ ys → same_codes xs ys ≡ true
of_equal {xs} e = ap (same_codes xs) (sym e) ∙ same_all xs

pub prologue_same : (xs : List Code) (p : Packed) → same_codes xs (slots_from (placed Prologue p) 0 19) ≡ same_codes xs (packed_prologue p)
unfolding placed packed_prologue
prologue_same xs p = refl

pub epilogue_same : (xs : List Code) (p : Packed) → same_codes xs (slots_from (placed Epilogue p) 0 19) ≡ same_codes (reverse xs) (packed_epilogue p)
epilogue_same xs p =
    both_ways _ _ (λ t. of_equal (ap reverse (equal_all xs (slots_from (placed Epilogue p) 0 19) t) ∙ epilogue_places p)) λ t.
    of_equal
    (sym (reverse_twice xs) ∙ ap reverse (equal_all (reverse xs) (packed_epilogue p) t ∙ sym (epilogue_places p))
    ∙ reverse_twice (slots_from (placed Epilogue p) 0 19))

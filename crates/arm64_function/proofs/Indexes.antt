-- Where an epilogue's run stands: an own run behind all that were written before it.
use mathlib.Core.Path.{◌≡◌, sym, ap, ◌∙◌}
use mathlib.Core.Bool.{Bool, true, false, ◌||◌}
use mathlib.Core.List.{List, [], ◌∷◌, ◌++◌}
use Prim.Native.Nat.{ℕ, ◌+◌, ◌-◌, ◌≤◌, ◌<◌}
use native.Mathlib.Omega.{arith}
use lib.ListN.{length, length-append}
use borrow.Author.Tests.{le-ltb}
use Rattle.format.specs.Prelude.{pick}
use Rattle.arm64.specs.declared.Code.{Code}
use Rattle.arm64.specs.Runs.{same_codes, backwards, run_bytes, run_size, leads, is_in, runs_bytes, place_in, index_of}
use Rattle.arm64_function.specs.declared.Parts.{Parts}
use Rattle.arm64_function.specs.Own.{prologue_in, run_at, seen_at, own_at, own_in, later_at, Ahead, codes_in, index_at, Nearest}
use Rattle.arm64_function.proofs.Own.{is_in_first, leading, run_size_lem, later_all, later_own, seen_next, own_alone, one_bytes, size_is, prologue_size}
use Rattle.arm64.proofs.PackingLaws.{same_all}
use Rattle.std.proofs.lemmas.Bool.{or_parts}

place_other : (r q : List Code) (b : Bool) (l : List (List Code)) → same_codes r q ≡ false
    → place_in r (pick b [] (q ∷ []) ++ l) ≡ length (runs_bytes (pick b [] (q ∷ []))) + place_in r l
unfolding pick place_in runs_bytes
place_other r q true l e = omega arith
place_other r q false l e =
    ap (λ (x : Bool). pick x 0 (run_size q + place_in r l)) e
    ∙ ap (λ (n : ℕ). n + place_in r l) (sym (ap length (one_bytes q) ∙ size_is q))

place_same : (r : List Code) (l : List (List Code)) → place_in r (r ∷ l) ≡ 0
unfolding pick place_in
place_same r l = ap (λ (x : Bool). pick x 0 (run_size r + place_in r l)) (same_all r)

place_first : (r : List Code) (o l : List (List Code)) → o ≡ r ∷ [] → place_in r (o ++ l) ≡ 0
place_first r o l e = ap (λ q. place_in r (q ++ l)) e ∙ place_same r l

pub ahead_start : {es cs : List ℕ} {p : Parts} {n : ℕ} → n ≡ length (backwards (prologue_in cs p)) → Ahead es cs p (n + 1) p.first
ahead_start {es} {cs} {p} {n} e =
    record { ahead = λ r h. omega (arith, ap (place_in r) (later_all es cs p), prologue_size cs p e) }

pub ahead_turn : {es cs : List ℕ} {p : Parts} {next i x : ℕ} → Ahead es cs p next i → p.first ≤ i → i < p.end → x ≡ length (runs_bytes (own_at es cs p i))
    → Ahead es cs p (next + x) (i + 1)
unfolding own_at
ahead_turn {es} {cs} {p} {next} {i} {x} a l h e =
    record {
      ahead = λ r g.
          let d = or_parts (same_codes r (run_at es cs i)) (is_in r (seen_at es cs p i))
          (sym (is_in_first r (run_at es cs i) (seen_at es cs p i)) ∙ sym (ap (is_in r) (seen_next [] (run_at es cs) p.first 0 i l)) ∙ g) in
          let z = ap (place_in r) (later_own es cs p i l h)
          ∙ place_other r (run_at es cs i) (leads (run_at es cs i) (prologue_in cs p) || is_in (run_at es cs i) (seen_at es cs p i)) (later_at es cs p (i + 1)) d.0 in
          omega (arith, a.ahead r d.1, z, e);
    }

index_not : (ps : List Code) (own : List (List Code)) (r : List Code) → leads r ps ≡ false → index_of ps own r ≡ run_size ps + place_in r own
unfolding index_of pick
index_not ps own r e = ap (λ (x : Bool). pick x (run_size ps - run_size r) (run_size ps + place_in r own)) e

index_yes : (ps : List Code) (own : List (List Code)) (r : List Code) → leads r ps ≡ true → index_of ps own r ≡ run_size ps - run_size r
unfolding index_of pick
index_yes ps own r e = ap (λ (x : Bool). pick x (run_size ps - run_size r) (run_size ps + place_in r own)) e

pub index_own : {es cs : List ℕ} {p : Parts} {next i j : ℕ} → Ahead es cs p next i → p.first ≤ i → i < p.end → Nearest es cs p i j
    → leads (run_at es cs i) (prologue_in cs p) ≡ false → i ≤ j → next ≡ index_at es cs p i
unfolding index_at
index_own {es} {cs} {p} {next} {i} {j} a l h n e g =
    let z = ap (place_in (run_at es cs i)) (later_own es cs p i l h) ∙ place_first (run_at es cs i) (own_at es cs p i) (later_at es cs p (i + 1)) (own_alone es cs p i n e g) in
    let y = a.ahead (run_at es cs i) (n.seen ∙ le-ltb j i g) in
    let x = index_not (prologue_in cs p) (own_in es cs p) (run_at es cs i) e in
    omega (arith, x, y, z)

pub index_shared : {es cs : List ℕ} {p : Parts} {i j : ℕ} → Nearest es cs p i j → j < i → index_at es cs p j ≡ index_at es cs p i
unfolding index_at
index_shared {es} {cs} {p} {i} {j} n h = ap (index_of (prologue_in cs p) (own_in es cs p)) (sym (n.same h))

pub index_leading : (es cs : List ℕ) (p : Parts) (i : ℕ) {a b : ℕ} → leads (run_at es cs i) (prologue_in cs p) ≡ true
    → a ≡ length (backwards (prologue_in cs p)) → b ≡ length (backwards (run_at es cs i)) → a - b ≡ index_at es cs p i
unfolding index_at
index_leading es cs p i {a} {b} e g h =
    let z = index_yes (prologue_in cs p) (own_in es cs p) (run_at es cs i) e in
    omega (arith, z, prologue_size cs p g, run_size_lem (run_at es cs i), h)

-- no bytes are below none
pub leading_low : (es cs : List ℕ) (p : Parts) (i : ℕ) {a b : ℕ} → leads (run_at es cs i) (prologue_in cs p) ≡ true
    → a ≡ length (backwards (prologue_in cs p)) → b ≡ length (backwards (run_at es cs i)) → b ≤ a
leading_low es cs p i {a} {b} e g h =
    let z = prologue_size cs p g in omega (arith, leading (run_at es cs i) (prologue_in cs p) e, run_size_lem (prologue_in cs p), z, h)

-- ---- no index is past the codes

picked : (b : Bool) (n : ℕ) → pick b 0 n ≤ n
unfolding pick
picked true n = omega arith
picked false n = omega arith

place_low : (r : List Code) (own : List (List Code)) → place_in r own ≤ length (runs_bytes own)
unfolding place_in runs_bytes
place_low r [] = omega arith
place_low r (q ∷ qs) = omega (arith, picked (same_codes r q) (run_size q + place_in r qs), length-append (run_bytes q) (runs_bytes qs), size_is q, place_low r qs)

index_held : (ps : List Code) (own : List (List Code)) (r : List Code) → index_of ps own r ≤ run_size ps + length (runs_bytes own)
unfolding index_of pick
index_held ps own r = by (leads r ps)
  where
    by : (b : Bool) → pick b (run_size ps - run_size r) (run_size ps + place_in r own) ≤ run_size ps + length (runs_bytes own)
    by true = omega arith
    by false = omega (arith, place_low r own)

pub index_low : (es cs : List ℕ) (p : Parts) (i : ℕ) → index_at es cs p i ≤ length (codes_in es cs p)
unfolding index_at codes_in
index_low es cs p i =
    omega (arith, index_held (prologue_in cs p) (own_in es cs p) (run_at es cs i), length-append (run_bytes (prologue_in cs p)) (runs_bytes (own_in es cs p)), size_is (prologue_in cs p))

-- Where the runs of a function stand among its codes, and that each is read from its index.
use mathlib.Core.Path.{◌≡◌, refl, subst, sym, ap, ◌∙◌}
use mathlib.Core.Bool.{Bool, true, false, ◌&&◌, ◌||◌, false≢true}
use mathlib.Core.Option.{some}
use mathlib.Core.List.{List, [], ◌∷◌, ◌++◌}
use Prim.Native.Nat.{ℕ, ◌+◌}
use lib.Dec.{leb, eqb}
use lib.ListN.{length}
use Rattle.format.specs.Prelude.{pick, all}
use Rattle.format.proofs.Choice.{decided}
use Rattle.arm64.specs.declared.Code.{Code}
use Rattle.arm64.specs.Codes.{code, fp, k_regp, k_regp_x, k_add_fp, k_fplr, k_fplr_x, k_r19_r20_x, k_set_fp, k_save_next, form_for, register_fits, code_fits}
use Rattle.arm64.specs.Lists.{Epilogue, Function}
use Rattle.arm64.specs.Meaning.{reverse}
use Rattle.arm64.specs.Runs.{same_code, same_codes, shorter, next_pair, next_or, simple, pair_behind, simplify, simple_fits, run_fits, run_bytes, run_size, leads, is_in, own_runs, runs_bytes, place_in, index_of}
use Rattle.arm64.specs.Reader.{run_at}
use Rattle.arm64.specs.Writer.{has_register, has_offset, code_ok, prologue_run, epilogue_run, epilogue_runs, own_of, codes_of, index_in}
use Rattle.arm64.proofs.MeaningLaws.{or-false, by_pick}
use Rattle.arm64.proofs.PackingLaws.{equal_all}
use Rattle.arm64_back.specs.Back.{AllFine, whole_code, BytesAt}
use Rattle.arm64_back.proofs.RunBack.{stands_behind, stands_before, stands_first, run_back, run_inside}
use Rattle.std.proofs.lemmas.Bool.{and_parts, and_from, or_left, or_right}

-- ---- what is written of a code that was asked 13 is such a code too

simple_whole : (b c : Code) → whole_code c ≡ true → whole_code (simple b c) ≡ true
unfolding simple next_or shorter whole_code code_ok has_register has_offset
simple_whole b c ok =
    let P : Code → Type 0 = λ d. whole_code d ≡ true in
    by_pick P (eqb (shorter c).kind k_regp && same_code (next_pair b) (shorter c)) (code k_save_next 0 0) (shorter c) (λ t. refl) λ t.
    by_pick P (eqb c.kind k_regp && eqb c.register fp) (code k_fplr 0 c.offset) _ (λ t. refl) λ t.
    by_pick P (eqb c.kind k_regp_x && eqb c.register fp) (code k_fplr_x 0 c.offset) _ (λ t. refl) λ t.
    by_pick P (eqb c.kind k_regp_x && eqb c.register 19 && leb c.offset 248) (code k_r19_r20_x 0 c.offset) _ (λ t. refl) λ t.
    by_pick P (eqb c.kind k_add_fp && eqb c.offset 0) (code k_set_fp 0 0) c (λ t. refl) λ t. ok

pub runs_fine : (b : Code) (cs : List Code) → all whole_code cs ≡ true → run_fits b cs ≡ true → AllFine (simplify b cs)
unfolding all run_fits simplify simple_fits
runs_fine b [] w e = tt
runs_fine b (c ∷ cs) w e =
    let p = and_parts (whole_code c) (all whole_code cs) w in
    let q = and_parts (register_fits (form_for (shorter c)) (shorter c) && code_fits (simple b c)) (run_fits (pair_behind b (simple b c)) cs) e in
    let r = and_parts (register_fits (form_for (shorter c)) (shorter c)) (code_fits (simple b c)) q.0 in
    ((simple_whole b c p.0, r.1), runs_fine (pair_behind b (simple b c)) cs p.1 q.1)

all_append : {A : Type 0} (f : A → Bool) (xs ys : List A) → all f xs ≡ true → all f ys ≡ true → all f (xs ++ ys) ≡ true
unfolding all
all_append f [] ys a b = b
all_append f (x ∷ xs) ys a b =
    let p = and_parts (f x) (all f xs) a in and_from _ _ p.0 (all_append f xs ys p.1 b)

pub all-reverse : {A : Type 0} (f : A → Bool) (xs : List A) → all f xs ≡ true → all f (reverse xs) ≡ true
unfolding all reverse
all-reverse f [] a = refl
all-reverse f (x ∷ xs) a =
    let p = and_parts (f x) (all f xs) a in all_append f (reverse xs) (x ∷ []) (all-reverse f xs p.1) (and_from _ _ p.0 refl)

-- ---- runs behind the prologue's

in_append : (r : List Code) (qs rs : List (List Code)) → is_in r rs ≡ true → is_in r (qs ++ rs) ≡ true
unfolding is_in
in_append r [] rs e = e
in_append r (q ∷ qs) rs e = or_right (same_codes r q) _ (in_append r qs rs e)

first_in : (r q : List Code) (qs : List (List Code)) → same_codes r q ≡ true → is_in r (pick false [] (q ∷ []) ++ qs) ≡ true
unfolding pick is_in
first_in r q qs t = or_left _ (is_in r qs) t

-- a run that is neither the prologue's end nor seen before is written
pub own_in : (ps : List Code) (seen runs : List (List Code)) (r : List Code) → is_in r runs ≡ true → leads r ps ≡ false → is_in r seen ≡ false
    → is_in r (own_runs ps seen runs) ≡ true
unfolding is_in own_runs
own_in ps seen [] r e n m = absurd (false≢true e)
own_in ps seen (q ∷ runs) r e n m =
    decided (same_codes r q)
    (λ t.
    let same : r ≡ q = equal_all r q t in
    let no : (leads q ps || is_in q seen) ≡ false = ap (λ x. leads x ps || is_in x seen) (sym same) ∙ (λ i. n i || m i) in
    subst (λ (b : Bool). is_in r (pick b [] (q ∷ []) ++ own_runs ps (q ∷ seen) runs) ≡ true) (sym no) (first_in r q (own_runs ps (q ∷ seen) runs) t))
    λ f.
    in_append r (pick (leads q ps || is_in q seen) [] (q ∷ [])) (own_runs ps (q ∷ seen) runs)
    (own_in ps (q ∷ seen) runs r (or-false (same_codes r q) (is_in r runs) f e) n ((λ i. f i || m i)))

first_place : (r q : List Code) (qs : List (List Code)) → same_codes r q ≡ true
    → BytesAt (run_bytes q ++ runs_bytes qs) (pick true 0 (length (run_bytes q) + place_in r qs)) (run_bytes r)
unfolding pick
first_place r q qs t =
    subst (λ x. BytesAt (run_bytes q ++ runs_bytes qs) 0 (run_bytes x)) (sym (equal_all r q t)) (stands_first (run_bytes q) (runs_bytes qs))

later_place : (r q : List Code) (qs : List (List Code)) → BytesAt (runs_bytes qs) (place_in r qs) (run_bytes r)
    → BytesAt (run_bytes q ++ runs_bytes qs) (pick false 0 (length (run_bytes q) + place_in r qs)) (run_bytes r)
unfolding pick
later_place r q qs t = stands_behind (run_bytes q) t

-- a run stands at its place
pub place_in_lem : (r : List Code) (own : List (List Code)) → is_in r own ≡ true → BytesAt (runs_bytes own) (place_in r own) (run_bytes r)
unfolding is_in runs_bytes place_in run_size
place_in_lem r [] e = absurd (false≢true e)
place_in_lem r (q ∷ qs) e =
    decided (same_codes r q)
    (λ t.
    subst (λ (b : Bool). BytesAt (run_bytes q ++ runs_bytes qs) (pick b 0 (length (run_bytes q) + place_in r qs)) (run_bytes r)) (sym t)
    (first_place r q qs t))
    λ f.
    subst (λ (b : Bool). BytesAt (run_bytes q ++ runs_bytes qs) (pick b 0 (length (run_bytes q) + place_in r qs)) (run_bytes r)) (sym f)
    (later_place r q qs (place_in_lem r qs (or-false (same_codes r q) (is_in r qs) f e)))

-- ---- the index of an epilogue's run

index_of_lem : (ps : List Code) (runs : List (List Code)) (r : List Code) → is_in r runs ≡ true
    → BytesAt (run_bytes ps ++ runs_bytes (own_runs ps [] runs)) (index_of ps (own_runs ps [] runs) r) (run_bytes r)
unfolding index_of pick run_size is_in
index_of_lem ps runs r e =
    let own : List (List Code) = own_runs ps [] runs in
    decided (leads r ps) (λ t. rw t (stands_before (runs_bytes own) (run_inside r ps t)))
    λ f. rw f (stands_behind (run_bytes ps) (place_in_lem r own (own_in ps [] runs r e f refl)))

module _ (f : Function) (e : Epilogue) (h : is_in (epilogue_run e) (epilogue_runs f) ≡ true) where
  pub index_stands : BytesAt (codes_of f) (index_in f e) (run_bytes (epilogue_run e))
  unfolding codes_of index_in own_of
  index_stands = index_of_lem (prologue_run f) (epilogue_runs f) (epilogue_run e) h

  pub index_read : (padding : List ℕ) → AllFine (epilogue_run e) → run_at (codes_of f ++ padding) (index_in f e) ≡ some (reverse (epilogue_run e))
  index_read padding fine = run_back (codes_of f ++ padding) (index_in f e) (epilogue_run e) fine (stands_before padding index_stands)

-- The prologue's is read from the first of them.
pub prologue_back : (f : Function) (padding : List ℕ) → AllFine (prologue_run f) → run_at (codes_of f ++ padding) 0 ≡ some (reverse (prologue_run f))
unfolding codes_of
prologue_back f padding fine =
    run_back ((run_bytes (prologue_run f) ++ runs_bytes (own_of f)) ++ padding) 0 (prologue_run f) fine
    (stands_before padding (stands_first (run_bytes (prologue_run f)) (runs_bytes (own_of f))))

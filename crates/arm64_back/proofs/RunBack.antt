-- A run of codes read from its bytes, also from inside of a longer run.
use mathlib.Core.Path.{◌≡◌, refl, subst, sym, ap, ◌∙◌}
use mathlib.Core.Bool.{true, false≢true}
use mathlib.Core.Logic.{◌≢◌}
use mathlib.Core.Option.{some}
use mathlib.Core.List.{List, [], ◌∷◌, ◌++◌, append_assoc, append-nil}
use Prim.Native.Nat.{ℕ, zero, suc, ◌+◌, ◌-◌, ◌≤◌, ◌<◌}
use native.Mathlib.Omega.{arith}
use lib.ListN.{length, length-append}
use lib.Seq.{get_or-append_seam}
use Rattle.format.specs.Prelude.{pick, after}
use Rattle.format.proofs.Choice.{if-le, if-eq, if-ne}
use Rattle.arm64.specs.declared.Code.{Code}
use Rattle.arm64.specs.Codes.{code, k_end, form_of, other_form, field_at, code_in, code_as, code_at, code_bytes}
use Rattle.arm64.specs.Meaning.{reverse}
use Rattle.arm64.specs.Runs.{same_code, backwards, end_byte, run_bytes, run_size, leads}
use Rattle.arm64.specs.Reader.{in_front, run_f, run_at}
use Rattle.arm64.proofs.MeaningLaws.{equal}
use Rattle.arm64_back.specs.Back.{Fine, AllFine, BytesAt}
use Rattle.arm64_back.proofs.CodeBack.{known_kind, code_some, code_back}
use Rattle.std.proofs.lemmas.Bool.{and_parts}

-- ---- bytes that stand at a place of others

pub stands_behind : {s bs : List ℕ} {p : ℕ} (xs : List ℕ) → BytesAt s p bs → BytesAt (xs ++ s) (length xs + p) bs
stands_behind {bs = bs} xs t =
    record {
      front = xs ++ t.front;
      behind = t.behind;
      is = ap (λ l. xs ++ l) t.is ∙ sym (append_assoc xs t.front (bs ++ t.behind));
      place = omega (arith, t.place, length-append xs t.front);
    }

pub stands_before : {s bs : List ℕ} {p : ℕ} (ys : List ℕ) → BytesAt s p bs → BytesAt (s ++ ys) p bs
stands_before {bs = bs} ys t =
    record {
      front = t.front;
      behind = t.behind ++ ys;
      is = ap (λ l. l ++ ys) t.is ∙ append_assoc t.front (bs ++ t.behind) ys ∙ ap (λ l. t.front ++ l) (append_assoc bs t.behind ys);
      place = t.place;
    }

pub stands_first : (bs ys : List ℕ) → BytesAt (bs ++ ys) 0 bs
stands_first bs ys = record { front = []; behind = ys; is = refl; place = refl }

pub stands_inside : {s bs : List ℕ} {p : ℕ} → BytesAt s p bs → p + length bs ≤ length s
stands_inside {bs = bs} t =
    omega (arith, t.place, ap length t.is, length-append t.front (bs ++ t.behind), length-append bs t.behind)

pub stands_left : {s : List ℕ} {p : ℕ} (us vs : List ℕ) → BytesAt s p (us ++ vs) → BytesAt s p us
stands_left us vs t =
    record {
      front = t.front;
      behind = vs ++ t.behind;
      is = t.is ∙ ap (λ l. t.front ++ l) (append_assoc us vs t.behind);
      place = t.place;
    }

pub stands_right : {s : List ℕ} {p : ℕ} (us vs : List ℕ) → BytesAt s p (us ++ vs) → BytesAt s (p + length us) vs
stands_right us vs t =
    record {
      front = t.front ++ us;
      behind = t.behind;
      is = t.is ∙ ap (λ l. t.front ++ l) (append_assoc us vs t.behind) ∙ sym (append_assoc t.front us (vs ++ t.behind));
      place = omega (arith, t.place, length-append t.front us);
    }

-- ---- reading, whatever the fuel

abbrev Gives : List ℕ → ℕ → List Code → Type 0
Gives s p cs = (f : ℕ) → length s < p + f → run_f f s p ≡ some cs

module _ (s : List ℕ) (p : ℕ) {c : Code} {q : ℕ} (e : code_at s p ≡ some (c, q)) (l : p < q) (h : q ≤ length s) where
  end_given : c.kind ≡ k_end → Gives s p []
  unfolding run_f after
  end_given k zero g = absurd (omega arith)
  end_given k (suc f) g = rw e (if-eq c.kind k_end _ _ k)

  one_given : c.kind ≢ k_end → {cs : List Code} → Gives s q cs → Gives s p (c ∷ cs)
  unfolding run_f after in_front
  one_given k next zero g = absurd (omega arith)
  one_given k next (suc f) g = rw e (if-ne c.kind k_end _ _ k ∙ rw (next f (omega arith)))

module _ (s : List ℕ) where
  code_given : (p : ℕ) (c : Code) → Fine c → BytesAt s p (code_bytes c) → {ds : List Code} → Gives s (p + length (code_bytes c)) ds → Gives s p (c ∷ ds)
  code_given p c fine t next =
      let e : code_at s p ≡ some (c, p + length (code_bytes c)) =
      (λ i. code_at (t.is i) (t.place i)) ∙ code_back c fine.0 fine.1 t.front t.behind
      ∙ ap (λ (n : ℕ). some (c, n + length (code_bytes c))) (sym t.place) in
      let k : c.kind ≢ k_end = λ g. absurd (omega (arith, known_kind c fine.0, g)) in
      one_given s p e (omega (arith, code_some c fine.0)) (stands_inside t) k next

  codes_given : (p : ℕ) (cs : List Code) → AllFine cs → BytesAt s p (backwards cs) → {ds : List Code} → Gives s (p + length (backwards cs)) ds
      → Gives s p (reverse cs ++ ds)
  unfolding backwards reverse
  codes_given p [] fine t {ds} next = let e : p + 0 ≡ p = omega arith in subst (λ (n : ℕ). Gives s n ds) e next
  codes_given p (c ∷ cs) fine t {ds} next =
      let behind : p + length (backwards cs) + length (code_bytes c) ≡ p + length (backwards cs ++ code_bytes c) =
      omega (arith, length-append (backwards cs) (code_bytes c)) in
      subst (λ l. Gives s p l) (sym (append_assoc (reverse cs) (c ∷ []) ds))
      (codes_given p cs fine.1 (stands_left (backwards cs) (code_bytes c) t)
      (code_given (p + length (backwards cs)) c fine.0 (stands_right (backwards cs) (code_bytes c) t)
      (subst (λ (n : ℕ). Gives s n ds) (sym behind) next)))

-- ---- the end of a run

end_code : (us vs : List ℕ) → code_at (us ++ end_byte ∷ vs) (length us) ≡ some (code k_end 0 0, length us + 1)
unfolding code_at code_as code_in field_at form_of other_form pick
end_code us vs =
    let there : suc (length us) ≤ length (us ++ end_byte ∷ vs) = omega (arith, length-append us (end_byte ∷ vs)) in
    let ends : length us + 1 ≤ length (us ++ end_byte ∷ vs) = omega (arith, length-append us (end_byte ∷ vs)) in
    rw (if-le (suc (length us)) (length (us ++ end_byte ∷ vs)), get_or-append_seam us end_byte vs 0, if-le (length us + 1) (length (us ++ end_byte ∷ vs)))

module _ (s : List ℕ) (p : ℕ) (cs : List Code) (fine : AllFine cs) (t : BytesAt s p (run_bytes cs)) where
  end_there : Gives s (p + length (backwards cs)) []
  unfolding run_bytes
  end_there =
      let u = stands_right (backwards cs) (end_byte ∷ []) t in
      let e : code_at s (p + length (backwards cs)) ≡ some (code k_end 0 0, p + length (backwards cs) + 1) =
      (λ i. code_at (u.is i) (u.place i)) ∙ end_code u.front u.behind
      ∙ ap (λ (n : ℕ). some (code k_end 0 0, n + 1)) (sym u.place) in
      end_given s (p + length (backwards cs)) e (omega arith) (stands_inside u) refl

  -- A run that stands at a place, with anything in front and behind, is read from there: the last saved code first.
  pub run_back : run_at s p ≡ some (reverse cs)
  unfolding run_at run_bytes
  run_back =
      let g = codes_given s p cs fine (stands_left (backwards cs) (end_byte ∷ []) t) end_there (suc (length s)) (omega arith) in
      g ∙ ap some (append-nil (reverse cs))

-- ---- a run whose codes are the first of another's stands at the end of that one's bytes

backwards-append : (cs ds : List Code) → backwards (cs ++ ds) ≡ backwards ds ++ backwards cs
unfolding backwards
backwards-append [] ds = sym (append-nil (backwards ds))
backwards-append (c ∷ cs) ds = ap (λ l. l ++ code_bytes c) (backwards-append cs ds) ∙ append_assoc (backwards ds) (backwards cs) (code_bytes c)

record Leading (r ps : List Code) : Type 0 where
  rest : List Code
  are : ps ≡ r ++ rest

leading : (r ps : List Code) → leads r ps ≡ true → Leading r ps
unfolding leads
leading [] ps e = record { rest = ps; are = refl }
leading (c ∷ cs) [] e = absurd (false≢true e)
leading (c ∷ cs) (p ∷ ps) e =
    let q = and_parts (same_code c p) (leads cs ps) e in
    let l = leading cs ps q.1 in
    record { rest = l.rest; are = ap (λ ds. p ∷ ds) l.are ∙ ap (λ d. d ∷ (cs ++ l.rest)) (sym (equal c p q.0)) }

pub run_inside : (r ps : List Code) → leads r ps ≡ true → BytesAt (run_bytes ps) (run_size ps - run_size r) (run_bytes r)
unfolding run_bytes run_size
run_inside r ps e =
    let l = leading r ps e in
    let b : backwards ps ≡ backwards l.rest ++ backwards r = ap backwards l.are ∙ backwards-append r l.rest in
    let same : backwards ps ++ (end_byte ∷ []) ≡ backwards l.rest ++ (backwards r ++ (end_byte ∷ [])) =
    ap (λ x. x ++ (end_byte ∷ [])) b ∙ append_assoc (backwards l.rest) (backwards r) (end_byte ∷ []) in
    record {
      front = backwards l.rest;
      behind = [];
      is = same ∙ ap (λ x. backwards l.rest ++ x) (sym (append-nil (backwards r ++ (end_byte ∷ []))));
      place = omega (arith, ap length same, length-append (backwards l.rest) (backwards r ++ (end_byte ∷ [])));
    }

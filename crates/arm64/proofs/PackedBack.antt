-- A packed function read back: the reader answers its length, a prologue and an epilogue that mean what was given, and the epilogue's start.
use mathlib.Core.Path.{◌≡◌, refl, sym, ap, ◌∙◌}
use mathlib.Core.Bool.{Bool, true, false, ◌&&◌, ◌||◌, false≢true}
use mathlib.Core.Option.{none, some}
use mathlib.Core.List.{List, [], ◌∷◌}
use Prim.Native.Nat.{ℕ, suc, ◌+◌, ◌-◌, ◌*◌, ◌/◌, ◌%◌, ◌^◌, ◌≤◌, ◌<◌}
use native.Mathlib.Omega.{arith}
use lib.Dec.{leb, ltb, eqb}
use lib.ListN.{length}
use borrow.Author.Tests.{eqb-true, leb-true, ltb-true, lt-ltb}
use Rattle.format.specs.Prelude.{pick, after, Result, good, or_else}
use Rattle.format.proofs.Choice.{if-ne, if-le}
use Rattle.arm64.specs.declared.Code.{Code}
use Rattle.arm64.specs.declared.Packed.{Packed}
use Rattle.arm64.specs.Lists.{Epilogue, Function}
use Rattle.arm64.specs.Packed.{packed_of, packed_ok, packed_prologue, packed_epilogue}
use Rattle.arm64.specs.Meaning.{effects, reverse, prologue_means, epilogue_means}
use Rattle.arm64.specs.Reader.{Unwound, epilogue, at_end, unwound, packed_epilogues, packed_unwound, unwound_by}
use Rattle.arm64.specs.Runs.{no_pair, simple, simplify, resolve, pair_behind, same_codes, leads}
use Rattle.arm64.specs.Packing.{chain_behind, tally, tallies, nothing_yet, as_fields, candidate, packed_word, fields_hold, stands_for}
use Rattle.arm64.specs.Writer.{instructions, prologue_run, epilogue_run, index_in, codes_of, ends_with, packed_for}
use Rattle.arm64.proofs.MeaningLaws.{simplify_means}
use Rattle.arm64.proofs.PackingLaws.{equal_all, reverse_twice, reverse-length, packed_prologue_lem, packed_epilogue_lem}
use Rattle.std.proofs.lemmas.Bool.{and_parts}

-- ---- the word's fields

pub record Held (p : Packed) : Type 0 where
  pub flag : p.flag ≡ 1
  pub length : p.length < 2048
  pub vectors : p.vectors < 8
  pub registers : p.registers < 16
  pub homes : p.homes ≡ 0
  pub chain : p.chain < 4
  pub frame : p.frame < 512

abbrev packed : (flag length vectors registers homes chain frame : ℕ) → Packed
packed a b c d e f g = record { flag = a; length = b; vectors = c; registers = d; homes = e; chain = f; frame = g }

same_fields : {a a' b b' c c' d d' e e' f f' g g' : ℕ} → a ≡ a' → b ≡ b' → c ≡ c' → d ≡ d' → e ≡ e' → f ≡ f' → g ≡ g'
    → packed a b c d e f g ≡ packed a' b' c' d' e' f' g'
same_fields {a} {a'} {b} {b'} {c} {c'} {d} {d'} {e} {e'} {f} {f'} {g} {g'} p q r s t u v =
    ap (λ (x : ℕ). packed x b c d e f g) p ∙ ap (λ (x : ℕ). packed a' x c d e f g) q ∙ ap (λ (x : ℕ). packed a' b' x d e f g) r
    ∙ ap (λ (x : ℕ). packed a' b' c' x e f g) s ∙ ap (λ (x : ℕ). packed a' b' c' d' x f g) t ∙ ap (λ (x : ℕ). packed a' b' c' d' e' x g) u
    ∙ ap (λ (x : ℕ). packed a' b' c' d' e' f' x) v

module _ (p : Packed) (h : Held p) where
  pub word_back : packed_of (packed_word p) ≡ p
  unfolding packed_of packed_word
  word_back =
      same_fields (omega (arith, h.flag)) (omega (arith, h.flag, h.length)) (omega (arith, h.flag, h.length, h.vectors))
      (omega (arith, h.flag, h.length, h.vectors, h.registers)) (omega (arith, h.flag, h.length, h.vectors, h.registers, h.homes))
      (omega (arith, h.flag, h.length, h.vectors, h.registers, h.homes, h.chain))
      (omega (arith, h.flag, h.length, h.vectors, h.registers, h.homes, h.chain))

  pub word_flag : packed_word p % 4 ≡ 1
  unfolding packed_word
  word_flag = omega (arith, h.flag)

  pub word_low : packed_word p < 2 ^ 32
  unfolding packed_word
  word_low = omega (arith, h.flag, h.length, h.vectors, h.registers, h.homes, h.chain, h.frame)

-- ---- the counts of a prologue

by_test : (t : Bool) {x y k : ℕ} → x < k → y < k → pick t x y < k
unfolding pick
by_test true h g = h
by_test false h g = g

chain_low : (n : ℕ) (c : Code) → n < 4 → chain_behind n c < 4
unfolding chain_behind
chain_low n c h =
    by_test (eqb c.kind 17) (omega arith)
    (by_test (eqb c.kind 2 || eqb c.kind 3) (by_test (eqb n 2) (omega arith) (omega arith))
    (by_test (eqb c.kind 8 || ((eqb c.kind 6 || eqb c.kind 7) && eqb c.register 30)) (by_test (eqb n 0) (omega arith) h) h))

record Counted (size : ℕ) (p : Packed) : Type 0 where
  flag : p.flag ≡ 1
  length : p.length ≡ size
  homes : p.homes ≡ 0
  chain : p.chain < 4

one_counted : (size : ℕ) (p : Packed) (c : Code) → Counted size p → Counted size (tally p c)
unfolding tally
one_counted size p c d = record { flag = d.flag; length = d.length; homes = d.homes; chain = chain_low p.chain c d.chain }

counted : (size : ℕ) (p : Packed) (cs : List Code) → Counted size p → Counted size (tallies p cs)
unfolding tallies
counted size p [] c = c
counted size p (d ∷ cs) c = counted size (tally p d) cs (one_counted size p d c)

candidate_counted : (size : ℕ) (ps : List Code) → Counted size (candidate size ps)
unfolding candidate as_fields nothing_yet
candidate_counted size ps =
    let c = counted size (nothing_yet size) (resolve no_pair ps) (record { flag = refl; length = refl; homes = refl; chain = omega arith }) in
    record { flag = c.flag; length = c.length; homes = c.homes; chain = c.chain }

pick_true : (t x : Bool) → pick t x false ≡ true → t ≡ true
unfolding pick
pick_true true x e = refl
pick_true false x e = absurd (false≢true e)

ok_registers : (p : Packed) → packed_ok p ≡ true → p.registers ≤ 10
unfolding packed_ok
ok_registers p e = leb-true p.registers 10 (pick_true (leb p.registers 10) _ e)

module _ (size : ℕ) (ps r : List Code) (t : stands_for (candidate size ps) ps r ≡ true) where
  abbrev here : Packed
  here = candidate size ps

  firsts : (fields_hold here && packed_ok here) ≡ true
  unfolding stands_for
  firsts =
      (and_parts (fields_hold here && packed_ok here) (same_codes (resolve no_pair ps) (packed_prologue here))
      (and_parts (fields_hold here && packed_ok here && same_codes (resolve no_pair ps) (packed_prologue here))
      (same_codes (reverse (resolve no_pair r)) (packed_epilogue here)) t).0).0

  pub ok : packed_ok here ≡ true
  ok = (and_parts (fields_hold here) (packed_ok here) firsts).1

  pub held : Held here
  unfolding fields_hold
  held =
      let f = (and_parts (fields_hold here) (packed_ok here) firsts).0 in
      let a = and_parts (ltb here.length (2 ^ 11) && ltb here.vectors 8) (ltb here.frame (2 ^ 9)) f in
      let b = and_parts (ltb here.length (2 ^ 11)) (ltb here.vectors 8) a.0 in
      let c = candidate_counted size ps in
      record {
        flag = c.flag;
        length = ltb-true here.length (2 ^ 11) b.0;
        vectors = ltb-true here.vectors 8 b.1;
        registers = omega (arith, ok_registers here ok);
        homes = c.homes;
        chain = c.chain;
        frame = ltb-true here.frame (2 ^ 9) a.1;
      }

  pub epilogue_same : reverse (resolve no_pair r) ≡ packed_epilogue here
  unfolding stands_for
  epilogue_same =
      equal_all _ _
      (and_parts (fields_hold here && packed_ok here && same_codes (resolve no_pair ps) (packed_prologue here))
      (same_codes (reverse (resolve no_pair r)) (packed_epilogue here)) t).1

-- ---- lengths

resolve-length : (b : Code) (cs : List Code) → length (resolve b cs) ≡ length cs
unfolding resolve
resolve-length b [] = refl
resolve-length b (c ∷ cs) = ap suc (resolve-length (pair_behind b c) cs)

pub simplify-length : (b : Code) (cs : List Code) → length (simplify b cs) ≡ length cs
unfolding simplify
simplify-length b [] = refl
simplify-length b (c ∷ cs) = ap suc (simplify-length (pair_behind b (simple b c)) cs)

-- ---- what the reader answers

module _ (p : Packed) (h : Held p) (o : packed_ok p ≡ true) (s : List ℕ) (place : ℕ) where
  -- an epilogue that is shorter than the function
  module _ (l : length (packed_epilogue p) < p.length) where
    abbrev answered : Unwound
    answered = unwound p.length (packed_prologue p) (epilogue (4 * (p.length - suc (length (packed_epilogue p)))) (packed_epilogue p) ∷ [])

    at_end_lem : packed_epilogues p ≡ some (epilogue (4 * (p.length - suc (length (packed_epilogue p)))) (packed_epilogue p) ∷ [])
    unfolding packed_epilogues at_end
    at_end_lem =
        let n : p.flag ≡ 2 → ⊥ = λ e. absurd (omega (arith, h.flag, e)) in
        let g : suc (length (packed_epilogue p)) ≤ p.length = omega (arith, l) in
        rw (if-ne p.flag 2) (rw (if-le (suc (length (packed_epilogue p))) p.length) refl)

    fields_read : packed_unwound p ≡ some answered
    unfolding packed_unwound pick after
    fields_read = rw o (rw at_end_lem refl)

    pub word_read : unwound_by (packed_word p) s place ≡ good answered
    unfolding unwound_by pick or_else
    word_read =
        let e : packed_unwound (packed_of (packed_word p)) ≡ some answered = ap packed_unwound (word_back p h) ∙ fields_read in
        rw (word_flag p h) (rw (lt-ltb (packed_word p) (2 ^ 32) (word_low p h)) (rw e refl))

effects_given : (cs : List Code) → effects none (simplify no_pair cs) ≡ effects none cs
unfolding prologue_means
effects_given cs = simplify_means cs

-- ---- a packed function

-- what the reader says of a function: its length, one epilogue at its start, and codes that mean what was given
pub record Back (f : Function) (e : Epilogue) (r : Result Unwound) : Type 0 where
  pub codes : List Code
  pub undoing : List Code
  pub answer : r ≡ good (record { size = f.size; prologue = codes; epilogues = epilogue e.start undoing ∷ [] })
  pub prologue : prologue_means codes ≡ prologue_means f.prologue
  pub epilogue_means_lem : epilogue_means undoing ≡ epilogue_means e.codes

module _ (f : Function) (e : Epilogue) (z : f.size % 4 ≡ 0) (y : e.start % 4 ≡ 0) (x : e.start < f.size) (t : packed_for f e ≡ true)
    (s : List ℕ) (place : ℕ) where
  abbrev word : Packed
  word = candidate (instructions f.size) (prologue_run f)

  parts : (ends_with f e ≡ true) × (stands_for word (prologue_run f) (epilogue_run e) ≡ true)
  unfolding packed_for
  parts =
      let a = and_parts (ends_with f e && leads (epilogue_run e) (prologue_run f)) (stands_for word (prologue_run f) (epilogue_run e)) t in
      ((and_parts (ends_with f e) (leads (epilogue_run e) (prologue_run f)) a.0).0, a.1)

  ends : (f.size - e.start) / 4 ≡ length e.codes + 1
  unfolding ends_with instructions
  ends =
      eqb-true ((f.size - e.start) / 4) (length e.codes + 1)
      (and_parts (eqb ((f.size - e.start) / 4) (length e.codes + 1)) (leb (index_in f e) 31)
      (and_parts (eqb ((f.size - e.start) / 4) (length e.codes + 1) && leb (index_in f e) 31) (leb (length (codes_of f)) 124) parts.0).0).0

  run_length : length (epilogue_run e) ≡ length e.codes
  unfolding epilogue_run
  run_length = simplify-length no_pair (reverse e.codes) ∙ reverse-length e.codes

  epilogue-length : length (packed_epilogue word) ≡ length e.codes
  epilogue-length =
      ap length (sym (epilogue_same (instructions f.size) (prologue_run f) (epilogue_run e) parts.1))
      ∙ reverse-length (resolve no_pair (epilogue_run e)) ∙ resolve-length no_pair (epilogue_run e) ∙ run_length

  word_size : word.length ≡ f.size / 4
  unfolding instructions
  word_size = (candidate_counted (f.size / 4) (prologue_run f)).length

  shorter_than : length (packed_epilogue word) < word.length
  shorter_than = omega (arith, epilogue-length, word_size, ends, z, y, x)

  size_back : 4 * word.length ≡ f.size
  size_back = omega (arith, word_size, z)

  start_back : 4 * (word.length - suc (length (packed_epilogue word))) ≡ e.start
  start_back = omega (arith, epilogue-length, word_size, ends, z, y, x)

  prologue_given : prologue_means (prologue_run f) ≡ prologue_means f.prologue
  unfolding prologue_run
  prologue_given = simplify_means f.prologue

  epilogue_given : epilogue_means (reverse (epilogue_run e)) ≡ epilogue_means e.codes
  unfolding epilogue_run epilogue_means
  epilogue_given =
      ap (λ cs. reverse (effects none cs)) (reverse_twice (simplify no_pair (reverse e.codes))) ∙ ap reverse (effects_given (reverse e.codes))

  pub packed_back : Back f e (unwound_by (packed_word word) s place)
  unfolding unwound
  packed_back =
      let a = parts.1 in
      let h = held (instructions f.size) (prologue_run f) (epilogue_run e) a in
      let o = ok (instructions f.size) (prologue_run f) (epilogue_run e) a in
      record {
        codes = packed_prologue word;
        undoing = packed_epilogue word;
        answer = word_read word h o s place shorter_than
            ∙ ap (λ (n : ℕ). good (record { size = n; prologue = packed_prologue word; epilogues = epilogue (4 * (word.length - suc (length (packed_epilogue word)))) (packed_epilogue word) ∷ [] })) size_back
            ∙ ap (λ (n : ℕ). good (record { size = f.size; prologue = packed_prologue word; epilogues = epilogue n (packed_epilogue word) ∷ [] })) start_back;
        prologue = packed_prologue_lem word (prologue_run f) (epilogue_run e) a ∙ prologue_given;
        epilogue_means_lem = packed_epilogue_lem word (prologue_run f) (epilogue_run e) a ∙ epilogue_given;
      }

-- A function's full record, read as it was written.
use mathlib.Core.Path.{◌≡◌, refl, subst, sym, ap, ◌∙◌}
use mathlib.Core.Bool.{Bool, true, false, ◌&&◌, false≢true}
use mathlib.Core.Option.{none, some}
use mathlib.Core.List.{List, [], ◌∷◌, ◌++◌, map}
use Prim.Native.Nat.{ℕ, zero, suc, ◌+◌, ◌-◌, ◌*◌, ◌/◌, ◌%◌, ◌^◌, ◌≤◌}
use native.Mathlib.Omega.{arith}
use lib.Dec.{leb, ltb, eqb}
use lib.ListN.{length, get_elem?, take, drop, replicate, length-append, length-replicate}
use lib.Seq.{take_at, drop_at}
use borrow.Author.Tests.{leb-true, ltb-true, eqb-true, le-leb, eq-eqb}
use Rattle.format.specs.Prelude.{pick, after, all, good, or_else}
use Rattle.format.specs.Leb.{little}
use Rattle.format.specs.Questions.{ask, and_then}
use Rattle.format.proofs.LebBack.{little-length}
use Rattle.format.proofs.Accepted.{asked, both}
use Rattle.format.proofs.Choice.{is_true, decided}
use Rattle.arm64.specs.declared.Epilogues.TheVariants.{Single, Scoped}
use Rattle.arm64.specs.declared.Code.{Code}
use Rattle.arm64.specs.Lists.{Epilogue, Function}
use Rattle.arm64.specs.Meaning.{reverse}
use Rattle.arm64.specs.Records.{word_at, version_of, header_at, scopes_in, codes_from, codes_to, header_fits, record_ok, scope_at}
use Rattle.arm64.specs.Records as records
use Rattle.arm64.specs.Runs.{no_pair, same_codes, run_fits, is_in}
use Rattle.arm64.specs.Reader.{run_at, at_end, epilogues_by, record_epilogues, unwound, record_unwound, full_record}
use Rattle.arm64.specs.Writer.{instructions, prologue_run, epilogue_run, epilogue_runs, codes_of, index_in, ends_with, only_one, single, first_index, count_of, words_of, is_long_for, header_word, header_bytes, scope_bytes, scopes_of, nop_byte, record_bytes, longest, size_ok, start_ok, values_ok, function_asks}
use Rattle.arm64.proofs.PackingLaws.{reverse_twice}
use Rattle.arm64_back.specs.Back.{AllFine, whole_code, whole_codes, written_epilogue, written, BytesAt}
use Rattle.arm64_back.proofs.RunBack.{stands_left, stands_right, stands_inside}
use Rattle.arm64.proofs.PackingLaws.{same_all}
use Rattle.arm64_back.proofs.IndexBack.{runs_fine, all-reverse, index_read, prologue_back}
use Rattle.arm64_back.proofs.HeaderBack.{Held, Headed, header_for, header_back}
use Rattle.arm64_back.proofs.ScopeBack.{Placed, AllPlaced, whole_instructions, scope_length, scopes_back, end_back}
use Rattle.std.proofs.lemmas.Bool.{and_parts, and_from, or_left, or_right}

-- ---- what the questions say of a function

pub record Asked (f : Function) : Type 0 where
  pub held : Held f
  pub prologue : AllFine (prologue_run f)
  pub epilogues : AllPlaced f f.epilogues

pub ask_yes : (test : Bool) (n p : ℕ) → ask test n p ≡ none → test ≡ true
ask_yes test n p e = is_true test (asked test n p e)

module _ (f : Function) where
  placed_from : (es : List Epilogue) → ((r : List Code) → is_in r (map epilogue_run es) ≡ true → is_in r (epilogue_runs f) ≡ true)
      → all (start_ok f) es ≡ true → all (λ e. run_fits no_pair (reverse e.codes)) es ≡ true → all (λ e. all whole_code e.codes) es ≡ true → AllPlaced f es
  unfolding all is_in start_ok epilogue_run
  placed_from [] up a b c = tt
  placed_from (e ∷ es) up a b c =
      let p = and_parts (eqb (e.start % 4) 0 && ltb e.start f.size) (all (start_ok f) es) a in
      let q = and_parts (run_fits no_pair (reverse e.codes)) (all (λ e. run_fits no_pair (reverse e.codes)) es) b in
      let r = and_parts (all whole_code e.codes) (all (λ e. all whole_code e.codes) es) c in
      let o = and_parts (eqb (e.start % 4) 0) (ltb e.start f.size) p.0 in (
        record {
          whole = eqb-true (e.start % 4) 0 o.0;
          low = ltb-true e.start f.size o.1;
          known = up (epilogue_run e) (or_left _ (is_in (epilogue_run e) (map epilogue_run es)) (same_all (epilogue_run e)));
          fine = runs_fine no_pair (reverse e.codes) (all-reverse whole_code e.codes r.0) q.0;
        },
        placed_from es (λ r t. up r (or_right (same_codes r (epilogue_run e)) _ t)) p.1 q.1 r.1,
      )

  -- 13 of its codes, then 81, 82 and 83
  pub all_asked : whole_codes f ≡ true → (k : ℕ) → function_asks k f ≡ none → Asked f
  unfolding function_asks whole_codes size_ok values_ok prologue_run epilogue_runs
  all_asked w k e =
      let a = both (ask (size_ok f) 81 0) (and_then (ask (all (start_ok f) f.epilogues) 82 0) (ask (values_ok f) 83 0)) e in
      let b = both (ask (all (start_ok f) f.epilogues) 82 0) (ask (values_ok f) 83 0) a.1 in
      let size = and_parts (eqb (f.size % 4) 0) (leb (instructions f.size) longest) (ask_yes (size_ok f) 81 0 a.0) in
      let c = and_parts (run_fits no_pair f.prologue && all (λ e. run_fits no_pair (reverse e.codes)) f.epilogues && ltb (count_of f) (2 ^ 16)) (ltb (words_of f) (2 ^ 8)) (ask_yes (values_ok f) 83 0 b.1) in
      let d = and_parts (run_fits no_pair f.prologue && all (λ e. run_fits no_pair (reverse e.codes)) f.epilogues) (ltb (count_of f) (2 ^ 16)) c.0 in
      let g = and_parts (run_fits no_pair f.prologue) (all (λ e. run_fits no_pair (reverse e.codes)) f.epilogues) d.0 in
      let h = and_parts (all whole_code f.prologue) (all (λ e. all whole_code e.codes) f.epilogues) w in
      let l : instructions f.size ≤ 2 ^ 18 - 1 = leb-true (instructions f.size) longest size.1 in
      record {
        held = record {
          whole = eqb-true (f.size % 4) 0 size.0;
          long = omega (arith, l);
          count = ltb-true (count_of f) (2 ^ 16) d.1;
          words = ltb-true (words_of f) (2 ^ 8) c.1;
        };
        prologue = runs_fine no_pair f.prologue h.0 g.0;
        epilogues = placed_from f.epilogues (λ r t. t) (ask_yes (all (start_ok f) f.epilogues) 82 0 b.0) g.1 h.1;
      }

-- ---- the parts of a record

-- an only epilogue
pub record Only (test : Epilogue → Bool) (es : List Epilogue) : Type 0 where
  pub one : Epilogue
  pub are : es ≡ one ∷ []
  pub passes : test one ≡ true

pub only : (test : Epilogue → Bool) (es : List Epilogue) → only_one test es ≡ true → Only test es
unfolding only_one
only test [] e = absurd (false≢true e)
only test (x ∷ []) e = record { one = x; are = refl; passes = e }
only test (x ∷ y ∷ es) e = absurd (false≢true e)

padded : Function → List ℕ
padded f = replicate (4 * words_of f - length (codes_of f)) nop_byte

module _ (f : Function) where
  padded_length : length (codes_of f ++ padded f) ≡ 4 * words_of f
  unfolding padded words_of
  padded_length =
      omega (
        arith,
        length-append (codes_of f) (replicate (4 * ((length (codes_of f) + 3) / 4) - length (codes_of f)) nop_byte),
        length-replicate {A = ℕ} (4 * ((length (codes_of f) + 3) / 4) - length (codes_of f)) nop_byte,
      )

  module _ (past : ℕ) where
    scopes_size : length (scopes_of f) ≡ 4 * scopes_in (header_for f past)
    unfolding scopes_of scopes_in count_of pick
    scopes_size = decided (single f) (λ t. rw t refl) λ t. rw t (scope_length f f.epilogues)

  module _ (a : Asked f) (s : List ℕ) (past : ℕ) (scopes : BytesAt s past (scopes_of f)) where
    module _ (padding : List ℕ) (c : records.codes_of (header_for f past) s ≡ codes_of f ++ padding) where
      by_words : single f ≡ false → record_epilogues (header_for f past) s ≡ some (map written_epilogue f.epilogues)
      unfolding record_epilogues scope_at count_of scopes_of pick
      by_words t =
          let first : past + 4 * 0 ≡ past = omega arith in
          let u : BytesAt s past (scope_bytes f f.epilogues) = subst (λ (b : Bool). BytesAt s past (pick b [] (scope_bytes f f.epilogues))) t scopes in
          let e : (header_for f past).epilogues ≡ Scoped (length f.epilogues) = rw t refl in
          ap (λ x. epilogues_by x (header_for f past) s) e
          ∙ rw c
          (scopes_back f a.held s past padding 0 f.epilogues a.epilogues (subst (λ (n : ℕ). BytesAt s n (scope_bytes f f.epilogues)) (sym first) u))

      by_end : single f ≡ true → record_epilogues (header_for f past) s ≡ some (map written_epilogue f.epilogues)
      unfolding record_epilogues count_of single first_index after pick
      by_end t =
          let o = only (ends_with f) f.epilogues t in
          let e : Epilogue = o.one in
          let p : Placed f e = (subst (AllPlaced f) o.are a.epilogues).0 in
          let P : List Epilogue → Type 0 =
          λ es. after (run_at (codes_of f ++ padding) (first_index f es)) (at_end (instructions f.size)) ≡ some (map written_epilogue es) in
          let d : (header_for f past).epilogues ≡ Single (first_index f f.epilogues) = rw t refl in
          ap (λ x. epilogues_by x (header_for f past) s) d
          ∙ rw c (subst P (sym o.are) (rw (index_read f e p.known padding p.fine) (end_back f a.held e p o.passes)))

      epilogues_back : record_epilogues (header_for f past) s ≡ some (map written_epilogue f.epilogues)
      epilogues_back = decided (single f) by_end by_words

      unwound_back : record_unwound (header_for f past) s ≡ some (written f)
      unfolding record_unwound after unwound written
      unwound_back =
          let size : 4 * instructions f.size ≡ f.size = whole_instructions f.size a.held.whole in
          rw (c, prologue_back f padding a.prologue, epilogues_back)
          (λ i. some (record { size = size i; prologue = reverse_twice (prologue_run f) i; epilogues = map written_epilogue f.epilogues }))

-- ---- the record

module _ (f : Function) (a : Asked f) (s : List ℕ) (p : ℕ) (t : BytesAt s p (record_bytes f)) where
  abbrev past : ℕ
  past = p + length (header_bytes f)

  headed : Headed s p f
  unfolding record_bytes
  headed = header_back f a.held s p (stands_left (header_bytes f) _ t)

  behind_header : BytesAt s past (scopes_of f ++ (codes_of f ++ padded f))
  unfolding record_bytes padded
  behind_header = stands_right (header_bytes f) _ t

  -- the codes behind the scopes
  codes_there : BytesAt s (codes_from (header_for f past)) (codes_of f ++ padded f)
  unfolding codes_from
  codes_there =
      subst (λ (n : ℕ). BytesAt s (past + n) (codes_of f ++ padded f)) (scopes_size f past)
      (stands_right (scopes_of f) (codes_of f ++ padded f) behind_header)

  codes_are : records.codes_of (header_for f past) s ≡ codes_of f ++ padded f
  unfolding records.codes_of
  codes_are =
      let u = codes_there in
      let bs : List ℕ = codes_of f ++ padded f in
      ap (λ l. take (4 * words_of f) (drop (codes_from (header_for f past)) l)) u.is
      ∙ ap (take (4 * words_of f)) (drop_at u.front (bs ++ u.behind) (codes_from (header_for f past)) (sym u.place))
      ∙ take_at bs u.behind (4 * words_of f) (padded_length f)

  record_ok_lem : record_ok s p ≡ true
  unfolding record_ok header_fits codes_to pick
  record_ok_lem =
      let h = headed in
      let l : codes_from (header_for f past) + 4 * words_of f + 0 ≤ length s = omega (arith, stands_inside codes_there, padded_length f) in
      and_from _ _ (and_from _ _ (le-leb (p + 4) (length s) h.inside) (eq-eqb (version_of (word_at s p)) 0 h.version))
      (rw h.fields (le-leb (codes_from (header_for f past) + 4 * words_of f + 0) (length s) l))

  pub record_read : full_record s p ≡ good (written f)
  unfolding full_record pick or_else
  record_read =
      let u : record_unwound (header_at s p) s ≡ some (written f) =
      ap (λ x. record_unwound x s) headed.fields
      ∙ unwound_back f a s past (stands_left (scopes_of f) (codes_of f ++ padded f) behind_header) (padded f) codes_are in
      rw (record_ok_lem, u)

-- ---- records are whole words

header_whole : (f : Function) → length (header_bytes f) % 4 ≡ 0
unfolding header_bytes pick
header_whole f =
    decided (is_long_for f)
    (λ t.
    rw t
    (let a : length (little 4 (header_word f)) ≡ 4 = little-length 4 (header_word f) in
    let b : length (little 4 (count_of f + 2 ^ 16 * words_of f)) ≡ 4 = little-length 4 (count_of f + 2 ^ 16 * words_of f) in
    omega (arith, length-append (little 4 (header_word f)) (little 4 (count_of f + 2 ^ 16 * words_of f)))))
    λ t.
    rw t
    (let a : length (little 4 (header_word f + 2 ^ 22 * count_of f + 2 ^ 27 * words_of f)) ≡ 4 = little-length 4 (header_word f + 2 ^ 22 * count_of f + 2 ^ 27 * words_of f) in
    omega arith)

pub record_whole : (f : Function) → length (record_bytes f) % 4 ≡ 0
unfolding record_bytes padded
record_whole f =
    let rest : List ℕ = codes_of f ++ replicate (4 * words_of f - length (codes_of f)) nop_byte in
    let a : length (codes_of f ++ replicate (4 * words_of f - length (codes_of f)) nop_byte) ≡ 4 * words_of f = padded_length f in
    omega (arith, length-append (header_bytes f) (scopes_of f ++ rest), length-append (scopes_of f) rest, header_whole f, scopes_size f 0)

-- ---- a function that passes questions 13 and 81 to 83

placed_at : (f : Function) (es : List Epilogue) (i : ℕ) (e : Epilogue) → AllPlaced f es → get_elem? es i ≡ some e → Placed f e
placed_at f [] i e o g = let z : ◌≡◌ {A = ℕ} 0 1 = cc in absurd (omega arith)
placed_at f (x ∷ xs) zero e o g = let same : x ≡ e = cc in subst (Placed f) same o.0
placed_at f (x ∷ xs) (suc i) e o g = placed_at f xs i e o.1 g

module _ (f : Function) (whole : whole_codes f ≡ true) (k : ℕ) (passes : function_asks k f ≡ none) where
  -- Each epilogue's run is read from its index among the codes, with anything behind them: its codes as they are written, in the order of its
  -- instructions.
  pub index_back : (i : ℕ) (e : Epilogue) → get_elem? f.epilogues i ≡ some e → (padding : List ℕ)
      → run_at (codes_of f ++ padding) (index_in f e) ≡ some (reverse (epilogue_run e))
  index_back i e g padding =
      let p = placed_at f f.epilogues i e (all_asked f whole k passes).epilogues g in index_read f e p.known padding p.fine

  -- The full record, with anything in front and behind, is read as the function with its codes as they are written.
  pub record_back : (front behind : List ℕ) → full_record (front ++ (record_bytes f ++ behind)) (length front) ≡ good (written f)
  record_back front behind =
      record_read f (all_asked f whole k passes) (front ++ (record_bytes f ++ behind)) (length front)
      (record { front = front; behind = behind; is = refl; place = refl })

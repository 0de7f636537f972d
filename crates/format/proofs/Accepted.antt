-- From a writer's acceptance to what the laws of a section start from.
use mathlib.Core.Path.{◌≡◌, refl, ap, ◌∙◌}
use Prim.Native.Nat.{ℕ, zero, suc, ◌+◌, ◌-◌, ◌%◌, ◌^◌, ◌≤◌, ◌<◌}
use native.Mathlib.Omega.{arith}
use mathlib.Core.Bool.{Bool, true, false, ◌&&◌, ◌||◌}
use mathlib.Core.Option.{none, some}
use mathlib.Core.List.{List, [], ◌∷◌, map}
use lib.ListN.{length, get_or, get_elem?, length-map}
use lib.Dec.{T, leb, ltb, eqb, leb→le, ltb→lt, eqb→eq}
use lib.IntN.{ℤ, pos, negsuc}
use lib.Signed.{mag}
use mir.Syntax.{w32}
use mir.Val.{to_z}
use mir.Facts.{and_yes, yes_and, yes_leb, yes_ltb, sfits_to_z}
use Rattle.format.specs.Prelude.{pick, all, each}
use Rattle.format.specs.declared.Machine.{Machine}
use Rattle.format.specs.declared.Row.{Row}
use Rattle.format.specs.Machine.{machine_of, machine_ok, machine_stride, is_word_size, no_frame_pointer}
use Rattle.format.specs.Rows.{RowAt, row_whole, kind_of, reg_of, offset_of}
use Rattle.format.specs.Lists.{Function, function_stride, row_stride, landing_stride, pair_stride, field, count, row_of, row_at, function_at, functions_of, most_functions, most_records, inside, symbol_ok, mark_ok, when_marked, row_ok, row_ok_at, pair_ok_at, pointer_ok, all_in, function_ok_at, sum_of, pairs_in, lists_ok}
use Rattle.format.specs.declared.Section.{Section}
use Rattle.format.specs.declared.Section.TheVariants.{Elf, Debug}
use Rattle.format.specs.Writer.{Written, without_exceptions, taken, dwarf}
use Rattle.format.specs.Headers.{leading}
use Rattle.format.proofs.SectionBack.{fits_at}
use Rattle.format.proofs.RowsRun.{run_rows}
use Rattle.format.specs.RowCheck.{row_check, row_check_at}
use Rattle.format.specs.Questions.{Question, ask, and_then, per_function, size_bytes, steps_ok, dwarf_asks, Room, Answer, empty, accepted, unless, fitting, dwarf_answer, Given, given_functions, given_function, no_functions, given_asks, dwarf_given, format_answer, relaxed_table, relaxed_debug_frame}
use Rattle.format.proofs.RowBack.{Off32, RowFits, other_of}
use Rattle.format.proofs.WalkBack.{RowsAtOk}
use Rattle.format.proofs.Fits.{MachineFits, FunctionFits, AllFit, row_count, Bounded}
use Rattle.format.proofs.Choice.{pick_yes, pick_no, tested}
use Rattle.format.proofs.ListLaws.{each-length, each_get, get_map, chained, in_range, row_numbers}

-- a list is accepted for DWARF output when its writer neither refuses nor gives an empty result
unfoldable pub dwarf_written : Section → Given → Room → Answer
dwarf_written Elf g r = relaxed_table 0 g r
dwarf_written Debug g r = relaxed_debug_frame 0 g r

-- ---- what a section takes of a function

pub taken_size : (s : Section) (f : Function) → (taken s f).size ≡ f.size
unfolding taken without_exceptions
taken_size Elf f = refl
taken_size Debug f = refl

pub taken_rows : (s : Section) (f : Function) → (taken s f).rows ≡ f.rows
unfolding taken without_exceptions
taken_rows Elf f = refl
taken_rows Debug f = refl

pub taken_plain : (s : Section) (f : Function) → f.relaxed ≡ none → (taken s f).relaxed ≡ none
unfolding taken without_exceptions
taken_plain Elf f e = e
taken_plain Debug f e = e

pub taken_run : (s : Section) (m : Machine) (f : Function) (p : ℕ) → run_rows m (taken s f) p ≡ run_rows m f p
unfolding taken without_exceptions run_rows leading
taken_run Elf m f p = refl
taken_run Debug m f p = refl

-- ---- questions

pub asked : (b : Bool) (n k : ℕ) → ask b n k ≡ none → T b
unfolding ask pick
asked true n k e = tt
asked false n k e = let z : ◌≡◌ {A = ℕ} 0 1 = cc in absurd (omega arith)

pub both : (p q : Question) → and_then p q ≡ none → (p ≡ none) × (q ≡ none)
unfolding and_then
both none q e = (refl, e)
both (some r) q e = let z : ◌≡◌ {A = ℕ} 0 1 = cc in absurd (omega arith)

pub and_then_assoc : (p q r : Question) → and_then p (and_then q r) ≡ and_then (and_then p q) r
unfolding and_then
and_then_assoc none q r = refl
and_then_assoc (some x) q r = refl

pub passed : (q : Question) (a : Answer) (w : Written) → unless q a ≡ accepted w → (q ≡ none) × (a ≡ accepted w)
unfolding unless
passed none a w e = (refl, e)
passed (some r) a w e = let z : ◌≡◌ {A = ℕ} 0 1 = cc in absurd (omega arith)

pub not_empty : (b : Bool) (a : Answer) (w : Written) → pick b empty a ≡ accepted w → a ≡ accepted w
unfolding pick
not_empty true a w e = let z : ◌≡◌ {A = ℕ} 0 1 = cc in absurd (omega arith)
not_empty false a w e = e

-- ---- question 11

pub machine_fits : (ms : List ℕ) → T (machine_ok ms) → MachineFits (machine_of ms)
unfolding machine_ok
machine_fits ms t =
    let m : Machine = machine_of ms in
    let says = chained (leb machine_stride (length ms)) (
    is_word_size m.word ∷ eqb (m.pushed % m.word) 0 ∷ ltb m.pushed (2 ^ 31) ∷ ltb m.stack 65536 ∷ ltb m.ret 65536
    ∷ leb m.frame no_frame_pointer ∷ eqb (get_or ms 5 0) 0 ∷ all (λ n. leb n 255) m.map ∷ []) in
    record {
      is_word = says 1 t;
      stack_small = ltb→lt m.stack 65536 (says 4 t);
      ret_small = ltb→lt m.ret 65536 (says 5 t);
      pushed_small = ltb→lt m.pushed (2 ^ 31) (says 3 t);
      pushed_whole = eqb→eq (m.pushed % m.word) 0 (says 2 t);
    }

-- ---- question 13: a row's operands

-- in their fields
record Operands (r : Row) : Type 0 where
  reg : reg_of r < 65536
  off : Off32 (offset_of r)
  other : other_of r < 65536

chosen : (b : Bool) {x y : Row} → Operands x → Operands y → Operands (pick b x y)
unfolding pick
chosen true h k = h
chosen false h k = k

mag_off : (z : ℤ) → mag z < 2 ^ 31 → Off32 z
mag_off (pos n) h = h
mag_off (negsuc n) h = h

off_fits : (n : ℕ) → n < 2 ^ 32 → Off32 (to_z w32 n)
off_fits n h = mag_off (to_z w32 n) (sfits_to_z {w = w32} {n = n} (record { fits = h })).sfits

row_operands : (kind reg off : ℕ) → T (row_ok kind reg off) → Operands (row_of kind reg off)
unfolding row_of pick kind_of reg_of offset_of other_of
row_operands kind r o t =
    let fit = row_numbers kind r o t in
    let h : r < 65536 = fit.reg_low in
    let z : Off32 (to_z w32 o) = off_fits o fit.off_low in
    let n : 0 < 65536 = omega arith in
    let p : 0 < 2 ^ 31 = omega arith in
    chosen (eqb kind 0) (record { reg = h; off = z; other = n })
    (chosen (eqb kind 1) (record { reg = n; off = z; other = n })
    (chosen (eqb kind 2) (record { reg = h; off = p; other = n })
    (chosen (eqb kind 3) (record { reg = h; off = z; other = n })
    (chosen (eqb kind 4) (record { reg = h; off = p; other = n })
    (chosen (eqb kind 5) (record { reg = h; off = p; other = n })
    (chosen (eqb kind 6) (record { reg = n; off = p; other = n })
    (chosen (eqb kind 7) (record { reg = n; off = p; other = n })
    (chosen (eqb kind 9) (record { reg = h; off = p; other = n })
    (tested (eqb kind 10)
    (λ u. let l : o < 65536 = fit.other_low (eqb→eq kind 10 u) in rw (pick_yes (eqb kind 10)) (record { reg = h; off = omega arith; other = l }))
    (λ u. rw (pick_no (eqb kind 10)) (record { reg = n; off = p; other = n })))))))))))

-- ---- one function

-- a row that passes questions 13 and 24
pub row_fits : (rows : List ℕ) (word i : ℕ) → T (row_ok_at rows i) → T (row_whole word (row_at rows i).1) → RowFits word (row_at rows i).1
unfolding row_ok_at row_at
row_fits rows word i t v =
    let fits = row_operands (field row_stride rows i 1) (field row_stride rows i 2) (field row_stride rows i 3) t in
    record { reg = fits.reg; off = fits.off; other = fits.other; whole = v }

rows_at_ok : (rows : List ℕ) (word at n from : ℕ) → T (all_in (row_ok_at rows) at n) → T (steps_ok from (each (row_at rows) at n))
    → T (all (λ x. row_whole word x.1) (each (row_at rows) at n)) → RowsAtOk word from (each (row_at rows) at n)
unfolding all_in all each steps_ok
rows_at_ok rows word at zero from t u v = tt
rows_at_ok rows word at (suc n) from t u v =
    let x : RowAt = row_at rows at in
    let xs : List RowAt = each (row_at rows) (suc at) n in
    let ok = and_yes (row_ok_at rows at) (all_in (row_ok_at rows) (suc at) n) t in
    let whole = and_yes (row_whole word x.1) (all (λ y. row_whole word y.1) xs) v in
    let steps = chained (leb from x.0) (ltb (x.0 - from) (2 ^ 32) ∷ steps_ok x.0 xs ∷ []) in (
      leb→le from x.0 (steps 0 u),
      ltb→lt (x.0 - from) (2 ^ 32) (steps 1 u),
      row_fits rows word at ok.0 whole.0,
      rows_at_ok rows word (suc at) n x.0 ok.1 (steps 2 u) whole.1,
    )

-- what question 13 says of a function's rows and its simple mark
pub record Listed (fs rows : List ℕ) (k : ℕ) : Type 0 where
  within : T (inside (field function_stride fs k 2) (field function_stride fs k 3) (count row_stride rows))
  known : T (all_in (row_ok_at rows) (field function_stride fs k 2) (field function_stride fs k 3))
  marked : T (mark_ok (field function_stride fs k 6))

module _ (fs rows landings pairs : List ℕ) where
  pub listed : (k : ℕ) → T (function_ok_at fs rows landings pairs k) → Listed fs rows k
  unfolding function_ok_at
  listed k t =
      let f : ℕ → ℕ = λ j. field function_stride fs k j in
      let says = chained (symbol_ok (f 0)) (
      inside (f 2) (f 3) (count row_stride rows) ∷ all_in (row_ok_at rows) (f 2) (f 3) ∷ inside (f 4) (f 5) (count landing_stride landings)
      ∷ mark_ok (f 6) ∷ mark_ok (f 7) ∷ mark_ok (f 8)
      ∷ when_marked (f 8) (pointer_ok (f 9) (f 10) && mark_ok (f 11) && when_marked (f 11) (pointer_ok (f 12) (f 13)))
      ∷ mark_ok (f 14)
      ∷ when_marked (f 14) (symbol_ok (f 15) && inside (f 16) (f 17) (count pair_stride pairs) && all_in (pair_ok_at pairs) (f 16) (f 17)) ∷ []) in
      record { within = says 1 t; known = says 2 t; marked = says 4 t }

  pub function_fits : (s : Section) (m : Machine) (k at : ℕ) → Listed fs rows k
      → dwarf_asks s m.word at (taken s (function_at fs rows landings pairs k)) ≡ none
      → FunctionFits s m (taken s (function_at fs rows landings pairs k))
  unfolding dwarf_asks function_at
  function_fits s m k at l e =
      let f : Function = function_at fs rows landings pairs k in
      let e₁ = both _ _ e in
      let e₂ = both _ _ e₁.1 in
      let e₃ = both _ _ e₂.1 in
      let e₄ = both _ _ e₃.1 in
      record {
        size_small = ltb→lt (taken s f).size (256 ^ size_bytes s m.word) (asked _ _ _ e₁.0);
        encodings = asked _ _ _ e₂.0;
        lines =
            rw (taken_rows s f)
            (rows_at_ok rows m.word (field function_stride fs k 2) (field function_stride fs k 3) 0 l.known
            (rw (taken_rows s f) at (asked _ _ _ e₃.0)) (rw (taken_rows s f) at (asked _ _ _ e₄.0)));
        apart = asked _ _ _ e₄.1;
      }

  -- ---- all functions

  all_fit : (s : Section) (m : Machine) (at n : ℕ) → T (all_in (function_ok_at fs rows landings pairs) at n)
      → per_function (dwarf_asks s m.word) at (map (taken s) (each (function_at fs rows landings pairs) at n)) ≡ none
      → AllFit s m (map (taken s) (each (function_at fs rows landings pairs) at n))
  unfolding all_in all each per_function
  all_fit s m at zero t e = tt
  all_fit s m at (suc n) t e =
      let h = and_yes (function_ok_at fs rows landings pairs at) (all_in (function_ok_at fs rows landings pairs) (suc at) n) t in
      let d = both _ _ e in
      (function_fits s m at at (listed at h.0) d.0, all_fit s m (suc at) n h.1 d.1)

  -- the rows of the functions, as their list counts them
  pub rows_at_counted : (s : Section) (at n : ℕ)
      → row_count (map (taken s) (each (function_at fs rows landings pairs) at n)) ≡ sum_of (λ k. field function_stride fs k 3) at n
  unfolding each row_count sum_of function_at
  rows_at_counted s at zero = refl
  rows_at_counted s at (suc n) = rw (taken_rows, each-length, rows_at_counted s (suc at) n)

  lists_say : T (lists_ok fs rows landings pairs)
      → (count function_stride fs ≤ most_functions) × (sum_of (λ k. field function_stride fs k 3) 0 (count function_stride fs) ≤ most_records)
      × T (all_in (function_ok_at fs rows landings pairs) 0 (count function_stride fs))
  unfolding lists_ok
  lists_say t =
      let n : ℕ = count function_stride fs in
      let says = chained (leb n most_functions) (
      leb (sum_of (λ k. field function_stride fs k 3) 0 n) most_records ∷ leb (sum_of (λ k. field function_stride fs k 5) 0 n) most_records
      ∷ leb (sum_of (pairs_in fs) 0 n) most_records ∷ all_in (function_ok_at fs rows landings pairs) 0 n ∷ []) in
      (leb→le n most_functions (says 0 t), leb→le (sum_of (λ k. field function_stride fs k 3) 0 n) most_records (says 1 t), says 4 t)

  bounded_is : (s : Section) → T (lists_ok fs rows landings pairs) → Bounded (map (taken s) (functions_of fs rows landings pairs))
  unfolding functions_of
  bounded_is s t =
      let h = lists_say t in
      record {
        functions = rw (length-map, each-length) h.0;
        lines = rw (rows_at_counted s 0 (count function_stride fs)) h.1;
      }

-- ---- an accepted list

pub record Accepted (s : Section) (g : Given) (w : Written) : Type 0 where
  pub machine : MachineFits (machine_of g.machine)
  pub lists : T (lists_ok g.functions g.rows g.landings g.pairs)
  pub functions : AllFit s (machine_of g.machine) (map (taken s) (given_functions g))
  pub bounded : Bounded (map (taken s) (given_functions g))
  pub written : w ≡ dwarf s (machine_of g.machine) (given_functions g)

given_is : (s : Section) (g : Given) (r : Room) (w : Written) → dwarf_given s g r ≡ accepted w → Accepted s g w
unfolding dwarf_given dwarf_answer fitting given_asks given_functions functions_of
given_is s g r w e =
    let d = passed _ _ _ e in
    let given = both _ _ d.0 in
    let t = asked _ _ _ given.1 in
    let answer = passed _ _ _ d.1 in
    let room = passed _ _ _ answer.1 in
    record {
      machine = machine_fits g.machine (asked _ _ _ given.0);
      lists = t;
      functions =
          all_fit g.functions g.rows g.landings g.pairs s (machine_of g.machine) 0 (count function_stride g.functions)
          (lists_say g.functions g.rows g.landings g.pairs t).2 answer.0;
      bounded = bounded_is g.functions g.rows g.landings g.pairs s t;
      written = cc;
    }

pub accepted_is : (s : Section) (g : Given) (r : Room) (w : Written) → dwarf_written s g r ≡ accepted w → Accepted s g w
unfolding dwarf_written relaxed_table relaxed_debug_frame format_answer pick
accepted_is Elf g r w e = given_is Elf g r w (not_empty (no_functions g) _ w e)
accepted_is Debug g r w e = given_is Debug g r w (not_empty (no_functions g || false) _ w e)

-- ---- function k

pub function_at_lem : (g : Given) (k : ℕ) → k < count function_stride g.functions → get_elem? (given_functions g) k ≡ some (given_function g k)
unfolding given_functions functions_of
function_at_lem g k h =
    each_get (given_function g) 0 (count function_stride g.functions) k h ∙ ap (λ (i : ℕ). some (given_function g i)) (omega arith)

pub taken_at : (s : Section) (g : Given) (k : ℕ) → k < count function_stride g.functions
    → get_elem? (map (taken s) (given_functions g)) k ≡ some (taken s (given_function g k))
taken_at s g k h = get_map (taken s) (given_functions g) k (given_function g k) (function_at_lem g k h)

-- lines that are in order go forward
rows_at_forward : (word from : ℕ) (xs : List RowAt) → RowsAtOk word from xs → T (steps_ok from xs)
unfolding steps_ok
rows_at_forward word from [] ok = tt
rows_at_forward word from (x ∷ xs) ok =
    yes_and (leb from x.0 && ltb (x.0 - from) (2 ^ 32)) (steps_ok x.0 xs)
    (yes_and (leb from x.0) (ltb (x.0 - from) (2 ^ 32)) (yes_leb ok.0) (yes_ltb ok.1))
    (rows_at_forward word x.0 xs ok.3)

and_right : (a b : Bool) → T a → a && b ≡ b
and_right true b t = refl
and_right false b t = absurd t

module _ {s : Section} {g : Given} {w : Written} (a : Accepted s g w) (k : ℕ) (h : k < count function_stride g.functions) where
  pub function_fits_at : FunctionFits s (machine_of g.machine) (taken s (given_function g k))
  function_fits_at = fits_at s (machine_of g.machine) (map (taken s) (given_functions g)) k _ a.functions (taken_at s g k h)

  pub forward : T (steps_ok 0 (given_function g k).rows)
  forward =
      rows_at_forward (machine_of g.machine).word 0 (given_function g k).rows (rw (taken_rows s (given_function g k)) at function_fits_at.lines)

  listed_at : Listed g.functions g.rows k
  listed_at =
      let t = (lists_say g.functions g.rows g.landings g.pairs a.lists).2 in
      let e : 0 + k ≡ k = omega arith in
      listed g.functions g.rows g.landings g.pairs k
      (rw e at (in_range (function_ok_at g.functions g.rows g.landings g.pairs) 0 (count function_stride g.functions) k t h))

  pub check_at : row_check_at g.functions g.rows k ≡ row_check (given_function g k).simple (given_function g k).rows
  unfolding row_check_at function_at
  check_at =
      let l = listed_at in
      let f : ℕ → ℕ = λ j. field function_stride g.functions k j in
      rw (
        and_right (ltb k (count function_stride g.functions)) (mark_ok (f 6)) (yes_ltb h),
        and_right (mark_ok (f 6)) _ l.marked,
        and_right (inside (f 2) (f 3) (count row_stride g.rows)) _ l.within,
        and_right (all_in (row_ok_at g.rows) (f 2) (f 3)) _ l.known,
      )

-- What is found for a function is its prologue by the definitions.
use mathlib.Core.Path.{◌≡◌, refl, sym, ap, ◌∙◌}
use Prim.Native.Nat.{ℕ, zero, suc, ◌+◌, ◌*◌, ◌≤◌}
use native.Mathlib.Omega.{arith}
use mathlib.Core.Option.{Option, none, some}
use mathlib.Core.List.{List, [], ◌∷◌}
use lib.IntN.{pos}
use Rattle.format.specs.Numbers.{number_of}
use Rattle.format.specs.declared.question.Question.{Question}
use Rattle.format.specs.Prelude.{good, bad, onward}
use Rattle.format.specs.Lists.{field, row_stride, function_stride, prologue_stride, function_at, prologue_at}
use Rattle.format.specs.X64.{codes_of, end_of, prologue_of, prologue_no, info_bytes}
use Rattle.prologue.specs.Pieces.{end_in, Says, Shaped, pieces_of}
use Rattle.codes.specs.Codes.{yes_or_no}
use Rattle.std.specs.Prelude.{Ok, Err, IsOk}
use Rattle.std.specs.Prelude as code
use Rattle.prologue.specs.declared.given.X64Machine.{X64Machine}
use Rattle.x64.specs.declared.given.Source.TheVariants.{Direct, Rows}
use Rattle.x64.specs.declared.given.Source.{Source}
use Rattle.x64.specs.declared.given.Span.{Span}
use Rattle.x64.specs.Listed.{stride_of, records_in, ListedAt, Askable}
use Rattle.x64.specs.declared.given.Records.TheVariants.{Codes, ByRows}
use Rattle.prologue.specs.declared.given.Shape.{Shape}
use Rattle.prologue.specs.Given.{rows_in}
use Rattle.prologue.proofs.Rows.{part, part_count, part_rows}
use Rattle.x64.proofs.Parts.{part as codes_part, part_codes as codes_part_is}
use Rattle.std.proofs.Common.{Bor}
use Rattle.x64.specs.Sources.{pushed_by, codes_in, meant, result_at, FoundAt, Found, rows_no, codes_no, or_none, found_at}
use Rattle.x64.specs.Given.{codes_by, info_by}
use Rattle.header_keys.specs.Functions.{RowsReady}
use Rattle.format.specs.Lists.{most_records, count, code_stride}
use lib.ListN.{length, take}
use Rattle.x64.proofs.Leaves.{direct_codes, rows_codes}

pub stride_most : (s : Source) → 2 ≤ stride_of s
unfolding stride_of
stride_most Direct = omega arith
stride_most (Rows m) = omega arith

-- ---- direct codes

pub direct_askable : {s : Source} {fs list : List ℕ} {k : ℕ} → s ≡ Direct → Askable s fs list k → Askable Direct fs list k
direct_askable e a = rw e at a

module _ {fs list : List ℕ} {k : ℕ} (a : Askable Direct fs list k) where
  pub direct_bounds : (prologue_stride * k + prologue_stride ≤ length fs) × (field prologue_stride fs k 3 + field prologue_stride fs k 4 ≤ count code_stride list) × (field prologue_stride fs k 4 ≤ most_records)
  unfolding stride_of ListedAt
  direct_bounds = (a.within, a.records.0, a.records.1)

-- the function that its codes mean, as a part of the list
direct_said : (fs list : List ℕ) (k : ℕ) (cs : Bor (List ℕ)) → field prologue_stride fs k 3 + field prologue_stride fs k 4 ≤ count code_stride list
    → cs.now ≡ codes_part list (field prologue_stride fs k 3) (field prologue_stride fs k 4)
    → result_at Direct fs list k ≡ good (record { symbol = field prologue_stride fs k 0; size = field prologue_stride fs k 1; end = field prologue_stride fs k 2; codes = codes_in (Codes cs) })
unfolding result_at prologue_at pushed_by records_in
direct_said fs list k cs h e = rw (← direct_codes cs (pos 0) 0 (count code_stride cs.now), e, codes_part_is list _ _ h)

pub direct_found : {fs list : List ℕ} {k : ℕ} (p : Span) (cs : Bor (List ℕ)) → p.records ≡ Codes cs
    → p.symbol ≡ field prologue_stride fs k 0 → p.length ≡ field prologue_stride fs k 1 → p.end ≡ field prologue_stride fs k 2
    → field prologue_stride fs k 3 + field prologue_stride fs k 4 ≤ count code_stride list
    → cs.now ≡ codes_part list (field prologue_stride fs k 3) (field prologue_stride fs k 4)
    → FoundAt Direct fs list k p
direct_found {fs} {list} {k} p cs r s l n h e = record { said = direct_said fs list k cs h e ∙ rw (r, s, l, n) }

-- ---- rows

pub rows_askable : {s : Source} {m : X64Machine} {fs list : List ℕ} {k : ℕ} → s ≡ Rows m → Askable s fs list k → Askable (Rows m) fs list k
rows_askable e a = rw e at a

take_most : (n : ℕ) (xs : List ℕ) → length (take n xs) ≤ length xs
take_most zero xs = omega arith
take_most (suc n) [] = omega arith
take_most (suc n) (x ∷ xs) = omega (arith, take_most n xs)

module _ (m : X64Machine) (fs list : List ℕ) (k : ℕ) (inside : field function_stride fs k 2 + field function_stride fs k 3 ≤ count row_stride list) where
  abbrev rows : List ℕ
  rows = part list (field function_stride fs k 2) (field function_stride fs k 3)

  -- a no to its rows
  pub rows_refused : (q : Question) → Shaped m.machine.now rows (Err q) → result_at (Rows m) fs list k ≡ bad (number_of q)
  unfolding result_at function_at onward
  rows_refused q h = rw (h (function_at fs list [] [] k) (sym (part_rows list _ _ inside)))

  -- the function that they mean
  module _ (p : Shape) (h : Says m.machine.now rows p.below p.rows.rows.now) where
    rows_pieces : pieces_of m.machine.now p.below p.rows.rows.now ≡ codes_in (ByRows m p)
    unfolding pushed_by records_in
    rows_pieces = rows_codes m p (pos m.machine.now.pushed) 0 (rows_in p.rows)

    rows_are : codes_of m.machine.now (function_at fs list [] [] k) ≡ good (codes_in (ByRows m p))
    unfolding function_at
    rows_are = rw (← rows_pieces) (h.codes (function_at fs list [] [] k) (sym (part_rows list _ _ inside)))

    ends : end_of 0 (codes_in (ByRows m p)) ≡ end_in p.rows.rows.now 0 (rows_in p.rows)
    ends = rw (← rows_pieces) h.last

    rows_said : result_at (Rows m) fs list k
        ≡ good (record { symbol = field function_stride fs k 0; size = field function_stride fs k 1; end = end_in p.rows.rows.now 0 (rows_in p.rows); codes = codes_in (ByRows m p) })
    unfolding result_at onward function_at prologue_of
    rows_said = rw (rows_are, ends)

    pub rows_found : (s : Span) → s.records ≡ ByRows m p → s.symbol ≡ field function_stride fs k 0 → s.length ≡ field function_stride fs k 1
        → s.end ≡ end_in p.rows.rows.now 0 (rows_in p.rows) → FoundAt (Rows m) fs list k s
    rows_found s r a b e = record { said = rows_said ∙ rw (r, a, b, e) }

    -- no more rows than the function has
    pub rows_few : rows_in p.rows ≤ field function_stride fs k 3
    rows_few =
        let l : length p.rows.rows.now ≤ length rows = omega (arith, ap length h.leads.taken, take_most (length p.rows.rows.now) rows) in
        omega (arith, part_count list _ _ inside, l)

module _ {m : X64Machine} {fs list : List ℕ} {k : ℕ} (a : Askable (Rows m) fs list k) where
  pub rows_bounds : (function_stride * k + function_stride ≤ length fs) × RowsReady list (field function_stride fs k 2) (field function_stride fs k 3) × (field function_stride fs k 3 ≤ most_records)
  unfolding stride_of ListedAt
  rows_bounds = (a.within, a.records.0, a.records.1)

-- ---- what a function's answers say

module _ (s : Source) (fs list : List ℕ) (k : ℕ) where
  pub rows_no_is : {n : ℕ} → result_at s fs list k ≡ bad n → Err n ≡ yes_or_no (rows_no (result_at s fs list k))
  unfolding rows_no yes_or_no
  rows_no_is e = rw e

  pub codes_no_is : {n : ℕ} → result_at s fs list k ≡ bad n → Err n ≡ yes_or_no (codes_no (result_at s fs list k))
  unfolding codes_no yes_or_no
  codes_no_is e = rw e

  pub is_there : (r : code.Result Span Question) → Found s fs list k r → codes_no (result_at s fs list k) ≡ none → IsOk r
  unfolding codes_no
  is_there (Ok p) h y = refl
  is_there (Err q) h y = let z : ◌≡◌ {A = Option ℕ} (some (number_of q)) none = rw h at y in cc

module _ {s : Source} {fs list : List ℕ} {k : ℕ} {p : Span} (h : FoundAt s fs list k p) where
  pub rows_yes : Ok tt ≡ yes_or_no (rows_no (result_at s fs list k))
  unfolding rows_no yes_or_no
  rows_yes = rw h.said

  pub codes_are : codes_no (result_at s fs list k) ≡ prologue_no p.end (codes_by p)
  unfolding codes_no
  codes_are = rw h.said

  found_is : found_at s fs list k ≡ meant p
  unfolding or_none
  found_is = rw h.said

  pub info_is : info_by p ≡ info_bytes (found_at s fs list k).end (found_at s fs list k).codes
  info_is = rw found_is

  -- every question is answered by yes
  pub codes_yes : codes_no (result_at s fs list k) ≡ none → prologue_no p.end (codes_by p) ≡ none
  codes_yes y = sym codes_are ∙ y

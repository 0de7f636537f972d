-- The parts of question 13 that functions of their own ask.
use Rattle.std.specs.Prelude.{ℕ, Bool, ◌&&◌, List, leb}
use Rattle.format.specs.Prelude.{pick}
use Rattle.format.specs.Lists.{field, function_stride, row_stride, landing_stride, pair_stride, count, inside, symbol_ok, pointer_ok, mark, mark_ok, when_marked, pair_ok_at, all_in, sum_of, pairs_in, most_functions, most_records}

-- function k's symbol, and where its rows and landings are
unfoldable pub ranges_ok_at : (fs rows landings : List ℕ) → ℕ → Bool
ranges_ok_at fs rows landings k =
    let f : ℕ → ℕ = λ j. field function_stride fs k j in
    symbol_ok (f 0) && inside (f 2) (f 3) (count row_stride rows) && inside (f 4) (f 5) (count landing_stride landings)

-- a named personality, where function k has one
unfoldable pub named_ok_at : (fs : List ℕ) → ℕ → Bool
named_ok_at fs k =
    let f : ℕ → ℕ = λ j. field function_stride fs k j in
    when_marked (f 8) (pointer_ok (f 9) (f 10) && mark_ok (f 11) && when_marked (f 11) (pointer_ok (f 12) (f 13)))

-- relaxing labels, where function k has them
unfoldable pub relaxed_ok_at : (fs pairs : List ℕ) → ℕ → Bool
relaxed_ok_at fs pairs k =
    let f : ℕ → ℕ = λ j. field function_stride fs k j in
    when_marked (f 14) (symbol_ok (f 15) && inside (f 16) (f 17) (count pair_stride pairs) && all_in (pair_ok_at pairs) (f 16) (f 17))

-- function k without its rows: function_ok_at asks them too
unfoldable pub outline_ok_at : (fs rows landings pairs : List ℕ) → ℕ → Bool
outline_ok_at fs rows landings pairs k =
    let f : ℕ → ℕ = λ j. field function_stride fs k j in
    ranges_ok_at fs rows landings k && mark_ok (f 6) && mark_ok (f 7) && mark_ok (f 8) && named_ok_at fs k && mark_ok (f 14) && relaxed_ok_at fs pairs k

-- number j of function k, where it has relaxing labels
unfoldable pub where_labelled : (fs : List ℕ) → (k j : ℕ) → ℕ
where_labelled fs k j = pick (mark (field function_stride fs k 14)) (field function_stride fs k j) 0

-- the counts of functions, and of what they reach
unfoldable pub sums_ok : (fs : List ℕ) → Bool
sums_ok fs =
    let n : ℕ = count function_stride fs in
    leb n most_functions && leb (sum_of (λ k. field function_stride fs k 3) 0 n) most_records
    && leb (sum_of (λ k. field function_stride fs k 5) 0 n) most_records && leb (sum_of (pairs_in fs) 0 n) most_records

-- Question 13 of the lists as they are passed on.
use Rattle.std.specs.Prelude.{ℕ, Bool}
use Rattle.format.specs.Lists.{count, function_stride, function_ok_at, lists_ok}
use Rattle.lists.specs.declared.Lists.{Lists}
use Rattle.lists.specs.Parts.{outline_ok_at}

abbrev pub count_of : Lists → ℕ
count_of x = count function_stride x.functions.now

abbrev pub outline_of : Lists → ℕ → Bool
outline_of x k = outline_ok_at x.functions.now x.rows.now x.landings.now x.pairs.now k

abbrev pub function_of : Lists → ℕ → Bool
function_of x k = function_ok_at x.functions.now x.rows.now x.landings.now x.pairs.now k

abbrev pub listed_of : Lists → Bool
listed_of x = lists_ok x.functions.now x.rows.now x.landings.now x.pairs.now

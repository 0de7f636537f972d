-- Function k of the lists: what the caller has asked before.
use Rattle.std.specs.Prelude.{◌≡◌, true, List, ℕ, ◌+◌, ◌*◌, ◌≤◌, length}
use Rattle.std.proofs.Math.Option.{none}
use Rattle.format.specs.Lists.{field, most_records}
use Rattle.arm64.specs.Lists.{function_stride, Function, numbered_function}
use Rattle.arm64.specs.Writer.{function_ok_at, codes_in, function_asks}
use Rattle.arm64_lists.specs.declared.Lists.{Lists}

-- function k of the lists as they are lent
abbrev pub function_in : Lists → ℕ → Function
function_in x = numbered_function x.functions.now x.epilogues.now x.codes.now

-- question 13 has been asked of it
pub record Listed (fs es cs : List ℕ) (k : ℕ) : Type 0 where
  pub room : 6 * k + 6 ≤ length fs
  pub ok : function_ok_at fs es cs k ≡ true
  pub few_epilogues : field function_stride fs k 5 ≤ most_records
  pub few_codes : codes_in fs es k ≤ most_records

-- and 81 to 83
pub record Fine (fs es cs : List ℕ) (k : ℕ) : Type 0 where
  pub listed : Listed fs es cs k
  pub asked : function_asks k (numbered_function fs es cs k) ≡ none

-- both of the lists as they are lent
abbrev pub ListedIn : Lists → ℕ → Type 0
ListedIn x k = Listed x.functions.now x.epilogues.now x.codes.now k

abbrev pub FineIn : Lists → ℕ → Type 0
FineIn x k = Fine x.functions.now x.epilogues.now x.codes.now k

-- What an accepted list is known to be: the facts that the laws of a section start from.
use mathlib.Core.Path.{◌≡◌}
use Prim.Native.Nat.{ℕ, ◌+◌, ◌%◌, ◌^◌, ◌≤◌, ◌<◌}
use mathlib.Core.List.{List, [], ◌∷◌}
use lib.ListN.{length}
use lib.Dec.{T}
use Rattle.format.specs.declared.Machine.{Machine}
use Rattle.format.specs.Machine.{is_word_size}
use Rattle.format.specs.Lists.{Function, most_functions, most_records}
use Rattle.format.specs.declared.Section.{Section}
use Rattle.format.specs.Questions.{size_bytes, encodings_ok, pairs_ok}
use Rattle.format.proofs.WalkBack.{RowsAtOk}

-- question 11, as far as the tables go
pub record MachineFits (m : Machine) : Type 0 where
  pub is_word : T (is_word_size m.word)
  pub stack_small : m.stack < 65536
  pub ret_small : m.ret < 65536
  pub pushed_small : m.pushed < 2 ^ 31
  pub pushed_whole : m.pushed % m.word ≡ 0

-- questions 21 to 25 of a function, as the section takes it, with the rows' operands in their fields
pub record FunctionFits (s : Section) (m : Machine) (f : Function) : Type 0 where
  pub size_small : f.size < 256 ^ size_bytes s m.word
  pub encodings : T (encodings_ok m.word f.landings f.named)
  pub lines : RowsAtOk m.word 0 f.rows
  pub apart : T (pairs_ok f.relaxed)

abbrev pub AllFit : Section → Machine → List Function → Type 0
AllFit s m [] = Unit {0}
AllFit s m (f ∷ fs) = FunctionFits s m f × AllFit s m fs

-- rows summed over the functions
unfoldable pub row_count : List Function → ℕ
row_count [] = 0
row_count (f ∷ fs) = length f.rows + row_count fs

-- question 13: counts
pub record Bounded (fs : List Function) : Type 0 where
  pub functions : length fs ≤ most_functions
  pub lines : row_count fs ≤ most_records

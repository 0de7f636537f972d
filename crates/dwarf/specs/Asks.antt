-- What the questions of one function and of all may rely on, and the answer behind question 11.
use Rattle.std.specs.Prelude.{Bool, ℕ, ◌<◌, List, []}
use Rattle.format.specs.Prelude.{all}
use Rattle.format.specs.Rows.{row_whole}
use Rattle.format.specs.Lists.{Function, functions_of, lists_ok}
use Rattle.format.specs.Questions.{Question, Answer, Room, ask, and_then, steps_ok, unless, dwarf_answer}
use Rattle.lists.specs.declared.Extent.{Extent}
use Rattle.lists.specs.Extents.{meant}
use Rattle.header_keys.specs.Functions.{RowsReady, LabelsReady}
use Rattle.header_keys.specs.Inputs.{Inputs, count_in, extent_in, rows_of}

-- its rows can be read and, where it has relaxing labels, its pairs
pub record Askable (e : Extent) (rows pairs : List ℕ) : Type 0 where
  pub ready : RowsReady rows e.rows_at e.rows
  pub paired : LabelsReady e pairs

pub record AllAskable (x : Inputs) : Type 0 where
  pub each_one : (k : ℕ) → k < count_in x → Askable (extent_in x k) x.rows x.pairs

-- function k as the questions see it: they only ask whether there are landings
abbrev pub asked_in : Inputs → ℕ → Function
asked_in x k = meant (extent_in x k) x.rows [] x.pairs

-- question 24 of a function's rows
abbrev pub whole_in : Inputs → Extent → Bool
whole_in x e = all (λ r. row_whole x.machine.word r.1) (rows_of x e)

-- questions 23 and 24 of function k
unfoldable pub lines_asks : Inputs → (k : ℕ) → Extent → Question
lines_asks x k e = and_then (ask (steps_ok 0 (rows_of x e)) 23 k) (ask (whole_in x e) 24 k)

-- the answer of a section's writer for a machine that passes question 11
unfoldable pub listed_answer : Inputs → Room → Answer
listed_answer x r =
    unless (ask (lists_ok x.functions x.rows x.landings x.pairs) 13 0)
    (dwarf_answer x.section x.machine (functions_of x.functions x.rows x.landings x.pairs) r)

-- The packed word of a function with one epilogue, as the code finds it: from the two runs alone.
use Rattle.std.specs.Prelude.{◌≡◌, Bool, true, ◌&&◌, List, ℕ, ◌+◌, ◌-◌, ◌≤◌, ◌<◌, leb, eqb, Option, Some, None}
use Rattle.format.specs.Prelude.{pick}
use Rattle.format.specs.Lists.{field, most_records}
use Rattle.arm64.specs.Lists.{epilogue_stride}
use Rattle.arm64.specs.Packing.{candidate, packed_word, stands_for}
use Rattle.arm64.specs.Runs.{no_pair, simplify, run_fits, run_size, leads}
use Rattle.arm64.specs.Writer.{instructions}
use Rattle.arm64_simple.specs.declared.Run.{Run}
use Rattle.arm64_simple.specs.Saves.{saves}
use Rattle.arm64_function.specs.declared.Parts.{Parts}
use Rattle.arm64_function.specs.Own.{epilogue_at, Ready, prologue_in, run_at}

-- the epilogue's instructions and a ret are the last `left`, its run leads in the prologue's, and the short header holds its index and the prologue's codes
unfoldable pub shared_in : (cs : List ℕ) → (left : ℕ) → (prologue epilogue : Run) → Bool
shared_in cs left p e =
    eqb left (e.count + 1) && leads (simplify no_pair (saves cs e)) (simplify no_pair (saves cs p))
    && leb (run_size (simplify no_pair (saves cs p)) - run_size (simplify no_pair (saves cs e))) 31
    && leb (run_size (simplify no_pair (saves cs p))) 124

-- of a function of `size` bytes
unfoldable pub packed_at : (es cs : List ℕ) → Parts → (size : ℕ) → Option ℕ
packed_at es cs p size =
    pick
    (shared_in cs (instructions (size - field epilogue_stride es p.first 0)) p.prologue (epilogue_at es p.first)
    && stands_for (candidate (instructions size) (prologue_in cs p)) (prologue_in cs p) (run_at es cs p.first))
    (Some (packed_word (candidate (instructions size) (prologue_in cs p)))) None

-- one epilogue, and the questions passed
pub record Only (es cs : List ℕ) (p : Parts) (size : ℕ) : Type 0 where
  pub ready : Ready es cs p
  pub one : p.first < p.end
  pub start : field epilogue_stride es p.first 0 ≤ size
  pub prologue : run_fits no_pair (saves cs p.prologue) ≡ true
  pub few_prologue : p.prologue.count ≤ most_records

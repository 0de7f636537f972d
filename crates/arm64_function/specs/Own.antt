-- The runs of a function as the code goes over them: which epilogue has a run of its own, and where each stands.
use Rattle.std.specs.Prelude.{◌≡◌, Bool, true, false, ◌&&◌, ◌||◌, List, [], ◌∷◌, ◌++◌, ℕ, zero, suc, ◌+◌, ◌-◌, ◌*◌, ◌/◌, ◌%◌, ◌^◌, ◌≤◌, ◌<◌, leb, ltb, eqb, length, get_or, Option, Some, None}
use Rattle.format.specs.Prelude.{pick, each}
use Rattle.format.specs.Leb.{little}
use Rattle.format.specs.Lists.{field, all_in}
use Rattle.arm64.specs.declared.Code.{Code}
use Rattle.arm64.specs.declared.Part.TheVariants.{Prologue, Epilogue}
use Rattle.arm64.specs.Lists.{function_stride, epilogue_stride}
use Rattle.arm64.specs.Runs.{no_pair, simplify, run_fits, leads, is_in, own_runs, run_bytes, run_size, runs_bytes, place_in, index_of}
use Rattle.arm64.specs.Writer.{instructions, longest}
use Rattle.arm64_simple.specs.declared.Run.{Run}
use Rattle.arm64_simple.specs.Saves.{saves, Inside}
use Rattle.arm64_function.specs.declared.Parts.{Parts}

-- the codes of function k's prologue, and of epilogue i
unfoldable pub prologue_at : List ℕ → ℕ → Run
prologue_at fs k = record { at = field function_stride fs k 2; count = field function_stride fs k 3; part = Prologue }

unfoldable pub epilogue_at : List ℕ → ℕ → Run
epilogue_at es i = record { at = field epilogue_stride es i 1; count = field epilogue_stride es i 2; part = Epilogue }

unfoldable pub parts_at : List ℕ → ℕ → Parts
parts_at fs k =
    record {
      prologue = prologue_at fs k;
      first = field function_stride fs k 4;
      end = field function_stride fs k 4 + field function_stride fs k 5;
    }

-- the parts stand in the lists
pub record Ready (es cs : List ℕ) (p : Parts) : Type 0 where
  pub prologue : Inside cs p.prologue
  pub order : p.first ≤ p.end
  pub room : 3 * p.end ≤ length es
  pub inside : (i : ℕ) → p.first ≤ i → i < p.end → Inside cs (epilogue_at es i)

-- and their values fit
pub record Fitted (es cs : List ℕ) (p : Parts) : Type 0 where
  pub prologue : run_fits no_pair (saves cs p.prologue) ≡ true
  pub epilogues : (i : ℕ) → p.first ≤ i → i < p.end → run_fits no_pair (saves cs (epilogue_at es i)) ≡ true

-- ---- runs as they are written

unfoldable pub prologue_in : List ℕ → Parts → List Code
prologue_in cs p = simplify no_pair (saves cs p.prologue)

unfoldable pub run_at : (es cs : List ℕ) → ℕ → List Code
run_at es cs i = simplify no_pair (saves cs (epilogue_at es i))

-- m runs from `at` on, the last first
unfoldable pub seen_from : (ℕ → List Code) → (at m : ℕ) → List (List Code)
seen_from run at zero = []
seen_from run at (suc m) = run (at + m) ∷ seen_from run at m

-- the runs in front of epilogue i
abbrev pub seen_at : (es cs : List ℕ) → Parts → ℕ → List (List Code)
seen_at es cs p i = seen_from (run_at es cs) p.first (i - p.first)

-- an epilogue's run, where it is its own
unfoldable pub own_at : (es cs : List ℕ) → Parts → ℕ → List (List Code)
own_at es cs p i = pick (leads (run_at es cs i) (prologue_in cs p) || is_in (run_at es cs i) (seen_at es cs p i)) [] (run_at es cs i ∷ [])

unfoldable pub own_in : (es cs : List ℕ) → Parts → List (List Code)
own_in es cs p = own_runs (prologue_in cs p) [] (each (run_at es cs) p.first (p.end - p.first))

-- those from epilogue i on
abbrev pub later_at : (es cs : List ℕ) → Parts → ℕ → List (List Code)
later_at es cs p i = own_runs (prologue_in cs p) (seen_at es cs p i) (each (run_at es cs) i (p.end - i))

unfoldable pub codes_in : (es cs : List ℕ) → Parts → List ℕ
codes_in es cs p = run_bytes (prologue_in cs p) ++ runs_bytes (own_in es cs p)

unfoldable pub index_at : (es cs : List ℕ) → Parts → ℕ → ℕ
index_at es cs p i = index_of (prologue_in cs p) (own_in es cs p) (run_at es cs i)

-- the nearest epilogue in front of i whose run is the same, or i
pub record Nearest (es cs : List ℕ) (p : Parts) (i j : ℕ) : Type 0 where
  pub low : p.first ≤ j
  pub high : j ≤ i
  pub same : j < i → run_at es cs i ≡ run_at es cs j
  pub seen : is_in (run_at es cs i) (seen_at es cs p i) ≡ ltb j i

-- the most bytes of codes that a record has, in 255 words
abbrev pub most_codes : ℕ
most_codes = 1020

-- a size, where it is not above the most
unfoldable pub held_to : ℕ → Option ℕ
held_to n = pick (leb n most_codes) (Some n) None

-- ---- questions 82 and 83 of epilogue i

unfoldable pub start_ok_at : List ℕ → (size i : ℕ) → Bool
start_ok_at es size i = eqb (field epilogue_stride es i 0 % 4) 0 && ltb (field epilogue_stride es i 0) size

unfoldable pub fits_at : (es cs : List ℕ) → ℕ → Bool
fits_at es cs i = run_fits no_pair (saves cs (epilogue_at es i))

-- question 83 of the parts
unfoldable pub parts_ok : (es cs : List ℕ) → Parts → Bool
parts_ok es cs p =
    run_fits no_pair (saves cs p.prologue) && all_in (fits_at es cs) p.first (p.end - p.first) && ltb (p.end - p.first) 65536
    && leb (length (codes_in es cs p)) most_codes

-- question 81 of a length
unfoldable pub length_ok : ℕ → Bool
length_ok size = eqb (size % 4) 0 && leb (instructions size) longest

-- ---- the epilogues' words

unfoldable pub word_at : (es cs : List ℕ) → Parts → ℕ → ℕ
word_at es cs p i = instructions (field epilogue_stride es i 0) + 2 ^ 22 * index_at es cs p i

-- n of them from epilogue i on
unfoldable pub words_from : (es cs : List ℕ) → Parts → (i n : ℕ) → List ℕ
words_from es cs p i zero = []
words_from es cs p i (suc n) = little 4 (word_at es cs p i) ++ words_from es cs p (suc i) n

-- the index in the word at q
unfoldable pub index_in : List ℕ → ℕ → ℕ
index_in xs q = get_or xs (q + 2) 0 / 64 + 4 * get_or xs (q + 3) 0

-- the words of the epilogues in front of i stand from `to` on
pub record Known (xs : List ℕ) (to : ℕ) (es cs : List ℕ) (p : Parts) (i : ℕ) : Type 0 where
  pub known : (j : ℕ) → p.first ≤ j → j < i → index_in xs (to + 4 * (j - p.first)) ≡ index_at es cs p j

-- `next` bytes of codes belong to the prologue and the epilogues in front of i: a run that is none of theirs stands behind them
pub record Ahead (es cs : List ℕ) (p : Parts) (next i : ℕ) : Type 0 where
  pub ahead : (r : List Code) → is_in r (seen_at es cs p i) ≡ false → run_size (prologue_in cs p) + place_in r (own_in es cs p) ≡ next + place_in r (later_at es cs p i)

-- the epilogues start inside a function of the most instructions
pub record Started (es : List ℕ) (p : Parts) : Type 0 where
  pub starts : (i : ℕ) → p.first ≤ i → i < p.end → field epilogue_stride es i 0 < 2 ^ 20

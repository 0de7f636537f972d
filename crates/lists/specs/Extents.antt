-- What this crate's structs hold, and what they mean.
use Rattle.std.specs.Prelude.{ℕ, List}
use Rattle.std.specs.Prelude as code
use Rattle.std.specs.Prelude.{Some, None}
use Rattle.std.proofs.Math.Option.{Option, none, some}
use Rattle.format.specs.Prelude.{pick, each}
use Rattle.format.specs.Lists.{Pointer, Named, Relaxed, Function, field, function_stride, landing_stride, pair_stride, prologue_stride, mark, row_at, landing_at, pair_at, code_at}
use Rattle.format.specs.Lists as lists
use Rattle.lists.specs.declared.Lsda.{Lsda}
use Rattle.lists.specs.declared.Personality.{Personality}
use Rattle.lists.specs.declared.Labels.{Labels}
use Rattle.lists.specs.declared.Extent.{Extent}
use Rattle.lists.specs.declared.Landing.{Landing}
use Rattle.lists.specs.declared.Pair.{Pair}
use Rattle.lists.specs.declared.Prologue.{Prologue}

-- something where a mark is set, as the code has it
unfoldable pub marked : {A : Type 0} → ℕ → A → code.Option A
marked n a = pick (mark n) (Some a) None

-- function k's LSDA, its personality and its relaxing labels, where it has them
unfoldable pub lsda_at : (fs : List ℕ) → ℕ → code.Option Lsda
lsda_at fs k =
    let f : ℕ → ℕ = λ j. field function_stride fs k j in
    marked (f 11) (record { encoding = f 12; symbol = f 13 })

unfoldable pub personality_at : (fs : List ℕ) → ℕ → code.Option Personality
personality_at fs k =
    let f : ℕ → ℕ = λ j. field function_stride fs k j in
    marked (f 8) (record { encoding = f 9; routine = f 10; lsda = lsda_at fs k })

unfoldable pub labels_at : (fs : List ℕ) → ℕ → code.Option Labels
labels_at fs k =
    let f : ℕ → ℕ = λ j. field function_stride fs k j in
    marked (f 14) (record { end = f 15; pairs_at = f 16; pairs = f 17 })

-- function k of the list
unfoldable pub extent_at : (fs : List ℕ) → ℕ → Extent
extent_at fs k =
    let f : ℕ → ℕ = λ j. field function_stride fs k j in
    record {
      symbol = f 0;
      length = f 1;
      rows_at = f 2;
      rows = f 3;
      landings_at = f 4;
      landings = f 5;
      simple = mark (f 6);
      signal = mark (f 7);
      personality = personality_at fs k;
      relaxed = labels_at fs k;
    }

-- what they mean
unfoldable pub meant_lsda : code.Option Lsda → Option Pointer
meant_lsda (Some l) = some (record { encoding = l.encoding; symbol = l.symbol })
meant_lsda None = none

unfoldable pub meant_personality : code.Option Personality → Option Named
meant_personality (Some p) = some (record { personality = record { encoding = p.encoding; symbol = p.routine }; lsda = meant_lsda p.lsda })
meant_personality None = none

unfoldable pub meant_labels : code.Option Labels → (pairs : List ℕ) → Option Relaxed
meant_labels (Some l) pairs = some (record { end = l.end; pairs = each (pair_at pairs) l.pairs_at l.pairs })
meant_labels None pairs = none

-- the function that an extent means, over the other lists
unfoldable pub meant : Extent → (rows landings pairs : List ℕ) → Function
meant e rows landings pairs =
    record {
      symbol = e.symbol;
      size = e.length;
      rows = each (row_at rows) e.rows_at e.rows;
      landings = each (landing_at landings) e.landings_at e.landings;
      simple = e.simple;
      signal = e.signal;
      named = meant_personality e.personality;
      relaxed = meant_labels e.relaxed pairs;
    }

abbrev pub landing_in : (ls : List ℕ) → ℕ → Landing
landing_in ls i = record { start = field landing_stride ls i 0; size = field landing_stride ls i 1; pad = field landing_stride ls i 2 }

abbrev pub meant_landing : Landing → lists.Landing
meant_landing l = record { start = l.start; size = l.size; pad = l.pad }

abbrev pub pair_in : (ps : List ℕ) → ℕ → Pair
pair_in ps i =
    record { place1 = field pair_stride ps i 0; place2 = field pair_stride ps i 1; symbol1 = field pair_stride ps i 2; symbol2 = field pair_stride ps i 3 }

abbrev pub meant_pair : Pair → lists.Pair
meant_pair p = record { place1 = p.place1; place2 = p.place2; symbol1 = p.symbol1; symbol2 = p.symbol2 }

abbrev pub prologue_in : (fs : List ℕ) → ℕ → Prologue
prologue_in fs k =
    let f : ℕ → ℕ = λ j. field prologue_stride fs k j in
    record { symbol = f 0; length = f 1; end = f 2; codes_at = f 3; codes = f 4 }

abbrev pub meant_prologue : Prologue → (codes : List ℕ) → lists.Prologue
meant_prologue p codes =
    record { symbol = p.symbol; size = p.length; end = p.end; codes = each (code_at codes) p.codes_at p.codes }

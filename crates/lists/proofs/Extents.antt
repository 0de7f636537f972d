-- What the structs mean is what the definitions say of the lists.
use mathlib.Core.Path.{◌≡◌, refl}
use Prim.Native.Nat.{ℕ}
use mathlib.Core.Bool.{Bool, true, false}
use mathlib.Core.Option.{Option, none, some}
use mathlib.Core.List.{List}
use Rattle.std.specs.Prelude.{Some, None}
use Rattle.format.specs.Prelude.{pick, each}
use Rattle.format.specs.Lists.{Pointer, field, function_stride, mark, function_at, landing_at, pair_at, prologue_at, optional}
use Rattle.lists.specs.declared.Lsda.{Lsda}
use Rattle.lists.specs.declared.Personality.{Personality}
use Rattle.lists.specs.declared.Labels.{Labels}
use Rattle.lists.specs.Extents.{marked, lsda_at, personality_at, labels_at, extent_at, meant_lsda, meant_personality, meant_labels, meant, landing_in, meant_landing, pair_in, meant_pair, prologue_in, meant_prologue}

-- what a mark makes optional, as the code has it and as the definitions have it
lsda_means : (b : Bool) (l : Lsda) → meant_lsda (pick b (Some l) None) ≡ pick b (some (record { encoding = l.encoding; symbol = l.symbol })) none
unfolding meant_lsda pick
lsda_means true l = refl
lsda_means false l = refl

personality_means : (b : Bool) (p : Personality) {o : Option Pointer} → meant_lsda p.lsda ≡ o → meant_personality (pick b (Some p) None)
    ≡ pick b (some (record { personality = record { encoding = p.encoding; symbol = p.routine }; lsda = o })) none
unfolding meant_personality pick
personality_means true p h = rw h
personality_means false p h = refl

labels_means : (b : Bool) (l : Labels) (pairs : List ℕ)
    → meant_labels (pick b (Some l) None) pairs ≡ pick b (some (record { end = l.end; pairs = each (pair_at pairs) l.pairs_at l.pairs })) none
unfolding meant_labels pick
labels_means true l pairs = refl
labels_means false l pairs = refl

pub means : (fs rows landings pairs : List ℕ) (k : ℕ) → meant (extent_at fs k) rows landings pairs ≡ function_at fs rows landings pairs k
unfolding meant extent_at function_at optional lsda_at personality_at labels_at marked
means fs rows landings pairs k =
    let f : ℕ → ℕ = λ j. field function_stride fs k j in
    let l : Lsda = record { encoding = f 12; symbol = f 13 } in
    let p : Personality = record { encoding = f 9; routine = f 10; lsda = lsda_at fs k } in
    let r : Labels = record { end = f 15; pairs_at = f 16; pairs = f 17 } in
    rw (personality_means (mark (f 8)) p (lsda_means (mark (f 11)) l), labels_means (mark (f 14)) r pairs)

pub means_landing : (ls : List ℕ) (i : ℕ) → meant_landing (landing_in ls i) ≡ landing_at ls i
unfolding landing_at
means_landing ls i = refl

pub means_pair : (ps : List ℕ) (i : ℕ) → meant_pair (pair_in ps i) ≡ pair_at ps i
unfolding pair_at
means_pair ps i = refl

pub means_prologue : (fs codes : List ℕ) (k : ℕ) → meant_prologue (prologue_in fs k) codes ≡ prologue_at fs codes k
unfolding prologue_at
means_prologue fs codes k = refl

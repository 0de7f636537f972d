-- Lists of codes that mean the same have as many codes; readings that say the same.
use mathlib.Core.Path.{◌≡◌, refl, sym, ap, ◌∙◌}
use mathlib.Core.Option.{Option, none}
use mathlib.Core.List.{List, [], ◌∷◌, map}
use Prim.Native.Nat.{suc}
use native.Mathlib.Omega.{arith}
use lib.ListN.{length, length-append}
use Rattle.arm64.specs.declared.Code.{Code}
use Rattle.arm64.specs.Lists.{Epilogue, Function}
use Rattle.arm64.specs.Meaning.{Pair, step_of, pair_of, effects, reverse, prologue_means, epilogue_means}
use Rattle.arm64.specs.Reader.{Unwound, epilogue, epilogue_codes, all_codes}
use Rattle.arm64.specs.Runs.{no_pair, simplify}
use Rattle.arm64.specs.Writer.{prologue_run, epilogue_run}
use Rattle.arm64.proofs.MeaningLaws.{simplify_means}
use Rattle.arm64.proofs.PackingLaws.{reverse_twice, reverse-length}
use Rattle.arm64_back.specs.Back.{SameEpilogues, SameUnwound, given, written_epilogue, written}

effects-length : (p : Option Pair) (cs : List Code) → length (effects p cs) ≡ length cs
unfolding effects
effects-length p [] = refl
effects-length p (c ∷ cs) = ap suc (effects-length (pair_of (step_of p c)) cs)

pub prologue_length : (cs ds : List Code) → prologue_means cs ≡ prologue_means ds → length cs ≡ length ds
unfolding prologue_means
prologue_length cs ds e = sym (effects-length none cs) ∙ ap length e ∙ effects-length none ds

pub epilogue-length : (cs ds : List Code) → epilogue_means cs ≡ epilogue_means ds → length cs ≡ length ds
unfolding epilogue_means
epilogue-length cs ds e =
    sym (reverse-length (effects none (reverse cs)) ∙ effects-length none (reverse cs) ∙ reverse-length cs) ∙ ap length e
    ∙ reverse-length (effects none (reverse ds)) ∙ effects-length none (reverse ds) ∙ reverse-length ds

-- ---- what is written means what was given

pub epilogue_means_lem : (e : Epilogue) → epilogue_means (reverse (epilogue_run e)) ≡ epilogue_means e.codes
unfolding epilogue_run epilogue_means prologue_means
epilogue_means_lem e =
    ap (λ cs. reverse (effects none cs)) (reverse_twice (simplify no_pair (reverse e.codes))) ∙ ap reverse (simplify_means (reverse e.codes))

written_epilogues : (es : List Epilogue) → SameEpilogues (map written_epilogue es) es
unfolding written_epilogue epilogue
written_epilogues [] = tt
written_epilogues (e ∷ es) = (record { start = refl; means = epilogue_means_lem e }, written_epilogues es)

pub written_means : (f : Function) → SameUnwound (written f) (given f)
unfolding written given prologue_run
written_means f = record { size = refl; prologue = simplify_means f.prologue; epilogues = written_epilogues f.epilogues }

-- ---- readings that say the same

turned_epilogues : (ds es : List Epilogue) → SameEpilogues ds es → SameEpilogues es ds
turned_epilogues [] [] h = tt
turned_epilogues [] (e ∷ es) h = absurd h
turned_epilogues (d ∷ ds) [] h = absurd h
turned_epilogues (d ∷ ds) (e ∷ es) h = (record { start = sym h.0.start; means = sym h.0.means }, turned_epilogues ds es h.1)

joined_epilogues : (cs ds es : List Epilogue) → SameEpilogues cs ds → SameEpilogues ds es → SameEpilogues cs es
joined_epilogues [] [] es g h = h
joined_epilogues [] (d ∷ ds) es g h = absurd g
joined_epilogues (c ∷ cs) [] es g h = absurd g
joined_epilogues (c ∷ cs) (d ∷ ds) [] g h = absurd h
joined_epilogues (c ∷ cs) (d ∷ ds) (e ∷ es) g h =
    (record { start = g.0.start ∙ h.0.start; means = g.0.means ∙ h.0.means }, joined_epilogues cs ds es g.1 h.1)

-- two that say the same as a third
pub both_same : (u v w : Unwound) → SameUnwound u w → SameUnwound v w → SameUnwound u v
both_same u v w a b =
    record {
      size = a.size ∙ sym b.size;
      prologue = a.prologue ∙ sym b.prologue;
      epilogues = joined_epilogues u.epilogues w.epilogues v.epilogues a.epilogues (turned_epilogues v.epilogues w.epilogues b.epilogues);
    }

-- they have as many epilogues and codes
pub many_epilogues : (ds es : List Epilogue) → SameEpilogues ds es → length ds ≡ length es
many_epilogues [] [] h = refl
many_epilogues [] (e ∷ es) h = absurd h
many_epilogues (d ∷ ds) [] h = absurd h
many_epilogues (d ∷ ds) (e ∷ es) h = ap suc (many_epilogues ds es h.1)

many_behind : (ds es : List Epilogue) → SameEpilogues ds es → length (epilogue_codes ds) ≡ length (epilogue_codes es)
unfolding epilogue_codes
many_behind [] [] h = refl
many_behind [] (e ∷ es) h = absurd h
many_behind (d ∷ ds) [] h = absurd h
many_behind (d ∷ ds) (e ∷ es) h =
    omega (
      arith,
      length-append d.codes (epilogue_codes ds),
      length-append e.codes (epilogue_codes es),
      epilogue-length d.codes e.codes h.0.means,
      many_behind ds es h.1,
    )

pub many_codes : (u v : Unwound) → SameUnwound u v → length (all_codes u) ≡ length (all_codes v)
unfolding all_codes
many_codes u v a =
    omega (
      arith,
      length-append u.prologue (epilogue_codes u.epilogues),
      length-append v.prologue (epilogue_codes v.epilogues),
      prologue_length u.prologue v.prologue a.prologue,
      many_behind u.epilogues v.epilogues a.epilogues,
    )

-- A record's kind is that of the function that it means; and what it is by the code's answer.
use mathlib.Core.Path.{◌≡◌, refl, sym, ap, ◌∙◌}
use Prim.Native.Nat.{ℕ, zero, suc}
use mathlib.Core.Bool.{Bool, true, false}
use mathlib.Core.List.{List, []}
use mathlib.Core.Option.{Option}
use lib.Dec.{eqb}
use borrow.Author.Tests.{ne_eqb}
use native.Mathlib.Omega.{arith}
use Rattle.std.specs.Prelude as code
use Rattle.std.specs.Prelude.{Some, None}
use Rattle.format.specs.Prelude.{pick, each}
use Rattle.format.specs.declared.Machine.{Machine}
use Rattle.format.specs.Lists.{Landing, Named, landing_at}
use Rattle.format.specs.Headers.{Kind, personal, named, key_of, encoding_of, named_kind, kind_for}
use Rattle.lists.specs.declared.Lsda.{Lsda}
use Rattle.lists.specs.declared.Personality.{Personality}
use Rattle.lists.specs.declared.Extent.{Extent}
use Rattle.lists.specs.Extents.{meant_lsda, meant_personality, meant}
use Rattle.header_keys.specs.Functions.{key_in}
use Rattle.header_keys.specs.Kinds.{lsda_of, kind_meant, by_personality, asked_kind, kind_in}
use Rattle.header_keys.specs.declared.Kind as declared
use Rattle.header_keys.specs.declared.Kind.TheVariants as variants

by_landings : (f : ℕ → Landing) (at n : ℕ) (o : Option Named) → kind_for (each f at n) o ≡ pick (eqb n 0) (named_kind o) personal
unfolding each kind_for pick
by_landings f at zero o = refl
by_landings f at (suc n) o = simp (ne_eqb (suc n) 0 (λ e. omega arith))

by_lsda : (o : code.Option Lsda) → encoding_of (meant_lsda o) ≡ lsda_of o
unfolding encoding_of meant_lsda lsda_of
by_lsda (Some l) = refl
by_lsda None = refl

by_name : (o : code.Option Personality) → named_kind (meant_personality o) ≡ kind_meant (by_personality o)
unfolding named_kind encoding_of meant_personality meant_lsda kind_meant by_personality lsda_of
by_name (Some p) = ap (named p.encoding p.routine) (by_lsda p.lsda)
by_name None = refl

picked : (b : Bool) (k : declared.Kind) → pick b (kind_meant k) personal ≡ kind_meant (pick b k variants.Personal)
unfolding kind_meant pick
picked true k = refl
picked false k = refl

pub kind_means : (m : Machine) (e : Extent) (rows : List ℕ) → (key_in m e rows).kind ≡ kind_in e
unfolding key_of meant asked_kind
kind_means m e rows =
    by_landings (landing_at []) e.landings_at e.landings _
    ∙ (ap (λ (k : Kind). pick (eqb e.landings 0) k personal) (by_name e.personality) ∙ picked (eqb e.landings 0) (by_personality e.personality))

-- by the code's answer
pub decides : (e : Extent) {k : declared.Kind} → k ≡ asked_kind e → {v : declared.Kind} → k ≡ v → asked_kind e ≡ v
decides e a q = sym a ∙ q

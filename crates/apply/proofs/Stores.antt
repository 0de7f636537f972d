-- The store of a relocation by its kind.
use Rattle.std.proofs.Common.{◌≡◌, ℕ, ◌+◌, ◌≤◌, T, List, length, sym, refl, ap, ◌∙◌, subst, arith}
use mathlib.Core.Option.{Option}
use Rattle.std.specs.Prelude as code
use Rattle.std.specs.Prelude.{Some, None}
use Rattle.format.specs.Put.{put}
use Rattle.format.specs.Leb.{little}
use Rattle.format.specs.Lists.{Relocation}
use Rattle.format.proofs.Asked.{option_of, none_is, value_is}
use Rattle.apply.specs.declared.Width.{Width}
use Rattle.apply.specs.declared.Kind.{Kind}
use Rattle.apply.specs.declared.Kind.TheVariants.{Data, Address, SumPlus, SumMinus, Image, Set, Sub, Unknown}
use Rattle.apply.specs.Kinds.{kind_of, bytes_of, size_ok}
use Rattle.apply.specs.Fields.{set_in, sub_in, whole_in}
use Rattle.apply.specs.Values.{Layout, sum_of, value_as, store_as, store_of}
use Rattle.apply.proofs.Tests.{step_size, step_size_2}

module _ (l : Layout) (bs : List ℕ) (r : Relocation) (behind : Option Relocation) {k : Kind} (e : k ≡ kind_of r.kind) where
  by_kind : (k' : Kind) → k ≡ k' → store_as k' l bs r behind ≡ store_of l bs r behind
  unfolding store_of
  by_kind k' t = ap (λ (x : Kind). store_as x l bs r behind) (sym t ∙ e)

  module _ (h : r.place + r.bytes ≤ length bs) (sized : T (size_ok k r.bytes)) (w : Width) where
    pub set_inside : k ≡ Set w → r.place + bytes_of w ≤ length bs
    set_inside t =
        let n = step_size w r.bytes (subst (λ (y : Kind). T (size_ok y r.bytes)) t sized) in
        omega (arith, n)

    pub sub_inside : k ≡ Sub w → r.place + bytes_of w ≤ length bs
    sub_inside t =
        let n = step_size_2 w r.bytes (subst (λ (y : Kind). T (size_ok y r.bytes)) t sized) in
        omega (arith, n)

  pub set_stored : (w : Width) → k ≡ Set w → set_in w bs r.place (sum_of l.symbols r) ≡ store_of l bs r behind
  unfolding store_as
  set_stored w t = by_kind (Set w) t

  pub sub_stored : (w : Width) → k ≡ Sub w → sub_in w bs r.place (sum_of l.symbols r) ≡ store_of l bs r behind
  unfolding store_as
  sub_stored w t = by_kind (Sub w) t

  -- a kind that is neither holds its value whole
  module _ (not_set : (w : Width) → k ≡ Set w → ⊥) (not_sub : (w : Width) → k ≡ Sub w → ⊥) where
    whole : (k' : Kind) → k ≡ k' → whole_in r.bytes bs r.place (value_as k' l r behind) ≡ store_as k' l bs r behind
    unfolding whole_in value_as store_as
    whole Data t = refl
    whole Address t = refl
    whole SumPlus t = refl
    whole SumMinus t = refl
    whole Image t = refl
    whole (Set w) t = absurd (not_set w t)
    whole (Sub w) t = absurd (not_sub w t)
    whole Unknown t = refl

    pub whole_stored : {v : ℕ} → Some v ≡ option_of (value_as k l r behind) → put bs r.place (little r.bytes v) ≡ store_of l bs r behind
    unfolding whole_in
    whole_stored x = (rw (value_is (value_as k l r behind) (sym x)) at (whole k refl)) ∙ by_kind k refl

    pub none_stored : ◌≡◌ {A = code.Option ℕ} None (option_of (value_as k l r behind)) → bs ≡ store_of l bs r behind
    unfolding whole_in
    none_stored x = (rw (none_is (value_as k l r behind) (sym x)) at (whole k refl)) ∙ by_kind k refl

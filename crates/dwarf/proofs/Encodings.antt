-- Question 22 by a function's kind of header.
use mathlib.Core.Path.{◌≡◌, refl, sym, ap, ◌∙◌}
use mathlib.Core.Logic.{◌≢◌}
use lib.Dec.{eqb}
use Prim.Native.Nat.{ℕ, zero, suc, ◌<◌}
use native.Mathlib.Omega.{arith}
use mathlib.Core.Bool.{Bool, true, false, ◌&&◌}
use Rattle.std.specs.Prelude as code
use Rattle.std.specs.Prelude.{Some, None}
use mathlib.Core.Option.{Option, none, some}
use mathlib.Core.List.{[]}
use Rattle.format.specs.Prelude.{pick, each}
use Rattle.format.specs.Lists.{Landing, landing_at}
use Rattle.format.specs.Headers.{size_of, pointer_size, size_or0}
use Rattle.format.specs.Questions.{is_some, lsda_ok, named_ok, encodings_ok}
use Rattle.format.proofs.Choice.{if-eq, if-ne}
use Rattle.lists.specs.declared.Lsda.{Lsda}
use Rattle.lists.specs.declared.Personality.{Personality}
use Rattle.lists.specs.declared.Extent.{Extent}
use Rattle.lists.specs.Extents.{meant_lsda, meant_personality, meant}
use Rattle.header_keys.specs.declared.Kind.{Kind}
use Rattle.header_keys.specs.declared.Kind.TheVariants.{Plain, Personal, Named}
use Rattle.header_keys.specs.Kinds.{by_personality, asked_kind}
use Rattle.header_keys.specs.Functions.{body_of}

-- ---- a function's encodings

abbrev ok : ℕ → Extent → Bool
ok word e = encodings_ok word (body_of e []).landings (body_of e []).named

abbrev lsda_by : ℕ → code.Option Lsda → Bool
lsda_by word (Some l) = is_some (pointer_size false word l.encoding)
lsda_by word None = true

abbrev ok_by : ℕ → Kind → Bool
ok_by word Plain = true
ok_by word Personal = true
ok_by word (Named p) = is_some (pointer_size true word p.encoding) && lsda_by word p.lsda

lsda_is : (word : ℕ) (o : code.Option Lsda) → lsda_ok word (meant_lsda o) ≡ lsda_by word o
unfolding lsda_ok meant_lsda
lsda_is word (Some l) = refl
lsda_is word None = refl

named_is : (word : ℕ) (o : code.Option Personality) → named_ok word (meant_personality o) ≡ ok_by word (by_personality o)
unfolding named_ok meant_personality by_personality
named_is word (Some p) = rw (lsda_is word p.lsda)
named_is word None = refl

kind_is : (f : ℕ → Landing) (word at n : ℕ) (o : code.Option Personality)
    → encodings_ok word (each f at n) (meant_personality o) ≡ ok_by word (pick (eqb n 0) (by_personality o) Personal)
unfolding encodings_ok each
kind_is f word at zero o = rw (if-eq 0 0 (by_personality o) Personal refl) (named_is word o)
kind_is f word at (suc n) o = let h : suc n ≢ 0 = λ e. omega arith in rw (if-ne (suc n) 0 (by_personality o) Personal h)

-- ---- by the code's answer

module _ (word : ℕ) (e : Extent) {k : Kind} (a : k ≡ asked_kind e) where
  ok_is : {v : Kind} → k ≡ v → ok_by word v ≡ ok word e
  unfolding meant asked_kind
  ok_is q = sym (kind_is (landing_at []) word e.landings_at e.landings e.personality ∙ ap (ok_by word) (sym a ∙ q))

  pub unnamed : k ≡ Plain → true ≡ ok word e
  unnamed q = ok_is q

  pub landed : k ≡ Personal → true ≡ ok word e
  landed q = ok_is q

  module _ (p : Personality) (q : k ≡ Named p) where
    pub unknown : is_some (pointer_size true word p.encoding) ≡ false → false ≡ ok word e
    unknown n = rw n at (ok_is q)

    module _ (y : is_some (pointer_size true word p.encoding) ≡ true) where
      pub no_lsda : p.lsda ≡ None → true ≡ ok word e
      no_lsda n = rw (y, n) at (ok_is q)

      pub both : (l : Lsda) → p.lsda ≡ Some l → is_some (pointer_size false word l.encoding) ≡ ok word e
      both l n = rw (y, n) at (ok_is q)

-- ---- a size is never 0

abbrev NeverZero : Option ℕ → Type 0
NeverZero o = size_or0 o ≡ 0 → o ≡ none

never_pick : (b : Bool) {x y : Option ℕ} → NeverZero x → NeverZero y → NeverZero (pick b x y)
unfolding pick
never_pick true h k = h
never_pick false h k = k

never_some : (n : ℕ) → 0 < n → NeverZero (some n)
unfolding size_or0
never_some n h e = absurd (omega arith)

-- where there is a word, an encoding whose size is 0 is not accepted
pub size_refuses : (indirect : Bool) (word e : ℕ) → 0 < word → size_or0 (pointer_size indirect word e) ≡ 0
    → pointer_size indirect word e ≡ none
unfolding pointer_size size_of
size_refuses indirect word e h =
    never_pick _
    (never_pick _ (never_some word h)
    (never_pick _ (never_some 4 (omega arith)) (never_pick _ (never_some 8 (omega arith)) (λ z. refl))))
    (λ z. refl)

-- What the tests of a relocation say of it, and its value in two steps.
use Rattle.std.proofs.Common.{◌≡◌, ℕ, ◌+◌, ◌-◌, ◌*◌, ◌^◌, ◌<◌, ◌≤◌, ◌&&◌, T, eqb, leb, ℤ, pos, ◌-ℤ◌, refl, sym, ap, arith}
use mathlib.Core.Option.{Option, none, some}
use mir.Facts.{eqb_yes, and_yes, leb_yes}
use Rattle.std.specs.Prelude as code
use Rattle.std.specs.Prelude.{Some, None}
use Rattle.format.specs.Prelude.{after}
use Rattle.format.proofs.Asked.{option_of, none_is, value_is}
use Rattle.format.proofs.FieldsBack.{word_small}
use Rattle.format.specs.Lists.{Relocation}
use Rattle.format.specs.Questions.{is_some}
use Rattle.apply.specs.declared.Width.{Width}
use Rattle.apply.specs.declared.Width.TheVariants.{W6, W8, W16, W32}
use Rattle.apply.specs.declared.Kind.{Kind}
use Rattle.apply.specs.declared.Kind.TheVariants.{Data, Address, SumPlus, SumMinus, Image, Set, Sub, Unknown}
use Rattle.apply.specs.Kinds.{kind_of, bytes_of, size_ok}
use Rattle.apply.specs.Fields.{up_to, signed32}
use Rattle.apply.specs.Values.{Layout, address_of, sum_of, value_as}
use Rattle.apply.specs.Apply.{paired, value_ok, sound}
use Rattle.apply.specs.Standing.{true_value, fitted}

-- ---- the sizes of fields

abbrev pub OneToEight : ℕ → Type 0
OneToEight n = (0 < n) × (n ≤ 8)

four : (n : ℕ) → T (eqb n 4) → OneToEight n
four n t = omega (arith, eqb_yes t)

of_width : (w : Width) (n : ℕ) → T (eqb n (bytes_of w)) → OneToEight n
of_width W6 n t = omega (arith, eqb_yes t)
of_width W8 n t = omega (arith, eqb_yes t)
of_width W16 n t = omega (arith, eqb_yes t)
of_width W32 n t = omega (arith, eqb_yes t)

pub sized : (k : Kind) (n : ℕ) → T (size_ok k n) → OneToEight n
unfolding size_ok
sized Data n t = four n t
sized Address n t = word_small n t
sized SumPlus n t = word_small n t
sized SumMinus n t = word_small n t
sized Image n t = four n t
sized (Set w) n t = of_width w n t
sized (Sub w) n t = of_width w n t
sized Unknown n t = absurd t

pub step_size : (w : Width) (n : ℕ) → T (size_ok (Set w) n) → n ≡ bytes_of w
unfolding size_ok
step_size w n t = eqb_yes t

pub step_size_2 : (w : Width) (n : ℕ) → T (size_ok (Sub w) n) → n ≡ bytes_of w
unfolding size_ok
step_size_2 w n t = eqb_yes t

-- what a sound relocation's store needs
pub sound_store : (l : Layout) (size : ℕ) (before : Option Relocation) (r : Relocation) (behind : Option Relocation) → T (sound l size before r behind)
    → (r.place + r.bytes ≤ size) × T (size_ok (kind_of r.kind) r.bytes)
unfolding sound
sound_store l size before r behind t =
    let k : Kind = kind_of r.kind in
    let a = size_ok k r.bytes in
    let b = paired k before r behind in
    let c = is_some (address_of l.symbols r.symbol) in
    let d = leb (r.place + r.bytes) size in
    let x = (and_yes (a && b && c && d) (value_ok k l r behind) t).0 in
    let y = and_yes (a && b && c) d x in
    (leb_yes y.1, (and_yes a b (and_yes (a && b) c y.0).0).0)

-- ---- a value, and then its field

base_taken : (o : Option ℤ) (b : ℤ) (f : ℤ → Option ℕ) → after (after o (λ z. some (z -ℤ b))) f ≡ after o (λ z. f (z -ℤ b))
unfolding after
base_taken none b f = refl
base_taken (some z) b f = refl

fitted_value : (k : Kind) (l : Layout) (r : Relocation) (behind : Option Relocation) → after (true_value k l r behind) (fitted k r.bytes) ≡ value_as k l r behind
unfolding true_value fitted value_as after
fitted_value Data l r behind = base_taken (sum_of l.symbols r) (pos (l.section + r.place)) signed32
fitted_value Address l r behind = refl
fitted_value SumPlus l r behind = refl
fitted_value SumMinus l r behind = refl
fitted_value Image l r behind = base_taken (sum_of l.symbols r) (pos l.image) (up_to (2 ^ (8 * r.bytes) - 1))
fitted_value (Set w) l r behind = refl
fitted_value (Sub w) l r behind = refl
fitted_value Unknown l r behind = refl

module _ (k : Kind) (l : Layout) (r : Relocation) (behind : Option Relocation) where
  pub no_value : ◌≡◌ {A = code.Option ℤ} None (option_of (true_value k l r behind)) → ◌≡◌ {A = code.Option ℕ} None (option_of (value_as k l r behind))
  unfolding after
  no_value e = rw (none_is (true_value k l r behind) (sym e)) at (ap option_of (fitted_value k l r behind))

  pub value_fitted : (z : ℤ) → Some z ≡ option_of (true_value k l r behind) → option_of (fitted k r.bytes z) ≡ option_of (value_as k l r behind)
  unfolding after
  value_fitted z e = rw (value_is (true_value k l r behind) (sym e)) at (ap option_of (fitted_value k l r behind))

-- The code's relocations as the definitions' records, and what stands beside one in a list of numbers.
use Rattle.std.specs.Prelude.{ℕ, ◌+◌, ◌-◌, ◌*◌, ◌%◌, ◌^◌, ◌≤◌, ◌<◌, List, ℤ, pos, neg_ℤ, ◌-ℤ◌, ◌≤ℤ◌, ◌<ℤ◌, ◌==◌, Some, None, Ok, Err, nat_lt}
use Rattle.std.specs.Prelude as code
use Rattle.std.proofs.Math.Option.{Option, none, some}
use Rattle.format.specs.Prelude.{pick, after}
use Rattle.format.specs.Lists.{Relocation, relocation_stride, relocation_at, count}
use Rattle.apply.specs.declared.Reloc.{Reloc}
use Rattle.apply.specs.declared.Placement.{Placement}
use Rattle.apply.specs.declared.Width.{Width}
use Rattle.apply.specs.declared.Kind.{Kind}
use Rattle.apply.specs.declared.Kind.TheVariants.{Data, Address, SumPlus, SumMinus, Image, Set, Sub, Unknown}
use Rattle.apply.specs.Kinds.{bits_of}
use Rattle.apply.specs.Fields.{up_to, signed32, low_of, field_at, in_field}
use Rattle.apply.specs.Values.{Layout, layout_of, sum_of, apart}

abbrev pub meant : Reloc → Relocation
meant r = record { place = r.place; symbol = r.symbol; kind = r.kind; bytes = r.bytes; addend = r.addend }

-- the layout that the code passes on
abbrev pub placed : Placement → Layout
placed l = layout_of l.addresses.now l.section l.image

unfoldable pub beside : code.Option Reloc → Option Relocation
beside (Some r) = some (meant r)
beside None = none

unfoldable pub before_at : List ℕ → ℕ → Option Relocation
before_at rs i = pick (i == 0) none (some (relocation_at rs (i - 1)))

unfoldable pub behind_at : List ℕ → ℕ → Option Relocation
behind_at rs i = pick (nat_lt (i + 1) (count relocation_stride rs)) (some (relocation_at rs (i + 1))) none

-- the bounds of an address plus an addend, which have 64 bits each
abbrev pub SumRange : ℤ → Type 0
SumRange z = (neg_ℤ (pos (2 ^ 63)) ≤ℤ z) × (z <ℤ pos (2 ^ 65))

-- the value of a relocation before it is fitted into its field
unfoldable pub true_value : Kind → Layout → Relocation → Option Relocation → Option ℤ
true_value Data l r behind = after (sum_of l.symbols r) λ z. some (z -ℤ pos (l.section + r.place))
true_value Address l r behind = sum_of l.symbols r
true_value SumPlus l r behind = apart l.symbols r behind
true_value SumMinus l r behind = none
true_value Image l r behind = after (sum_of l.symbols r) λ z. some (z -ℤ pos l.image)
true_value (Set w) l r behind = none
true_value (Sub w) l r behind = none
true_value Unknown l r behind = none

-- a value as it stands in a field of n bytes
unfoldable pub fitted : Kind → (n : ℕ) → ℤ → Option ℕ
fitted Data n z = signed32 z
fitted Address n z = up_to (2 ^ (8 * n) - 1) z
fitted SumPlus n z = up_to (2 ^ (8 * n) - 1) z
fitted SumMinus n z = up_to (2 ^ (8 * n) - 1) z
fitted Image n z = up_to (2 ^ (8 * n) - 1) z
fitted (Set w) n z = up_to (2 ^ (8 * n) - 1) z
fitted (Sub w) n z = up_to (2 ^ (8 * n) - 1) z
fitted Unknown n z = up_to (2 ^ (8 * n) - 1) z

-- the low bits of what is made of a field of Set and Sub and of the low 64 bits of an address plus an addend, in that field
unfoldable pub patched : Width → (made : ℕ → ℕ → ℕ) → List ℕ → ℕ → Option ℤ → List ℕ
patched w made bs p none = bs
patched w made bs p (some z) = in_field w bs p (made (field_at w bs p) (low_of 64 z) % 2 ^ bits_of w)

-- 0, or the number of the question that was answered by no
abbrev pub answer_of : code.Result Unit ℕ → ℕ
answer_of (Ok u) = 0
answer_of (Err n) = n

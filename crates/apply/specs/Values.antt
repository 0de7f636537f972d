-- What a relocation stores (request W-211): S is the symbol's address, A the addend, P the field's address (RISC-V psABI, "Relocations").
use Rattle.std.specs.Prelude.{ℕ, ◌+◌, ◌-◌, ◌*◌, ◌^◌, List, ℤ, pos, ◌+ℤ◌, ◌-ℤ◌, nat_eq}
use Rattle.std.proofs.Math.Option.{Option, none, some}
use Rattle.std.specs.Int.{w64}
use Rattle.std.proofs.Common.{to_z}
use Rattle.format.specs.Prelude.{after, first, each}
use Rattle.format.specs.Lists.{Relocation, field, count}
use Rattle.apply.specs.declared.Width.{Width}
use Rattle.apply.specs.declared.Kind.{Kind}
use Rattle.apply.specs.declared.Kind.TheVariants.{Data, Address, SumPlus, SumMinus, Image, Set, Sub, Unknown}
use Rattle.apply.specs.Kinds.{bits_of, kind_of}
use Rattle.apply.specs.Fields.{up_to, signed32, set_in, sub_in, whole_in}

-- where everything ended up: symbols with their addresses, the first byte of the section, and the image
pub record Layout : Type 0 where
  pub symbols : List (ℕ × ℕ)
  pub section : ℕ
  pub image : ℕ

-- a list of addresses: two numbers each
abbrev pub address_stride : ℕ
address_stride = 2

unfoldable pub symbol_at : List ℕ → ℕ → ℕ × ℕ
symbol_at xs i = (field address_stride xs i 0, field address_stride xs i 1)

unfoldable pub symbols_of : List ℕ → List (ℕ × ℕ)
symbols_of xs = each (symbol_at xs) 0 (count address_stride xs)

abbrev pub layout_of : (addresses : List ℕ) (section image : ℕ) → Layout
layout_of addresses section image = record { symbols = symbols_of addresses; section = section; image = image }

-- of a symbol that is listed twice the first counts
unfoldable pub address_of : List (ℕ × ℕ) → ℕ → Option ℕ
address_of ss symbol = after (first (λ a. nat_eq a.0 symbol) ss) λ a. some a.1

-- S + A: the addend has 64 bits, two's complement, and the sum no width
unfoldable pub sum_of : List (ℕ × ℕ) → Relocation → Option ℤ
sum_of ss r = after (address_of ss r.symbol) λ s. some (pos s +ℤ to_z w64 r.addend)

-- S + A of a relocation less that of the one behind it
unfoldable pub apart : List (ℕ × ℕ) → Relocation → Option Relocation → Option ℤ
apart ss r behind = after (sum_of ss r) λ x. after (after behind (sum_of ss)) λ y. some (x -ℤ y)

-- the value as it stands in its field, where it fits; of a Sum pair the first has it
unfoldable pub value_as : Kind → Layout → Relocation → Option Relocation → Option ℕ
value_as Data l r behind = after (sum_of l.symbols r) λ z. signed32 (z -ℤ pos (l.section + r.place))
value_as Address l r behind = after (sum_of l.symbols r) λ z. up_to (2 ^ (8 * r.bytes) - 1) z
value_as SumPlus l r behind = after (apart l.symbols r behind) λ z. up_to (2 ^ (8 * r.bytes) - 1) z
value_as SumMinus l r behind = none
value_as Image l r behind = after (sum_of l.symbols r) λ z. up_to (2 ^ (8 * r.bytes) - 1) (z -ℤ pos l.image)
value_as (Set w) l r behind = none
value_as (Sub w) l r behind = none
value_as Unknown l r behind = none

-- the true distance of a Set and Sub pair, where its field holds it
unfoldable pub distance_of : Width → List (ℕ × ℕ) → Relocation → Option Relocation → Option ℕ
distance_of w ss r behind = after (apart ss r behind) λ z. up_to (2 ^ bits_of w - 1) z

-- a relocation's store. Sum minus stores nothing: the pair's value is stored by Sum plus, right before it
unfoldable pub store_as : Kind → Layout → List ℕ → Relocation → Option Relocation → List ℕ
store_as Data l bs r behind = whole_in r.bytes bs r.place (value_as Data l r behind)
store_as Address l bs r behind = whole_in r.bytes bs r.place (value_as Address l r behind)
store_as SumPlus l bs r behind = whole_in r.bytes bs r.place (value_as SumPlus l r behind)
store_as SumMinus l bs r behind = bs
store_as Image l bs r behind = whole_in r.bytes bs r.place (value_as Image l r behind)
store_as (Set w) l bs r behind = set_in w bs r.place (sum_of l.symbols r)
store_as (Sub w) l bs r behind = sub_in w bs r.place (sum_of l.symbols r)
store_as Unknown l bs r behind = bs

unfoldable pub store_of : Layout → List ℕ → Relocation → Option Relocation → List ℕ
store_of l bs r behind = store_as (kind_of r.kind) l bs r behind

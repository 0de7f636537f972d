-- Relocations applied to a section's bytes: questions 52, 79 and 80, and the stores (request W-211).
use Rattle.std.specs.Prelude.{◌≡◌, ℕ, suc, ◌+◌, Bool, true, false, not, ◌&&◌, ◌||◌, List, [], ◌∷◌, length, ◌==◌, nat_le, nat_lt}
use Rattle.std.proofs.Math.Option.{Option, none, some}
use Rattle.format.specs.Prelude.{pick, Result, good, bad}
use Rattle.format.specs.Put.{put}
use Rattle.format.specs.Lists.{Relocation, relocations_of}
use Rattle.format.specs.Questions.{is_some}
use Rattle.apply.specs.declared.Kind.{Kind}
use Rattle.apply.specs.declared.Kind.TheVariants.{Data, Address, SumPlus, SumMinus, Image, Set, Sub, Unknown}
use Rattle.apply.specs.Kinds.{kind_of, size_ok}
use Rattle.apply.specs.Values.{Layout, layout_of, address_of, value_as, distance_of, store_of}

-- ---- neighbours

-- the first of a list
unfoldable pub front : List Relocation → Option Relocation
front [] = none
front (r ∷ rs) = some r

-- a test of every relocation with the one right before it and the one right behind it
abbrev pub Test : Type 0
Test = Option Relocation → Relocation → Option Relocation → Bool

unfoldable pub everywhere : Test → (before : Option Relocation) → List Relocation → Bool
everywhere test before [] = true
everywhere test before (r ∷ rs) = test before r (front rs) && everywhere test (some r) rs

-- Sum minus right behind Sum plus, Sub right behind Set of its width, at one place: the second's kind is the next number
unfoldable pub partners : Relocation → Relocation → Bool
partners r s = s.kind == suc r.kind && s.place == r.place && s.bytes == r.bytes

-- r and then s, or s and then r, where there is one
unfoldable pub leads : Relocation → Option Relocation → Bool
leads r none = false
leads r (some s) = partners r s

unfoldable pub follows : Relocation → Option Relocation → Bool
follows r none = false
follows r (some s) = partners s r

unfoldable pub paired : Kind → (before : Option Relocation) → Relocation → (behind : Option Relocation) → Bool
paired Data before r behind = true
paired Address before r behind = true
paired SumPlus before r behind = leads r behind
paired SumMinus before r behind = follows r before
paired Image before r behind = true
paired (Set w) before r behind = leads r behind
paired (Sub w) before r behind = follows r before
paired Unknown before r behind = true

-- ---- question 79: a kind and size of the writers, the partner there, the symbol known, the field inside `size` bytes, the value in its field

-- the kinds whose value has to fit
unfoldable pub measured : Kind → Bool
measured Data = true
measured Address = true
measured SumPlus = true
measured SumMinus = false
measured Image = true
measured (Set w) = false
measured (Sub w) = false
measured Unknown = false

unfoldable pub value_ok : Kind → Layout → Relocation → Option Relocation → Bool
value_ok k l r behind = not (measured k) || is_some (value_as k l r behind)

unfoldable pub sound : Layout → (size : ℕ) → Test
sound l size before r behind =
    let k : Kind = kind_of r.kind in
    size_ok k r.bytes && paired k before r behind && is_some (address_of l.symbols r.symbol) && nat_le (r.place + r.bytes) size
    && value_ok k l r behind

-- ---- question 80: the true distance of a Set and Sub pair, not negative and no larger than its field holds

unfoldable pub near_as : Kind → List (ℕ × ℕ) → Relocation → Option Relocation → Bool
near_as Data ss r behind = true
near_as Address ss r behind = true
near_as SumPlus ss r behind = true
near_as SumMinus ss r behind = true
near_as Image ss r behind = true
near_as (Set w) ss r behind = is_some (distance_of w ss r behind)
near_as (Sub w) ss r behind = true
near_as Unknown ss r behind = true

unfoldable pub near : List (ℕ × ℕ) → Test
near ss before r behind = near_as (kind_of r.kind) ss r behind

-- ---- the stores, in list order

unfoldable pub stores : Layout → List ℕ → List Relocation → List ℕ
stores l bs [] = bs
stores l bs (r ∷ rs) = stores l (store_of l bs r (front rs)) rs

-- ---- the whole

-- the bytes put in place, in a buffer of `room` bytes
unfoldable pub apply : (bytes relocations addresses : List ℕ) (section image room : ℕ) → Result (List ℕ)
apply bytes relocations addresses section image room =
    let l : Layout = layout_of addresses section image in
    let rs : List Relocation = relocations_of relocations in
    pick (nat_lt room (length bytes)) (bad 52)
    (pick (not (everywhere (sound l (length bytes)) none rs)) (bad 79)
    (pick (not (everywhere (near l.symbols) none rs)) (bad 80) (good (stores l bytes rs))))

-- what is answered: 0, or the question's number; and what the lent buffer holds at exit: the result at its front, or what it held
unfoldable pub number_in : Result (List ℕ) → ℕ
number_in (good bs) = 0
number_in (bad n) = n

unfoldable pub buffer_in : Result (List ℕ) → List ℕ → List ℕ
buffer_in (good bs) old = put old 0 bs
buffer_in (bad n) old = old

pub record Applies (a : Result (List ℕ)) (r : ℕ) (out out' : List ℕ) : Type 0 where
  pub number : r ≡ number_in a
  pub stored : out' ≡ buffer_in a out

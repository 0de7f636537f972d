-- What the tests of room say: no sum or product of them passes what the machine holds.
use mathlib.Core.Path.{◌≡◌, sym}
use mathlib.Core.Bool.{true, false}
use Prim.Native.Nat.{ℕ, ◌+◌, ◌*◌, ◌-◌, ◌/◌, ◌≤◌, ◌<◌}
use native.Mathlib.Nat.{mul_comm, zero-mul, le-div_iff_mul-le, not-le_of_lt, lt_of_not-le}
use native.Mathlib.Omega.{arith}
use borrow.Author.Tests.{le-leb, lt-leb}
use lib.Dec.{leb}
use Rattle.lists.proofs.Answers.{same_leb}

module _ (count stride room : ℕ) where
  pub no_stride : stride ≡ 0 → true ≡ leb (stride * count) room
  no_stride e = sym (le-leb (stride * count) room (rw (e, zero-mul) (omega arith)))

  module _ (h : 0 < stride) where
    in_all : count ≤ room / stride → stride * count ≤ room
    in_all l = rw (mul_comm stride count) ((le-div_iff_mul-le h).0 l)

    by_parts : stride * count ≤ room → count ≤ room / stride
    by_parts l = (le-div_iff_mul-le h).1 (rw (mul_comm stride count) at l)

    pub by_stride : leb count (room / stride) ≡ leb (stride * count) room
    by_stride = same_leb count (room / stride) (stride * count) room in_all (λ l. lt_of_not-le (λ m. not-le_of_lt l (by_parts m)))

module _ (at i stride room : ℕ) where
  pub too_far : room < at → false ≡ leb (at + stride * i + stride) room
  too_far h = sym (lt-leb (at + stride * i + stride) room (omega arith))

  pub too_many : at ≤ room → room - at < stride * i → false ≡ leb (at + stride * i + stride) room
  too_many h l = sym (lt-leb (at + stride * i + stride) room (omega arith))

  pub one_more : at ≤ room → stride * i ≤ room - at → leb stride (room - at - stride * i) ≡ leb (at + stride * i + stride) room
  one_more h l = same_leb stride (room - at - stride * i) (at + stride * i + stride) room (λ m. omega arith) (λ m. omega arith)

-- `middle_size` adds up.
use native.Mathlib.Omega.{arith}
use Rattle.rows.proofs.Signs.{passed}
use Rattle.rows.proofs.Bytes.{sleb_ten}
use Rattle.headers.proofs.Lengths.{bit_low, uleb_most, middle_length}
use Rattle.headers.proofs.Head.middle_size.Goals as goal

pub overflow_add-result-2 : goal.overflow_add-result-2
overflow_add-result-2 c =
    omega (arith, rw (passed c.data_factor.result c.data_factor.type_inv) at c.sleb_size-factor.ensures, sleb_ten c.data_factor.result c.data_factor.type_inv, c.from.ensures, bit_low c.args.self.now.extent.now.signal)

pub overflow_add-result-3 : goal.overflow_add-result-3
overflow_add-result-3 c =
    omega (
      arith,
      rw (passed c.data_factor.result c.data_factor.type_inv) at c.sleb_size-factor.ensures,
      sleb_ten c.data_factor.result c.data_factor.type_inv,
      c.from.ensures,
      bit_low c.args.self.now.extent.now.signal,
      c.uleb_size.ensures,
      uleb_most c.args.self.now.machine.now.ret,
    )

pub returns : goal.returns
returns c =
    let s = rw (passed c.data_factor.result c.data_factor.type_inv) at c.sleb_size-factor.ensures in
    let f = rw c.data_factor.ensures at s in (
      omega (arith, middle_length c.args.self.now.machine.now.word c.args.self.now.machine.now.ret c.args.self.now.extent.now.signal, f, c.from.ensures, c.uleb_size.ensures),
      omega (arith, s, sleb_ten c.data_factor.result c.data_factor.type_inv, c.from.ensures, bit_low c.args.self.now.extent.now.signal, c.uleb_size.ensures, uleb_most c.args.self.now.machine.now.ret),
    )

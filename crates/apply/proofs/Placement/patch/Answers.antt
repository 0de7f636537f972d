-- `Placement::patch` meets its contract.
use Rattle.std.proofs.Common.{sym, ◌∙◌, rules}
use Rattle.apply.specs.Values.{symbols_of}
use Rattle.apply.specs.Standing.{meant}
use Rattle.format.proofs.Asked.{none_is, value_is}
use Rattle.apply.proofs.Wrap.{sum_low}
use Rattle.apply.proofs.Patches.{patched_none, patched_some}
use Rattle.apply.proofs.Placement.patch.Goals as goal

pub returns-in_default : goal.returns-in_default
returns-in_default g c = λ of says.
    let a = c.args in
    patched_none a.w of a.copy.now a.r.place (symbols_of a.self.now.addresses.now) (meant a.r) (none_is _ (sym c.address_of.ensures ∙ c.in_default.is))

pub returns : goal.returns
returns g c = λ of says.
    let a = c.args in
    c.le.ensures.stored
    ∙ patched_some a.w of a.copy.now a.r.place (symbols_of a.self.now.addresses.now) (meant a.r) (value_is _ (sym c.address_of.ensures ∙ c.in-Some.is))
    c.bytes.ensures c.modulus-m.ensures.0 c.number_at-old.ensures.0 (rw (sum_low c.in-Some.s a.r.addend (search rules)) at (says _ _ _ c.made.ensures))

use Rattle.std.proofs.Common.{◌≡◌, ℕ, ◌*◌, ◌<◌, false, eqb, get_or}
use Rattle.apply.proofs.Placement.address_of.Given as goal

abbrev pub invariant-loop-i : goal.invariant-loop-i
invariant-loop-i l = (k : ℕ) → k < l.i → eqb (get_or l.self.addresses.now (2 * k) 0) l.symbol ≡ false

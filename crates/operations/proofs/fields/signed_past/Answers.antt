-- `signed_past` answers a number that 64 bits hold, and no other.
use Prim.Native.Nat.{◌+◌, ◌*◌, ◌^◌, ◌≤◌, ◌<◌}
use mathlib.Core.Path.{◌≡◌, ◌∙◌}
use mathlib.Core.Logic.{◌⊎◌, inl, inr, ◌≢◌}
use native.Mathlib.Omega.{arith}
use Rattle.operations.specs.declared.fields.Groups.{Groups}
use Rattle.operations.proofs.Readings.{fits, past_tenth, held_over, held_value}
use Rattle.operations.proofs.fields.signed_past.Goals as goal

signed_fits : (g : Groups) → (g.count ≤ 9) × (g.scale ≡ 128 ^ g.count) × (g.top < 64) × (g.low < g.scale)
    → ((g.count ≡ 9) × (g.top ≤ 0)) ⊎ (g.count ≢ 9) → g.top * g.scale + g.low < 2 ^ 63
signed_fits g h (inl t) = omega (arith, fits g.count g.scale g.top g.low h.1 h.3 1 (omega arith) h.0 (omega arith) (inl (t.0, omega (arith, t.1))))
signed_fits g h (inr n) = omega (arith, fits g.count g.scale g.top g.low h.1 h.3 1 (omega arith) h.0 (omega arith) (inr n))

pub returns-then-g-gt0 : goal.returns-then-g-gt0
returns-then-g-gt0 c =
    held_over c.args.neg _ c.args.at c.args.g.end (past_tenth _ _ _ _ c.requires.1 c.requires.3 1 c.if-g-eq9.true c.if-g-gt0.true)

pub overflow_mul-g : goal.overflow_mul-g
overflow_mul-g c = let r = c.requires in omega (arith, signed_fits c.args.g (r.0, r.1, r.2, r.3) c.else-g-eq9.either)

pub overflow_add-g : goal.overflow_add-g
overflow_add-g c = let r = c.requires in omega (arith, signed_fits c.args.g (r.0, r.1, r.2, r.3) c.else-g-eq9.either)

pub signed_of-requires : goal.signed_of-requires
signed_of-requires c = let r = c.requires in signed_fits c.args.g (r.0, r.1, r.2, r.3) c.else-g-eq9.either

pub signed_value-requires : goal.signed_value-requires
signed_value-requires c = c.requires.4

pub returns : goal.returns
returns c =
    let r = c.requires in
    c.signed_value.ensures
    ∙ held_value c.args.neg (c.args.g.top * c.args.g.scale + c.args.g.low) c.args.at c.args.g.end c.signed_of.ensures (signed_fits c.args.g (r.0, r.1, r.2, r.3) c.else-g-eq9.either)

-- `arm64_back::packed_down` meets its contract.
use mathlib.Core.Path.{◌≡◌, sym, ap, subst, ◌∙◌}
use Prim.Native.Nat.{ℕ, ◌*◌}
use native.Mathlib.Omega.{arith}
use Rattle.std.specs.Prelude.{Some}
use Rattle.arm64_back.specs.Down.{number_in}
use Rattle.arm64.specs.declared.Part.TheVariants.{Prologue}
use Rattle.arm64.specs.declared.Packed.{Packed}
use Rattle.arm64.specs.Packed.{packed_of, slot_at}
use Rattle.arm64_back.proofs.Down.{slots_down, next_down, no_more, not_defined, packed_frame, whole}
use Rattle.arm64_back.proofs.packed_down.Goals as goal

pub returns-then-not-is_defined-clause-sum : goal.returns-then-not-is_defined-clause-sum
returns-then-not-is_defined-clause-sum c = sym (ap number_in (not_defined c.args.word (sym c.is_defined.ensures ∙ c.if-not-is_defined.true)))

pub overflow_add-down : goal.overflow_add-down
overflow_add-down c =
    let p : Packed = c.of-w.result.fields in
    let is : p ≡ packed_of c.args.word = c.of-w.ensures ∙ ap packed_of c.from.ensures in
    let all : slots_down (slot_at Prologue p) 0 19 ≡ 16 * p.frame =
    subst (λ (q : Packed). slots_down (slot_at Prologue q) 0 19 ≡ 16 * q.frame) (sym is) (whole c.args.word (sym c.is_defined.ensures ∙ c.if-not-is_defined.false)) in
    omega (
      arith,
      c.loop-i.invariant,
      next_down (slot_at Prologue p) c.loop-i.i c.loop-i-test.true,
      c.slot_down-down.ensures,
      all,
      c.of-w.result.small.low_frame,
    )

pub loop-i-preserved : goal.loop-i-preserved
loop-i-preserved c =
    omega (
      arith,
      c.loop-i.invariant,
      next_down (slot_at Prologue c.of-w.result.fields) c.loop-i.i c.loop-i-test.true,
      c.slot_down-down.ensures,
    )

pub returns : goal.returns
returns c =
    let p : Packed = c.of-w.result.fields in
    let yes = sym c.is_defined.ensures ∙ c.if-not-is_defined.false in
    let is : p ≡ packed_of c.args.word = c.of-w.ensures ∙ ap packed_of c.from.ensures in
    let all : slots_down (slot_at Prologue p) 0 19 ≡ 16 * (packed_of c.args.word).frame =
    ap (λ (q : Packed). slots_down (slot_at Prologue q) 0 19) is ∙ whole c.args.word yes in
    let down : c.loop-i.down ≡ 16 * (packed_of c.args.word).frame =
    omega (arith, c.loop-i.invariant, no_more (slot_at Prologue p) c.loop-i.i c.loop-i-test.false, all) in
    record {
      sum = ap (λ (n : ℕ). Some n) down ∙ sym (ap number_in (packed_frame c.args.word yes));
      frame = λ t. ap (λ (n : ℕ). Some n) down;
    }

-- `cfi_rules::run::remember` meets its contract.
use Rattle.std.proofs.Common.{refl, ◌∙◌, arith}
use Rattle.cfi_rules.specs.States.{run_of}
use Rattle.cfi_rules.proofs.Logged.{too_many, no_room_to_remember, remembered, mark_counted, mark_filled}
use Rattle.cfi_rules.proofs.run.remember.Goals as goal

pub returns-then-s-ge16 : goal.returns-then-s-ge16
returns-then-s-ge16 c =
    let s = c.args.s.now in too_many (run_of s) s.log refl s.filled (omega (arith, s.counted, c.if-s-ge16.true))

pub returns-in_default : goal.returns-in_default
returns-in_default c =
    let s = c.args.s.now in
    no_room_to_remember (run_of s) s.log refl s.filled (omega (arith, s.counted, c.if-s-ge16.false)) c.in_default.ensures.full

pub invariant_of-s-2 : goal.invariant_of-s-2
invariant_of-s-2 c =
    let s = c.args.s.now in
    record {
      counted = mark_counted s.rules s.log _ s.frame c.in-Ok.ensures.ok ∙ omega (arith, s.counted);
      filled = mark_filled s.rules s.log _ s.frame c.in-Ok.ensures.ok s.filled;
    }

pub returns : goal.returns
returns c =
    let s = c.args.s.now in
    remembered (run_of s) s.log refl s.filled _ (omega (arith, s.counted, c.if-s-ge16.false)) (c.in-Ok.ensures.variant.0 refl) c.in-Ok.ensures.ok

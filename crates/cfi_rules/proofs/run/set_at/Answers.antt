-- `cfi_rules::run::set_at` meets its contract.
use Rattle.std.proofs.Common.{refl, sym, ◌∙◌, arith, set}
use Rattle.cfi_rules.specs.States.{run_of}
use Rattle.cfi_rules.proofs.Logged.{no_room, set_unstored, set_stored, still_counted, still_filled, change_counted, change_filled}
use Rattle.cfi_rules.proofs.run.set_at.Goals as goal

pub invariant_of-s : goal.invariant_of-s
invariant_of-s c =
    let s = c.args.s.now in
    let z = s.counted ∙ c.if-s-eq0.true in
    record {
      counted = still_counted s.rules (set s.rules c.args.at c.args.rule) s.log z s.filled ∙ sym c.if-s-eq0.true;
      filled = still_filled s.rules (set s.rules c.args.at c.args.rule) s.log z s.filled;
    }

pub returns-then-s-eq0 : goal.returns-then-s-eq0
returns-then-s-eq0 c =
    let s = c.args.s.now in
    set_unstored (run_of s) s.log refl s.filled c.args.at c.args.rule (s.counted ∙ c.if-s-eq0.true)

pub returns-in_default : goal.returns-in_default
returns-in_default c =
    let s = c.args.s.now in
    no_room (run_of s) s.log refl s.filled c.args.at c.args.rule c.in_default.ensures.full

pub invariant_of-s-2 : goal.invariant_of-s-2
invariant_of-s-2 c =
    let s = c.args.s.now in
    record {
      counted = change_counted s.rules s.log _ c.args.at _ c.args.rule c.rule_at-was.ensures c.in-Ok.ensures.ok ∙ s.counted;
      filled =
          change_filled s.rules s.log _ c.args.at _ c.args.rule c.rule_at-was.ensures c.in-Ok.ensures.ok
          (omega (arith, s.counted, c.if-s-eq0.false)) s.filled;
    }

pub returns : goal.returns
returns c =
    let s = c.args.s.now in
    set_stored (run_of s) s.log refl s.filled _ c.args.at _ c.args.rule (c.in-Ok.ensures.variant.0 refl) c.rule_at-was.ensures c.in-Ok.ensures.ok

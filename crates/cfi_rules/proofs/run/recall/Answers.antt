-- `cfi_rules::run::recall` meets its contract.
use Rattle.std.proofs.Common.{refl, sym, ◌∙◌, arith}
use Rattle.cfi_rules.specs.States.{run_of}
use Rattle.cfi_rules.proofs.Logged.{nothing_stored, recalled_as, none_back, some_back, emptied}
use Rattle.cfi_rules.proofs.run.recall.Goals as goal

pub undo-requires : goal.undo-requires
undo-requires c = c.args.s.now.filled

pub invariant_of-s : goal.invariant_of-s
invariant_of-s c =
    let s = c.args.s.now in
    let u = c.in_default.ensures in
    let e = emptied c.undo.new.rules _ u.1 in
    record { counted = e.0 ∙ sym (none_back _ u.0) ∙ s.counted; filled = e.1 }

pub returns-in_default : goal.returns-in_default
returns-in_default c = let s = c.args.s.now in nothing_stored (run_of s) s.log refl c.in_default.ensures.0

pub overflow_sub-s : goal.overflow_sub-s
overflow_sub-s c = let l = some_back _ c.in-Some.ensures.0 in omega (arith, c.args.s.now.counted)

pub invariant_of-s-2 : goal.invariant_of-s-2
invariant_of-s-2 c =
    let u = c.in-Some.ensures in
    let l = some_back _ u.0 in
    record { counted = omega (arith, c.args.s.now.counted); filled = u.1 }

pub returns : goal.returns
returns c = let s = c.args.s.now in recalled_as (run_of s) s.log refl _ _ c.undo.new.log c.in-Some.ensures.0

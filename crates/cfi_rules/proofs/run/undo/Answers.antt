-- `cfi_rules::run::undo` meets its contract.
use Rattle.std.proofs.Common.{sym, ◌∙◌}
use Rattle.std.proofs.lemmas.Bool.{false≢true}
use Rattle.cfi_rules.proofs.Logged.{mark_taken, change_taken, none_taken}
use Rattle.cfi_rules.proofs.run.undo.Goals as goal

pub returns-in-Mark : goal.returns-in-Mark
returns-in-Mark c =
    let i = c.loop-entry.invariant in
    let m = mark_taken _ _ _ i.1 _ (rw c.in-Mark.is at c.in-Some.ensures.items) in
    (i.0 ∙ m.0, m.1)

pub loop-entry-preserved : goal.loop-entry-preserved
loop-entry-preserved c =
    let i = c.loop-entry.invariant in
    let t = change_taken _ _ _ i.1 _ _ (rw c.in-Was.is at c.in-Some.ensures.items) in
    rw c.put.ensures (i.0 ∙ sym t.0, t.1)

pub returns : goal.returns
returns c =
    let i = c.loop-entry.invariant in
    let h = c.in_default.ensures in
    let n = none_taken c.loop-entry.rules c.loop-entry.log (λ l. false≢true (h.variant.1 l)) in
    rw h.empty (i.0 ∙ n.0, n.1)

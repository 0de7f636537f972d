-- `reader::fields::letters_in` meets its contract.
use mathlib.Core.Bool.{true}
use Rattle.format.specs.Reader.{personality_in, lsda_in}
use Rattle.std.proofs.Common.{drop}
use Rattle.reader.specs.Fields.{Skips, Rests}
use Rattle.reader.proofs.Augmentation.{letters_first, skipped_none, skipped_one, letters_second, found_none, found_one, letters_ended, letters_other, letters_there}
use Rattle.reader.proofs.fields.letters_in.Goals.{then-p+in_ok-at, else-p, then-p-2+in_ok-lsda_in, else-p-2, Joined-p, Joined-p-2}
use Rattle.reader.proofs.fields.letters_in.Goals as goal

-- the personality, where there is one, and the encoding of the pointer to call sites, where there is one
skipped : (c : Joined-p) → Skips c.args.s.now c.if-p.at (personality_in c.args.p.personality c.args.word c.args.s.now)
skipped c = elim c.if-p.branch [ then-p+in_ok-at w ↦ rw w.at-is (skipped_one c.args.s.now c.args.word c.args.p w.if-p.true w.in_ok-at.ensures) | else-p w ↦ rw w.at-is (skipped_none c.args.s.now c.args.word c.args.p w.if-p.false) ]

encoded : (c : Joined-p-2) → Skips c.args.s.now c.if-p.at (personality_in c.args.p.personality c.args.word c.args.s.now) → Rests c.args.s.now true c.if-p-2.size.0 c.if-p-2.size.1 (lsda_in c.args.p.lsda c.args.word (drop c.if-p.at c.args.s.now))
encoded c k = elim c.if-p-2.branch [ then-p-2+in_ok-lsda_in w ↦ rw w.size-is (found_one c.args.s.now c.args.word c.args.p k w.if-p-2.true (rw c.from-start.ensures at w.in_ok-lsda_in.ensures)) | else-p-2 w ↦ rw (w.size-is, c.from-start.ensures) (found_none c.args.s.now c.args.word c.args.p k true w.if-p-2.false) ]

pub returns-in_err-at : goal.returns-in_err-at
returns-in_err-at c = rw c.from_residual.ensures (letters_first c.args.s.now c.args.word c.args.p c.if-p.true c.in_err-at.ensures)

pub returns-in_err-lsda_in : goal.returns-in_err-lsda_in
returns-in_err-lsda_in c =
    rw c.from_residual-in_err-lsda_in.ensures (letters_second c.args.s.now c.args.word c.args.p (skipped (goal.at.returns-in_err-lsda_in c).Joined-p) c.if-p-2.true (rw c.from-start.ensures at c.in_err-lsda_in.ensures))

pub returns-then-s-end : goal.returns-then-s-end
returns-then-s-end c =
    let j = goal.at.returns-then-s-end c in
    letters_ended c.args.s.now c.args.word c.args.p (skipped j.Joined-p) (encoded j.Joined-p-2 (skipped j.Joined-p)) c.if-s-end.true

pub returns-then-from-ne-PCREL_SDATA4 : goal.returns-then-from-ne-PCREL_SDATA4
returns-then-from-ne-PCREL_SDATA4 c =
    let j = goal.at.returns-then-from-ne-PCREL_SDATA4 c in
    letters_other c.args.s.now c.args.word c.args.p (skipped j.Joined-p) (encoded j.Joined-p-2 (skipped j.Joined-p)) c.if-s-end.false (rw c.from.ensures at c.if-from-ne-PCREL_SDATA4.true)

pub returns : goal.returns
returns c =
    let j = goal.at.returns c in
    letters_there c.args.s.now c.args.word c.args.p (skipped j.Joined-p) (encoded j.Joined-p-2 (skipped j.Joined-p)) c.if-s-end.false (rw c.from.ensures at c.if-from-ne-PCREL_SDATA4.false)

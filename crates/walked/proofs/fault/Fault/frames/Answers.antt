-- `fault::Fault::frames` meets its contract.
use mathlib.Core.Path.{◌≡◌, refl, sym, ap, ◌∙◌}
use Prim.Native.Nat.{ℕ}
use native.Mathlib.Omega.{arith}
use lib.ListN.{take, length-set}
use Rattle.std.proofs.lemmas.List.{take_more_set}
use Rattle.walk.proofs.Chains.{go_start, go_unheld, go_refused, go_undefined, go_on, full_unheld, full_held}
use Rattle.walk.proofs.Finding.{find_start, find_full, find_unheld, find_refused, find_undefined, find_on}
use Rattle.walk.specs.declared.Frame.{Frame}
use Rattle.walk.specs.Standing.{caller_as}
use Rattle.walked.specs.Faults.{fault_by}
use Rattle.walked.proofs.Steps.{unheld, held_by, room, no_room}
use Rattle.walked.proofs.fault.Fault.frames.Goals as goal
use Rattle.walked.proofs.fault.Fault.frames.Goals.{in-None, in-Some-held}

pub loop-count-init : goal.loop-count-init
loop-count-init c = record { full = refl; going = go_start _ _ _; finding = find_start _ _ _ }

pub returns-in_default : goal.returns-in_default
returns-in_default c =
    let l = c.loop-count in
    let b = room l.frames l.count l.invariant.full c.loop-count-test.true in
    let n = unheld (fault_by c.args.self.now) (caller_as l.caller) c.in_default.ensures in
    record { walked = go_unheld l.invariant.going b n; found = find_unheld l.invariant.finding b n }

pub returns-in-Err : goal.returns-in-Err
returns-in-Err c =
    let l = c.loop-count in
    let b = room l.frames l.count l.invariant.full c.loop-count-test.true in
    let h = held_by (fault_by c.args.self.now) (caller_as l.caller) c.in-Some.ensures in
    let s = sym c.in-Err.ensures in
    record {
      walked = go_refused l.invariant.going b _ h s;
      found = take_more_set l.frames l.count _ (omega arith) ∙ find_refused l.invariant.finding b _ h s;
    }

pub returns-in-Ok-None : goal.returns-in-Ok-None
returns-in-Ok-None c =
    let l = c.loop-count in
    let b = room l.frames l.count l.invariant.full c.loop-count-test.true in
    let h = held_by (fault_by c.args.self.now) (caller_as l.caller) c.in-Some.ensures in
    let s = sym (rw c.in-Ok-None.field-0-is at c.in-Ok-None.ensures) in
    let m = take_more_set l.frames l.count _ (omega arith) in
    record {
      walked = rw m (go_undefined l.invariant.going b _ h s);
      found = m ∙ find_undefined l.invariant.finding b _ h s;
    }

pub loop-count-preserved : goal.loop-count-preserved
loop-count-preserved c =
    let l = c.loop-count in
    let b = room l.frames l.count l.invariant.full c.loop-count-test.true in
    let h = held_by (fault_by c.args.self.now) (caller_as l.caller) c.in-Some.ensures in
    let s = sym (rw c.in-Ok-Some.field-0-is at c.in-Ok-Some.ensures) in
    let f : Frame = record { position = c.in-Some.holder.position; pc = l.caller.pc } in
    let m = take_more_set l.frames l.count f (omega arith) in
    record {
      full = length-set l.frames l.count f ∙ l.invariant.full;
      going = rw m (go_on l.invariant.going b _ h s);
      finding = rw m (find_on l.invariant.finding b _ h s);
    }

pub returns : goal.returns
returns c =
    let l = c.loop-count in
    let e : l.count ≡ 64 = omega arith in
    let all = no_room l.frames l.count l.invariant.full e in
    let used = ap (λ (n : ℕ). take n l.frames) (sym e) in
    record {
      walked =
          elim c.match-held-2.branch [
            | in-None w ↦ rw (w.ending-is, used) (full_unheld l.invariant.going all (unheld (fault_by c.args.self.now) (caller_as l.caller) w.in-None.ensures))
            | in-Some-held w ↦ rw (w.ending-is, used) (full_held l.invariant.going all _ (held_by (fault_by c.args.self.now) (caller_as l.caller) w.in-Some-held.ensures))
          ];
      found = used ∙ find_full l.invariant.finding all;
    }

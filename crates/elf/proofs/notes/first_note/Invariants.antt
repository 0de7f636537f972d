use Rattle.std.proofs.Common.{◌≡◌, ◌-◌, ◌≤◌}
use Rattle.elf.specs.Notes.{first_note}
use Rattle.elf.proofs.notes.first_note.Given as goal

abbrev pub invariant-loop-i : goal.invariant-loop-i
invariant-loop-i l = record {
  inside : l.at ≤ l.end;
  same : first_note l.file l.name l.kind l.end l.eight (l.end - l.place - l.i) l.at
      ≡ first_note l.file l.name l.kind l.end l.eight (l.end - l.place) l.place;
}

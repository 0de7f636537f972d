-- `dwarf::written` meets its contract.
use mathlib.Core.Path.{refl}
use Rattle.dwarf.proofs.Alignment.{align_ok}
use Rattle.dwarf.proofs.written.Goals as goal

pub invariant_of-result : goal.invariant_of-result
invariant_of-result c = record {
  sound = rw c.function.ensures c.requires.sound;
  aligned = rw c.align_for.ensures (align_ok c.args.x.now.section c.args.x.now.machine c.requires.sound.machine _);
}

pub returns : goal.returns
returns c = record {
  debug = c.is_debug.ensures;
  machine = refl;
  align = c.align_for.ensures;
  extent = c.function.ensures;
  rows = refl;
}

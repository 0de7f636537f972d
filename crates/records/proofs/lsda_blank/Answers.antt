-- `records::lsda_blank` meets its contract.
use mathlib.Core.Path.{refl}
use native.Mathlib.Omega.{arith}
use Rattle.format.proofs.FieldsBack.{word_small}
use Rattle.header_keys.specs.Kinds.{asked_kind}
use Rattle.records.specs.Fields.{lsda_by, blank_in}
use Rattle.records.proofs.Pointed.{blank_by}
use Rattle.records.proofs.lsda_blank.Goals as goal

pub returns-in-Some : goal.returns-in-Some
unfolding blank_in lsda_by
returns-in-Some c = (
  rw (blank_by c.args.f.now.machine.now.word (asked_kind c.args.f.now.extent), ← c.lsda.ensures, c.in-Some.is) c.pointer_bytes.ensures.0,
  c.pointer_bytes.ensures.1 (word_small _ c.args.f.now.sound.machine.is_word).1,
)

pub returns-in-None : goal.returns-in-None
unfolding blank_in lsda_by
returns-in-None c = (
  rw (blank_by c.args.f.now.machine.now.word (asked_kind c.args.f.now.extent), ← c.lsda.ensures, c.in-None.is) refl,
  omega arith,
)

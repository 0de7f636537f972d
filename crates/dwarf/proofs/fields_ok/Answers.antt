-- `dwarf::fields_ok` meets its contract.
use mathlib.Core.Bool.{not}
use mathlib.Core.Path.{ap, sym, ◌∙◌}
use Rattle.rows.proofs.WholeNumbers.{never}
use Rattle.lists.proofs.Answers.{accepted}
use Rattle.dwarf.proofs.fields_ok.Goals as goal

pub returns-then-not-size_ok : goal.returns-then-not-size_ok
returns-then-not-size_ok c = λ p. never p

pub returns-then-not-encodings_ok : goal.returns-then-not-encodings_ok
returns-then-not-encodings_ok c = λ p. never p

pub pairs_ok-requires : goal.pairs_ok-requires
pairs_ok-requires c = c.requires

pub returns : goal.returns
returns c = λ p. (accepted c.size_ok.ensures (ap not c.if-not-size_ok.false), accepted c.encodings_ok.ensures (ap not c.if-not-encodings_ok.false), sym c.pairs_ok.ensures ∙ p)

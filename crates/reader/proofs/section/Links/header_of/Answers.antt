-- `reader::section::Links::header_of` meets its contract.
use mathlib.Core.Path.{sym, ◌∙◌}
use native.Mathlib.Omega.{arith}
use Rattle.format.specs.Prelude.{after}
use Rattle.format.proofs.Asked.{value_is, none_is}
use Rattle.reader.proofs.Seeking.{first_ahead}
use Rattle.reader.proofs.section.Links.header_of.Goals as goal

pub returns-in_err-place : goal.returns-in_err-place
unfolding after
returns-in_err-place c = rw (c.from_residual.ensures, none_is _ (sym c.header_place.ensures ∙ c.in_err-place.was))

pub returns : goal.returns
unfolding after
returns c = rw (value_is _ (sym c.header_place.ensures ∙ c.in_ok-place.was)) c.header_from.ensures

pub header_from-requires : goal.header_from-requires
header_from-requires c = (first_ahead c.args.self.now.bytes.now c.requires.1, omega arith)

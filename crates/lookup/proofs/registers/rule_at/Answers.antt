-- `lookup::registers::rule_at` meets its contract.
use Rattle.std.proofs.Common.{◌∙◌, ap, true}
use Rattle.lookup.specs.Registers.{rule_part}
use Rattle.lookup.proofs.Listing.{part_of}
use Rattle.lookup.proofs.registers.rule_at.Goals as goal

pub returns : goal.returns
returns c = part_of c.numbers_of-read.result _ true c.numbers_of-read.ensures ∙ ap rule_part c.rules_of.ensures

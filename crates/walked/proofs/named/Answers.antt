-- `walked::named` meets its contract.
use mathlib.Core.Bool.{false}
use lib.ListN.{replicate}
use Rattle.format.proofs.FieldsBack.{word_small}
use Rattle.walked.proofs.Marking.{both_marked}
use Rattle.walked.proofs.named.Goals as goal

pub mark_all-m-requires : goal.mark_all-m-requires
mark_all-m-requires c = (word_small c.args.l.word c.requires.0).0

pub mark_all-requires : goal.mark_all-requires
mark_all-requires c = (word_small c.args.l.word c.requires.0).0

pub returns : goal.returns
returns c = let z = c.args in both_marked z.section.now z.l (replicate 128 false) c.mark_all-m.result.named c.mark_all.result.named c.mark_all-m.ensures c.mark_all.ensures

-- `records::debug_relocs` meets its contract.
use lib.ListN.{length-append}
use Rattle.format.proofs.PutLaws.{◌then◌}
use Rattle.records.proofs.FieldRelocs.{debug_numbers, one_length}
use borrow.Author.Rules.{rules}
use Rattle.format.proofs.FieldsBack.{word_small}
use native.Mathlib.Omega.{arith}
use Rattle.records.proofs.debug_relocs.Goals as goal

pub relocation-a-requires : goal.relocation-a-requires
relocation-a-requires c = let h = simp (debug_numbers, length-append, one_length) at c.requires in search rules

pub relocation-b-requires : goal.relocation-b-requires
relocation-b-requires c = let h = simp (debug_numbers, length-append, one_length) at c.requires in let k = simp one_length at c.relocation-a.ensures.past in search rules

pub sum_pair-requires : goal.sum_pair-requires
sum_pair-requires c = let h = simp (debug_numbers, length-append, one_length) at c.requires in let k = simp one_length at c.relocation-a.ensures.past in let j = simp one_length at c.relocation-b.ensures.past in search rules

pub returns : goal.returns
returns c = rw debug_numbers (c.relocation-a.ensures then c.relocation-b.ensures then c.sum_pair.ensures)

pub overflow_add-at-4 : goal.overflow_add-at-4
overflow_add-at-4 c = record { fits = omega (arith, c.args.p.now.low, (word_small _ c.args.f.now.sound.machine.is_word).1) }

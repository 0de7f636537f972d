-- `struct_entries::packed` meets its contract.
use mathlib.Core.Path.{sym}
use lib.Seq.{length-take-le}
use borrow.Author.Rules.{rules}
use Rattle.unwind.specs.Together.{answer_for}
use Rattle.struct_entries.specs.Entries.{needed}
use Rattle.struct_entries.proofs.Parts.{handed}
use Rattle.struct_entries.proofs.packed.Goals as goal

pub overflow_mul-a : goal.overflow_mul-a
unfolding needed
overflow_mul-a c = search rules

pub overflow_mul-b : goal.overflow_mul-b
unfolding needed
overflow_mul-b c = search rules

pub overflow_add-b : goal.overflow_add-b
unfolding needed
overflow_add-b c = search rules

pub slice_bounds-write-end : goal.slice_bounds-write-end
unfolding needed
slice_bounds-write-end c = sym (length-take-le _ _ (search rules))

pub slice_bounds-write-end-2 : goal.slice_bounds-write-end-2
unfolding needed
slice_bounds-write-end-2 c = search rules

pub offset_bounds-t-a : goal.offset_bounds-t-a
unfolding needed
offset_bounds-t-a c = search rules

pub clear-requires : goal.clear-requires
unfolding needed
clear-requires c = search rules

pub returns : goal.returns
unfolding needed
returns c =
    let a = c.args in
    record {
      exports = handed a.x.now.machine.now a.numbers.now a.x.now.functions a.x.now.rows a.x.now.landings.now a.x.now.pairs.now (answer_for a.debug a.x.now.format) _ c.from.ensures c.write-outcome.ensures;
      numbers_after = c.clear.ensures;
    }

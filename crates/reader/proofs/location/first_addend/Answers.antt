-- `reader::location::first_addend` meets its contract.
use Rattle.reader.proofs.Seeking.{search_start}
use Rattle.reader.proofs.location.first_addend.Goals as goal

pub addend_from-requires : goal.addend_from-requires
addend_from-requires c = search_start c.args.relocs.now c.args.place

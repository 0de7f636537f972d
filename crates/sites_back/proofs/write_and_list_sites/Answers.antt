-- `sites_back::write_and_list_sites` meets its contract.
use Rattle.sites_back.specs.Back.{list_answer}
use Rattle.sites_back.proofs.Together.{was_written, listed_together}
use Rattle.sites_back.proofs.write_and_list_sites.Goals as goal

pub written_place-place-requires : goal.written_place-place-requires
written_place-place-requires c = was_written _ _ _ _ _ (rw c.from.ensures at c.relaxed_table-outcome.ensures)

pub returns : goal.returns
unfolding list_answer
returns c =
    let w = rw c.from.ensures at c.relaxed_table-outcome.ensures in
    let r = c.list_sites-answer.ensures in
    record {
      writes = w;
      answer_value = rw (← c.written_place-place.ensures) r.answer_value;
      held_after = rw (← c.written_place-place.ensures) r.held_after;
      landings_back = listed_together _ _ _ _ _ w _ _ c.written_place-place.ensures r.answer_value r.held_after;
    }

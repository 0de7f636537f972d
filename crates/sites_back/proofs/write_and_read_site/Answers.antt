-- `sites_back::write_and_read_site` meets its contract.
use Rattle.sites_back.specs.Back.{site_answer}
use Rattle.sites_back.proofs.Together.{was_written, together}
use Rattle.sites_back.proofs.write_and_read_site.Goals as goal

pub written_place-place-requires : goal.written_place-place-requires
written_place-place-requires c = was_written _ _ _ _ _ (rw c.from.ensures at c.relaxed_table-outcome.ensures)

pub returns : goal.returns
unfolding site_answer
returns c =
    let w = rw c.from.ensures at c.relaxed_table-outcome.ensures in
    record {
      writes = w;
      answer_value = rw (← c.written_place-place.ensures) c.unwind_call_site-answer.ensures;
      read_back = together _ _ _ _ _ w _ _ c.written_place-place.ensures c.unwind_call_site-answer.ensures;
    }

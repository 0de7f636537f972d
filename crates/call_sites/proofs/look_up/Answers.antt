-- `call_sites::look_up` meets its contract.
use mathlib.Core.Path.{◌∙◌}
use Rattle.call_sites.proofs.Tables.{no_table, table_answers}
use Rattle.call_sites.proofs.look_up.Goals as goal

pub returns-in_default : goal.returns-in_default
returns-in_default c = let a = c.args in no_table a.sites.now a.place a.offset c.in_default.ensures

pub returns : goal.returns
returns c = let a = c.args in c.search.ensures ∙ table_answers a.sites.now a.place a.offset c.in-Some.ensures

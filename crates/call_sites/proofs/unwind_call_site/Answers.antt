-- `call_sites::unwind_call_site` meets its contract.
use mathlib.Core.Path.{◌∙◌}
use Rattle.format.specs.CallSiteReader.{site_at, sites_short}
use Rattle.call_sites.proofs.Tables.{in_numbers}
use Rattle.call_sites.proofs.unwind_call_site.Goals as goal

pub returns : goal.returns
returns c = let a = c.args in rw c.look_up.ensures at c.from.ensures ∙ in_numbers (site_at a.sites.now a.place a.offset) (sites_short a.sites.now a.place)

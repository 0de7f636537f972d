-- `call_sites::list_sites` meets its contract.
use lib.ListN.{length}
use Rattle.std.proofs.lemmas.Result.{err_from_is_err_and}
use Rattle.format.specs.CallSiteReader.{sites_short}
use Rattle.call_sites.proofs.Lists.{refuses, unread, counted, no_list, none_listed, too_many, has_room, lists}
use Rattle.call_sites.proofs.list_sites.Goals as goal

pub returns-in_default : goal.returns-in_default
returns-in_default c =
    let a = c.args in
    let x = refuses (sites_short a.sites.now a.place) a.held.now (no_list a.sites.now a.place (length a.held.now) c.in_default.ensures) in
    record { answer_value = x.answer_value; held_after = x.held_after }

pub returns-in_err-listed : goal.returns-in_err-listed
returns-in_err-listed c =
    let a = c.args in
    let p = err_from_is_err_and c.from_residual.result c.from_residual.ensures.1 in
    let u = unread _ _ c.in_err-listed.ensures in
    let x = refuses (sites_short a.sites.now a.place) a.held.now (none_listed a.sites.now a.place (length a.held.now) c.in-Some.ensures u.0) in
    record { answer_value = rw (p.1, p.2, u.1) x.answer_value; held_after = x.held_after }

pub returns-then-held-listed : goal.returns-then-held-listed
returns-then-held-listed c =
    let a = c.args in
    let t = c.in-Some.ensures in
    let x = refuses (sites_short a.sites.now a.place) a.held.now (too_many a.sites.now a.place (length a.held.now) t (counted _ _ c.in_ok-listed.ensures) c.if-held-listed.true) in
    record { answer_value = x.answer_value; held_after = x.held_after }

pub store-requires : goal.store-requires
store-requires c = has_room _ _ (counted _ _ c.in_ok-listed.ensures) c.if-held-listed.false

pub returns : goal.returns
returns c =
    let a = c.args in
    let x = lists a.sites.now a.place c.in-Some.ensures a.held.now _ (counted _ _ c.in_ok-listed.ensures) c.if-held-listed.false c.store.ensures in
    record { answer_value = x.answer_value; held_after = x.held_after }

-- `walked::walked` meets its contract.
use mathlib.Core.Path.{refl, sym, ap, ◌∙◌}
use Rattle.std.proofs.lemmas.List.{length-take-le}
use Rattle.format.specs.Prelude.{Result, onward}
use Rattle.walk.specs.Recorded.{read_trailer}
use Rattle.walk.specs.Walk.{Chain, fitting}
use Rattle.walk.proofs.Trailers.{trailer_bad, trailer_is, trailer_inside, no_recorded, recorded_is}
use Rattle.walked.proofs.Entering.{no_file, none_in_file, with_file, found_in_file, refused_walk}
use Rattle.walked.proofs.walked.Goals as goal

pub returns-in_default : goal.returns-in_default
returns-in_default c =
    let a = c.args in
    let e = no_recorded a.file.now (trailer_bad (read_trailer a.file.now) c.in_default.ensures) in
    record {
      walked = λ room. no_file _ _ a.file.now _ _ _ room e ∙ refused_walk c.refused.result room c.refused.ensures.1;
      found = c.refused.ensures.0 ∙ none_in_file _ _ a.file.now _ _ _ e;
    }

pub slice_bounds-memory-end : goal.slice_bounds-memory-end
slice_bounds-memory-end c =
    let i = trailer_inside c.args.file.now (trailer_is (read_trailer c.args.file.now) c.in-Some.ensures) in
    sym (length-take-le _ _ i.0)

pub chain_of-requires : goal.chain_of-requires
chain_of-requires c = (trailer_inside c.args.file.now (trailer_is (read_trailer c.args.file.now) c.in-Some.ensures)).1

pub returns : goal.returns
returns c =
    let a = c.args in
    let e = recorded_is a.file.now (trailer_is (read_trailer a.file.now) c.in-Some.ensures) refl in
    record {
      walked = λ room. with_file _ _ a.file.now _ _ _ room e ∙ sym (ap (λ (r : Result Chain). onward r (fitting room)) c.chain_of.ensures.walked);
      found = c.chain_of.ensures.found ∙ found_in_file _ _ a.file.now _ _ _ e;
    }

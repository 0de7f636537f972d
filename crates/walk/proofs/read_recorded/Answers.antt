-- `walk::read_recorded` meets its contract.
use mathlib.Core.Path.{sym}
use Rattle.std.proofs.lemmas.List.{length-take-le}
use Rattle.walk.specs.Recorded.{read_trailer}
use Rattle.walk.proofs.Trailers.{trailer_bad, trailer_is, trailer_inside, no_recorded, recorded_is}
use Rattle.walk.proofs.read_recorded.Goals as goal

pub returns-in_err-trailer : goal.returns-in_err-trailer
returns-in_err-trailer c = rw c.from_residual.ensures (no_recorded c.args.file.now (trailer_bad (read_trailer c.args.file.now) c.in_err-trailer.ensures))

pub slice_bounds-result-end : goal.slice_bounds-result-end
slice_bounds-result-end c = let i = trailer_inside c.args.file.now (trailer_is (read_trailer c.args.file.now) c.in_ok-trailer.ensures) in sym (length-take-le _ _ i.0)

pub registers-requires : goal.registers-requires
registers-requires c = (trailer_inside c.args.file.now (trailer_is (read_trailer c.args.file.now) c.in_ok-trailer.ensures)).1

pub returns : goal.returns
returns c = let a = c.args in recorded_is a.file.now (trailer_is (read_trailer a.file.now) c.in_ok-trailer.ensures) c.registers.ensures

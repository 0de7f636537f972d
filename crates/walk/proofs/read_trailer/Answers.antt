-- `walk::read_trailer` meets its contract.
use Rattle.walk.proofs.Trailers.{too_short, too_long, no_distance, no_count, no_size, no_match, numbers}
use mathlib.Core.Path.{sym, ◌∙◌}
use Rattle.walk.proofs.read_trailer.Goals as goal

pub returns-then-n-lt16 : goal.returns-then-n-lt16
returns-then-n-lt16 c = too_short _ c.if-n-lt16.true

pub returns-then-n-gt65536 : goal.returns-then-n-gt65536
returns-then-n-gt65536 c = too_long _ c.if-n-lt16.false c.if-n-gt65536.true

pub returns-in_err-distance : goal.returns-in_err-distance
returns-in_err-distance c = c.from_residual.ensures ∙ no_distance _ c.if-n-lt16.false c.if-n-gt65536.false (rw c.from-trailer.ensures at (sym c.in_err-distance.ensures))

pub returns-in_err-count : goal.returns-in_err-count
returns-in_err-count c = c.from_residual-in_err-count.ensures ∙ no_count _ c.if-n-lt16.false c.if-n-gt65536.false (rw c.from-trailer.ensures at (sym c.in_ok-distance.ensures)) (sym c.in_err-count.ensures)

pub returns-in_err-size : goal.returns-in_err-size
returns-in_err-size c =
    c.from_residual-in_err-size.ensures
    ∙ no_size _ c.if-n-lt16.false c.if-n-gt65536.false (rw c.from-trailer.ensures at (sym c.in_ok-distance.ensures)) (sym c.in_ok-count.ensures) (sym c.in_err-size.ensures)

pub returns-then-not-matches : goal.returns-then-not-matches
returns-then-not-matches c =
    no_match _ c.if-n-lt16.false c.if-n-gt65536.false (rw c.from-trailer.ensures at (sym c.in_ok-distance.ensures)) (sym c.in_ok-count.ensures) (sym c.in_ok-size.ensures) (sym c.matches.ensures ∙ c.if-not-matches.true)

pub returns : goal.returns
returns c =
    numbers _ c.if-n-lt16.false c.if-n-gt65536.false (rw c.from-trailer.ensures at (sym c.in_ok-distance.ensures)) (sym c.in_ok-count.ensures) (sym c.in_ok-size.ensures) (sym c.matches.ensures ∙ c.if-not-matches.false)

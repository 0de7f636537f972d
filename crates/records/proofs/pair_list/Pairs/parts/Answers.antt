-- `records::pair_list::Pairs::parts` meets its contract.
use native.Mathlib.Omega.{arith}
use Rattle.rows.proofs.WholeNumbers.{never}
use Rattle.records.proofs.PairOrder.{parted, from_is}
use Rattle.records.proofs.pair_list.Pairs.parts.Goals as goal

pub returns-then-not-self : goal.returns-then-not-self
returns-then-not-self c = λ p. never p

pub returns-then-count-self : goal.returns-then-count-self
returns-then-count-self c = λ p. never p

pub returns-then-not-parts_below : goal.returns-then-not-parts_below
returns-then-not-parts_below c = λ p. never p

pub returns-then-self-count : goal.returns-then-self-count
returns-then-self-count c = λ p.
    parted (c.args.self.now.ordered c.if-not-self.false) (omega arith) (omega (arith, c.count.ensures, c.if-count-self.false)) (c.parts_below.ensures c.if-not-parts_below.false)
    (λ l. absurd (omega (arith, c.count-2.ensures, c.if-self-count.true)))

pub returns : goal.returns
returns c = λ p.
    parted (c.args.self.now.ordered c.if-not-self.false) (omega arith) (omega (arith, c.count.ensures, c.if-count-self.false)) (c.parts_below.ensures c.if-not-parts_below.false)
    (λ l. from_is c.place_of.ensures p)

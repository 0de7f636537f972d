-- `reader::section::Body::header_tail` meets its contract.
use mathlib.Core.Path.{sym, ◌∙◌}
use Rattle.reader.proofs.Headed.{tail_debug, tail_none, tail_counts, tail_unknown, tail_there}
use Rattle.reader.proofs.section.Body.header_tail.Goals as goal

pub returns-then-self : goal.returns-then-self
returns-then-self c = tail_debug c.args.self.now.bytes.now c.args.at c.args.self.now.layout.debug c.args.self.now.layout.word c.args.p c.if-self.true c.requires

pub returns-in_err-start : goal.returns-in_err-start
returns-in_err-start c = rw c.from_residual.ensures (tail_none c.args.self.now.bytes.now c.args.at c.args.self.now.layout.debug c.args.self.now.layout.word c.args.p c.if-self.false c.counted.ensures c.in_err-start.was)

pub slice_bounds-letters_in-count : goal.slice_bounds-letters_in-count
slice_bounds-letters_in-count c = (tail_counts c.args.self.now.bytes.now c.args.at c.args.self.now.layout.debug c.args.self.now.layout.word c.args.p c.if-self.false c.counted.ensures c.in_ok-start.was).ordered

pub returns-in_err-n : goal.returns-in_err-n
returns-in_err-n c = rw c.from_residual-in_err-n.ensures (tail_unknown c.args.self.now.bytes.now c.args.at c.args.self.now.layout.debug c.args.self.now.layout.word c.args.p c.if-self.false c.counted.ensures c.in_ok-start.was (sym c.letters_in.ensures ∙ c.in_err-n.was))

pub returns : goal.returns
returns c = tail_there c.args.self.now.bytes.now c.args.at c.args.self.now.layout.debug c.args.self.now.layout.word c.args.p c.if-self.false c.counted.ensures c.in_ok-start.was (sym c.letters_in.ensures ∙ c.in_ok-n.was)

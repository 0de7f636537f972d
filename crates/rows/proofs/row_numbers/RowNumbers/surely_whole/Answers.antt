-- `rows::row_numbers::RowNumbers::surely_whole` meets its contract.
use Rattle.rows.proofs.WholeNumbers.{never, fine_words, fine_low}
use Rattle.rows.proofs.row_numbers.RowNumbers.surely_whole.Goals as goal

pub returns-then-in_words : goal.returns-then-in_words
returns-then-in_words c = λ p. fine_words c.args.word c.args.self.kind c.args.self.register c.args.self.operand c.requires c.args.self.ok c.in_words.ensures c.if-in_words.true

pub returns-then-self-eq-OFFSET : goal.returns-then-self-eq-OFFSET
returns-then-self-eq-OFFSET c = λ p. never p

pub returns : goal.returns
returns c = λ p. fine_low c.args.word c.args.self.kind c.args.self.register c.args.self.operand c.if-self-eq-OFFSET.false p

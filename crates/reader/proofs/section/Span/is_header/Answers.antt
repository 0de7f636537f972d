-- `reader::section::Span::is_header` meets its contract.
use Rattle.format.specs.Reader.{is_header}
use Rattle.reader.proofs.section.Span.is_header.Goals as goal

pub returns : goal.returns
unfolding is_header
returns c = rw (c.second.ensures, c.header_id.ensures)

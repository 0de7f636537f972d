-- `header_relocs_count` goes by the personality.
use mathlib.Core.Path.{sym, ap, ◌∙◌}
use mir.Val.{bool_byte}
use Rattle.format.specs.Prelude.{pick}
use Rattle.headers.specs.Kinds.{header_reloc_count}
use Rattle.headers.proofs.Personalities.{counted, count_is}
use Rattle.headers.proofs.header_relocs_count.Goals as goal

pub returns-then-debug : goal.returns-then-debug
unfolding header_reloc_count pick
returns-then-debug c = rw c.if-debug.true

pub returns : goal.returns
returns c = c.from.ensures ∙ ap bool_byte c.is_some.ensures ∙ counted c.args.e.now c.personality.ensures ∙ sym (count_is c.args.debug c.args.e.now c.if-debug.false)

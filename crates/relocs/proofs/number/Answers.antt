-- `relocs::number` stores its number.
use mathlib.Core.Path.{sym}
use Rattle.format.proofs.PutLaws.{put_one}
use borrow.Author.Rules.{rules}
use Rattle.relocs.proofs.number.Goals as goal

pub returns : goal.returns
returns c = record { past = search rules; stored = sym (put_one _ _ _) }

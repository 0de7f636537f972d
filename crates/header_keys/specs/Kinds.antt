-- A header's kind by a function's record.
use Rattle.std.specs.Prelude.{ℕ, eqb, Some, None}
use Rattle.std.specs.Prelude as code
use Rattle.std.proofs.Math.Option.{Option, none, some}
use Rattle.format.specs.Prelude.{pick}
use Rattle.format.specs.Headers.{Kind, plain, personal, named}
use Rattle.lists.specs.declared.Lsda.{Lsda}
use Rattle.lists.specs.declared.Personality.{Personality}
use Rattle.lists.specs.declared.Extent.{Extent}
use Rattle.header_keys.specs.declared.Kind as declared
use Rattle.header_keys.specs.declared.Kind.TheVariants as variants

-- the LSDA's encoding, if there is an LSDA
unfoldable pub lsda_of : code.Option Lsda → Option ℕ
lsda_of (Some l) = some l.encoding
lsda_of None = none

-- the kind of a named personality; the LSDA's symbol does not matter
abbrev pub named_by : Personality → Kind
named_by p = named p.encoding p.routine (lsda_of p.lsda)

-- what the code's kinds mean
unfoldable pub kind_meant : declared.Kind → Kind
kind_meant variants.Plain = plain
kind_meant variants.Personal = personal
kind_meant (variants.Named p) = named_by p

-- the kind that a record asks for: landings beat a named personality
unfoldable pub by_personality : code.Option Personality → declared.Kind
by_personality (Some p) = variants.Named p
by_personality None = variants.Plain

unfoldable pub asked_kind : Extent → declared.Kind
asked_kind e = pick (eqb e.landings 0) (by_personality e.personality) variants.Personal

abbrev pub kind_in : Extent → Kind
kind_in e = kind_meant (asked_kind e)

-- The landings of a part of a list.
use Rattle.std.specs.Prelude.{List}
use Rattle.format.specs.Prelude.{each}
use Rattle.format.specs.Lists.{Landing, landing_stride, landing_at, count}
use Rattle.records.specs.declared.landing_list.Landings as declared

abbrev pub landings_of : declared.Landings → List Landing
landings_of x = each (landing_at x.part.now) 0 (count landing_stride x.part.now)

-- A sum of records as the code counts it.
use Rattle.std.specs.Prelude.{ℕ, leb, Option, Some, None}
use Rattle.format.specs.Prelude.{pick}
use Rattle.format.specs.Lists.{most_records}

-- a sum, where it is not above the most of records
unfoldable pub up_to : ℕ → Option ℕ
up_to n = pick (leb n most_records) (Some n) None

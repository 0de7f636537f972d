-- Call sites of landings in a list of numbers.
use Rattle.std.specs.Prelude.{ℕ, List}
use Rattle.format.specs.Prelude.{each}
use Rattle.format.specs.Lists.{landing_at}
use Rattle.format.specs.CallSites.{sites_bytes}

-- the entries of n landings from `at` on
unfoldable pub sites_in : (landings : List ℕ) → (at n : ℕ) → List ℕ
sites_in landings at n = sites_bytes (each (landing_at landings) at n)

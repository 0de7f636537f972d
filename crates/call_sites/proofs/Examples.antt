-- Worked examples, computed from the reader's definition: a table of two sites behind two zeros, numbers in long form, the table of a
-- cleanup as clang wrote it (differential/expected/lsda.txt), and refusals of each kind.
use mathlib.Core.Path.{◌≡◌, refl}
use Prim.Native.Nat.{ℕ}
use mathlib.Core.Bool.{true, false}
use mathlib.Core.Option.{none, some}
use mathlib.Core.List.{List, [], ◌∷◌, map}
use Rattle.format.specs.Prelude.{pick, next, after, good, bad, onward, or_else, first}
use Rattle.format.specs.Leb.{read_uleb_f, read_uleb}
use Rattle.format.specs.Reader.{read_many, read_counted}
use Rattle.format.specs.CallSiteReader.{site_of, read_site, read_sites_f, read_sites, head_ok, read_table, sites_at, covers, site_at}

two_sites : List ℕ
two_sites = 0 ∷ 0 ∷ 0xff ∷ 0xff ∷ 1 ∷ 8 ∷ 4 ∷ 6 ∷ 0 ∷ 0 ∷ 10 ∷ 2 ∷ 20 ∷ 0 ∷ []

two_read : sites_at two_sites 2 ≡ good (site_of 4 6 0 ∷ site_of 10 2 20 ∷ [])
unfolding two_sites sites_at read_table head_ok read_counted read_many read_sites read_sites_f read_site read_uleb read_uleb_f pick next after onward or_else
two_read = refl

-- the length 9 and the last action 0, of two bytes each
long_read : sites_at (0xff ∷ 0xff ∷ 1 ∷ 0x89 ∷ 0 ∷ 4 ∷ 6 ∷ 0 ∷ 0 ∷ 10 ∷ 2 ∷ 20 ∷ 0x80 ∷ 0 ∷ []) 0 ≡ good (site_of 4 6 0 ∷ site_of 10 2 20 ∷ [])
unfolding sites_at read_table head_ok read_counted read_many read_sites read_sites_f read_site read_uleb read_uleb_f pick next after onward or_else
long_read = refl

cleanup_read : sites_at (0xff ∷ 0xff ∷ 1 ∷ 0x11 ∷ 0 ∷ 0x17 ∷ 0 ∷ 0 ∷ 0x17 ∷ 0x1c ∷ 0x78 ∷ 0 ∷ 0x3b ∷ 5 ∷ 0x89 ∷ 1 ∷ 0 ∷ 0x40 ∷ 0x70 ∷ 0 ∷ 0 ∷ []) 0
    ≡ good (site_of 0 23 0 ∷ site_of 23 28 120 ∷ site_of 59 5 137 ∷ site_of 64 112 0 ∷ [])
unfolding sites_at read_table head_ok read_counted read_many read_sites read_sites_f read_site read_uleb read_uleb_f pick next after onward or_else
cleanup_read = refl

-- the last offset before a site, its first and its last, and the first past it
covered : map (λ o. covers o (site_of 4 6 0)) (3 ∷ 4 ∷ 9 ∷ 10 ∷ []) ≡ false ∷ true ∷ true ∷ false ∷ []
unfolding covers site_of
covered = refl

-- two sites that overlap: the first of the table counts, whether it starts later or not
first_of_two : map (λ o. site_at (0xff ∷ 0xff ∷ 1 ∷ 8 ∷ 6 ∷ 4 ∷ 30 ∷ 0 ∷ 4 ∷ 9 ∷ 20 ∷ 0 ∷ []) 0 o) (5 ∷ 6 ∷ 9 ∷ 10 ∷ 13 ∷ [])
    ≡ good (some (site_of 4 9 20)) ∷ good (some (site_of 6 4 30)) ∷ good (some (site_of 6 4 30)) ∷ good (some (site_of 4 9 20)) ∷ good none ∷ []
unfolding site_at sites_at read_table head_ok read_counted read_many read_sites read_sites_f read_site read_uleb read_uleb_f site_of covers first pick next after onward or_else
first_of_two = refl

-- a place outside, another head, a length past the end; an entry cut off, and an end of 2^64
refusals : (sites_at two_sites 14 ≡ bad 71) × (sites_at two_sites 1 ≡ bad 71) × (sites_at (0xff ∷ 0xff ∷ 1 ∷ 1 ∷ []) 0 ≡ bad 71)
    × (sites_at (0xff ∷ 0xff ∷ 1 ∷ 5 ∷ 4 ∷ 6 ∷ 0 ∷ 0 ∷ 10 ∷ []) 0 ≡ bad 72)
    × (sites_at (0xff ∷ 0xff ∷ 1 ∷ 13 ∷ 0xff ∷ 0xff ∷ 0xff ∷ 0xff ∷ 0xff ∷ 0xff ∷ 0xff ∷ 0xff ∷ 0xff ∷ 1 ∷ 1 ∷ 0 ∷ 0 ∷ []) 0 ≡ bad 72)
unfolding two_sites sites_at read_table head_ok read_counted read_many read_sites read_sites_f read_site read_uleb read_uleb_f site_of pick next after onward or_else
refusals = (refl, refl, refl, refl, refl)

-- The parts of a section from the front: those of the functions behind a pass decide the next one.
use Rattle.std.specs.Prelude.{ℕ, zero, suc, List, [], ◌∷◌, ◌++◌, map, length, eqb}
use Rattle.std.proofs.Math.Option.{Option}
use Rattle.format.specs.Lists.{Relocation}
use Rattle.format.specs.Headers.{Key, key_of}
use Rattle.format.specs.Writer.{Part, Seen, Written, place_in, part_with, align_for, joined}
use Rattle.header_keys.specs.Inputs.{Inputs, count_in, function_in}

-- ---- what parts add up to

unfoldable pub places_in : List Part → List ℕ
places_in ps = map (λ p. p.place) ps

unfoldable pub bytes_in : List Part → List ℕ
bytes_in ps = joined (map (λ p. p.bytes) ps)

unfoldable pub relocs_in : List Part → List Relocation
relocs_in ps = joined (map (λ p. p.relocations) ps)

unfoldable pub sites_in : List Part → List ℕ
sites_in ps = joined (map (λ p. p.sites) ps)

unfoldable pub written_in : List Part → Written
written_in ps = record { places = places_in ps; bytes = bytes_in ps; relocations = relocs_in ps; sites = sites_in ps }

-- ---- the parts

-- the keys of functions from j on, each with its header's place
unfoldable pub seen_from : (ℕ → Key) → ℕ → List ℕ → List Seen
seen_from key j [] = []
seen_from key j (p ∷ ps) = record { key = key j; place = p } ∷ seen_from key (suc j) ps

-- the header's place of the first function in front of k that has its key
unfoldable pub earlier_in : Inputs → ℕ → List Part → Option ℕ
earlier_in x k ps = place_in (key_of x.machine (function_in x k)) (seen_from (λ j. key_of x.machine (function_in x j)) 0 (places_in ps))

-- what function k is padded to
abbrev pub align_in : Inputs → ℕ → ℕ
align_in x k = align_for x.section x.machine.word (eqb (suc k) (count_in x))

-- its part behind the parts ps
unfoldable pub part_behind : Inputs → ℕ → List Part → Part
part_behind x k ps = part_with (earlier_in x k ps) x.section x.machine (align_in x k) (length (bytes_in ps)) (length (sites_in ps)) (function_in x k)

-- the parts of the first k functions
unfoldable pub parts_to : Inputs → ℕ → List Part
parts_to x zero = []
parts_to x (suc k) = parts_to x k ++ (part_behind x k (parts_to x k) ∷ [])

-- all of them, as a section
abbrev pub section_in : Inputs → Written
section_in x = written_in (parts_to x (count_in x))

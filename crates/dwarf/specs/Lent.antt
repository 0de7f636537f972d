-- The lists that are lent for what is written, as the passes over the functions go by them.
use Rattle.std.specs.Prelude.{ℕ}
use Rattle.header_keys.specs.Inputs.{Inputs}
use Rattle.lists.specs.declared.output.Output.{Output}
use Rattle.lists.specs.Lent.{SameLists}
use Rattle.dwarf.specs.declared.Table.{Table}
use Rattle.dwarf.specs.Tables.{Added, Written, Holds}
use Rattle.dwarf.specs.Writable.{PartReady}

-- there is room for the first k functions; for function k of n, behind t
abbrev pub HasRoom : Inputs → (k : ℕ) → Output → Type 0
HasRoom x k to = Holds x k to.places.now to.bytes.now to.relocations.now to.sites.now

abbrev pub ReadyFor : Inputs → (k n : ℕ) → Table → Output → Type 0
ReadyFor x k n t to = PartReady x k n t to.places.now to.bytes.now to.relocations.now to.sites.now

-- function k is written behind t, up to u; the first k functions, up to t
abbrev pub AddsTo : Inputs → (k : ℕ) → (t u : Table) → (old new : Output) → Type 0
AddsTo x k t u old new =
    Added x k t u old.places.now new.places.now old.bytes.now new.bytes.now old.relocations.now new.relocations.now old.sites.now new.sites.now
    × SameLists old new

abbrev pub FillsTo : Inputs → (k : ℕ) → Table → (old new : Output) → Type 0
FillsTo x k t old new =
    Written x k t old.places.now new.places.now old.bytes.now new.bytes.now old.relocations.now new.relocations.now old.sites.now new.sites.now
    × SameLists old new

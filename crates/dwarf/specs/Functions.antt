-- A function as a section writes it: its bytes and relocations behind a table, and whether they fit.
use Rattle.std.specs.Prelude.{◌≡◌, ℕ, Bool, true, false}
use Rattle.format.specs.Writer.{Part, is_debug, align_for}
use Rattle.lists.specs.declared.Lists.{Lists}
use Rattle.header_keys.specs.declared.written.Function.{Function}
use Rattle.header_keys.specs.Inputs.{Inputs, extent_in}
use Rattle.lists.specs.declared.output.Output.{Output}
use Rattle.dwarf.specs.declared.Table.{Table}
use Rattle.dwarf.specs.Pieces.{part_in}
use Rattle.dwarf.specs.Tables.{behind_header, SizeReady, FrontReady, FrontStored, PieceReady, Stored}

-- f is function k, the last one or not
pub record WrittenAs (x : Inputs) (k : ℕ) (last : Bool) (f : Function) : Type 0 where
  pub debug : f.debug ≡ is_debug x.section
  pub machine : f.machine.now ≡ x.machine
  pub align : f.align ≡ align_for x.section x.machine.word last
  pub extent : f.extent ≡ extent_in x k
  pub rows : f.rows.now ≡ x.rows

-- what stands behind its own header, where that is behind t
abbrev pub front_end : Function → Table → Table
front_end f t = behind_header f.debug f.machine.now f.align f.extent t f.rows.now

-- its part behind t, with its header at `cie`
abbrev pub part_for : Function → Lists → Table → (cie : ℕ) → Part
part_for f lists t cie =
    part_in f.debug f.machine.now f.align t.bytes cie t.sites f.extent f.rows.now lists.landings.now lists.pairs.now

-- it can be sized behind t
abbrev pub CanSize : Function → Lists → Table → Type 0
CanSize f lists t = SizeReady f.debug f.machine.now f.align f.extent t f.rows.now lists.landings.now lists.pairs.now

-- its own header can be written behind t, and is written there
abbrev pub FrontFits : Function → Table → Output → Type 0
FrontFits f t to = FrontReady f.debug f.machine.now f.align f.extent t f.rows.now to.bytes.now to.relocations.now

abbrev pub FrontWritten : Function → (t u : Table) → (old new : Output) → Type 0
FrontWritten f t u old new =
    FrontStored f.debug f.machine.now f.align f.extent t u f.rows.now old.bytes.now new.bytes.now old.relocations.now new.relocations.now

-- its own header is written behind t, up to u, where it has one; without one nothing is
pub record HeadWritten (own : Bool) (f : Function) (t u : Table) (old new : Output) : Type 0 where
  pub written : own ≡ true → FrontWritten f t u old new
  pub behind : own ≡ false → u ≡ t
  pub bytes_kept : own ≡ false → new.bytes.now ≡ old.bytes.now
  pub relocations_kept : own ≡ false → new.relocations.now ≡ old.relocations.now

-- and its part
abbrev pub PieceFits : (cie : ℕ) → Function → Lists → Table → Output → Type 0
PieceFits cie f lists t to =
    PieceReady f.debug f.machine.now f.align cie f.extent t f.rows.now lists.landings.now lists.pairs.now to.bytes.now to.relocations.now to.sites.now

abbrev pub PieceWritten : (cie : ℕ) → Function → Lists → (t u : Table) → (old new : Output) → Type 0
PieceWritten cie f lists t u old new =
    Stored (part_for f lists t cie) t u old.bytes.now new.bytes.now old.relocations.now new.relocations.now old.sites.now new.sites.now

-- Walking by a section that was written is walking by the rows of the functions: the read-back theorem for a whole chain of callers.
use mathlib.Core.Path.{◌≡◌, refl, sym, ◌∙◌}
use Prim.Native.Nat.{ℕ, ◌<◌}
use mathlib.Core.Option.{none, some}
use mathlib.Core.List.{List}
use lib.ListN.{get_elem?, get_or}
use lib.Dec.{T, leb}
use Rattle.std.specs.Prelude.{All}
use Rattle.format.specs.Prelude.{bad, onward}
use Rattle.format.specs.declared.Section.{Section}
use Rattle.format.specs.declared.Section.TheVariants.{Elf, Debug}
use Rattle.format.specs.Machine.{machine_of}
use Rattle.format.specs.Lists.{Function, function_stride, count, numbers_of}
use Rattle.format.specs.Writer.{Written, taken, without_exceptions}
use Rattle.format.specs.Questions.{Given, Room, accepted, given_function}
use Rattle.format.specs.RowCheck.{row_check_at}
use Rattle.format.proofs.Choice.{pick_yes}
use Rattle.format.proofs.Accepted.{dwarf_written, taken_size, taken_plain, taken_run}
use Rattle.format.proofs.ReadBack.{kind_of, same_kind_lem, located_written, rules_given}
use Rattle.walk.specs.Visited.{visited}
use Rattle.walk.specs.Walk.{Source, Placed, placed_of, walk_by, by_section, by_rows}
use Rattle.walk.proofs.SameSource.{Agree, same_walk}

taken_signal : (s : Section) (f : Function) → (taken s f).signal ≡ f.signal
unfolding taken without_exceptions
taken_signal Elf f = refl
taken_signal Debug f = refl

known_kind : (s : Section) → T (leb (kind_of s) 1)
known_kind Elf = tt
known_kind Debug = tt

-- what is asked of function k that is listed: it is function k of the list that was written, without relaxing labels, passes the row check, and
-- has its length
pub record Listed (g : Given) (fs : List Placed) (k : ℕ) : Type 0 where
  pub there : k < count function_stride g.functions
  pub plain : (given_function g k).relaxed ≡ none
  pub checked : T (row_check_at g.functions g.rows k)
  pub lengths : (f : Placed) → get_elem? fs k ≡ some f → f.size ≡ (given_function g k).size

module _ (s : Section) (g : Given) (r : Room) (w : Written) (e : dwarf_written s g r ≡ accepted w) (eight : (machine_of g.machine).word ≡ 8) where
  abbrev section : Source
  section = by_section w.bytes (numbers_of w.relocations) (kind_of s)

  agree : (fs : List Placed) (k : ℕ) → Listed g fs k → Agree fs section (by_rows g) k
  unfolding by_section by_rows onward
  agree fs k l p f at_k below =
      let x = located_written s g r w e k l.there in
      let near : p < (taken s (given_function g k)).size = rw (taken_size s (given_function g k), ← l.lengths f at_k) below in
      let run = x.runs p (taken_plain s (given_function g k) l.plain) near ∙ taken_run s (machine_of g.machine) (given_function g k) p ∙ rules_given s g r w e k p l.there l.checked in
      pick_yes (leb (kind_of s) 1) _ (bad 11) (known_kind s) ∙ rw (same_kind_lem s, ← eight, x.located, run, x.signal, taken_signal s (given_function g k)) refl

  -- For an accepted list: the walk by the section is the walk by the rows, the same frames, the same ending or refusal, where the functions that
  -- the walk by the rows visits are as `Listed` asks, whatever the others are. OwnNumbers says that no refusal of the latter has a number of the
  -- reader's.
  pub chain_by_rows : (machine file : List ℕ) (pc stack : ℕ) (functions : List ℕ) (room : ℕ)
      → All (Listed g (placed_of functions)) (visited (by_rows g) machine file pc stack functions)
      → walk_by section machine file pc stack functions room ≡ walk_by (by_rows g) machine file pc stack functions room
  chain_by_rows machine file pc stack functions room l =
      same_walk section (by_rows g) machine file pc stack functions room λ k d h. agree (placed_of functions) (get_or (visited (by_rows g) machine file pc stack functions) k d) (l k d h)

  -- And where those that the walk by the section visits are.
  pub chain_by_section : (machine file : List ℕ) (pc stack : ℕ) (functions : List ℕ) (room : ℕ)
      → All (Listed g (placed_of functions)) (visited section machine file pc stack functions)
      → walk_by section machine file pc stack functions room ≡ walk_by (by_rows g) machine file pc stack functions room
  chain_by_section machine file pc stack functions room l =
      sym (same_walk (by_rows g) section machine file pc stack functions room λ k d h p f at_k below.
      sym (agree (placed_of functions) (get_or (visited section machine file pc stack functions) k d) (l k d h) p f at_k below))

-- Demand 3 for callers with structs: what is accepted of structs is accepted of the numbers that they mean, so it is read back.
use mathlib.Core.Path.{◌≡◌, subst}
use Prim.Native.Nat.{ℕ, ◌<◌, ◌≤◌}
use mathlib.Core.Bool.{Bool, true, false}
use mathlib.Core.Option.{none, some}
use mathlib.Core.List.{List}
use lib.Dec.{T}
use lib.ListN.{length}
use Rattle.format.specs.Prelude.{pick}
use Rattle.format.specs.declared.Section.{Section}
use Rattle.format.specs.declared.Section.TheVariants.{Elf, Debug}
use Rattle.format.specs.Machine.{machine_of}
use Rattle.format.specs.Writer.{Written}
use Rattle.format.specs.Questions.{Question, Room, Answer, refused, empty, accepted, ask, and_then, unless, relaxed_table, relaxed_debug_frame, given_function}
use Rattle.format.specs.Rules.{rules_at, seen}
use Rattle.format.specs.RowCheck.{row_check_at}
use Rattle.format.specs.Reader.{Entry, entries}
use Rattle.format.specs.Lists.{count, function_stride}
use Rattle.format.proofs.Accepted.{dwarf_written}
use Rattle.format.proofs.ReadBack.{read_back, demand_3}
use Rattle.struct_entries.specs.declared.RowAt.{RowAt}
use Rattle.struct_entries.specs.declared.Function.{Function}
use Rattle.struct_entries.specs.Entries.{meant, once_ready, table_is_empty, table_asks, debug_frame_is_empty, debug_frame_asks, ready_for, relaxed_table_of, relaxed_debug_frame_of}

abbrev not_accepted : Answer → Bool
not_accepted (refused n k) = true
not_accepted empty = true
not_accepted (accepted w) = false

-- an acceptance behind questions is that of the answer behind them
behind : (q : Question) (a : Answer) (w : Written) → unless q a ≡ accepted w → a ≡ accepted w
unfolding unless
behind none a w e = e
behind (some x) a w e = absurd (subst (λ (b : Answer). T (not_accepted b)) e tt)

once_ready_lem : (is_empty : Bool) (asks : Question) (ready : Bool) (a : Answer) (w : Written) → once_ready is_empty asks ready a ≡ accepted w → a ≡ accepted w
unfolding once_ready pick
once_ready_lem true asks ready a w e = absurd (subst (λ (b : Answer). T (not_accepted b)) e tt)
once_ready_lem false asks ready a w e = behind (and_then asks (ask ready 54 0)) a w e

module _ (machine numbers : List ℕ) (fs : List Function) (rs : List RowAt) (ls ps : List ℕ) (r : Room) (w : Written) where
  pub table_accepted : (format : ℕ) → relaxed_table_of format machine numbers fs rs ls ps r ≡ accepted w → relaxed_table format (meant machine fs rs ls ps) r ≡ accepted w
  unfolding relaxed_table_of
  table_accepted format e =
      once_ready_lem (table_is_empty format (length fs)) (table_asks format machine) (ready_for numbers (length fs) (length rs)) (relaxed_table format (meant machine fs rs ls ps) r) w e

  pub debug_frame_accepted : (format : ℕ) → relaxed_debug_frame_of format machine numbers fs rs ls ps r ≡ accepted w → relaxed_debug_frame format (meant machine fs rs ls ps) r ≡ accepted w
  unfolding relaxed_debug_frame_of
  debug_frame_accepted format e =
      once_ready_lem (debug_frame_is_empty format (length fs)) (debug_frame_asks machine) (ready_for numbers (length fs) (length rs)) (relaxed_debug_frame format (meant machine fs rs ls ps) r) w e

  -- what demand 3 says of the numbers that the structs mean
  abbrev ReadBack : Section → Type 0
  ReadBack s =
      ((es : List Entry) × (entries w.bytes ≡ some es))
      × ((k q p : ℕ) → k < count function_stride (meant machine fs rs ls ps).functions → (given_function (meant machine fs rs ls ps) k).relaxed ≡ none
      → T (row_check_at (meant machine fs rs ls ps).functions (meant machine fs rs ls ps).rows k) → q ≤ 65535 → p < (given_function (meant machine fs rs ls ps) k).size
      → read_back s (meant machine fs rs ls ps) w k q p ≡ seen q (rules_at (machine_of (meant machine fs rs ls ps).machine) (given_function (meant machine fs rs ls ps) k) p))

  pub demand_3_elf_of : relaxed_table_of 0 machine numbers fs rs ls ps r ≡ accepted w → ReadBack Elf
  unfolding dwarf_written
  demand_3_elf_of e = demand_3 Elf (meant machine fs rs ls ps) r w (table_accepted 0 e)

  pub demand_3_debug_frame_of : relaxed_debug_frame_of 0 machine numbers fs rs ls ps r ≡ accepted w → ReadBack Debug
  unfolding dwarf_written
  demand_3_debug_frame_of e = demand_3 Debug (meant machine fs rs ls ps) r w (debug_frame_accepted 0 e)

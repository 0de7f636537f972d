-- The questions that are asked before 54 of the lent list: what they answer where it is not ready, and that a writer asks them itself.
use mathlib.Core.Path.{◌≡◌, refl, sym, ap, ◌∙◌}
use Prim.Native.Nat.{ℕ, ◌≤◌, ◌<◌}
use mathlib.Core.Bool.{Bool, true, false}
use mathlib.Core.Option.{none, some}
use mathlib.Core.Logic.{◌≢◌}
use mathlib.Core.List.{List}
use native.Mathlib.Omega.{arith}
use lib.Dec.{eqb}
use borrow.Author.Tests.{eq-eqb, ne_eqb, le-leb, lt-leb}
use Rattle.format.specs.Prelude.{pick}
use Rattle.format.specs.Coded.{Outcome}
use Rattle.format.specs.Numbers.{number_of}
use Rattle.format.specs.declared.question.Question.TheVariants.{OtherRoom, Interface, X64Word}
use Rattle.std.specs.Prelude.{None, Ok, Err}
use Rattle.format.specs.declared.Section.TheVariants.{Elf, Debug}
use Rattle.format.specs.Machine.{machine_of, machine_ok}
use Rattle.format.specs.Lists.{count, function_stride, lists_ok}
use Rattle.format.specs.Questions.{Question, Given, Room, Answer, empty, ask, and_then, unless, given_asks, windows_asks, windows_answer, dwarf_answer, dwarf_given, given_functions, relaxed_table, relaxed_debug_frame}
use Rattle.format.specs.Answers.{outcome_of}
use Rattle.format.proofs.Choice.{either}
use Rattle.format.proofs.Accepted.{and_then_assoc}
use Rattle.unwind.proofs.Formats.{none_given, none_given_debug, elf_given, coff_given, mach_o_given, no_table, no_format, other_debug, debug_given}
use Rattle.struct_entries.specs.Entries.{once_ready, table_is_empty, table_asks, debug_frame_is_empty, debug_frame_asks}

-- ---- where the list is not ready

module _ (format f : ℕ) (machine : List ℕ) where
  abbrev table : Outcome
  table = outcome_of (once_ready (table_is_empty format f) (table_asks format machine) false empty)

  abbrev debug_frame : Outcome
  debug_frame = outcome_of (once_ready (debug_frame_is_empty format f) (debug_frame_asks machine) false empty)

  pub table_no_functions : f ≡ 0 → (Ok None) ≡ table
  unfolding once_ready table_is_empty pick outcome_of
  table_no_functions e = rw (eq-eqb f 0 e) refl

  pub debug_frame_no_functions : f ≡ 0 → (Ok None) ≡ debug_frame
  unfolding once_ready debug_frame_is_empty pick outcome_of
  debug_frame_no_functions e = rw (eq-eqb f 0 e) refl

  module _ (h : f ≢ 0) where
    pub table_no_format : 4 < format → Err (11, 0) ≡ table
    unfolding once_ready table_is_empty table_asks unless and_then ask pick outcome_of
    table_no_format l = rw (ne_eqb f 0 h, lt-leb format 4 l, le-leb 3 format (omega arith), ne_eqb format 2 (λ e. omega arith)) refl

    pub table_no_table : format ≤ 4 → 3 ≤ format → (Ok None) ≡ table
    unfolding once_ready table_is_empty pick outcome_of
    table_no_table l m = rw (ne_eqb f 0 h, le-leb format 4 l, le-leb 3 format m) refl

    pub table_no_mach_o : format ≡ 2 → Err (78, 0) ≡ table
    unfolding once_ready table_is_empty table_asks unless and_then ask pick outcome_of
    table_no_mach_o e = rw (ne_eqb f 0 h, lt-leb 3 format (omega arith), eq-eqb format 2 e) refl

    module _ (l : format < 3) (m : format ≢ 2) where
      table_no_machine : machine_ok machine ≡ false → Err (11, 0) ≡ table
      unfolding once_ready table_is_empty table_asks unless and_then ask pick outcome_of
      table_no_machine e = rw (ne_eqb f 0 h, lt-leb 3 format l, ne_eqb format 2 m, le-leb format 4 (omega arith), e) refl

      module _ (ok : machine_ok machine ≡ true) where
        table_no_word : format ≡ 1 → eqb (machine_of machine).word 8 ≡ false → Err (12, 0) ≡ table
        unfolding once_ready table_is_empty table_asks unless and_then ask pick outcome_of
        table_no_word e w = rw (ne_eqb f 0 h, lt-leb 3 format l, ne_eqb format 2 m, le-leb format 4 (omega arith), ok, eq-eqb format 1 e, w) refl

        table_unready_coff : format ≡ 1 → eqb (machine_of machine).word 8 ≡ true → Err (54, 0) ≡ table
        unfolding once_ready table_is_empty table_asks unless and_then ask pick outcome_of
        table_unready_coff e w = rw (ne_eqb f 0 h, lt-leb 3 format l, ne_eqb format 2 m, le-leb format 4 (omega arith), ok, eq-eqb format 1 e, w) refl

        table_unready : format ≢ 1 → Err (54, 0) ≡ table
        unfolding once_ready table_is_empty table_asks unless and_then ask pick outcome_of
        table_unready e = rw (ne_eqb f 0 h, lt-leb 3 format l, ne_eqb format 2 m, le-leb format 4 (omega arith), ok, ne_eqb format 1 e) refl

    elf_by : format ≡ 0 → (ok : Bool) → machine_ok machine ≡ ok → Err (number_of (pick ok OtherRoom Interface), 0) ≡ table
    unfolding pick
    elf_by e true m = table_unready (omega arith) (λ k. omega arith) m (λ k. omega arith)
    elf_by e false m = table_no_machine (omega arith) (λ k. omega arith) m

    pub table_elf : format ≡ 0 → Err (number_of (pick (machine_ok machine) OtherRoom Interface), 0) ≡ table
    table_elf e = elf_by e (machine_ok machine) refl

    coff_by : format ≡ 1 → (ok word : Bool) → machine_ok machine ≡ ok → eqb (machine_of machine).word 8 ≡ word
        → Err (number_of (pick ok (pick word OtherRoom X64Word) Interface), 0) ≡ table
    unfolding pick
    coff_by e true true m w = table_unready_coff (omega arith) (λ k. omega arith) m e w
    coff_by e true false m w = table_no_word (omega arith) (λ k. omega arith) m e w
    coff_by e false word m w = table_no_machine (omega arith) (λ k. omega arith) m

    pub table_coff : format ≡ 1 → Err (number_of (pick (machine_ok machine) (pick (eqb (machine_of machine).word 8) OtherRoom X64Word) Interface), 0) ≡ table
    table_coff e = coff_by e (machine_ok machine) (eqb (machine_of machine).word 8) refl refl

    pub debug_frame_other : format ≢ 0 → (Ok None) ≡ debug_frame
    unfolding once_ready debug_frame_is_empty pick outcome_of
    debug_frame_other e = rw (ne_eqb f 0 h, ne_eqb format 0 e) refl

    module _ (e : format ≡ 0) where
      debug_frame_no_machine : machine_ok machine ≡ false → Err (11, 0) ≡ debug_frame
      unfolding once_ready debug_frame_is_empty debug_frame_asks unless and_then ask pick outcome_of
      debug_frame_no_machine ok = rw (ne_eqb f 0 h, eq-eqb format 0 e, ok) refl

      debug_frame_unready : machine_ok machine ≡ true → Err (54, 0) ≡ debug_frame
      unfolding once_ready debug_frame_is_empty debug_frame_asks unless and_then ask pick outcome_of
      debug_frame_unready ok = rw (ne_eqb f 0 h, eq-eqb format 0 e, ok) refl

      debug_by : (ok : Bool) → machine_ok machine ≡ ok → Err (number_of (pick ok OtherRoom Interface), 0) ≡ debug_frame
      unfolding pick
      debug_by true m = debug_frame_unready m
      debug_by false m = debug_frame_no_machine m

      pub debug_frame_elf : Err (number_of (pick (machine_ok machine) OtherRoom Interface), 0) ≡ debug_frame
      debug_frame_elf = debug_by (machine_ok machine) refl

-- ---- where it is ready they change nothing: a writer asks them itself

and_none : (p : Question) → and_then p none ≡ p
unfolding and_then
and_none none = refl
and_none (some x) = refl

asked : (p q : Question) (a : Answer) → once_ready false p true (unless (and_then p q) a) ≡ unless (and_then p q) a
unfolding once_ready unless and_then ask pick
asked none q a = refl
asked (some x) q a = refl

-- a writer with the questions p, where its result is not empty
asks_itself : (is_empty : Bool) (p q : Question) (a b : Answer) → is_empty ≡ false → b ≡ unless (and_then p q) a → once_ready is_empty p true b ≡ b
asks_itself is_empty p q a b e w = rw (e, w) (asked p q a)

is_empty_lem : (is_empty : Bool) (p : Question) (b : Answer) → is_empty ≡ true → b ≡ empty → once_ready is_empty p true b ≡ b
unfolding once_ready pick
is_empty_lem is_empty p b e w = rw (e, w) refl

module _ (format : ℕ) (g : Given) (r : Room) where
  abbrev n : ℕ
  n = count function_stride g.functions

  abbrev lists : Question
  lists = ask (lists_ok g.functions g.rows g.landings g.pairs) 13 0

  abbrev machine_ok_lem : Question
  machine_ok_lem = ask (machine_ok g.machine) 11 0

  abbrev word_ok : Question
  word_ok = ask (eqb (machine_of g.machine).word 8) 12 0

  abbrev Same : Type 0
  Same = once_ready (table_is_empty format n) (table_asks format g.machine) true (relaxed_table format g r) ≡ relaxed_table format g r

  -- the questions, by the format
  asks_elf : format ≡ 0 → table_asks format g.machine ≡ machine_ok_lem
  unfolding table_asks and_then ask pick
  asks_elf e = rw e (and_none machine_ok_lem)

  asks_coff : format ≡ 1 → table_asks format g.machine ≡ and_then machine_ok_lem word_ok
  unfolding table_asks and_then ask pick
  asks_coff e = rw e refl

  asks_other : 4 < format → table_asks format g.machine ≡ some (11, 0)
  unfolding table_asks and_then ask pick
  asks_other l = rw (ne_eqb format 2 (λ e. omega arith), lt-leb format 4 l) refl

  asks_mach_o : format ≡ 2 → table_asks format g.machine ≡ some (78, 0)
  unfolding table_asks and_then ask pick
  asks_mach_o e = rw e refl

  module _ (h : n ≢ 0) where
    full : format < 3 → table_is_empty format n ≡ false
    unfolding table_is_empty
    full l = rw (ne_eqb n 0 h, lt-leb 3 format l) refl

    elf : format ≡ 0 → Same
    unfolding dwarf_given given_asks
    elf e =
        asks_itself (table_is_empty format n) (table_asks format g.machine) lists (dwarf_answer Elf (machine_of g.machine) (given_functions g) r) (relaxed_table format g r)
        (full (omega arith))
        (elf_given format g r h e
        ∙ ap (λ (p : Question). unless (and_then p lists) (dwarf_answer Elf (machine_of g.machine) (given_functions g) r)) (sym (asks_elf e)))

    mach_o : format ≡ 2 → Same
    unfolding unless and_then
    mach_o e =
        asks_itself (table_is_empty format n) (table_asks format g.machine) lists empty (relaxed_table format g r) (full (omega arith))
        (mach_o_given format g r h e ∙ ap (λ (p : Question). unless (and_then p lists) empty) (sym (asks_mach_o e)))

    coff : format ≡ 1 → Same
    unfolding windows_asks
    coff e =
        asks_itself (table_is_empty format n) (table_asks format g.machine) lists (windows_answer (machine_of g.machine) (given_functions g) r) (relaxed_table format g r) (full (omega arith))
        (coff_given format g r h e
        ∙ ap (λ (p : Question). unless p (windows_answer (machine_of g.machine) (given_functions g) r)) (and_then_assoc machine_ok_lem word_ok lists)
        ∙ ap (λ (p : Question). unless (and_then p lists) (windows_answer (machine_of g.machine) (given_functions g) r)) (sym (asks_coff e)))

    other : 4 < format → Same
    unfolding table_is_empty unless and_then
    other l =
        asks_itself (table_is_empty format n) (table_asks format g.machine) lists empty (relaxed_table format g r)
        (rw (ne_eqb n 0 h, lt-leb format 4 l, le-leb 3 format (omega arith)) refl)
        (no_format format g r h l ∙ ap (λ (p : Question). unless (and_then p lists) empty) (sym (asks_other l)))

    without_table : 3 ≤ format → format ≤ 4 → Same
    unfolding table_is_empty
    without_table l m =
        is_empty_lem (table_is_empty format n) (table_asks format g.machine) (relaxed_table format g r)
        (rw (ne_eqb n 0 h, le-leb 3 format l, le-leb format 4 m) refl) (no_table format g r h l m)

    by_format : Same
    by_format =
        either 5 format (λ l. other l)
        (λ l. either 3 format (λ m. without_table m (omega arith))
        (λ m. either 2 format (λ k. mach_o (omega arith))
        (λ k. either 1 format (λ i. coff (omega arith)) (λ i. elf (omega arith)))))

  none_there : n ≡ 0 → Same
  unfolding table_is_empty
  none_there e = is_empty_lem (table_is_empty format n) (table_asks format g.machine) (relaxed_table format g r) (rw (eq-eqb n 0 e) refl) (none_given format g r e)

  pub table_asks_lem : Same
  table_asks_lem = either 1 n (λ l. by_format (λ e. omega arith)) (λ l. none_there (omega arith))

  abbrev SameDebug : Type 0
  SameDebug = once_ready (debug_frame_is_empty format n) (debug_frame_asks g.machine) true (relaxed_debug_frame format g r) ≡ relaxed_debug_frame format g r

  debug_full : n ≢ 0 → format ≡ 0 → SameDebug
  unfolding debug_frame_is_empty debug_frame_asks dwarf_given given_asks
  debug_full h e =
      asks_itself (debug_frame_is_empty format n) (debug_frame_asks g.machine) lists (dwarf_answer Debug (machine_of g.machine) (given_functions g) r) (relaxed_debug_frame format g r)
      (rw (ne_eqb n 0 h, eq-eqb format 0 e) refl) (debug_given format g r h e)

  debug_other : n ≢ 0 → format ≢ 0 → SameDebug
  unfolding debug_frame_is_empty
  debug_other h e =
      is_empty_lem (debug_frame_is_empty format n) (debug_frame_asks g.machine) (relaxed_debug_frame format g r) (rw (ne_eqb n 0 h, ne_eqb format 0 e) refl) (other_debug format g r h e)

  debug_none : n ≡ 0 → SameDebug
  unfolding debug_frame_is_empty
  debug_none e =
      is_empty_lem (debug_frame_is_empty format n) (debug_frame_asks g.machine) (relaxed_debug_frame format g r) (rw (eq-eqb n 0 e) refl) (none_given_debug format g r e)

  pub debug_frame_asks_lem : SameDebug
  debug_frame_asks_lem =
      either 1 n (λ l. either 1 format (λ m. debug_other (λ e. omega arith) (λ e. omega arith)) (λ m. debug_full (λ e. omega arith) (omega arith)))
      (λ l. debug_none (omega arith))

-- Reading back what was written: for every list that is accepted for DWARF output, in ELF's eh_frame and debug_frame.
use mathlib.Core.Path.{◌≡◌, refl, sym, ap, ◌∙◌}
use Prim.Native.Nat.{ℕ, ◌<◌, ◌≤◌}
use mathlib.Core.Bool.{Bool, true, not, ◌&&◌}
use mathlib.Core.Option.{Option, none, some}
use mathlib.Core.List.{List, [], map}
use native.Mathlib.Omega.{arith}
use lib.ListN.{get_elem?}
use lib.Dec.{T, leb, eqb}
use mir.Facts.{yes_and}
use Rattle.format.specs.Prelude.{good, bad}
use Rattle.format.specs.declared.Machine.{Machine}
use Rattle.format.specs.Coded.{Reading}
use Rattle.std.specs.Prelude.{Ok, Err}
use Rattle.format.specs.declared.Rules.{Rules}
use Rattle.format.specs.Machine.{machine_of, is_word_size}
use Rattle.format.specs.Lists.{Function, Relocation, function_stride, count, numbers_of, relocations_of}
use Rattle.format.specs.declared.Section.{Section}
use Rattle.format.specs.declared.Section.TheVariants.{Elf, Debug}
use Rattle.format.specs.Writer.{is_debug, taken, Written, dwarf, parts_from, parts_of, joined}
use Rattle.format.specs.Questions.{Given, Room, given_functions, given_function, accepted}
use Rattle.format.specs.Rules.{answer, rules_at, seen}
use Rattle.format.specs.RowCheck.{row_check_at}
use Rattle.format.specs.Reader.{Entry, entries, locate, read_section, read, shortest_of, shortest_at}
use Rattle.format.proofs.Choice.{pick_yes}
use Rattle.format.proofs.RowsRun.{run_rows}
use Rattle.format.proofs.ListLaws.{relocations_back}
use Rattle.format.proofs.Accepted.{dwarf_written, Accepted, accepted_is, taken_at, taken_size, taken_plain, taken_run, forward, check_at}
use Rattle.format.proofs.CheckSays.{rules, refuses, Past}
use Rattle.format.proofs.SectionTiles.{entries_of, FieldsHold, fields_hold, section_tiles}
use Rattle.format.proofs.SectionBack.{LocatedBack, section_located, section_read, section_shortest, section_past}

-- the reader's number of a section's kind: 0 eh, 1 debug
abbrev pub kind_of : Section → ℕ
kind_of Elf = 0
kind_of Debug = 1

-- what the reader answers of register q at p in record k, on exactly the section and relocations that were written, with their kind and word
abbrev pub read_back : Section → Given → Written → (k q p : ℕ) → Reading
read_back s g w k q p = read w.bytes (numbers_of w.relocations) (kind_of s) (machine_of g.machine).word k q p

-- whether every number that it read is spelled shortest
abbrev pub shortest_back : Section → Given → Written → (k p : ℕ) → Bool
shortest_back s g w k p = shortest_at w.bytes (numbers_of w.relocations) (kind_of s) (machine_of g.machine).word k p

-- what the definitions write for functions, as the section takes them
abbrev bytes_of : Section → Machine → List Function → List ℕ
bytes_of s m fs = joined (map (λ p. p.bytes) (parts_from s m 0 0 [] fs))

abbrev relocs_of : Section → Machine → List Function → List Relocation
relocs_of s m fs = joined (map (λ p. p.relocations) (parts_from s m 0 0 [] fs))

-- the reader takes the kind and the word of every written section
asked : (s : Section) (word : ℕ) → T (is_word_size word) → T (is_word_size word && leb (kind_of s) 1)
asked Elf word h = yes_and (is_word_size word) true h tt
asked Debug word h = yes_and (is_word_size word) true h tt

pub same_kind_lem : (s : Section) → eqb (kind_of s) 1 ≡ is_debug s
unfolding is_debug
same_kind_lem Elf = refl
same_kind_lem Debug = refl

of_equal : {A : Type 0} (f : Bool → List Relocation → List ℕ → A) {d d' : Bool} {rs rs' : List Relocation} {bs bs' : List ℕ} → d ≡ d' → rs ≡ rs' → bs ≡ bs' → f d rs bs ≡ f d' rs' bs'
of_equal f a b c = rw (a, b, c)

module _ (s : Section) (g : Given) (r : Room) (w : Written) (e : dwarf_written s g r ≡ accepted w) where
  machine : Machine
  machine = machine_of g.machine

  functions : List Function
  functions = map (taken s) (given_functions g)

  a : Accepted s g w
  a = accepted_is s g r w e

  bytes_are : w.bytes ≡ bytes_of s machine functions
  unfolding dwarf parts_of machine functions
  bytes_are = ap (λ (x : Written). x.bytes) a.written

  relocations_are : relocations_of (numbers_of w.relocations) ≡ relocs_of s machine functions
  unfolding dwarf parts_of machine functions
  relocations_are = relocations_back w.relocations ∙ ap (λ (x : Written). x.relocations) a.written

  -- The lengths of the entries, each at least 4, tile the section.
  pub tiles : (es : List Entry) × (entries w.bytes ≡ some es)
  unfolding machine functions
  tiles = (entries_of s machine 0 [] functions, ap entries bytes_are ∙ section_tiles s machine functions a.machine a.functions a.bounded)

  -- Every field that is written in 4 bytes, or in a word, holds its value: each entry's length, each distance, each function's length.
  pub fields : FieldsHold s (machine_of g.machine) 0 [] (map (taken s) (given_functions g))
  fields = fields_hold s (machine_of g.machine) (map (taken s) (given_functions g)) a.machine a.functions a.bounded

  -- what is located, and what is read, is located and read of the bytes of the functions
  located_in : (k p : ℕ) → shortest_back s g w k p
      ≡ shortest_of (machine_of g.machine).word p (locate (is_debug s) (relocs_of s machine functions) (machine_of g.machine).word k (bytes_of s machine functions))
  unfolding shortest_at
  located_in k p =
      ap (shortest_of (machine_of g.machine).word p)
      (pick_yes _ (locate (eqb (kind_of s) 1) (relocations_of (numbers_of w.relocations)) (machine_of g.machine).word k w.bytes) (bad 11)
      (asked s (machine_of g.machine).word a.machine.is_word)
      ∙ of_equal (λ d rs bs. locate d rs (machine_of g.machine).word k bs) (same_kind_lem s) relocations_are bytes_are)

  read_in : (k q p : ℕ) → read_back s g w k q p
      ≡ answer q (read_section (is_debug s) (relocs_of s machine functions) (machine_of g.machine).word k p (bytes_of s machine functions))
  unfolding read
  read_in k q p =
      ap (answer q)
      (pick_yes _ (read_section (eqb (kind_of s) 1) (relocations_of (numbers_of w.relocations)) (machine_of g.machine).word k p w.bytes) (bad 11)
      (asked s (machine_of g.machine).word a.machine.is_word)
      ∙ of_equal (λ d rs bs. read_section d rs (machine_of g.machine).word k p bs) (same_kind_lem s) relocations_are bytes_are)

  -- The general law: for a function k without relaxing labels and p below its length the reader gives what `run_rows` gives, an answer or 67, 68 or 69, whatever the other functions hold.
  pub read_written : (k q p : ℕ) → k < count function_stride g.functions → (given_function g k).relaxed ≡ none → p < (given_function g k).size
      → read_back s g w k q p ≡ answer q (run_rows (machine_of g.machine) (given_function g k) p)
  unfolding read machine functions
  read_written k q p h plain below =
      let m : Machine = machine_of g.machine in
      let f : Function = given_function g k in
      let near : p < (taken s f).size = rw (taken_size s f) below in
      read_in k q p
      ∙ ap (answer q)
      (section_read s m functions a.machine a.functions a.bounded k (taken s f) (taken_at s g k h) p (taken_plain s f plain) near
      ∙ taken_run s m f p)

  -- The record of every function is located, and its header's signal mark is the function's.
  pub located_written : (k : ℕ) → k < count function_stride g.functions
      → LocatedBack (machine_of g.machine) (taken s (given_function g k)) (locate (is_debug s) (relocations_of (numbers_of w.relocations)) (machine_of g.machine).word k w.bytes)
  unfolding machine functions
  located_written k h =
      rw (relocations_are, bytes_are)
      (section_located s (machine_of g.machine) functions a.machine a.functions a.bounded k (taken s (given_function g k)) (taken_at s g k h))

  -- Where the row check says yes the run of the rows never refuses, and it comes to the rules at p.
  pub rules_given : (k p : ℕ) → k < count function_stride g.functions → T (row_check_at g.functions g.rows k)
      → run_rows (machine_of g.machine) (given_function g k) p ≡ good (rules_at (machine_of g.machine) (given_function g k) p)
  rules_given k p h check = rules (machine_of g.machine) (given_function g k) p (forward a k h) (rw (check_at a k h) at check)

  -- Where it says no, the run refuses with 67, 68 or 69 from the last row on.
  pub refuses_given : (k p : ℕ) → k < count function_stride g.functions → T (not (row_check_at g.functions g.rows k))
      → Past p (given_function g k).rows
      → (n : ℕ) × ((run_rows (machine_of g.machine) (given_function g k) p ≡ bad n) × T (leb 67 n && leb n 69))
  refuses_given k p h check past =
      refuses (machine_of g.machine) (given_function g k) p (forward a k h) (rw (check_at a k h) at check) past

  shortest_by : (k q p : ℕ) (o : Option Function) → get_elem? functions k ≡ o → (r : Rules) → read_back s g w k q p ≡ Ok r → shortest_back s g w k p ≡ true
  unfolding machine functions answer
  shortest_by k q p none e r said =
      let z : ◌≡◌ {A = Reading} (Err 62) (Ok r)
      = sym (read_in k q p ∙ ap (answer q) (section_past s machine functions a.machine a.functions a.bounded k p e)) ∙ said in
      let o : ◌≡◌ {A = ℕ} 0 1 = cc in absurd (omega arith)
  shortest_by k q p (some f) e r said = located_in k p ∙ section_shortest s machine functions a.machine a.functions a.bounded k f e p

  -- Whatever the reader answers of a section that was written, every number that it read is spelled shortest; relaxed functions in the list or not.
  pub written_shortest : (k q p : ℕ) (r : Rules) → read_back s g w k q p ≡ Ok r → shortest_back s g w k p ≡ true
  written_shortest k q p r said = shortest_by k q p (get_elem? functions k) refl r said

-- Demand 3. For every list that is accepted for DWARF output the entries' lengths tile the section. And for every function of it without
-- relaxing labels that passes the row check, at every offset p below its length and for every register from 0 to 65,535, the reader, on
-- exactly the section and relocations that were written, never refuses and answers exactly the frame address rule, the register's rule and
-- the signing state that the function's rows give at p.
pub demand_3 : (s : Section) (g : Given) (r : Room) (w : Written) → dwarf_written s g r ≡ accepted w
    → ((es : List Entry) × (entries w.bytes ≡ some es))
    × ((k q p : ℕ) → k < count function_stride g.functions → (given_function g k).relaxed ≡ none
    → T (row_check_at g.functions g.rows k) → q ≤ 65535 → p < (given_function g k).size
    → read_back s g w k q p ≡ seen q (rules_at (machine_of g.machine) (given_function g k) p))
unfolding answer
demand_3 s g r w e = (
  tiles s g r w e,
  λ k q p h plain check small below. read_written s g r w e k q p h plain below ∙ ap (answer q) (rules_given s g r w e k p h check),
)

-- Two sections, one story. Where one list is accepted by both writers of ELF, each with its own room, both sections say the same of every
-- function without relaxing labels, at every offset below its length and for every register: the same rules, or the same number where the
-- rows fail the row check.
pub one_story : (g : Given) (r r' : Room) (w w' : Written) → dwarf_written Elf g r ≡ accepted w → dwarf_written Debug g r' ≡ accepted w'
    → (k q p : ℕ) → k < count function_stride g.functions → (given_function g k).relaxed ≡ none → p < (given_function g k).size
    → read_back Elf g w k q p ≡ read_back Debug g w' k q p
one_story g r r' w w' e e' k q p h plain below =
    read_written Elf g r w e k q p h plain below ∙ sym (read_written Debug g r' w' e' k q p h plain below)

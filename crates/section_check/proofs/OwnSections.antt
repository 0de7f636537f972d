-- Every eh_frame section of our writer passes, read with its word, where all functions pass the row check and none is relaxed.
use mathlib.Core.Path.{◌≡◌, refl, ap, ◌∙◌}
use Prim.Native.Nat.{ℕ, suc, ◌+◌, ◌-◌, ◌^◌, ◌≤◌, ◌<◌}
use native.Mathlib.Omega.{arith}
use mathlib.Core.Bool.{Bool, true, false}
use mathlib.Core.Option.{Option, none, some}
use mathlib.Core.List.{List, [], ◌∷◌, ◌++◌, append_assoc, map}
use lib.ListN.{length, drop, get_elem?, replicate, length-map}
use lib.Dec.{T}
use Rattle.format.specs.Prelude.{pick, next}
use Rattle.format.specs.Leb.{little, read_little}
use Rattle.format.specs.declared.Machine.{Machine}
use Rattle.format.specs.Machine.{machine_of}
use Rattle.format.specs.Lists.{Function, function_stride, count, functions_of, numbers_of}
use Rattle.format.specs.Headers.{Key, key_of}
use Rattle.format.specs.Records.{size_field, record_fields}
use Rattle.format.specs.declared.Section.TheVariants.{Elf}
use Rattle.format.specs.Writer.{is_debug, taken, Seen, Written, dwarf, parts_of}
use Rattle.format.specs.Questions.{size_bytes, Given, Room, given_functions, given_function, accepted}
use Rattle.format.specs.Rules.{answer, seen}
use Rattle.format.specs.RowCheck.{row_check_at}
use Rattle.format.specs.Reader.{Entry, is_header, records, entries, header_place, locate, read_section, read}
use Rattle.format.proofs.Choice.{pick_yes}
use Rattle.format.proofs.LebBack.{little_back}
use Rattle.format.proofs.ListLaws.{each-length, found_inside}
use Rattle.format.proofs.EntryBack.{padded_behind}
use Rattle.format.proofs.HeaderBack.{header_is}
use Rattle.format.proofs.Parts.{header_body, record_body, Spot, spot_of, next_at, next_seen, place_of, cie_of}
use Rattle.format.proofs.SectionTiles.{header_entry, front_entries, record_entry, entries_of, Holds, section_tiles}
use Rattle.format.proofs.SectionBack.{size_said}
use Rattle.format.proofs.SectionFinds.{spot_at, record_holds, record_found}
use Rattle.format.proofs.Accepted.{dwarf_written, Accepted, accepted_is, taken_at, taken_size, taken_plain}
use Rattle.format.proofs.ReadBack.{read_written, rules_given}
use Rattle.section_check.specs.Check.{length_of, answers, read_at, Passes, saying, check_section}
use Rattle.section_check.proofs.Says as says

-- ---- as many records as functions

front_none : (m : Machine) (o : Option ℕ) (align at : ℕ) (k : Key) (es : List Entry) → records false (front_entries Elf m o align at k ++ es) ≡ records false es
unfolding front_entries records header_entry header_body is_debug
front_none m none align at k es = pick_yes _ _ _ (rw padded_behind (header_is false m k at _))
front_none m (some cie) align at k es = refl

one_at_most : (b : Bool) (e : Entry) (es : List Entry) → length (pick b es (e ∷ es)) ≤ suc (length es)
unfolding pick
one_at_most true e es = omega arith
one_at_most false e es = omega arith

few_records : (m : Machine) (at : ℕ) (seen : List Seen) (fs : List Function) → length (records false (entries_of Elf m at seen fs)) ≤ length fs
unfolding entries_of records
few_records m at seen [] = omega arith
few_records m at seen (f ∷ fs) =
    let x : Spot = spot_of Elf m at seen f fs in
    let more : List Entry = entries_of Elf m (next_at Elf m at seen f fs) (next_seen Elf m at seen f fs) fs in
    rw (front_none m x.earlier x.align x.start (key_of m f))
    (omega (arith, one_at_most (is_header false (record_entry Elf m x f)) (record_entry Elf m x f) (records false more), few_records m (next_at Elf m at seen f fs) (next_seen Elf m at seen f fs) fs))

-- ---- a record's length

eight_on : (d : ℕ) (xs : List ℕ) → drop 8 (little 4 d ++ (replicate 4 0 ++ xs)) ≡ xs
unfolding little
eight_on d xs = refl

length_back : (word d : ℕ) (f : Function) (bs : List ℕ) → size_field f.size f.relaxed < 256 ^ 4
    → (next (read_little 4 (drop 8 (record_fields false word d f ++ bs))) λ n rest. some n) ≡ some (size_field f.size f.relaxed)
unfolding record_fields next
length_back word d f bs h = simp append_assoc (rw (eight_on d, little_back 4 (size_field f.size f.relaxed) _ h))

record_length : (m : Machine) (x : Spot) (f : Function) → Holds Elf m x f → f.relaxed ≡ none → length_of (record_entry Elf m x f) ≡ some f.size
unfolding length_of record_entry record_body is_debug size_bytes
record_length m x f h plain =
    rw padded_behind (length_back m.word (place_of Elf m x f + 4 - cie_of x) f _ h.size ∙ ap (λ (n : ℕ). some n) (size_said f.size f.relaxed plain))

-- ---- the section

-- eh_frame's headers are found without relocations
no_relocations : (section rs : List ℕ) (word k q p : ℕ) → read section rs 0 word k q p ≡ read section [] 0 word k q p
unfolding read read_section locate header_place
no_relocations section rs word k q p = refl

-- what is asked of the list: every function passes the row check, and none is relaxed
pub record AllRun (g : Given) : Type 0 where
  pub plain : (k : ℕ) → k < count function_stride g.functions → (given_function g k).relaxed ≡ none
  pub checked : (k : ℕ) → k < count function_stride g.functions → T (row_check_at g.functions g.rows k)

module _ (g : Given) (r : Room) (w : Written) (e : dwarf_written Elf g r ≡ accepted w) (all : AllRun g) where
  machine : Machine
  machine = machine_of g.machine

  functions : List Function
  functions = map (taken Elf) (given_functions g)

  a : Accepted Elf g w
  a = accepted_is Elf g r w e

  listed : List Entry
  listed = entries_of Elf machine 0 [] functions

  tiles : entries w.bytes ≡ some listed
  unfolding machine functions listed dwarf parts_of
  tiles =
      ap (λ (x : Written). entries x.bytes) a.written
      ∙ section_tiles Elf machine functions a.machine a.functions a.bounded

  counted : length functions ≡ count function_stride g.functions
  unfolding functions given_functions functions_of
  counted = rw (length-map, each-length)

  is_one : (k : ℕ) (x : Entry) → get_elem? (records false listed) k ≡ some x → k < count function_stride g.functions
  unfolding listed
  is_one k x s = omega (arith, found_inside (records false listed) k s, few_records machine 0 [] functions, counted)

  module _ (k : ℕ) (h : k < count function_stride g.functions) where
    function : Function
    function = taken Elf (given_function g k)

    spot : Spot
    spot = spot_at Elf machine 0 [] functions k

    there : get_elem? (records false listed) k ≡ some (record_entry Elf machine spot function)
    unfolding machine functions listed function spot is_debug
    there = record_found Elf machine functions a.machine a.functions a.bounded k function (taken_at Elf g k h)

    long : length_of (record_entry Elf machine spot function) ≡ some (given_function g k).size
    unfolding machine functions function spot
    long =
        record_length machine spot function (record_holds Elf machine functions a.machine a.functions a.bounded k function (taken_at Elf g k h)) (taken_plain Elf (given_function g k) (all.plain k h))
        ∙ ap (λ (n : ℕ). some n) (taken_size Elf (given_function g k))

    reads : (q p : ℕ) → p < (given_function g k).size → T (answers (read_at w.bytes (machine_of g.machine).word k q p))
    unfolding answers answer seen
    reads q p below =
        rw (
          ← no_relocations w.bytes (numbers_of w.relocations) (machine_of g.machine).word k q p,
          read_written Elf g r w e k q p h (all.plain k h) below,
          rules_given Elf g r w e k p h (all.checked k h),
        ) tt

  passing : (k : ℕ) (x : Entry) → get_elem? (records false listed) k ≡ some x → Passes w.bytes (machine_of g.machine).word k x
  passing k x s =
      let h = is_one k x s in
      let t = there k h in
      let same : record_entry Elf machine (spot k h) (function k h) ≡ x = cc in
      rw (← same) (record { size = (given_function g k).size; inside = long k h; answered = reads k h })

  pub own_sections_pass : check_section w.bytes (machine_of g.machine).word ≡ saying 0 0
  own_sections_pass =
      says.accepted w.bytes (machine_of g.machine).word
      (record { is_word = a.machine.is_word; listed = listed; tiles = tiles; pass = passing })

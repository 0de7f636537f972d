-- What is written where every question is answered by yes, and what stays where one is not.
use mathlib.Core.Path.{◌≡◌, refl, sym, ap, ◌∙◌}
use Prim.Native.Nat.{ℕ, zero, suc, ◌+◌, ◌*◌, ◌<◌}
use native.Mathlib.Omega.{arith}
use mathlib.Core.Option.{none, some}
use mathlib.Core.List.{List, [], ◌∷◌}
use lib.ListN.{length, replicate, length-replicate}
use Rattle.format.specs.Prelude.{Result, good, bad, onward, each}
use Rattle.format.specs.declared.Seh.{Seh}
use Rattle.format.specs.declared.Counts.{Counts}
use Rattle.std.specs.Prelude.{Some, Ok}
use Rattle.format.specs.Put.{put}
use Rattle.format.proofs.Wrote.{Wrote}
use Rattle.format.specs.Lists.{relocation_stride, Function, Prologue, field, function_at, prologue_at, numbers_of}
use Rattle.format.specs.X64.{codes_of, prologue_of, markers_from, runtime_relocs, runtime_from, x64}
use Rattle.format.specs.Questions.{Question, Room, accepted, and_then, room_asks}
use Rattle.format.specs.Answers.{outcome_of, afterwards, relocation_numbers, Writes}
use Rattle.format.proofs.Asked.{question_of, said_yes}
use Rattle.format.proofs.ListLaws.{each-length}
use Rattle.x64.specs.declared.given.Source.{Source}
use Rattle.x64.specs.declared.given.Source.TheVariants.{Direct, Rows}
use Rattle.lists.specs.Room.{room_for}
use Rattle.x64.specs.Answers.{runtime_bytes, runtime_relocations, runtime_numbers, named_at, ask_each, infos_of}
use Rattle.x64.specs.Listed.{stride_of, Listed}
use Rattle.x64.specs.Sources.{result_at, Agreed, codes_no, length_at, rows_at, codes_at, or_none, found_at, asks_of, table_of}
use Rattle.x64.proofs.Asked.{each_yes}
use Rattle.x64.proofs.Results.{markers_length}

-- ---- every question answered by yes

last_of : (a b c : Question) → and_then a (and_then b c) ≡ none → c ≡ none
unfolding and_then
last_of none none c e = e
last_of none (some x) c e = let w : ◌≡◌ {A = ℕ} 0 1 = cc in absurd (omega arith)
last_of (some x) b c e = let w : ◌≡◌ {A = ℕ} 0 1 = cc in absurd (omega arith)

pub agreed : (s : Source) (fs list : List ℕ) (n : ℕ) → question_of (asks_of s fs list n) ≡ Ok tt → Agreed s fs list n
unfolding asks_of
agreed s fs list n e =
    each_yes (codes_at s fs list) n (last_of (ask_each (length_at s fs) 0 n) (ask_each (rows_at s fs list) 0 n) (ask_each (codes_at s fs list) 0 n) (said_yes (asks_of s fs list n) e))

-- ---- counts

runtime_count : (at : ℕ) (ps : List Prologue) → length (runtime_from at ps) ≡ runtime_relocations * length ps
unfolding runtime_from runtime_relocs
runtime_count at [] = refl
runtime_count at (p ∷ ps) = omega (arith, runtime_count (at + runtime_bytes) ps)

module _ (s : Source) (fs list : List ℕ) (n : ℕ) where
  markers_count : length (table_of s fs list n).places ≡ n
  unfolding x64
  markers_count = markers_length 0 (each (found_at s fs list) 0 n) ∙ each-length (found_at s fs list) 0 n

  pub marks_are : markers_from 0 (each (found_at s fs list) 0 n) ≡ (table_of s fs list n).places
  unfolding x64
  marks_are = refl

  bytes_are : (table_of s fs list n).bytes ≡ replicate (runtime_bytes * n) 0
  unfolding x64
  bytes_are = rw (each-length (found_at s fs list) 0 n)

  bytes_count : length (table_of s fs list n).bytes ≡ runtime_bytes * n
  bytes_count = ap length bytes_are ∙ length-replicate {A = ℕ} (runtime_bytes * n) 0

  relocs_count : length (table_of s fs list n).relocations ≡ runtime_relocations * n
  unfolding x64
  relocs_count = runtime_count 0 (each (found_at s fs list) 0 n) ∙ ap (λ (i : ℕ). runtime_relocations * i) (each-length (found_at s fs list) 0 n)

  sites_are : (table_of s fs list n).sites ≡ infos_of (each (found_at s fs list) 0 n)
  unfolding x64 infos_of
  sites_are = refl

  -- what is needed, by the counts
  abbrev pub needed : Counts
  needed = record { places = n; bytes = runtime_bytes * n; relocations = runtime_numbers * n; sites = length (infos_of (each (found_at s fs list) 0 n)) }

  pub room_same : (r : Room) → room_for needed (record { places = r.places; bytes = r.bytes; relocations = r.relocations; sites = r.sites }) ≡ room_asks r (table_of s fs list n)
  unfolding room_for room_asks
  room_same r =
      let five : relocation_stride * length (table_of s fs list n).relocations ≡ runtime_numbers * n = omega (arith, relocs_count) in
      rw (markers_count, bytes_count, five, sites_are)

  pub accepted_as : {total : ℕ} → total ≡ length (infos_of (each (found_at s fs list) 0 n))
      → Ok (Some (record { places = n; bytes = runtime_bytes * n; relocations = runtime_relocations * n; sites = total })) ≡ outcome_of (accepted (table_of s fs list n))
  unfolding outcome_of
  accepted_as e = rw (markers_count, bytes_count, relocs_count, sites_are, e)

-- ---- a function's symbol and length

module _ (f : Function) where
  by_codes : (r : Result (List (ℕ × Seh))) → codes_no (onward r (λ cs. good (prologue_of f cs))) ≡ none
      → ((or_none (onward r (λ cs. good (prologue_of f cs)))).symbol ≡ f.symbol) × ((or_none (onward r (λ cs. good (prologue_of f cs)))).size ≡ f.size)
  unfolding codes_no onward or_none prologue_of
  by_codes (good cs) e = (refl, refl)
  by_codes (bad n) e = let w : ◌≡◌ {A = ℕ} 0 1 = cc in absurd (omega arith)

named_as : (s : Source) (fs list : List ℕ) (k : ℕ) → codes_no (result_at s fs list k) ≡ none
    → ((found_at s fs list k).symbol ≡ field (stride_of s) fs k 0) × ((found_at s fs list k).size ≡ field (stride_of s) fs k 1)
unfolding result_at stride_of or_none prologue_at function_at
named_as Direct fs list k e = (refl, refl)
named_as (Rows m) fs list k e = by_codes (function_at fs list [] [] k) (codes_of m.machine.now (function_at fs list [] [] k)) e

runtime_same : (f g : ℕ → Prologue) (at k n : ℕ) → ((j : ℕ) → j < k + n → ((f j).symbol ≡ (g j).symbol) × ((f j).size ≡ (g j).size))
    → runtime_from at (each f k n) ≡ runtime_from at (each g k n)
unfolding runtime_from runtime_relocs each
runtime_same f g at k zero h = refl
runtime_same f g at k (suc n) h =
    rw ((h k (omega arith)).0, (h k (omega arith)).1, runtime_same f g (at + runtime_bytes) (suc k) n (λ j l. h j (omega arith)))

module _ {s : Source} {fs list : List ℕ} {n : ℕ} (l : Listed s fs list n) (a : Agreed s fs list n) where
  relocations_are : numbers_of (runtime_from 0 (each (named_at (stride_of s) fs) 0 n)) ≡ relocation_numbers (table_of s fs list n)
  unfolding relocation_numbers x64
  relocations_are =
      ap numbers_of (sym (runtime_same (found_at s fs list) (named_at (stride_of s) fs) 0 0 n (λ j h. named_as s fs list j (a j (omega arith)))))

  -- everything is stored
  pub all_stored : {places places' bytes bytes' relocations relocations' sites sites' : List ℕ} {q r total : ℕ}
      → total ≡ length (infos_of (each (found_at s fs list) 0 n))
      → Wrote bytes bytes' 0 q (replicate (runtime_bytes * n) 0)
      → Wrote relocations relocations' 0 r (numbers_of (runtime_from 0 (each (named_at (stride_of s) fs) 0 n)))
      → places' ≡ put places 0 (markers_from 0 (each (found_at s fs list) 0 n))
      → sites' ≡ put sites 0 (infos_of (each (found_at s fs list) 0 n))
      → Writes (accepted (table_of s fs list n)) (Ok (Some (record { places = n; bytes = runtime_bytes * n; relocations = runtime_relocations * n; sites = total })))
      places places' bytes bytes' relocations relocations' sites sites'
  unfolding afterwards
  all_stored {places} {places'} {bytes} {bytes'} {relocations} {relocations'} {sites} {sites'} t b w m i = record {
    outcome = accepted_as s fs list n t;
    placed = m ∙ ap (put places 0) (marks_are s fs list n);
    stored = b.stored ∙ ap (put bytes 0) (sym (bytes_are s fs list n));
    related = w.stored ∙ ap (put relocations 0) relocations_are;
    sited = i ∙ ap (put sites 0) (sym (sites_are s fs list n));
  }

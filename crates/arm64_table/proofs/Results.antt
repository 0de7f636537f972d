-- What is written where every question is answered by yes, by its counts.
use mathlib.Core.Path.{◌≡◌}
use Prim.Native.Nat.{ℕ, ◌*◌}
use mathlib.Core.List.{List}
use lib.ListN.{length}
use Rattle.std.specs.Prelude.{Some, Ok}
use Rattle.format.specs.Prelude.{each}
use Rattle.format.specs.Put.{put}
use Rattle.format.specs.Lists.{numbers_of}
use Rattle.format.specs.Questions.{Room, accepted, room_asks, per_function}
use Rattle.format.specs.Answers.{outcome_of, afterwards, relocation_numbers, Writes}
use Rattle.format.proofs.Asked.{question_of, said_yes}
use Rattle.format.proofs.ListLaws.{each-length}
use Rattle.lists.specs.Room.{room_for}
use Rattle.arm64.specs.Lists.{Function, numbered_function}
use Rattle.arm64.specs.Writer.{function_asks, markers_from, rows_of, relocs_from, infos_of, arm64}
use Rattle.arm64_table.specs.Tables.{first_of, AllListed, AllFine}
use Rattle.arm64.proofs.WriterLaws.{markers_length}
use Rattle.arm64_table.proofs.Loops.{each_yes, rows-length}

pub all_fine : {fs es cs : List ℕ} {n : ℕ} → AllListed fs es cs n → question_of (per_function function_asks 0 (first_of fs es cs n)) ≡ Ok tt
    → AllFine fs es cs n
all_fine {fs} {es} {cs} {n} a e =
    let yes = each_yes (numbered_function fs es cs) n (said_yes (per_function function_asks 0 (first_of fs es cs n)) e) in
    record { most = a.most; each_one = λ k h. record { listed = a.each_one k h; asked = yes k h } }

module _ (f : ℕ → Function) (n : ℕ) {info relocs : ℕ} (i : info ≡ length (infos_of (each f 0 n))) (j : relocs ≡ length (relocs_from 0 (each f 0 n))) where
  -- 51 to 54, by the counts
  pub room_same : (r : Room)
      → room_for (record { places = n; bytes = 8 * n; relocations = 5 * relocs; sites = info })
      (record { places = r.places; bytes = r.bytes; relocations = r.relocations; sites = r.sites })
      ≡ room_asks r (arm64 (each f 0 n))
  unfolding room_for room_asks arm64
  room_same r = rw (i, j, markers_length 0 (each f 0 n), rows-length (each f 0 n), each-length f 0 n)

  accepted_as : Ok (Some (record { places = n; bytes = 8 * n; relocations = relocs; sites = info })) ≡ outcome_of (accepted (arm64 (each f 0 n)))
  unfolding outcome_of arm64
  accepted_as = rw (i, j, markers_length 0 (each f 0 n), rows-length (each f 0 n), each-length f 0 n)

  pub all_stored : {places places' bytes bytes' relocations relocations' sites sites' : List ℕ} → bytes' ≡ put bytes 0 (rows_of (each f 0 n))
      → relocations' ≡ put relocations 0 (numbers_of (relocs_from 0 (each f 0 n)))
      → places' ≡ put places 0 (markers_from 0 (each f 0 n))
      → sites' ≡ put sites 0 (infos_of (each f 0 n))
      → Writes (accepted (arm64 (each f 0 n))) (Ok (Some (record { places = n; bytes = 8 * n; relocations = relocs; sites = info })))
      places places' bytes bytes' relocations relocations' sites sites'
  unfolding afterwards relocation_numbers arm64
  all_stored b r m s = record { outcome = accepted_as; placed = m; stored = b; related = r; sited = s }

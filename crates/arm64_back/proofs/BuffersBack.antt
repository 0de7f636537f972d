-- The buffers that were lent to the writer, and what the reader says of them.
use mathlib.Core.Path.{◌≡◌, subst, sym, ap, ◌∙◌}
use mathlib.Core.Option.{none}
use mathlib.Core.List.{List, ◌++◌}
use Prim.Native.Nat.{ℕ, ◌≤◌, ◌<◌}
use native.Mathlib.Omega.{arith}
use lib.ListN.{length, get_or, drop, get_or-append}
use lib.Dec.{leb→le}
use Rattle.format.specs.Lists.{count}
use Rattle.format.specs.Writer.{Written}
use Rattle.format.specs.Questions.{Room, room_in, room_asks, accepted}
use Rattle.format.specs.Answers.{afterwards}
use Rattle.format.proofs.Copied.{put_front}
use Rattle.format.proofs.Accepted.{asked, both}
use Rattle.format.proofs.ListLaws.{each-length}
use Rattle.arm64.specs.Lists.{function_stride, numbered_function, functions_of}
use Rattle.arm64.specs.Reader.{read_arm64}
use Rattle.arm64.specs.Writer.{arm64, arm64_answer}
use Rattle.arm64.proofs.WriterLaws.{markers_length}
use Rattle.arm64_back.specs.Back.{given, ReadBack, EntryWord, second_word}
use Rattle.arm64_back.specs.Together.{BuffersBack}
use Rattle.arm64_back.proofs.Arm64Back.{wrote, second_behind, arm64_read}

pub record Rooms (r : Room) (w : Written) : Type 0 where
  pub places : length w.places ≤ r.places
  pub bytes : length w.bytes ≤ r.bytes
  pub sites : length w.sites ≤ r.sites

pub rooms : (r : Room) (w : Written) → room_asks r w ≡ none → Rooms r w
unfolding room_asks
rooms r w e =
    let a = both _ _ e in
    let b = both _ _ a.1 in
    let c = both _ _ b.1 in
    record {
      places = leb→le (length w.places) r.places (asked _ 51 0 a.0);
      bytes = leb→le (length w.bytes) r.bytes (asked _ 52 0 b.0);
      sites = leb→le (length w.sites) r.sites (asked _ 54 0 c.1);
    }

-- the three of the writer's promises (`Writes`, `Exports`) that a reader needs
module _ (fs es cs p b q s : List ℕ) {p' b' s' : List ℕ} (placed : p' ≡ afterwards (λ w. w.places) (arm64_answer fs es cs (room_in p b q s)) p)
    (stored : b' ≡ afterwards (λ w. w.bytes) (arm64_answer fs es cs (room_in p b q s)) b)
    (sited : s' ≡ afterwards (λ w. w.sites) (arm64_answer fs es cs (room_in p b q s)) s) where
  -- as many markers as functions
  pub many : (w : Written) → arm64_answer fs es cs (room_in p b q s) ≡ accepted w → length w.places ≡ count function_stride fs
  unfolding arm64 functions_of
  many w a =
      ap (λ x. length x.places) (sym (wrote fs es cs (room_in p b q s) w a).is) ∙ markers_length 0 (functions_of fs es cs)
      ∙ each-length (numbered_function fs es cs) 0 (count function_stride fs)

  pub marker_is : (w : Written) → arm64_answer fs es cs (room_in p b q s) ≡ accepted w → (k : ℕ) → k < count function_stride fs
      → get_or p' k 0 ≡ get_or w.places k 0
  unfolding afterwards
  marker_is w a k l =
      let fit = rooms (room_in p b q s) w (wrote fs es cs (room_in p b q s) w a).room in
      let marks : p' ≡ w.places ++ drop (length w.places) p = (rw a at placed) ∙ put_front p w.places fit.places in
      ap (λ x. get_or x k 0) marks ∙ get_or-append w.places (drop (length w.places) p) 0 k (omega (arith, many w a))

  -- What the writer stored, read by a word that may stand in function k's row and at its marker.
  pub buffers_back : (k word : ℕ) (es' cs' : List ℕ)
      → BuffersBack fs es cs (arm64_answer fs es cs (room_in p b q s)) k b' word es' cs'
      (read_arm64 word s' (get_or p' k 0) es' cs')
  unfolding afterwards arm64 functions_of
  buffers_back k word es' cs' w a l entry roomy =
      let all = wrote fs es cs (room_in p b q s) w a in
      let fit = rooms (room_in p b q s) w all.room in
      let rows : b' ≡ w.bytes ++ drop (length w.bytes) b = (rw a at stored) ∙ put_front b w.bytes fit.bytes in
      let infos : s' ≡ w.sites ++ drop (length w.sites) s = (rw a at sited) ∙ put_front s w.sites fit.sites in
      let same : second_word b' k ≡ second_word w.bytes k =
      ap (λ x. second_word x k) rows ∙ second_behind fs es cs (room_in p b q s) w a k l (drop (length w.bytes) b) in
      let this : EntryWord (numbered_function fs es cs k) w.bytes k word = record { packed = λ t. entry.packed t ∙ same; placed = entry.placed } in
      subst (λ x. ReadBack (given (numbered_function fs es cs k)) (read_arm64 word x (get_or p' k 0) es' cs')) (sym infos)
      (subst (λ (n : ℕ). ReadBack (given (numbered_function fs es cs k)) (read_arm64 word (w.sites ++ drop (length w.sites) s) n es' cs')) (sym (marker_is w a k l))
      (arm64_read fs es cs (room_in p b q s) w a k l word this (drop (length w.sites) s) es' cs' roomy.epilogues roomy.codes))

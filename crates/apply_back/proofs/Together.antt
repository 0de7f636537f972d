-- eh_frame's writer, its relocations applied, and the reader on the bytes in place.
use mathlib.Core.Path.{◌≡◌, refl, sym, ap, ◌∙◌}
use Prim.Native.Nat.{ℕ, ◌*◌, ◌≤◌, ◌<◌}
use native.Mathlib.Omega.{arith}
use mathlib.Core.Bool.{Bool, true, false}
use mathlib.Core.List.{List, []}
use lib.Dec.{T, eqb}
use lib.ListN.{length, take, get_or}
use lib.Seq.{length-take-le}
use borrow.Author.Tests.{eqb-true}
use Rattle.std.specs.Prelude.{Some, Ok}
use Rattle.format.specs.Prelude.{pick, good}
use Rattle.format.specs.declared.Counts.{Counts}
use Rattle.format.specs.declared.Section.TheVariants.{Elf}
use Rattle.format.specs.Coded.{Outcome, Reading}
use Rattle.format.specs.Lists.{relocations_of, numbers_of}
use Rattle.format.specs.Machine.{machine_of}
use Rattle.format.specs.Put.{put}
use Rattle.format.specs.Reader.{read}
use Rattle.format.specs.Writer.{Written}
use Rattle.format.specs.Questions.{Given, room_in, accepted, relaxed_table}
use Rattle.format.specs.Answers.{Writes, relocation_numbers}
use Rattle.format.proofs.Accepted.{dwarf_written}
use Rattle.format.proofs.Choice.{decided}
use Rattle.format.proofs.PutLaws.{length-put, front_is}
use Rattle.unwind.specs.Together.{answer_for, bytes_in, relocs_in}
use Rattle.unwind.proofs.Demands.{accepted_by}
use Rattle.unwind.proofs.Fitting.{answer_fits}
use Rattle.unwind.proofs.Fronts.{Fronts, fronts, bytes_of, relocs_of}
use Rattle.apply.specs.Values.{layout_of}
use Rattle.apply.specs.Apply.{stores, apply, buffer_in, Applies}
use Rattle.apply.proofs.Entry.{stores-length, InPlace, in_place}
use Rattle.apply_back.specs.Together.{apply_for, placed_count, reading_in_place, MovedBack}
use Rattle.apply_back.proofs.MovedBack.{moved_back}

module _ (g : Given) (p b q s : List ℕ) {o : Outcome} {p' b' q' s' : List ℕ} (writes : Writes (relaxed_table 0 g (room_in p b q s)) o p p' b b' q q' s s') where
  pub front_of : Fronts (relaxed_table 0 g (room_in p b q s)) o b' q'
  unfolding answer_for pick
  front_of = fronts (relaxed_table 0 g (room_in p b q s)) o p p' b b' q q' s s' writes (answer_fits (room_in p b q s) false 0 g)

  module _ (addresses : List ℕ) (section image : ℕ) (out : List ℕ) {number : ℕ} {out' : List ℕ}
      (applies : Applies (apply_for o b' q' addresses section image (length out)) number out out') where
    abbrev written : List ℕ
    written = take (bytes_in o) b'

    abbrev related : List ℕ
    related = take (5 * relocs_in o) q'

    -- the bytes in place, where the relocations were applied
    abbrev placed : List ℕ
    placed = stores (layout_of addresses section image) written (relocations_of related)

    done : number ≡ 0 → InPlace written related addresses section image (length out)
    unfolding apply_for
    done e = in_place written related addresses section image (length out) (sym applies.number ∙ e)

    stored : number ≡ 0 → out' ≡ put out 0 placed
    unfolding apply_for buffer_in
    stored e = rw (done e).is at applies.stored

    placed_length : length placed ≡ bytes_in o
    placed_length = stores-length (layout_of addresses section image) written (relocations_of related) ∙ length-take-le (bytes_in o) b' front_of.bytes_fit

    placed_fits : number ≡ 0 → length placed ≤ length out
    placed_fits e = omega (arith, (done e).fits, stores-length (layout_of addresses section image) written (relocations_of related))

    -- as many bytes as stand in place lie in the buffer
    pub count_fits : placed_count number o ≤ length out'
    unfolding placed_count pick
    count_fits =
        decided (eqb number 0)
        (λ t. rw t (let e : number ≡ 0 = eqb-true number 0 t in omega (arith, placed_length, placed_fits e, ap length (stored e) ∙ length-put out 0 placed)))
        λ t. rw t (omega arith)

    -- and they are those
    counted : number ≡ 0 → placed_count number o ≡ length placed
    unfolding placed_count pick
    counted e = ap (λ (n : ℕ). pick (eqb n 0) (bytes_in o) 0) e ∙ sym placed_length

    placed_is : number ≡ 0 → take (placed_count number o) out' ≡ placed
    placed_is e =
        ap (λ (n : ℕ). take n out') (counted e) ∙ ap (take (length placed)) (stored e) ∙ front_is out placed (placed_fits e)

    pub moved : (k register at : ℕ) {reading : Reading} → reading ≡ reading_in_place g.machine number o out' k register at
        → MovedBack g addresses o number k register at reading
    unfolding reading_in_place dwarf_written bytes_of relocs_of relocation_numbers machine_of
    moved k register at e c accepts zero there check below =
        let x = accepted_by _ c (sym accepts ∙ writes.outcome) in
        let w : Written = x.0 in
        let bytes : written ≡ w.bytes = front_of.bytes_are ∙ ap bytes_of x.1 in
        let relocations : related ≡ numbers_of w.relocations = front_of.relocations_are ∙ ap relocs_of x.1 in
        let applied : apply w.bytes (numbers_of w.relocations) addresses section image (length out) ≡ good placed =
        ap (λ xs. apply xs (numbers_of w.relocations) addresses section image (length out)) (sym bytes)
        ∙ ap (λ xs. apply written xs addresses section image (length out)) (sym relocations) ∙ (done zero).is in
        e ∙ ap (λ bs. read bs [] 0 (get_or g.machine 0 0) k register at) (placed_is zero)
        ∙ moved_back g (room_in p b q s) w x.1 addresses section image (length out) placed applied [] k register at there check below

-- what the code hands on, as the definitions
pub apply_of : (o : Outcome) (bytes relocations addresses : List ℕ) (section image n m number : ℕ) (out out' : List ℕ) → n ≡ bytes_in o → m ≡ 5 * relocs_in o
    → Applies (apply (take n bytes) (take m relocations) addresses section image (length out)) number out out'
    → Applies (apply_for o bytes relocations addresses section image (length out)) number out out'
unfolding apply_for
apply_of o bytes relocations addresses section image n m number out out' en em a = rw (en, em) at a

pub reading_of : (machine : List ℕ) (number : ℕ) (o : Outcome) (out : List ℕ) (n word k register at : ℕ) → n ≡ placed_count number o → word ≡ get_or machine 0 0
    → read (take n out) [] 0 word k register at ≡ reading_in_place machine number o out k register at
unfolding reading_in_place
reading_of machine number o out n word k register at en ew = rw (en, ew)

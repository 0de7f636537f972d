-- eh_frame's writer, and then the reader of call sites on its buffers.
use mathlib.Core.Path.{◌≡◌, sym, ap, ◌∙◌}
use Prim.Native.Nat.{ℕ, ◌*◌, ◌≤◌, ◌<◌}
use mathlib.Core.Bool.{true, false}
use mathlib.Core.Option.{some}
use mathlib.Core.Logic.{◌≢◌}
use mathlib.Core.List.{List, [], ◌++◌}
use lib.ListN.{length, take, drop, take-append-drop}
use Rattle.format.specs.Prelude.{pick, after, good, bad, onward}
use Rattle.format.specs.Constants.{elf}
use Rattle.format.specs.Coded.{Outcome}
use Rattle.format.specs.Lists.{Landing, function_stride, count, relocations_of}
use Rattle.format.specs.Writer.{Written}
use Rattle.format.specs.Questions.{Given, room_in, accepted, relaxed_table, given_function}
use Rattle.format.specs.Answers.{bit, Writes, afterwards, relocation_numbers}
use Rattle.format.specs.Reader.{first_addend}
use Rattle.format.specs.CallSiteReader.{sites_at, site_at, sites_short, answer_numbers, site_mark, marked_site}
use Rattle.std.specs.Prelude as code
use Rattle.call_sites.specs.declared.Listed.{Listed}
use Rattle.call_sites.specs.Listed.{list_at, listed_of, sites_stored}
use Rattle.format.proofs.Choice.{if-le}
use Rattle.format.proofs.Accepted.{dwarf_written}
use Rattle.format.proofs.ListLaws.{relocations_back}
use Rattle.format.proofs.PutLaws.{front_is}
use Rattle.unwind.specs.Together.{answer_for, bytes_in, relocs_in}
use Rattle.unwind.proofs.Fitting.{answer_fits}
use Rattle.unwind.proofs.Fronts.{bytes_of, relocs_of, Fronts, fronts}
use Rattle.sites_back.specs.Back.{SitesFit, table_place, place_in, written_place, WasWritten, site_answer, list_answer, TableOf, ReadBack, LandingsBack}
use Rattle.sites_back.proofs.SitesBack.{sites_back}

-- the relocation that the law speaks of gives the place
place_of : {w : Written} {k : ℕ} {ls : List Landing} (t : TableOf w k ls) → table_place w.bytes w.relocations k ≡ some t.pointer.addend
unfolding table_place first_addend after
place_of t = rw (t.is_record, t.is_first)

module _ (g : Given) (p b q s : List ℕ) {o : Outcome} {p' b' q' s' : List ℕ} (writes : Writes (relaxed_table elf g (room_in p b q s)) o p p' b b' q q' s s') where
  pub front_of : Fronts (relaxed_table elf g (room_in p b q s)) o b' q'
  unfolding answer_for pick
  front_of = fronts (relaxed_table elf g (room_in p b q s)) o p p' b b' q q' s s' writes (answer_fits (room_in p b q s) false elf g)

  sites_front : (w : Written) → relaxed_table elf g (room_in p b q s) ≡ accepted w → s' ≡ w.sites ++ drop (length w.sites) s'
  unfolding answer_for pick afterwards
  sites_front w e =
      let fit : length w.sites ≤ length s = (answer_fits (room_in p b q s) false elf g w e).sites in
      let n : ℕ = length w.sites in
      let first : take n s' ≡ w.sites = ap (take n) (rw e at writes.sited) ∙ front_is s w.sites fit in
      sym (take-append-drop n s') ∙ ap (λ bs. bs ++ drop n s') first

  pub was_written : WasWritten o b' q'
  was_written = (front_of.bytes_fit, front_of.relocations_fit)

  -- what stands at the place that function k's record names, where the list was accepted and function k has landings whose ends fit 64 bits
  module _ (k : ℕ) {place : ℕ} (at : place ≡ written_place o b' q' k) (w : Written) (e : relaxed_table elf g (room_in p b q s) ≡ accepted w)
      (h : k < count function_stride g.functions) (has : (given_function g k).landings ≢ []) (fits : SitesFit (given_function g k).landings) where
    table : TableOf w k (given_function g k).landings
    unfolding dwarf_written
    table = sites_back g (room_in p b q s) w e k h has fits

    there : place ≡ table.pointer.addend
    unfolding written_place place_in bytes_of relocs_of relocation_numbers
    there =
        let bytes : take (bytes_in o) b' ≡ w.bytes = front_of.bytes_are ∙ ap bytes_of e in
        let relocations : relocations_of (take (5 * relocs_in o) q') ≡ w.relocations =
        ap relocations_of (front_of.relocations_are ∙ ap relocs_of e) ∙ relocations_back w.relocations in
        at ∙ rw (bytes, relocations) (ap place_in (place_of table))

    reads : sites_at s' place ≡ good (given_function g k).landings
    reads = rw there (ap (λ bs. sites_at bs table.pointer.addend) (sites_front w e) ∙ table.reads (drop (length w.sites) s'))

    short : sites_short s' place ≡ true
    short = rw there (ap (λ bs. sites_short bs table.pointer.addend) (sites_front w e) ∙ table.shortest (drop (length w.sites) s'))

  pub together : (k offset : ℕ) {place : ℕ} {ns : List ℕ} → place ≡ written_place o b' q' k → ns ≡ site_answer s' place offset
      → ReadBack g (relaxed_table elf g (room_in p b q s)) k offset ns
  unfolding site_answer site_at onward answer_numbers site_mark marked_site bit
  together k offset at answers w e h has fits = answers ∙ rw (reads k at w e h has fits, short k at w e h has fits)

  pub listed_together : (k : ℕ) {place : ℕ} {r : code.Result Listed ℕ} (old : List ℕ) {new : List ℕ} → place ≡ written_place o b' q' k
      → r ≡ list_answer s' place (length old) → new ≡ sites_stored (list_at s' place (length old)) old
      → LandingsBack g (relaxed_table elf g (room_in p b q s)) k r old new
  unfolding list_answer list_at listed_of sites_stored onward
  listed_together k old at answers stored w e h has fits room =
      let ls : List Landing = (given_function g k).landings in
      let l = reads k at w e h has fits in
      let whole = if-le (3 * length ls) (length old) (good ls) (bad 54) room in
      (answers ∙ rw (l, short k at w e h has fits, whole), stored ∙ rw (l, whole))

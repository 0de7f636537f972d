-- What was accepted fits its room.
use mathlib.Core.Path.{◌≡◌, refl, ap, subst}
use Prim.Native.Nat.{ℕ, ◌*◌, ◌≤◌}
use mathlib.Core.Bool.{Bool, true, false, not}
use mathlib.Core.Option.{none, some}
use lib.Dec.{T, leb→le}
use lib.ListN.{length}
use Rattle.format.specs.Prelude.{pick}
use Rattle.format.specs.declared.Section.{Section}
use Rattle.format.specs.declared.Section.TheVariants.{Elf, Debug}
use Rattle.format.specs.Machine.{machine_of}
use Rattle.format.specs.Writer.{Written}
use Rattle.format.specs.Questions.{Given, Room, Question, Answer, refused, empty, accepted, unless, room_asks, fitting, dwarf_answer, dwarf_given, Prologues, made, stopped, codes_answer, prologues_answer, windows_asks, windows_answer, given_functions, format_answer, relaxed_table, relaxed_debug_frame}
use Rattle.format.proofs.Accepted.{asked, both}
use Rattle.unwind.specs.Together.{answer_for}

pub record Fitting (r : Room) (w : Written) : Type 0 where
  pub bytes : length w.bytes ≤ r.bytes
  pub relocations : 5 * length w.relocations ≤ r.relocations
  pub sites : length w.sites ≤ r.sites

abbrev pub FitsIn : Room → Answer → Type 0
FitsIn r a = (w : Written) → a ≡ accepted w → Fitting r w

abbrev is_accepted : Answer → Bool
is_accepted (refused n k) = false
is_accepted empty = false
is_accepted (accepted w) = true

abbrev written_or : Written → Answer → Written
written_or d (refused n k) = d
written_or d empty = d
written_or d (accepted w) = w

-- an answer that is no acceptance
no_fits : (r : Room) (a : Answer) → T (not (is_accepted a)) → FitsIn r a
no_fits r a t w e = absurd (subst (λ (b : Answer). T (not (is_accepted b))) e t)

room_yes : (r : Room) (w : Written) → room_asks r w ≡ none → Fitting r w
unfolding room_asks
room_yes r w e =
    let x = both _ _ (both _ _ e).1 in
    let y = both _ _ x.1 in
    record {
      bytes = leb→le (length w.bytes) r.bytes (asked _ 52 0 x.0);
      relocations = leb→le (5 * length w.relocations) r.relocations (asked _ 53 0 y.0);
      sites = leb→le (length w.sites) r.sites (asked _ 54 0 y.1);
    }

module _ (r : Room) where
  unless_fits : (q : Question) (a : Answer) → (q ≡ none → FitsIn r a) → FitsIn r (unless q a)
  unfolding unless
  unless_fits none a h = h refl
  unless_fits (some x) a h = no_fits r _ tt

  fitting_fits : (w : Written) → FitsIn r (fitting r w)
  unfolding fitting
  fitting_fits w =
      unless_fits (room_asks r w) (accepted w) λ e v d. subst (λ (u : Written). Fitting r u) (ap (written_or w) d) (room_yes r w e)

  pick_fits : (test : Bool) (a b : Answer) → FitsIn r a → FitsIn r b → FitsIn r (pick test a b)
  unfolding pick
  pick_fits true a b f h = f
  pick_fits false a b f h = h

  dwarf_fits : (s : Section) (g : Given) → FitsIn r (dwarf_given s g r)
  unfolding dwarf_given dwarf_answer
  dwarf_fits s g = unless_fits _ _ λ e. unless_fits _ _ λ e'. fitting_fits _

  codes_fit : (ps : Prologues) → FitsIn r (prologues_answer ps r)
  unfolding prologues_answer codes_answer
  codes_fit (stopped n k) = no_fits r _ tt
  codes_fit (made ps) = unless_fits _ _ λ e. fitting_fits _

  windows_fits : (g : Given) → FitsIn r (unless (windows_asks g) (windows_answer (machine_of g.machine) (given_functions g) r))
  unfolding windows_answer
  windows_fits g = unless_fits _ _ λ e. unless_fits _ _ λ e'. codes_fit _

  table_fits : (format : ℕ) (g : Given) → FitsIn r (relaxed_table format g r)
  unfolding relaxed_table format_answer
  table_fits format g =
      pick_fits _ _ _ (no_fits r _ tt)
      (pick_fits _ _ _ (dwarf_fits Elf g) (pick_fits _ _ _ (windows_fits g) (pick_fits _ _ _ (no_fits r _ tt) (pick_fits _ _ _ (no_fits r _ tt) (no_fits r _ tt)))))

  pub answer_fits : (debug : Bool) (format : ℕ) (g : Given) → FitsIn r (answer_for debug format g r)
  unfolding answer_for relaxed_debug_frame
  answer_fits debug format g = pick_fits debug _ _ (pick_fits _ _ _ (no_fits r _ tt) (dwarf_fits Debug g)) (table_fits format g)

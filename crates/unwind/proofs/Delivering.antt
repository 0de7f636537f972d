-- The writers beside what they do not write: debug_frame has no call sites; and outcomes as numbers.
use mathlib.Core.Path.{◌≡◌, refl, sym, ap, ◌∙◌}
use Prim.Native.Nat.{ℕ, ◌+◌}
use mathlib.Core.Logic.{◌≢◌}
use mathlib.Core.List.{List, [], ◌∷◌}
use lib.ListN.{length}
use Rattle.format.specs.Put.{put}
use Rattle.format.specs.Coded.{Outcome}
use Rattle.format.specs.declared.Section.TheVariants.{Debug}
use Rattle.format.specs.Lists.{count, function_stride}
use Rattle.format.specs.Writer.{Written}
use Rattle.format.specs.Questions.{Given, given_of, room_in, Answer, refused, empty, accepted, dwarf_given, relaxed_table, relaxed_debug_frame}
use Rattle.format.specs.Answers.{Writes, outcome_numbers, afterwards}
use Rattle.unwind.specs.declared.Written as declared
use Rattle.format.specs.Prelude.{pick}
use mathlib.Core.Bool.{true, false}
use Rattle.unwind.specs.Entries.{written_numbers, Exports}
use Rattle.unwind.specs.Together.{answer_for}
use Rattle.unwind.proofs.DebugSites.{room_with, any_sites, debug_any, debug_same}
use Rattle.unwind.proofs.Formats.{debug_given, same_answer}

-- a buffer without room stays as it is
put-nowhere : (p : ℕ) (bs : List ℕ) → put [] p bs ≡ []
unfolding put
put-nowhere p [] = refl
put-nowhere p (b ∷ bs) = put-nowhere (p + 1) bs

nowhere : (part : Written → List ℕ) (a : Answer) → [] ≡ afterwards part a []
unfolding afterwards
nowhere part (refused n k) = refl
nowhere part empty = refl
nowhere part (accepted w) = sym (put-nowhere 0 (part w))

-- debug_frame, which has no call sites
pub debug_writes : (format : ℕ) (machine functions rows landings pairs : List ℕ) {o : Outcome} {p p' b b' r r' s s' : List ℕ}
    → count function_stride functions ≢ 0 → format ≡ 0
    → Writes (dwarf_given Debug (given_of machine functions rows landings pairs) (room_in p b r s)) o p p' b b' r r' s s'
    → Writes (relaxed_debug_frame format (given_of machine functions rows landings pairs) (room_in p b r [])) o p p' b b' r r' [] []
debug_writes format machine functions rows landings pairs {o} {p} {p'} {b} {b'} {r} {r'} {s} {s'} h f d =
    let g : Given = given_of machine functions rows landings pairs in
    let e = debug_given format g (room_in p b r []) h f ∙ any_sites g (length p) (length b) (length r) 0 (length s) in
    same_answer e
    (record { outcome = d.outcome; placed = d.placed; stored = d.stored; related = d.related; sited = nowhere (λ v. v.sites) _ })

-- an outcome as numbers
pub exports : {a : Answer} {o : Outcome} {n : declared.Written} {p p' b b' r r' s s' : List ℕ}
    → written_numbers n ≡ outcome_numbers o → Writes a o p p' b b' r r' s s' → Exports a n p p' b b' r r' s s'
exports e w =
    record { numbers = e ∙ ap outcome_numbers w.outcome; placed = w.placed; stored = w.stored; related = w.related; sited = w.sited }

-- debug_frame's writer beside a buffer for call sites, which stays as it is
pub debug_beside : (format : ℕ) (g : Given) {o : Outcome} {p p' b b' r r' : List ℕ} (s : List ℕ)
    → Writes (relaxed_debug_frame format g (room_in p b r [])) o p p' b b' r r' [] [] → Writes (answer_for true format g (room_in p b r s)) o p p' b b' r r' s s
unfolding answer_for pick
debug_beside format g {o} {p} {p'} {b} {b'} {r} {r'} s w =
    let e = debug_any format g (length p) (length b) (length r) (length s) 0 in
    same_answer e
    (record {
      outcome = w.outcome;
      placed = w.placed;
      stored = w.stored;
      related = w.related;
      sited = debug_same s format g (room_with (length p) (length b) (length r) 0);
    })

pub eh_beside : (format : ℕ) (g : Given) {o : Outcome} {p p' b b' r r' s s' : List ℕ}
    → Writes (relaxed_table format g (room_in p b r s)) o p p' b b' r r' s s' → Writes (answer_for false format g (room_in p b r s)) o p p' b b' r r' s s'
unfolding answer_for pick
eh_beside format g w = w

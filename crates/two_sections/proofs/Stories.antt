-- What was written of one list as eh_frame and as debug_frame reads alike.
use mathlib.Core.Path.{◌≡◌, refl, sym, ◌∙◌}
use Prim.Native.Nat.{ℕ}
use mathlib.Core.Bool.{true, false}
use mathlib.Core.List.{List, []}
use lib.ListN.{length}
use Rattle.format.specs.Prelude.{pick}
use Rattle.format.specs.Coded.{Outcome}
use Rattle.format.specs.Coded.{Reading}
use Rattle.format.specs.declared.Section.TheVariants.{Elf, Debug}
use Rattle.format.specs.Questions.{Given, room_in, relaxed_table, relaxed_debug_frame}
use Rattle.format.specs.Answers.{Writes, bit}
use Rattle.format.proofs.Accepted.{dwarf_written}
use Rattle.format.proofs.ReadBack.{one_story}
use Rattle.unwind.specs.Together.{answer_for, reading_for}
use Rattle.unwind.proofs.DebugSites.{debug_any, debug_same}
use Rattle.unwind.proofs.Demands.{accepted_by, read_accepted}
use Rattle.unwind.proofs.Fitting.{answer_fits}
use Rattle.unwind.proofs.Formats.{same_answer}
use Rattle.unwind.proofs.Fronts.{fronts}
use Rattle.two_sections.specs.Story.{OneStory}

-- two calls of `write_and_read`: the eh_frame of a list, and then its debug_frame, lent the same buffer for call sites
module _ (g : Given) (k q p : ℕ) (o : Outcome) (x : Reading) (ps ps' bs bs' rs rs' ss ss' : List ℕ)
    (w : Writes (answer_for false 0 g (room_in ps bs rs ss)) o ps ps' bs bs' rs rs' ss ss')
    (e : x ≡ reading_for false g.machine o bs' rs' k q p)
    (o⁺ : Outcome) (y : Reading) (ps⁺ ps‡ bs⁺ bs‡ rs⁺ rs‡ ss‡ : List ℕ)
    (w⁺ : Writes (answer_for true 0 g (room_in ps⁺ bs⁺ rs⁺ ss')) o⁺ ps⁺ ps‡ bs⁺ bs‡ rs⁺ rs‡ ss' ss‡)
    (e⁺ : y ≡ reading_for true g.machine o⁺ bs‡ rs‡ k q p) where
  -- the writer of debug_frame leaves the call sites
  unmoved : ss‡ ≡ ss'
  unfolding answer_for pick
  unmoved = w⁺.sited ∙ sym (debug_same ss' 0 g (room_in ps⁺ bs⁺ rs⁺ ss'))

  eh_written : Writes (relaxed_table 0 g (room_in ps bs rs ss)) o ps ps' bs bs' rs rs' ss ss‡
  unfolding answer_for pick
  eh_written = rw unmoved w

  -- it needs no room for them
  debug_written : Writes (relaxed_debug_frame 0 g (room_in ps⁺ bs⁺ rs⁺ [])) o⁺ ps⁺ ps‡ bs⁺ bs‡ rs⁺ rs‡ [] []
  unfolding answer_for pick
  debug_written =
      let same : relaxed_debug_frame 0 g (room_in ps⁺ bs⁺ rs⁺ ss') ≡ relaxed_debug_frame 0 g (room_in ps⁺ bs⁺ rs⁺ []) =
      debug_any 0 g (length ps⁺) (length bs⁺) (length rs⁺) (length ss') 0 in
      same_answer (sym same)
      (record { outcome = w⁺.outcome; placed = w⁺.placed; stored = w⁺.stored; related = w⁺.related; sited = debug_same [] 0 g (room_in ps⁺ bs⁺ rs⁺ ss') })

  story : OneStory g o o⁺ k p x y
  unfolding answer_for pick dwarf_written bit
  story c d a a⁺ inside plain below =
      let f = fronts _ _ _ _ _ _ _ _ _ _ w (answer_fits _ false 0 g) in
      let f⁺ = fronts _ _ _ _ _ _ _ _ _ _ w⁺ (answer_fits _ true 0 g) in
      let v = accepted_by (relaxed_table 0 g (room_in ps bs rs ss)) c (sym a ∙ w.outcome) in
      let v⁺ = accepted_by (relaxed_debug_frame 0 g (room_in ps⁺ bs⁺ rs⁺ ss')) d (sym a⁺ ∙ w⁺.outcome) in
      e ∙ (read_accepted Elf false g v.0 _ o bs' rs' k q p f v.1 refl
      ∙ (one_story g _ _ v.0 v⁺.0 v.1 v⁺.1 k q p inside plain below
      ∙ sym (e⁺ ∙ read_accepted Debug true g v⁺.0 _ o⁺ bs‡ rs‡ k q p f⁺ v⁺.1 refl)))

  pub promised : Writes (relaxed_table 0 g (room_in ps bs rs ss)) o ps ps' bs bs' rs rs' ss ss‡
      × (Writes (relaxed_debug_frame 0 g (room_in ps⁺ bs⁺ rs⁺ [])) o⁺ ps⁺ ps‡ bs⁺ bs‡ rs⁺ rs‡ [] []
      × ((x ≡ reading_for false g.machine o bs' rs' k q p)
      × ((y ≡ reading_for true g.machine o⁺ bs‡ rs‡ k q p) × OneStory g o o⁺ k p x y)))
  promised = (eh_written, (debug_written, (e, (e⁺, story))))

-- The codes of a record undone one after the other, in the order of the slots: what the loop knows at each turn.
use mathlib.Core.Path.{◌≡◌, refl, sym}
use Prim.Native.Nat.{ℕ, zero, suc, ◌<◌, ◌≤◌}
use native.Mathlib.Omega.{arith}
use mathlib.Core.Option.{Option, none, some}
use mathlib.Core.List.{List, [], ◌∷◌}
use lib.ListN.{length, drop}
use Rattle.std.specs.Prelude.{Some, None}
use Rattle.format.specs.Prelude.{Read, next, after}
use Rattle.format.specs.declared.Seh.{Seh}
use Rattle.format.specs.X64Reader.{read_code, read_codes_f, read_codes}
use Rattle.format.proofs.Asked.{option_of, none_is, value_is}
use Rattle.operations.specs.declared.fields.Position.{Position}
use Rattle.x64_reader.specs.Reads.{CodeThere}
use Rattle.x64_reader.proofs.Runs.{Going, turn, unread, ended}
use Rattle.walk.specs.Walk.{Memory}
use Rattle.x64_back.specs.declared.undo.Registers.{Registers}
use Rattle.x64_back.specs.Thread.{undo_code, undo_codes}

-- those that were read are undone
pub record Undoing (m : Memory) (base : ℕ) (r before : Registers) (cs : List (ℕ × Seh)) : Type 0 where
  pub undone : undo_codes m base cs r ≡ some before

module _ {m : Memory} {base : ℕ} {r : Registers} where
  pub none_undone : Undoing m base r r []
  unfolding undo_codes
  none_undone = record { undone = refl }

  pub one_undone : {offset : ℕ} {c : Seh} {before newer : Registers} → Some newer ≡ option_of (undo_code m base c before)
      → (cs : List (ℕ × Seh)) → Undoing m base r before cs → Undoing m base r newer ((offset, c) ∷ cs)
  unfolding undo_codes after
  one_undone {c = c} {before = before} e cs h = record { undone = rw h.undone (value_is (undo_code m base c before) (sym e)) }

-- ---- where one cannot be undone, none of those in front of it are

module _ (m : Memory) (base : ℕ) (r : Registers) where
  abbrev Stopped : Option (List (ℕ × Seh)) → Type 0
  Stopped none = 0 ≤ base
  Stopped (some cs) = undo_codes m base cs r ≡ none

  stopped_next : (x : Read (ℕ × Seh)) (k : ℕ × Seh → List ℕ → Option (List (ℕ × Seh))) → ((c : ℕ × Seh) (rest : List ℕ) → Stopped (k c rest))
      → Stopped (next x k)
  unfolding next
  stopped_next none k h = omega arith
  stopped_next (some x) k h = h x.0 x.1

  stays_stopped : (fuel frame : ℕ) (cs : List (ℕ × Seh)) (bs : List ℕ) → undo_codes m base cs r ≡ none → Stopped (read_codes_f fuel frame cs bs)
  unfolding read_codes_f undo_codes after
  stays_stopped zero frame cs bs h = omega arith
  stays_stopped (suc f) frame cs [] h = h
  stays_stopped (suc f) frame cs (b ∷ bs) h =
      stopped_next (read_code frame (b ∷ bs)) (λ c rest. read_codes_f f frame (c ∷ cs) rest)
      (λ c rest. stays_stopped f frame (c ∷ cs) rest (rw h))

  nothing : (o : Option (List (ℕ × Seh))) → Stopped o → None ≡ option_of (after o λ cs. undo_codes m base cs r)
  unfolding after
  nothing none h = refl
  nothing (some cs) h = rw h

  pub unread_stops : {P : List (ℕ × Seh) → Type 0} {frame : ℕ} {s : List ℕ} {p : Position} → Going P frame s p → p.at < length s
      → read_code frame (drop p.at s) ≡ none → None ≡ option_of (after (read_codes frame s) λ cs. undo_codes m base cs r)
  unfolding after
  unread_stops g h e = rw (unread g h e)

module _ {m : Memory} {base : ℕ} {r : Registers} where
  pub stopped : {frame : ℕ} {s : List ℕ} {p q : Position} {offset : ℕ} {c : Seh} {before : Registers} → Going (Undoing m base r before) frame s p
      → p.at < length s → CodeThere frame s p offset c q → None ≡ option_of (undo_code m base c before)
      → None ≡ option_of (after (read_codes frame s) λ cs. undo_codes m base cs r)
  unfolding undo_codes after
  stopped {frame = frame} {s = s} {q = q} {c = c} {before = before} g h t e =
      let o : undo_code m base c before ≡ none = none_is (undo_code m base c before) (sym e) in
      let next : Going (λ cs. undo_codes m base cs r ≡ none) frame s q = turn g h t (λ cs w. rw w.undone o) in
      nothing m base r (read_codes frame s) (rw next.same at (stays_stopped m base r next.fuel frame next.codes (drop q.at s) next.here))

  pub all_undone : {frame : ℕ} {s : List ℕ} {p : Position} {before : Registers} → Going (Undoing m base r before) frame s p → length s ≤ p.at
      → Some before ≡ option_of (after (read_codes frame s) λ cs. undo_codes m base cs r)
  unfolding after
  all_undone g h = rw (ended g h, g.here.undone)

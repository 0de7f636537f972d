-- What is answered and what stays, by what a question was answered; and what a yes to 51 to 54 says.
use mathlib.Core.Path.{◌≡◌, refl}
use Prim.Native.Nat.{ℕ, ◌≤◌}
use native.Mathlib.Omega.{arith}
use mathlib.Core.Option.{none, some}
use mathlib.Core.List.{List}
use lib.Dec.{leb, leb→le}
use Rattle.format.specs.declared.Counts.{Counts}
use Rattle.std.specs.Prelude.{Ok, Err}
use Rattle.format.specs.Coded.{Outcome}
use Rattle.format.specs.Questions.{Question, Answer, unless, ask, and_then}
use Rattle.format.specs.Answers.{outcome_of, afterwards, Writes}
use Rattle.format.proofs.Accepted.{asked as said, both}
use Rattle.format.proofs.Asked.{question_of, said_yes}
use Rattle.lists.specs.Room.{room_for}

-- ---- a question

module _ {places bytes relocations sites : List ℕ} where
  pub stays : (q : Question) (x : Answer) {r : ℕ × ℕ} → question_of q ≡ Err r
      → Writes (unless q x) (Err r) places places bytes bytes relocations relocations sites sites
  unfolding unless question_of outcome_of afterwards
  stays none x e = let z : ◌≡◌ {A = ℕ} 0 1 = cc in absurd (omega arith)
  stays (some q) x {r} e =
      let h : r ≡ q = cc in
      record { outcome = rw h refl; placed = refl; stored = refl; related = refl; sited = refl }

pub goes : {x : Answer} {o : Outcome} {places places' bytes bytes' relocations relocations' sites sites' : List ℕ} (q : Question) → question_of q ≡ Ok tt
    → Writes x o places places' bytes bytes' relocations relocations' sites sites'
    → Writes (unless q x) o places places' bytes bytes' relocations relocations' sites sites'
unfolding unless
goes q e w = rw (said_yes q e) w

-- ---- room

asked_one : (a b n k : ℕ) → ask (leb a b) n k ≡ none → a ≤ b
asked_one a b n k e = leb→le a b (said (leb a b) n k e)

asked : (a b n k : ℕ) (q : Question) → and_then (ask (leb a b) n k) q ≡ none → (a ≤ b) × (q ≡ none)
asked a b n k q e = let d = both (ask (leb a b) n k) q e in (asked_one a b n k d.0, d.1)

pub room_says : (c r : Counts) → room_for c r ≡ none
    → (c.places ≤ r.places) × (c.bytes ≤ r.bytes) × (c.relocations ≤ r.relocations) × (c.sites ≤ r.sites)
unfolding room_for
room_says c r e =
    let a = asked c.places r.places 51 0 _ e in
    let b = asked c.bytes r.bytes 52 0 _ a.1 in
    let d = asked c.relocations r.relocations 53 0 _ b.1 in
    (a.0, b.0, d.0, asked_one c.sites r.sites 54 0 d.1)

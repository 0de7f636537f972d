-- The codes of a record, one after the other: what a loop over them knows at each turn.
use mathlib.Core.Path.{◌≡◌, refl, sym, ap, ◌∙◌}
use Prim.Native.Nat.{ℕ, zero, suc, ◌+◌, ◌-◌, ◌*◌, ◌≤◌, ◌<◌}
use native.Mathlib.Omega.{arith}
use mathlib.Core.Bool.{Bool, false, ◌||◌}
use mathlib.Core.Option.{Option, none, some}
use mathlib.Core.List.{List, [], ◌∷◌}
use lib.ListN.{length, drop, length-drop, drop_of_length-le}
use Rattle.std.specs.Prelude.{Some, None}
use Rattle.format.specs.Prelude.{Read, next}
use Rattle.format.specs.Put.{put}
use Rattle.format.specs.declared.Seh.{Seh}
use Rattle.format.specs.declared.Seh.TheVariants.{Push, Alloc, Frame, Save}
use Rattle.format.specs.X64Reader.{fields_of, code_numbers, is_frame, has_frame, read_code, read_codes_f, read_codes}
use Rattle.format.proofs.PutLaws.{put-append, put-in_front, length-put}
use Rattle.operations.specs.declared.fields.Position.{Position}
use Rattle.operations.specs.Positions.{from}
use Rattle.x64_reader.specs.declared.Slots.{Slots}
use Rattle.x64_reader.specs.Reads.{CodeThere, counted_of, Held, stored_of}

-- ---- one step of the definition

module _ (frame : ℕ) where
  pub codes_step : (fuel : ℕ) (cs : List (ℕ × Seh)) (bs : List ℕ) → 0 < fuel → 0 < length bs
      → read_codes_f fuel frame cs bs ≡ next (read_code frame bs) (λ c rest. read_codes_f (fuel - 1) frame (c ∷ cs) rest)
  unfolding read_codes_f
  codes_step zero cs bs h l = absurd (omega arith)
  codes_step (suc f) cs [] h l = absurd (omega arith)
  codes_step (suc f) cs (b ∷ bs) h l = let e : suc f - 1 ≡ f = omega arith in rw e

  pub codes_done : (fuel : ℕ) (cs : List (ℕ × Seh)) → 0 < fuel → read_codes_f fuel frame cs [] ≡ some cs
  unfolding read_codes_f
  codes_done zero cs h = absurd (omega arith)
  codes_done (suc f) cs h = refl

-- no code is lost
abbrev Holding : ℕ → Option (List (ℕ × Seh)) → Type 0
Holding n none = 0 ≤ n
Holding n (some ds) = n ≤ length ds

holding_next : (n : ℕ) (r : Read (ℕ × Seh)) (k : ℕ × Seh → List ℕ → Option (List (ℕ × Seh))) → ((c : ℕ × Seh) (rest : List ℕ) → Holding n (k c rest))
    → Holding n (next r k)
unfolding next
holding_next n none k h = omega arith
holding_next n (some x) k h = h x.0 x.1

holding_less : (n : ℕ) (r : Option (List (ℕ × Seh))) → Holding (suc n) r → Holding n r
holding_less n none h = omega arith
holding_less n (some ds) h = omega arith

codes_hold : (fuel frame : ℕ) (cs : List (ℕ × Seh)) (bs : List ℕ) → Holding (length cs) (read_codes_f fuel frame cs bs)
unfolding read_codes_f
codes_hold zero frame cs bs = omega arith
codes_hold (suc f) frame cs [] = omega arith
codes_hold (suc f) frame cs (b ∷ bs) =
    holding_next (length cs) (read_code frame (b ∷ bs)) (λ c rest. read_codes_f f frame (c ∷ cs) rest)
    (λ c rest. holding_less (length cs) (read_codes_f f frame (c ∷ cs) rest) (codes_hold f frame (c ∷ cs) rest))

-- ---- the loop

pub record Going (P : List (ℕ × Seh) → Type 0) (frame : ℕ) (s : List ℕ) (p : Position) : Type 0 where
  pub fuel : ℕ
  pub codes : List (ℕ × Seh)
  pub enough : length s < fuel + p.at
  pub inside : p.at ≤ length s
  pub same : read_codes_f fuel frame codes (drop p.at s) ≡ read_codes frame s
  pub here : P codes

pub start : {P : List (ℕ × Seh) → Type 0} {frame : ℕ} {s : List ℕ} → P [] → Going P frame s (from 0)
unfolding read_codes
start {s = s} h = record { fuel = suc (length s); codes = []; enough = omega arith; inside = omega arith; same = refl; here = h }

module _ {P : List (ℕ × Seh) → Type 0} {frame : ℕ} {s : List ℕ} {p : Position} (g : Going P frame s p) where
  module _ (h : p.at < length s) where
    step : read_codes frame s ≡ next (read_code frame (drop p.at s)) (λ c rest. read_codes_f (g.fuel - 1) frame (c ∷ g.codes) rest)
    step = sym g.same ∙ codes_step frame g.fuel g.codes (drop p.at s) (omega (arith, g.enough)) (omega (arith, length-drop p.at s))

    pub turn : {Q : List (ℕ × Seh) → Type 0} {offset : ℕ} {c : Seh} {q : Position} → CodeThere frame s p offset c q
        → ((cs : List (ℕ × Seh)) → P cs → Q ((offset, c) ∷ cs)) → Going Q frame s q
    unfolding next
    turn {offset = offset} {c = c} t k = record {
      fuel = g.fuel - 1;
      codes = (offset, c) ∷ g.codes;
      enough = omega (arith, g.enough, t.ahead);
      inside = t.inside;
      same = sym (rw t.reads at step);
      here = k g.codes g.here;
    }

    pub unread : read_code frame (drop p.at s) ≡ none → read_codes frame s ≡ none
    unfolding next
    unread e = rw e at step

  pub ended : length s ≤ p.at → read_codes frame s ≡ some g.codes
  ended h =
      let e : drop p.at s ≡ [] = drop_of_length-le s h in
      sym g.same ∙ rw e (codes_done frame g.fuel g.codes (omega (arith, g.enough, g.inside)))

  -- at most as many codes as there are
  pub few : {ds : List (ℕ × Seh)} → read_codes frame s ≡ some ds → length g.codes ≤ length ds
  few e = rw (g.same ∙ e) at (codes_hold g.fuel frame g.codes (drop p.at s))

-- ---- by the slots that are left

pub record Reading (P : List (ℕ × Seh) → Type 0) (frame : ℕ) (s : List ℕ) (x : Slots) : Type 0 where
  pub bytes : x.bytes.now ≡ s
  pub mark : x.frame ≡ frame
  pub going : Going P frame s x.at

module _ {P : List (ℕ × Seh) → Type 0} {frame : ℕ} {s : List ℕ} {x : Slots} (r : Reading P frame s x) where
  pub more : x.at.at < length x.bytes.now → x.at.at < length s
  more h = rw r.bytes at h

  pub at_end : length x.bytes.now ≤ x.at.at → length s ≤ x.at.at
  at_end h = rw r.bytes at h

  pub there : {offset : ℕ} {c : Seh} {q : Position} → CodeThere x.frame x.bytes.now x.at offset c q → CodeThere frame s x.at offset c q
  there t = rw (r.bytes, r.mark) at t

  pub none_there : read_code x.frame (drop x.at.at x.bytes.now) ≡ none → read_code frame (drop x.at.at s) ≡ none
  none_there e = rw (r.bytes, r.mark) at e

  pub onward : (Q : Position → List (ℕ × Seh) → Type 0) {y : Slots} {offset : ℕ} {c : Seh} {q : Position} → x.at.at < length x.bytes.now
      → CodeThere x.frame x.bytes.now x.at offset c q → y.bytes.now ≡ x.bytes.now → y.frame ≡ x.frame → y.at ≡ q
      → ((cs : List (ℕ × Seh)) → P cs → Q q ((offset, c) ∷ cs)) → Reading (Q y.at) frame s y
  onward Q h t e f g k = record { bytes = e ∙ r.bytes; mark = f ∙ r.mark; going = rw g (turn r.going (more h) (there t) k) }

-- ---- counted

pub record Counting (n : ℕ) (framed : Bool) (i : ℕ) (cs : List (ℕ × Seh)) : Type 0 where
  pub many : n ≡ length cs
  pub frames : framed ≡ has_frame cs
  pub least : n ≤ i

pub counting : Counting 0 false 0 []
unfolding has_frame
counting = record { many = refl; frames = refl; least = omega arith }

pub count_turn : {frame : ℕ} {s : List ℕ} {n : ℕ} {framed now : Bool} {p q : Position} {offset : ℕ} {c : Seh} → CodeThere frame s p offset c q
    → now ≡ (is_frame c || framed) → (cs : List (ℕ × Seh)) → Counting n framed p.at cs → Counting (n + 1) now q.at ((offset, c) ∷ cs)
unfolding has_frame
count_turn {c = c} t e cs h = record {
  many = omega (arith, h.many);
  frames = e ∙ rw h.frames;
  least = omega (arith, h.least, t.ahead);
}

pub all_counted : {frame : ℕ} {s : List ℕ} {n : ℕ} {framed : Bool} {p : Position} → Going (Counting n framed p.at) frame s p → length s ≤ p.at
    → Some (n, framed) ≡ counted_of (read_codes frame s)
unfolding counted_of
all_counted g h = rw (ended g h, g.here.many, g.here.frames)

pub none_counted : {P : List (ℕ × Seh) → Type 0} {frame : ℕ} {s : List ℕ} {p : Position} → Going P frame s p → p.at < length s
    → read_code frame (drop p.at s) ≡ none → None ≡ counted_of (read_codes frame s)
unfolding counted_of
none_counted g h e = rw (unread g h e)

-- ---- stored

pub fields-length : (c : Seh) → length (fields_of c) ≡ 4
unfolding fields_of
fields-length (Push reg) = refl
fields-length (Alloc z) = refl
fields-length (Frame reg z) = refl
fields-length (Save reg vector z) = refl

pub record Storing (n left : ℕ) (old new : List ℕ) (cs : List (ℕ × Seh)) : Type 0 where
  pub many : left + length cs ≡ n
  pub stored : new ≡ put old (5 * left) (code_numbers cs)

pub kept : {n left : ℕ} {old new : List ℕ} {cs : List (ℕ × Seh)} → Storing n left old new cs → length new ≡ length old
kept {old = old} w = ap length w.stored ∙ length-put old _ _

pub storing : {n : ℕ} {old : List ℕ} → Storing n n old old []
unfolding code_numbers put
storing = record { many = omega arith; stored = refl }

pub store_turn : {n left : ℕ} {old new newer : List ℕ} {offset : ℕ} {c : Seh}
    → 0 < left → newer ≡ put new (5 * (left - 1)) (offset ∷ fields_of c) → (cs : List (ℕ × Seh)) → Storing n left old new cs
    → Storing n (left - 1) old newer ((offset, c) ∷ cs)
unfolding code_numbers
store_turn {left = left} {old = old} {offset = offset} {c = c} l e cs w =
    let five : List ℕ = offset ∷ fields_of c in
    let seam : 5 * left ≡ 5 * (left - 1) + length five = omega (arith, fields-length c) in
    record {
      many = omega (arith, w.many);
      stored = e ∙ rw (w.stored, seam) (put-in_front old (5 * (left - 1)) _ five (code_numbers cs) (omega arith) ∙ sym (put-append old (5 * (left - 1)) five (code_numbers cs)));
    }

-- there is room for a code that stands there
module _ {frame : ℕ} {s : List ℕ} {n left : ℕ} {p : Position} {old new : List ℕ} (g : Going (Storing n left old new) frame s p) (held : Held (read_codes frame s) n) where
  pub some_left : {offset : ℕ} {c : Seh} {q : Position} → p.at < length s → CodeThere frame s p offset c q → 0 < left
  unfolding turn
  some_left h t =
      let next : Going (λ cs. 0 < length cs) frame s _ = turn g h t (λ cs w. omega arith) in
      let l : length next.codes ≤ length held.codes = few next held.are in
      let m : length next.codes ≡ suc (length g.codes) = refl in
      omega (arith, g.here.many, held.many)

  pub all_stored : length s ≤ p.at → new ≡ stored_of (read_codes frame s) old
  unfolding stored_of
  all_stored h =
      let e : read_codes frame s ≡ some g.codes = ended g h in
      let same : held.codes ≡ g.codes = cc held.are in
      let z : left ≡ 0 = omega (arith, g.here.many, held.many, ap length same) in
      rw e (g.here.stored ∙ rw z)

  pub never_unread : p.at < length s → read_code frame (drop p.at s) ≡ none → ⊥
  never_unread h e = let z : ◌≡◌ {A = ℕ} 0 1 = cc (unread g h e, held.are) in omega arith

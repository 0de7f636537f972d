-- The frames stored, two numbers each.
use mathlib.Core.Path.{◌≡◌, refl, subst}
use mathlib.Core.List.{List, [], ◌∷◌}
use Prim.Native.Nat.{ℕ, ◌+◌, ◌*◌, ◌<◌, ◌≤◌}
use native.Mathlib.Omega.{arith}
use native.Mathlib.Numerals.{add-one}
use lib.ListN.{length, get_or, set, drop, drop_of_length-le}
use lib.Seq.{drop-cons}
use Rattle.format.specs.Put.{put}
use Rattle.format.proofs.Storing.{Storing}
use Rattle.format.proofs.Storing as storing
use Rattle.walk.specs.declared.Frame.{Frame}
use Rattle.walk.specs.Walk.{frame_numbers}

frames_length : (fs : List Frame) → length (frame_numbers fs) ≡ 2 * length fs
unfolding frame_numbers
frames_length [] = refl
frames_length (f ∷ fs) = omega (arith, frames_length fs)

abbrev no_frame : Frame
no_frame = record { position = 0; pc = 0 }

pub record Listing (fs : List Frame) (xs₀ xs : List ℕ) (i : ℕ) : Type 0 where
  pub inside : i ≤ length fs
  pub room : 2 * length fs ≤ length xs
  pub same_length : length xs ≡ length xs₀
  pub storing : Storing xs₀ xs 0 (2 * i) (frame_numbers fs) (frame_numbers (drop i fs))

pub list_start : (fs : List Frame) (xs : List ℕ) → 2 * length fs ≤ length xs → Listing fs xs xs 0
list_start fs xs h = record {
  inside = omega arith;
  room = h;
  same_length = refl;
  storing = storing.start (omega (arith, frames_length fs));
}

module _ {fs : List Frame} {xs₀ xs : List ℕ} {i : ℕ} (k : Listing fs xs₀ xs i) where
  module _ (h : i < length fs) where
    one_more : frame_numbers (drop i fs) ≡ (get_or fs i no_frame).position ∷ (get_or fs i no_frame).pc ∷ frame_numbers (drop (i + 1) fs)
    unfolding frame_numbers
    one_more = rw (drop-cons fs i no_frame h, add-one i)

    both_stored : Storing xs₀ (set (set xs (2 * i) (get_or fs i no_frame).position) (2 * i + 1) (get_or fs i no_frame).pc) 0 (2 * i + 1 + 1) (frame_numbers fs)
        (frame_numbers (drop (i + 1) fs))
    both_stored = storing.turn (storing.turn (subst (λ (l : List ℕ). Storing xs₀ xs 0 (2 * i) (frame_numbers fs) l) one_more k.storing))

    pub list_turn : Listing fs xs₀ (set (set xs (2 * i) (get_or fs i no_frame).position) (2 * i + 1) (get_or fs i no_frame).pc) (i + 1)
    list_turn =
        let e : 2 * i + 1 + 1 ≡ 2 * (i + 1) = omega arith in
        record {
          inside = omega arith;
          room = omega (arith, both_stored.kept, k.same_length, k.room);
          same_length = both_stored.kept;
          storing = subst (λ (q : ℕ). Storing xs₀ (set (set xs (2 * i) (get_or fs i no_frame).position) (2 * i + 1) (get_or fs i no_frame).pc) 0 q (frame_numbers fs) (frame_numbers (drop (i + 1) fs))) e both_stored;
        }

  pub list_ended : length fs ≤ i → xs ≡ put xs₀ 0 (frame_numbers fs)
  unfolding frame_numbers put
  list_ended h = subst (λ (l : List Frame). put xs (2 * i) (frame_numbers l) ≡ put xs₀ 0 (frame_numbers fs)) (drop_of_length-le fs h) k.storing.same

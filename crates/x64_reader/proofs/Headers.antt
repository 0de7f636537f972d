-- A record's header at a place: where it is none, and what it says.
use mathlib.Core.Path.{◌≡◌, sym, ap, ◌∙◌}
use Prim.Native.Nat.{ℕ, ◌+◌, ◌-◌, ◌*◌, ◌≤◌, ◌<◌}
use native.Mathlib.Omega.{arith}
use mathlib.Core.Bool.{false, ◌&&◌, and-false}
use mathlib.Core.List.{List}
use lib.Dec.{leb, eqb}
use lib.ListN.{length, get_or, take, drop, length-drop}
use lib.Seq.{get_or-drop, drop-drop}
use borrow.Author.Tests.{le-leb, lt-leb, eq-eqb, ne_eqb}
use Rattle.format.specs.X64Reader.{header_ok, slot_bytes_in}
use Rattle.x64_reader.specs.Reads.{HeaderThere}

module _ (s : List ℕ) (p : ℕ) where
  at_drop : (k : ℕ) → get_or (drop p s) k 0 ≡ get_or s (p + k) 0
  at_drop k = get_or-drop p s k 0

  first : get_or (drop p s) 0 0 ≡ get_or s p 0
  first = let e : p + 0 ≡ p = omega arith in at_drop 0 ∙ ap (λ k. get_or s k 0) e

  pub no_header : length s < p + 4 → header_ok (drop p s) ≡ false
  unfolding header_ok
  no_header h = rw (lt-leb 4 (length (drop p s)) (omega (arith, length-drop p s)))

  pub no_version : (get_or s p 0 ≡ 1 → ⊥) → header_ok (drop p s) ≡ false
  unfolding header_ok
  no_version h = rw (first, ne_eqb (get_or s p 0) 1 h, and-false (leb 4 (length (drop p s))))

  pub no_slots : {slots : ℕ} → p + 4 ≤ length s → slots ≡ get_or s (p + 2) 0 → length s < p + 4 + 2 * slots → header_ok (drop p s) ≡ false
  unfolding header_ok
  no_slots {slots} room e h =
      let z : get_or (drop p s) 2 0 ≡ slots = at_drop 2 ∙ sym e in
      rw (z, lt-leb (4 + 2 * slots) (length (drop p s)) (omega (arith, length-drop p s)))
      (and-false (leb 4 (length (drop p s)) && eqb (get_or (drop p s) 0 0) 1))

  pub header_there : {slots end frame : ℕ} → get_or s p 0 ≡ 1 → slots ≡ get_or s (p + 2) 0 → end ≡ get_or s (p + 1) 0 → frame ≡ get_or s (p + 3) 0
      → p + 4 + 2 * slots ≤ length s → HeaderThere (drop p s) end frame (take (p + 4 + 2 * slots - (p + 4)) (drop (p + 4) s))
  unfolding header_ok slot_bytes_in
  header_there {slots} one many e f h =
      let z : get_or (drop p s) 2 0 ≡ slots = at_drop 2 ∙ sym many in
      let d : p + 4 + 2 * slots - (p + 4) ≡ 2 * slots = omega arith in
      record {
        ok =
            rw (first, z, eq-eqb (get_or s p 0) 1 one, le-leb 4 (length (drop p s)) (omega (arith, length-drop p s)), le-leb (4 + 2 * slots) (length (drop p s)) (omega (arith, length-drop p s)))
            tt;
        ends = e ∙ sym (at_drop 1);
        frames = f ∙ sym (at_drop 3);
        holds = rw (d, z, drop-drop 4 p s);
      }

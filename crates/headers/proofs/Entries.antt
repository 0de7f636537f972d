-- An entry written with a blank length, and closed: the bytes of the definition.
use mathlib.Core.Path.{◌≡◌, refl, ap, sym, ◌∙◌}
use mathlib.Core.List.{List, ◌++◌, append_assoc}
use Prim.Native.Nat.{ℕ, ◌+◌, ◌-◌, ◌≤◌}
use native.Mathlib.Omega.{arith}
use lib.ListN.{length, replicate, length-append, length-replicate}
use Rattle.format.specs.Leb.{little}
use Rattle.format.specs.Put.{put}
use Rattle.format.proofs.Wrote.{Wrote}
use Rattle.format.specs.Headers.{padding, padded, entry}
use Rattle.format.proofs.LebBack.{little-length}
use Rattle.format.proofs.EntryBack.{entry_length, padded_length}
use Rattle.format.proofs.PutLaws.{◌then◌, kept, again}
use Rattle.headers.specs.Entries.{Closed}

-- zeros, and the length over its blank
pub close : {xs ys zs : List ℕ} {start at align q r : ℕ} → Wrote xs ys at r (replicate (padding align at) 0) → Wrote ys zs start q (little 4 (r - start - 4))
    → Closed xs zs start at align r
close {xs} {ys} {zs} {start} {at} {align} a b = record {
  past = omega (arith, a.past, length-replicate {A = ℕ} (padding align at) 0);
  stored = b.stored ∙ rw a.stored;
}

module _ {xs ys : List ℕ} {start at : ℕ} (align : ℕ) (body : List ℕ) (w : Wrote xs ys start at (◌++◌ {A = ℕ} (replicate 4 0) body)) where
  body_past : at ≡ start + 4 + length body
  body_past = omega (arith, w.past, length-append {A = ℕ} (replicate 4 0) body)

  -- what `pad` requires
  pub closes : start + length (entry (padded align start body)) ≤ length xs → (start + 4 ≤ at) × (at + padding align at ≤ length ys)
  closes h =
      let e : padding align (start + 4 + length body) ≡ padding align at = ap (padding align) (sym body_past) in
      (omega (arith, body_past), omega (arith, body_past, e, kept w, entry_length (padded align start body), padded_length align start body))

  pub closed : {zs : List ℕ} {r : ℕ} → Closed ys zs start at align r → Wrote xs zs start r (entry (padded align start body))
  unfolding entry padded
  closed {zs} {r} c =
      let zeros : List ℕ = replicate (padding align at) 0 in
      let e : padding align at ≡ padding align (start + 4 + length body) = ap (padding align) body_past in
      let n : r - start - 4 ≡ length (body ++ zeros) = rw (length-append, length-replicate {A = ℕ} (padding align at) 0) (omega (arith, c.past, body_past)) in
      let filled : Wrote ys (put ys at zeros) at r zeros = record { past = omega (arith, c.past, length-replicate {A = ℕ} (padding align at) 0); stored = refl } in
      let size : Wrote (put ys at zeros) zs start (start + 4) (little 4 (r - start - 4)) = record { past = rw little-length; stored = c.stored } in
      rw (← e, ← n)
      (again (replicate 4 0) (little 4 (r - start - 4)) (body ++ zeros) (simp little-length) (rw append_assoc at (w then filled)) size)

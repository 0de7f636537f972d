-- A number with its mark is the number without it, and the place behind it is further on.
use Rattle.std.proofs.Common.{◌≡◌, refl, sym, ap, ◌∙◌, ℕ, ◌+◌, ◌≤◌, ◌<◌, Bool, true, List, [], ◌∷◌, length, drop, Some, None, ℤ, arith}
use Rattle.std.proofs.Math.Option.{none, some}
use Rattle.std.specs.Prelude as code
use Rattle.format.specs.Prelude.{Read}
use Rattle.format.specs.Leb.{read_little, read_uleb, read_sleb}
use Rattle.format.specs.Shortest.{unsigned, signed, numbers_short}
use Rattle.operations.specs.Positions.{from, past, read_from, little_at}
use Rattle.operations.specs.Positions as marked
use Rattle.operations.specs.declared.fields.Position.{Position}
use Rattle.operations.proofs.PositionLaws.{Takes, takes_little, takes_uleb, takes_sleb, read_ahead}
use Rattle.cfi_entries.specs.Places.{placed, field_at, uleb_at, sleb_at}

-- the number and the place, without the mark
abbrev plain : {A : Type 0} → code.Option (A × Position) → code.Option (A × ℕ)
plain None = None
plain (Some x) = Some (x.0, x.1.at)

placed_plain : {A : Type 0} (p : Position) (b : Bool) (size : ℕ) (r : Read A) → placed size r ≡ plain (read_from p b size r)
unfolding placed read_from past
placed_plain p b size none = refl
placed_plain p b size (some x) = refl

-- what was read at p with its mark is read there without, and from there it is at least lo and at most hi
-- bytes to the place behind it
pub record Plainly (A : Type 0) (lo hi : ℕ) (s : List ℕ) (p : ℕ) (v : A) (q : ℕ) (o : code.Option (A × ℕ)) : Type 0 where
  pub is : Some (v, q) ≡ o
  pub least : p + lo ≤ q
  pub most : q ≤ p + hi
  pub inside : q ≤ length s

module _ {A : Type 0} (s : List ℕ) (p : ℕ) (b : Bool) where
  plain_some : (lo hi : ℕ) → 0 < lo → (r : Read A) → Takes lo hi (drop p s) r → (v : A) (q : Position) → Some (v, q) ≡ read_from (from p) b (length s) r
      → Plainly A lo hi s p v q.at (placed (length s) r)
  plain_some lo hi byte r t v q e =
      let a = read_ahead byte s (from p) b t (sym e) in
      record {
        is = ap plain e ∙ sym (placed_plain (from p) b (length s) r);
        least = a.least;
        most = a.most;
        inside = a.inside;
      }

  plain_none : (r : Read A) → None ≡ read_from (from p) b (length s) r → None ≡ placed (length s) r
  plain_none r e = ap plain e ∙ sym (placed_plain (from p) b (length s) r)

module _ (s : List ℕ) (p : ℕ) where
  pub field_some : (n : ℕ) → 0 < n → (v : ℕ) (q : Position) → Some (v, q) ≡ little_at n s (from p) → Plainly ℕ n n s p v q.at (field_at n s p)
  unfolding field_at little_at
  field_some n byte v q e = plain_some s p true n n byte (read_little n (drop p s)) (takes_little n (drop p s)) v q e

  pub field_none : (n : ℕ) → None ≡ little_at n s (from p) → None ≡ field_at n s p
  unfolding field_at little_at
  field_none n e = plain_none s p true (read_little n (drop p s)) e

  pub uleb_some : (v : ℕ) (q : Position) → Some (v, q) ≡ marked.uleb_at s (from p) → Plainly ℕ 1 10 s p v q.at (uleb_at s p)
  unfolding uleb_at marked.uleb_at
  uleb_some v q e = plain_some s p (numbers_short (unsigned ∷ []) (drop p s)) 1 10 (omega arith) (read_uleb (drop p s)) (takes_uleb (drop p s)) v q e

  pub uleb_none : None ≡ marked.uleb_at s (from p) → None ≡ uleb_at s p
  unfolding uleb_at marked.uleb_at
  uleb_none e = plain_none s p (numbers_short (unsigned ∷ []) (drop p s)) (read_uleb (drop p s)) e

  pub sleb_some : (v : ℤ) (q : Position) → Some (v, q) ≡ marked.sleb_at s (from p) → Plainly ℤ 1 10 s p v q.at (sleb_at s p)
  unfolding sleb_at marked.sleb_at
  sleb_some v q e = plain_some s p (numbers_short (signed ∷ []) (drop p s)) 1 10 (omega arith) (read_sleb (drop p s)) (takes_sleb (drop p s)) v q e

  pub sleb_none : None ≡ marked.sleb_at s (from p) → None ≡ sleb_at s p
  unfolding sleb_at marked.sleb_at
  sleb_none e = plain_none s p (numbers_short (signed ∷ []) (drop p s)) (read_sleb (drop p s)) e

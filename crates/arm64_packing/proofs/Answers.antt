-- Whether a word stands for a function, by the tests that the code makes.
use mathlib.Core.Path.{◌≡◌, sym, ap, ◌∙◌}
use mathlib.Core.Bool.{true, false, ◌&&◌, and-false}
use mathlib.Core.List.{List}
use Prim.Native.Nat.{ℕ, ◌≤◌, ◌<◌}
use native.Mathlib.Omega.{arith}
use borrow.Author.Tests.{lt-ltb, le-ltb}
use Rattle.std.specs.Prelude.{Option, Some, None}
use Rattle.format.specs.Prelude.{pick}
use Rattle.arm64.specs.declared.Code.{Code}
use Rattle.arm64.specs.declared.Packed.{Packed}
use Rattle.arm64.specs.declared.Part.TheVariants.{Prologue, Epilogue}
use Rattle.arm64.specs.Packed.{packed_ok, slots_from}
use Rattle.arm64.specs.Runs.{no_pair, resolve, same_codes}
use Rattle.arm64.specs.Packing.{packed_word, fields_hold, stands_for}
use Rattle.arm64_packed.proofs.Places.{ok_registers}
use Rattle.arm64_packing.specs.Places.{placed}
use Rattle.arm64_packing.proofs.Comparing.{prologue_same, epilogue_same}

-- ---- the fields

module _ (p : Packed) where
  pub long_function : 2047 < p.length → false ≡ (fields_hold p && packed_ok p)
  unfolding fields_hold
  long_function h = let g : 2048 ≤ p.length = omega arith in simp (le-ltb p.length 2048 g)

  pub many_vectors : 7 < p.vectors → false ≡ (fields_hold p && packed_ok p)
  unfolding fields_hold
  many_vectors h = let g : 8 ≤ p.vectors = omega arith in simp (le-ltb p.vectors 8 g, and-false)

  pub large_frame : 511 < p.frame → false ≡ (fields_hold p && packed_ok p)
  unfolding fields_hold
  large_frame h = let g : 512 ≤ p.frame = omega arith in simp (le-ltb p.frame 512 g, and-false)

  pub many_registers : 10 < p.registers → false ≡ (fields_hold p && packed_ok p)
  many_registers h = simp (ok_registers p h, and-false)

  pub fields_held : p.length ≤ 2047 → p.vectors ≤ 7 → p.frame ≤ 511 → packed_ok p ≡ (fields_hold p && packed_ok p)
  unfolding fields_hold
  fields_held l v f =
      let l₁ : p.length < 2048 = omega arith in
      let v₁ : p.vectors < 8 = omega arith in
      let f₁ : p.frame < 512 = omega arith in simp (lt-ltb p.length 2048 l₁, lt-ltb p.vectors 8 v₁, lt-ltb p.frame 512 f₁)

-- ---- the whole

abbrev pub answered : Packed → (ps r : List Code) → Option ℕ
answered p ps r = pick (stands_for p ps r) (Some (packed_word p)) None

module _ {p q : Packed} (ps r : List Code) (e : p ≡ q) where
  moved : {n : Option ℕ} → n ≡ answered p ps r → n ≡ answered q ps r
  moved f = f ∙ ap (λ x. answered x ps r) e

  pub not_defined : (fields_hold p && packed_ok p) ≡ false → None ≡ answered q ps r
  unfolding stands_for pick
  not_defined d = moved (simp d)

  module _ (d : (fields_hold p && packed_ok p) ≡ true) where
    pub other_prologue : same_codes (resolve no_pair ps) (slots_from (placed Prologue p) 0 19) ≡ false → None ≡ answered q ps r
    unfolding stands_for pick
    other_prologue f = moved (simp (d, sym (prologue_same (resolve no_pair ps) p) ∙ f))

    module _ (f : same_codes (resolve no_pair ps) (slots_from (placed Prologue p) 0 19) ≡ true) where
      pub other_epilogue : same_codes (resolve no_pair r) (slots_from (placed Epilogue p) 0 19) ≡ false → None ≡ answered q ps r
      unfolding stands_for pick
      other_epilogue g = moved (simp (d, sym (prologue_same (resolve no_pair ps) p) ∙ f, sym (epilogue_same (resolve no_pair r) p) ∙ g))

      pub stood : same_codes (resolve no_pair r) (slots_from (placed Epilogue p) 0 19) ≡ true → Some (packed_word p) ≡ answered q ps r
      unfolding stands_for pick
      stood g = moved (simp (d, sym (prologue_same (resolve no_pair ps) p) ∙ f, sym (epilogue_same (resolve no_pair r) p) ∙ g))

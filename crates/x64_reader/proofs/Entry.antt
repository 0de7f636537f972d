-- What the export answers of a record: each refusal, and the codes that are stored.
use mathlib.Core.Path.{◌≡◌, refl, ◌∙◌}
use Prim.Native.Nat.{ℕ, ◌*◌, ◌/◌, ◌≤◌, ◌<◌}
use native.Mathlib.Omega.{arith}
use mathlib.Core.Bool.{Bool, false}
use mathlib.Core.Option.{Option, none, some}
use mathlib.Core.List.{List, [], ◌∷◌}
use lib.ListN.{length, get_or, drop}
use Rattle.format.specs.Prelude.{pick, Result, good, bad, onward, or_else}
use Rattle.format.specs.Answers.{bit}
use Rattle.format.specs.declared.Seh.{Seh}
use Rattle.format.specs.X64Reader.{frame_register, frame_offset, has_frame, header_ok, slot_bytes_in, Info, info_with, read_codes, read_info, read_x64, info_numbers, codes_stored}
use Rattle.format.proofs.Choice.{pick_yes, if-le, if-gt}
use Rattle.std.specs.Prelude.{Some, None}
use Rattle.operations.proofs.PositionLaws.{both_are}
use Rattle.x64_reader.specs.Reads.{counted_of, Held, stored_of, HeaderThere}

-- the answer as numbers, and the lent list at exit
abbrev pub Answers : Result Info → List ℕ → (old new : List ℕ) → Type 0
Answers r ns old new = (ns ≡ info_numbers r) × (new ≡ codes_stored r old)

pub refuses : {r : Result Info} {n : ℕ} {ns old : List ℕ} → r ≡ bad n → ns ≡ n ∷ 0 ∷ 0 ∷ 0 ∷ 0 ∷ 0 ∷ [] → Answers r ns old old
unfolding info_numbers codes_stored
refuses e h = (h ∙ rw e, rw e)

pub no_record : (s : List ℕ) (p room : ℕ) → header_ok (drop p s) ≡ false → read_x64 s p room ≡ bad 76
unfolding read_x64 read_info pick onward
no_record s p room e = rw e

-- ---- the codes that were counted

pub none_read : (r : Option (List (ℕ × Seh))) → None ≡ counted_of r → r ≡ none
unfolding counted_of
none_read none e = refl
none_read (some cs) e = let z : ◌≡◌ {A = ℕ} 0 1 = cc in absurd (omega arith)

pub record Read (r : Option (List (ℕ × Seh))) (n : ℕ) (framed : Bool) : Type 0 where
  pub held : Held r n
  pub frames : framed ≡ has_frame held.codes

pub some_read : (r : Option (List (ℕ × Seh))) {n : ℕ} {framed : Bool} → Some (n, framed) ≡ counted_of r → Read r n framed
unfolding counted_of
some_read none e = let z : ◌≡◌ {A = ℕ} 0 1 = cc in absurd (omega arith)
some_read (some cs) e = record { held = record { codes = cs; are = refl; many = (both_are e).0 }; frames = (both_are e).1 }

module _ (s : List ℕ) (p : ℕ) {end frame : ℕ} {slots : List ℕ} (h : HeaderThere (drop p s) end frame slots) where
  pub there : read_info (drop p s) ≡ onward (or_else (read_codes frame slots) 77) (λ cs. good (info_with (drop p s) cs))
  unfolding read_info
  there =
      rw (h.holds, h.frames)
      (pick_yes (header_ok (drop p s)) (onward (or_else (read_codes (get_or (drop p s) 3 0) (slot_bytes_in (drop p s))) 77) (λ cs. good (info_with (drop p s) cs))) (bad 76) h.ok)

  pub no_codes : (room : ℕ) → read_codes frame slots ≡ none → read_x64 s p room ≡ bad 77
  unfolding read_x64 onward or_else
  no_codes room e = rw (there, e)

  module _ (room : ℕ) {n : ℕ} (c : Held (read_codes frame slots) n) where
    pub no_space : room / 5 < n → read_x64 s p room ≡ bad 54
    unfolding read_x64 onward or_else info_with
    no_space l = rw (there, c.are) (if-gt (5 * length c.codes) room _ _ (omega (arith, c.many)))

    space : n ≤ room / 5 → read_x64 s p room ≡ good (info_with (drop p s) c.codes)
    unfolding read_x64 onward or_else info_with
    space l = rw (there, c.are) (if-le (5 * length c.codes) room _ _ (omega (arith, c.many)))

  pub reads : {n : ℕ} {framed : Bool} {ns new : List ℕ} (old : List ℕ) (c : Read (read_codes frame slots) n framed) → n ≤ length old / 5
      → ns ≡ 0 ∷ end ∷ bit framed ∷ frame_register frame ∷ frame_offset frame ∷ n ∷ []
      → new ≡ stored_of (read_codes frame slots) old → Answers (read_x64 s p (length old)) ns old new
  unfolding info_numbers codes_stored info_with stored_of
  reads old c l e t =
      let r : read_x64 s p (length old) ≡ good (info_with (drop p s) c.held.codes) = space (length old) c.held l in
      (e ∙ rw (r, c.frames, c.held.many, h.ends, h.frames), t ∙ rw (c.held.are, r))

-- A packed function: what its word says, and that its full record would say the same.
use mathlib.Core.Path.{◌≡◌, refl, subst, sym}
use mathlib.Core.Bool.{true, ◌&&◌}
use mathlib.Core.List.{List, [], ◌∷◌}
use Prim.Native.Nat.{ℕ, ◌^◌, ◌<◌}
use Rattle.format.specs.Prelude.{Result}
use Rattle.arm64.specs.declared.Packed.{Packed}
use Rattle.arm64.specs.Lists.{Epilogue, Function}
use Rattle.arm64.specs.Runs.{leads}
use Rattle.arm64.specs.Reader.{Unwound, epilogue, unwound_by, full_record}
use Rattle.arm64.specs.Packing.{candidate, packed_word, stands_for}
use Rattle.arm64.specs.Writer.{instructions, prologue_run, epilogue_run, ends_with, packed_for, is_packed, record_bytes}
use Rattle.arm64.proofs.PackedBack.{Back, held, word_low, packed_back}
use Rattle.arm64_back.specs.Back.{SameEpilogues, given, written, ReadBack, SameReading, BytesAt}
use Rattle.arm64_back.proofs.ScopeBack.{Placed, AllPlaced}
use Rattle.arm64_back.proofs.SameReadings.{both_same, written_means}
use Rattle.arm64_back.proofs.RecordBack.{Asked, Only, only, record_read}
use Rattle.std.proofs.lemmas.Bool.{and_parts}

-- the word of a packed function
abbrev pub word_for : Function → ℕ
word_for f = packed_word (candidate (instructions f.size) (prologue_run f))

-- an answer with one epilogue
module _ (f : Function) (e : Epilogue) (are : f.epilogues ≡ e ∷ []) where
  one_back : {r : Result Unwound} → Back f e r → ReadBack (given f) r
  unfolding given epilogue
  one_back b =
      record {
        unwound = record { size = f.size; prologue = b.codes; epilogues = epilogue e.start b.undoing ∷ [] };
        answer = b.answer;
        same = record {
          size = refl;
          prologue = b.prologue;
          epilogues = subst (SameEpilogues (epilogue e.start b.undoing ∷ [])) (sym are) (record { start = refl; means = b.epilogue_means_lem }, tt);
        };
      }

module _ (f : Function) (a : Asked f) (t : is_packed f ≡ true) where
  only_one_lem : Only (packed_for f) f.epilogues
  unfolding is_packed
  only_one_lem = only (packed_for f) f.epilogues t

  pub word_fits : word_for f < 2 ^ 32
  unfolding packed_for
  word_fits =
      let e : Epilogue = only_one_lem.one in
      let word : Packed = candidate (instructions f.size) (prologue_run f) in
      let s = (and_parts (ends_with f e && leads (epilogue_run e) (prologue_run f)) (stands_for word (prologue_run f) (epilogue_run e)) only_one_lem.passes).1 in
      word_low word (held (instructions f.size) (prologue_run f) (epilogue_run e) s)

  -- A packed word, whatever the bytes and the place: the length and the epilogue's start as given, and codes that mean what was given.
  pub word_back : (s : List ℕ) (place : ℕ) → ReadBack (given f) (unwound_by (word_for f) s place)
  word_back s place =
      let o = only_one_lem in
      let e : Epilogue = o.one in
      let p : Placed f e = (subst (AllPlaced f) o.are a.epilogues).0 in
      one_back f e o.are (packed_back f e a.held.whole p.whole p.low o.passes s place)

  -- A packed word means what the function's full record would mean, wherever that stood.
  pub packed_word_as_full : (s : List ℕ) (place : ℕ) (bytes : List ℕ) (p : ℕ)
      → BytesAt bytes p (record_bytes f)
      → SameReading (unwound_by (word_for f) s place) (full_record bytes p)
  packed_word_as_full s place bytes p u =
      let b = word_back s place in
      record {
        first = b.unwound;
        second = written f;
        one = b.answer;
        other = record_read f a bytes p u;
        same = both_same b.unwound (written f) (given f) b.same (written_means f);
      }

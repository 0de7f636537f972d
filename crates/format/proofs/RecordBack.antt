-- The fields of a record, there and back, and the pointer that its header promises.
use mathlib.Core.Path.{◌≡◌, refl}
use Prim.Native.Nat.{ℕ, ◌^◌, ◌≤◌, ◌<◌}
use native.Mathlib.Omega.{arith}
use mathlib.Core.Bool.{Bool, true, false, not}
use mathlib.Core.Logic.{◌≢◌}
use mathlib.Core.Option.{Option, none, some}
use mathlib.Core.List.{List, [], ◌∷◌, ◌++◌, append_assoc}
use lib.ListN.{length, replicate, length-append, length-replicate}
use lib.Dec.{T}
use mir.Facts.{no_eqb}
use Rattle.format.specs.Prelude.{pick, next}
use Rattle.format.specs.Lists.{Function, Landing, Named, Pointer}
use Rattle.format.specs.Headers.{named, header_id, encoding_of, named_kind, kind_for, counted}
use Rattle.format.specs.Records.{pointer_blank, named_blank, lsda_blank, size_field, record_fields}
use Rattle.format.specs.Reader.{second, is_header, record_tail, require, parse_record}
use Rattle.format.proofs.Choice.{if-le}
use Rattle.format.proofs.LebBack.{little_back, little-length}
use Rattle.format.proofs.FieldsBack.{pointer_small, counted_back, counted_short, blank_back, second_back}
use Rattle.format.proofs.HeaderBack.{pointer_in}

-- the augmentation of an eh record: n blank bytes
blanks_back : (pointer size n : ℕ) (ops : List ℕ) → pointer ≤ n → n < 2 ^ 64
    → record_tail false pointer size (counted (replicate n 0) ++ ops) ≡ some (record { size = size; operations = ops })
unfolding record_tail require next
blanks_back pointer size n ops h l =
    let e : length {A = ℕ} (replicate n 0) ≡ n = length-replicate n 0 in
    rw (counted_back (replicate n 0) ops (omega arith), e, if-le)

pub record_back : (debug : Bool) (word distance pointer : ℕ) (f : Function) (ops : List ℕ)
    → distance < 2 ^ 32 → size_field f.size f.relaxed < 256 ^ pick debug word 4
    → pointer ≤ lsda_blank word f.landings f.named → lsda_blank word f.landings f.named < 2 ^ 64
    → parse_record debug word pointer (record_fields debug word distance f ++ ops)
    ≡ some (record { size = size_field f.size f.relaxed; operations = ops })
unfolding parse_record record_fields record_tail pick next
record_back true word distance pointer f ops hd hs hp hl =
    simp append_assoc (rw (little_back 4 0 _ (omega arith), blank_back word, little_back word (size_field f.size f.relaxed) ops hs))
record_back false word distance pointer f ops hd hs hp hl =
    simp append_assoc
    (rw (little_back 4 distance _ (omega arith), blank_back 4, little_back 4 (size_field f.size f.relaxed) _ (omega arith))
    (blanks_back pointer (size_field f.size f.relaxed) (lsda_blank word f.landings f.named) ops hp hl))

-- ---- the pointer to call sites

pointer_named : (word e s : ℕ) (p : Option Pointer) → pointer_in false word (named e s (encoding_of p)) ≡ pointer_blank word p
unfolding pointer_in encoding_of pointer_blank
pointer_named word e s none = refl
pointer_named word e s (some p) = refl

-- a record holds the pointer that its header promises
pub pointer_fits : (word : ℕ) (ls : List Landing) (n : Option Named) → pointer_in false word (kind_for ls n) ≡ lsda_blank word ls n
unfolding pointer_in kind_for named_kind lsda_blank named_blank
pointer_fits word (l ∷ ls) n = refl
pointer_fits word [] none = refl
pointer_fits word [] (some n) = pointer_named word n.personality.encoding n.personality.symbol n.lsda

pub pointer_within : (debug : Bool) (word : ℕ) (ls : List Landing) (n : Option Named) → pointer_in debug word (kind_for ls n) ≤ lsda_blank word ls n
unfolding pointer_in
pointer_within true word ls n = omega arith
pointer_within false word ls n = omega (arith, pointer_fits word ls n)

pointer_blank_small : (word : ℕ) (p : Option Pointer) → word ≤ 8 → pointer_blank word p ≤ 8
unfolding pointer_blank
pointer_blank_small word none h = omega arith
pointer_blank_small word (some p) h = pointer_small word p.encoding h

pub blank_small : (word : ℕ) (ls : List Landing) (n : Option Named) → word ≤ 8 → lsda_blank word ls n ≤ 8
unfolding lsda_blank named_blank
blank_small word (l ∷ ls) n h = omega arith
blank_small word [] none h = omega arith
blank_small word [] (some n) h = pointer_blank_small word n.lsda h

-- ---- the second field: a record is no header

pub record_second_eh : (word distance : ℕ) (f : Function) (bs : List ℕ) → distance < 2 ^ 32 → second (record_fields false word distance f ++ bs) ≡ distance
unfolding record_fields
record_second_eh word distance f bs h = rw append_assoc (second_back distance _ h)

pub record_second_debug : (word distance : ℕ) (f : Function) (bs : List ℕ) → second (record_fields true word distance f ++ bs) ≡ 0
unfolding record_fields
record_second_debug word distance f bs = rw append_assoc (second_back 0 _ (omega arith))

pub record_is_none : (debug : Bool) (word distance : ℕ) (f : Function) (at : ℕ) (bs : List ℕ) → 0 < distance → distance < 2 ^ 32
    → T (not (is_header debug (record { at = at; body = record_fields debug word distance f ++ bs })))
unfolding is_header header_id pick
record_is_none true word distance f at bs h l = rw (record_second_debug word distance f bs) tt
record_is_none false word distance f at bs h l = rw (record_second_eh word distance f bs l) (let n : distance ≢ 0 = λ e. omega arith in no_eqb n)

-- ---- how long a record's fields are

pub record_long : (debug : Bool) (word distance : ℕ) (f : Function) (bs : List ℕ) → 4 ≤ length (record_fields debug word distance f ++ bs)
unfolding record_fields
record_long true word distance f bs = simp (length-append, little-length) (omega arith)
record_long false word distance f bs = simp (length-append, little-length) (omega arith)

pub record_short : (debug : Bool) (word distance : ℕ) (f : Function) → word ≤ 8 → length (record_fields debug word distance f) ≤ 21
unfolding record_fields
record_short true word distance f h = simp (length-append, little-length, length-replicate {A = ℕ} word 0) (omega arith)
record_short false word distance f h =
    let n : ℕ = lsda_blank word f.landings f.named in
    let l : n ≤ 8 = blank_small word f.landings f.named h in
    let e : length {A = ℕ} (replicate n 0) ≡ n = length-replicate n 0 in
    simp (length-append, little-length) (omega (arith, counted_short (replicate n 0) (omega arith)))

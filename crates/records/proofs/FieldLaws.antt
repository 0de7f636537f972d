-- A record's fields are those of the function that the record means.
use mathlib.Core.Path.{◌≡◌, refl}
use Prim.Native.Nat.{ℕ, zero, suc, ◌+◌, ◌*◌}
use native.Mathlib.Omega.{arith}
use mathlib.Core.Bool.{Bool, true, false}
use mathlib.Core.Logic.{◌≢◌}
use mathlib.Core.List.{List, ◌++◌}
use lib.ListN.{length, replicate, length-append, length-replicate}
use lib.Dec.{eqb}
use Rattle.std.specs.Prelude as code
use Rattle.std.specs.Prelude.{Some, None}
use Rattle.format.specs.Prelude.{pick, each}
use Rattle.format.specs.Leb.{uleb}
use Rattle.format.specs.Lists.{Landing}
use Rattle.format.specs.Headers.{pointer_bytes, counted}
use Rattle.format.specs.Records.{pointer_blank, named_blank, lsda_blank, size_field, record_fields}
use Rattle.format.proofs.Choice.{if-eq, if-ne}
use Rattle.format.proofs.LebBack.{little-length}
use Rattle.lists.specs.declared.Lsda.{Lsda}
use Rattle.lists.specs.declared.Personality.{Personality}
use Rattle.lists.specs.declared.Labels.{Labels}
use Rattle.lists.specs.declared.Extent.{Extent}
use Rattle.lists.specs.Extents.{meant_lsda, meant_personality, meant_labels, meant}
use Rattle.header_keys.specs.declared.Kind.TheVariants.{Personal}
use Rattle.header_keys.specs.Kinds.{by_personality, asked_kind}
use Rattle.records.specs.Fields.{labelled, size_in, lsda_by, pointed, blank_in, fields_in}

-- ---- the fields of a function and those of its record

size_is : (o : code.Option Labels) (size : ℕ) (pairs : List ℕ) → size_field size (meant_labels o pairs) ≡ labelled o size (λ l. 0)
unfolding size_field meant_labels labelled
size_is (Some l) size pairs = refl
size_is None size pairs = refl

pointer_is : (o : code.Option Lsda) (word : ℕ) → pointer_blank word (meant_lsda o) ≡ lsda_by o 0 (λ l. pointer_bytes word l.encoding)
unfolding pointer_blank meant_lsda lsda_by
pointer_is (Some l) word = refl
pointer_is None word = refl

named_is : (o : code.Option Personality) (word : ℕ)
    → named_blank word (meant_personality o) ≡ pointed (by_personality o) 0 (λ l. pointer_bytes word l.encoding) 4
unfolding named_blank meant_personality by_personality pointed
named_is (Some p) word = pointer_is p.lsda word
named_is None word = refl

blank_is : (f : ℕ → Landing) (at n : ℕ) (o : code.Option Personality) (word : ℕ)
    → lsda_blank word (each f at n) (meant_personality o) ≡ pointed (pick (eqb n 0) (by_personality o) Personal) 0 (λ l. pointer_bytes word l.encoding) 4
unfolding lsda_blank each pointed
blank_is f at zero o word = rw (if-eq 0 0 (by_personality o) Personal refl) (named_is o word)
blank_is f at (suc n) o word = let h : suc n ≢ 0 = λ e. omega arith in rw (if-ne (suc n) 0 (by_personality o) Personal h)

pub fields_are : (debug : Bool) (word distance : ℕ) (e : Extent) (rows landings pairs : List ℕ)
    → record_fields debug word distance (meant e rows landings pairs) ≡ fields_in debug word distance e
unfolding record_fields fields_in meant size_in blank_in asked_kind
fields_are true word distance e rows landings pairs = simp size_is
fields_are false word distance e rows landings pairs = simp (size_is, blank_is)

-- ---- how long they are

pub debug_length : (word distance : ℕ) (e : Extent) → length (fields_in true word distance e) ≡ 4 + 2 * word
unfolding fields_in
debug_length word distance e = simp (length-append, little-length, length-replicate {A = ℕ} word 0) (omega arith)

pub blanks_bytes : (n : ℕ) → counted (replicate n 0) ≡ uleb n ++ replicate n 0
unfolding counted
blanks_bytes n = rw (length-replicate {A = ℕ} n 0)

pub eh_length : (word distance : ℕ) (e : Extent) → length (fields_in false word distance e) ≡ 12 + length (uleb (blank_in word e)) + blank_in word e
unfolding fields_in
eh_length word distance e =
    let n : ℕ = blank_in word e in
    rw (blanks_bytes n) (simp (length-append, little-length, length-replicate {A = ℕ} n 0) (omega arith))

-- whatever the distance
pub fields_length : (debug : Bool) (word distance : ℕ) (e : Extent) → length (fields_in debug word distance e) ≡ length (fields_in debug word 0 e)
fields_length true word distance e = rw (debug_length word distance e, debug_length word 0 e)
fields_length false word distance e = rw (eh_length word distance e, eh_length word 0 e)

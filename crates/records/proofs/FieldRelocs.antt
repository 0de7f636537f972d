-- The relocations of a record's fields are those of the function that the record means, and how many there are.
use mathlib.Core.Path.{◌≡◌, refl, sym, ◌∙◌}
use Prim.Native.Nat.{ℕ, zero, suc, ◌+◌}
use native.Mathlib.Omega.{arith}
use mathlib.Core.Bool.{Bool, true, false}
use mathlib.Core.Logic.{◌≢◌}
use mathlib.Core.List.{List, [], ◌∷◌, ◌++◌}
use lib.ListN.{length, length-append}
use lib.Dec.{eqb}
use Rattle.std.specs.Prelude as code
use Rattle.std.specs.Prelude.{Some, None}
use Rattle.format.specs.Prelude.{pick, each}
use Rattle.format.specs.Lists.{Function, Landing, Relocation, numbers_of}
use Rattle.format.specs.Constants.{except_table}
use Rattle.format.specs.Headers.{pointer_reloc, reloc}
use Rattle.format.specs.Records.{pointer_to, named_reloc, lsda_reloc, sum_pair}
use Rattle.format.proofs.Choice.{if-eq, if-ne}
use Rattle.format.proofs.ListLaws.{numbers_append}
use Rattle.lists.specs.declared.Lsda.{Lsda}
use Rattle.lists.specs.declared.Personality.{Personality}
use Rattle.lists.specs.declared.Labels.{Labels}
use Rattle.lists.specs.declared.Extent.{Extent}
use Rattle.lists.specs.Extents.{meant_lsda, meant_personality, meant_labels}
use Rattle.header_keys.specs.declared.Kind.{Kind}
use Rattle.header_keys.specs.declared.Kind.TheVariants.{Plain, Personal, Named}
use Rattle.header_keys.specs.Kinds.{by_personality, asked_kind}
use Rattle.records.specs.Fields.{labelled, lsda_by, pointed, sum_in, lsda_in, debug_relocs, eh_relocs, field_relocs}

-- ---- the parts of a function's relocations by what its record has

pub sum_is : (o : code.Option Labels) (place bytes : ℕ) (f : Function) (pairs : List ℕ) → sum_pair place bytes f (meant_labels o pairs)
    ≡ labelled o [] (λ l. reloc place l.end 2 bytes 0 ∷ reloc place f.symbol 3 bytes 0 ∷ [])
unfolding sum_pair meant_labels labelled
sum_is (Some l) place bytes f pairs = refl
sum_is None place bytes f pairs = refl

pointer_is : (o : code.Option Lsda) (word place : ℕ)
    → pointer_to word place (meant_lsda o) ≡ lsda_by o [] (λ l. pointer_reloc word place l.symbol l.encoding ∷ [])
unfolding pointer_to meant_lsda lsda_by
pointer_is (Some l) word place = refl
pointer_is None word place = refl

named_is : (o : code.Option Personality) (word place : ℕ) (table : List Relocation)
    → named_reloc word place (meant_personality o) ≡ pointed (by_personality o) [] (λ l. pointer_reloc word place l.symbol l.encoding ∷ []) table
unfolding named_reloc meant_personality by_personality pointed
named_is (Some p) word place table = pointer_is p.lsda word place
named_is None word place table = refl

pub lsda_is : (f : ℕ → Landing) (at n : ℕ) (o : code.Option Personality) (word place table : ℕ)
    → lsda_reloc word place table (each f at n) (meant_personality o)
    ≡ pointed (pick (eqb n 0) (by_personality o) Personal) [] (λ l. pointer_reloc word place l.symbol l.encoding ∷ []) (reloc place except_table 0 4 table ∷ [])
unfolding lsda_reloc each pointed
lsda_is f at zero o word place table = rw (if-eq 0 0 (by_personality o) Personal refl) (named_is o word place _)
lsda_is f at (suc n) o word place table = let h : suc n ≢ 0 = λ e. omega arith in rw (if-ne (suc n) 0 (by_personality o) Personal h)

-- ---- the numbers of the fields' relocations

pub debug_numbers : (word at cie : ℕ) (e : Extent) → numbers_of (debug_relocs word at cie e)
    ≡ numbers_of (reloc (at + 4) 2 1 4 cie ∷ []) ++ (numbers_of (reloc (at + 8) e.symbol 1 word 0 ∷ []) ++ numbers_of (sum_in (at + 8 + word) word e))
unfolding debug_relocs numbers_of
debug_numbers word at cie e = refl

pub eh_numbers : (word at table : ℕ) (e : Extent) → numbers_of (eh_relocs word at table e)
    ≡ numbers_of (reloc (at + 8) e.symbol 0 4 0 ∷ []) ++ (numbers_of (lsda_in word (at + 17) table e) ++ numbers_of (sum_in (at + 12) 4 e))
unfolding eh_relocs numbers_of
eh_numbers word at table e = rw (← numbers_append (lsda_in word (at + 17) table e) (sum_in (at + 12) 4 e))

pub one_length : (r : Relocation) → length (numbers_of (r ∷ [])) ≡ 5
unfolding numbers_of
one_length r = refl

-- ---- how many there are

labelled_length : (o : code.Option Labels) (f g : Labels → List Relocation) → ((l : Labels) → length (f l) ≡ length (g l))
    → length (labelled o [] f) ≡ length (labelled o [] g)
unfolding labelled
labelled_length (Some l) f g h = h l
labelled_length None f g h = refl

sum_counted : (place bytes : ℕ) (e : Extent) → length (sum_in place bytes e) ≡ length (sum_in 0 0 e)
unfolding sum_in
sum_counted place bytes e = labelled_length e.relaxed _ _ (λ l. refl)

pub debug_count : (word at cie : ℕ) (e : Extent) → length (debug_relocs word at cie e) ≡ 2 + length (sum_in 0 0 e)
unfolding debug_relocs
debug_count word at cie e = omega (arith, sum_counted (at + 8 + word) word e)

lsda_length : (o : code.Option Lsda) (f g : Lsda → List Relocation) → ((l : Lsda) → length (f l) ≡ length (g l))
    → length (lsda_by o [] f) ≡ length (lsda_by o [] g)
unfolding lsda_by
lsda_length (Some l) f g h = h l
lsda_length None f g h = refl

pointed_length : (k : Kind) (f g : Lsda → List Relocation) (t u : Relocation) → ((l : Lsda) → length (f l) ≡ length (g l))
    → length (pointed k [] f (t ∷ [])) ≡ length (pointed k [] g (u ∷ []))
unfolding pointed
pointed_length Plain f g t u h = refl
pointed_length Personal f g t u h = refl
pointed_length (Named p) f g t u h = lsda_length p.lsda f g h

lsda_counted : (word place table : ℕ) (e : Extent) → length (lsda_in word place table e) ≡ length (lsda_in 0 0 0 e)
unfolding lsda_in
lsda_counted word place table e = pointed_length (asked_kind e) _ _ _ _ (λ l. refl)

pub eh_count : (word at table : ℕ) (e : Extent) → length (eh_relocs word at table e) ≡ 1 + length (lsda_in 0 0 0 e) + length (sum_in 0 0 e)
unfolding eh_relocs
eh_count word at table e = simp length-append (omega (arith, lsda_counted word (at + 17) table e, sum_counted (at + 12) 4 e))

pub field_count : (debug : Bool) (word at cie table : ℕ) (e : Extent) → length (field_relocs debug word at cie table e) ≡ length (field_relocs debug 0 0 0 0 e)
unfolding field_relocs pick
field_count true word at cie table e = debug_count word at cie e ∙ sym (debug_count 0 0 0 e)
field_count false word at cie table e = eh_count word at table e ∙ sym (eh_count 0 0 0 e)

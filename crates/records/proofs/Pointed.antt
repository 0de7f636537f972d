-- The pointer to the call sites by the LSDA that a header names.
use mathlib.Core.Path.{◌≡◌, refl}
use mathlib.Core.List.{[], ◌∷◌}
use Prim.Native.Nat.{ℕ}
use mir.Val.{bool_byte}
use lib.ListN.{length}
use Rattle.std.specs.Prelude as code
use Rattle.std.specs.Prelude.{Some, None, is_some}
use Rattle.format.specs.Prelude.{pick}
use Rattle.format.specs.Constants.{except_table}
use Rattle.format.specs.Headers.{size_of, size_or0, pointer_bytes, pointer_reloc, reloc}
use Rattle.lists.specs.declared.Lsda.{Lsda}
use Rattle.header_keys.specs.declared.Kind.{Kind}
use Rattle.header_keys.specs.declared.Kind.TheVariants.{Plain, Personal, Named}
use Rattle.headers.specs.Kinds.{personality_for}
use Rattle.records.specs.Fields.{lsda_by, pointed, lsda_named}

pub blank_by : (word : ℕ) (k : Kind)
    → pointed k 0 (λ l. pointer_bytes word l.encoding) 4 ≡ lsda_by (lsda_named (personality_for k)) 0 (λ l. pointer_bytes word l.encoding)
unfolding pointed lsda_by lsda_named personality_for pointer_bytes size_of size_or0 pick
blank_by word Plain = refl
blank_by word Personal = refl
blank_by word (Named p) = refl

one_or_none : (o : code.Option Lsda) → length (lsda_by o [] (λ l. pointer_reloc 0 0 l.symbol l.encoding ∷ [])) ≡ bool_byte (is_some o)
unfolding lsda_by
one_or_none (Some l) = refl
one_or_none None = refl

pub count_by : (k : Kind)
    → length (pointed k [] (λ l. pointer_reloc 0 0 l.symbol l.encoding ∷ []) (reloc 0 except_table 0 4 0 ∷ [])) ≡ bool_byte (is_some (lsda_named (personality_for k)))
unfolding pointed lsda_named personality_for
count_by Plain = refl
count_by Personal = refl
count_by (Named p) = one_or_none p.lsda

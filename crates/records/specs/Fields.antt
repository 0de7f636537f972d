-- A record's fields and their relocations by a function's record.
use Rattle.std.specs.Prelude.{ℕ, ◌+◌, Bool, true, false, List, [], ◌∷◌, ◌++◌, replicate, Some, None}
use Rattle.std.specs.Prelude as code
use Rattle.format.specs.Prelude.{pick}
use Rattle.format.specs.Leb.{little}
use Rattle.format.specs.Lists.{Relocation}
use Rattle.format.specs.Constants.{except_table, debug_frame}
use Rattle.format.specs.Headers.{counted, pointer_bytes, pointer_reloc, reloc}
use Rattle.lists.specs.declared.Lsda.{Lsda}
use Rattle.lists.specs.declared.Personality.{Personality}
use Rattle.lists.specs.declared.Labels.{Labels}
use Rattle.lists.specs.declared.Extent.{Extent}
use Rattle.header_keys.specs.declared.Kind.{Kind}
use Rattle.header_keys.specs.declared.Kind.TheVariants.{Plain, Personal, Named}
use Rattle.header_keys.specs.Kinds.{asked_kind}

-- by relaxing labels: without them, and with them
unfoldable pub labelled : {X : Type 0} → code.Option Labels → X → (Labels → X) → X
labelled None without labels = without
labelled (Some l) without labels = labels l

-- the length field: a linker fills in that of a function with relaxing labels
unfoldable pub size_in : Extent → ℕ
size_in e = labelled e.relaxed e.length (λ l. 0)

-- by the pointer to the call sites: without one, with that of a named personality, and with that of landings
unfoldable pub lsda_by : {X : Type 0} → code.Option Lsda → X → (Lsda → X) → X
lsda_by None without named = without
lsda_by (Some l) without named = named l

unfoldable pub pointed : {X : Type 0} → Kind → X → (Lsda → X) → X → X
pointed Plain without named table = without
pointed Personal without named table = table
pointed (Named p) without named table = lsda_by p.lsda without named

-- that of a personality
unfoldable pub lsda_named : code.Option Personality → code.Option Lsda
lsda_named None = None
lsda_named (Some p) = p.lsda

-- its blank bytes
unfoldable pub blank_in : (word : ℕ) → Extent → ℕ
blank_in word e = pointed (asked_kind e) 0 (λ l. pointer_bytes word l.encoding) 4

unfoldable pub fields_in : (debug : Bool) (word distance : ℕ) → Extent → List ℕ
fields_in true word distance e = little 4 0 ++ (replicate word 0 ++ little word (size_in e))
fields_in false word distance e = little 4 distance ++ (replicate 4 0 ++ (little 4 (size_in e) ++ counted (replicate (blank_in word e) 0)))

-- ---- relocations

-- of the length, where a linker fills it in: the distance from the function to its end label
unfoldable pub sum_in : (place bytes : ℕ) → Extent → List Relocation
sum_in place bytes e = labelled e.relaxed [] (λ l. reloc place l.end 2 bytes 0 ∷ reloc place e.symbol 3 bytes 0 ∷ [])

-- of the pointer to the call sites
unfoldable pub lsda_in : (word place table : ℕ) → Extent → List Relocation
lsda_in word place table e =
    pointed (asked_kind e) [] (λ l. pointer_reloc word place l.symbol l.encoding ∷ []) (reloc place except_table 0 4 table ∷ [])

-- of all fields
unfoldable pub debug_relocs : (word at cie : ℕ) → Extent → List Relocation
debug_relocs word at cie e = reloc (at + 4) debug_frame 1 4 cie ∷ reloc (at + 8) e.symbol 1 word 0 ∷ sum_in (at + 8 + word) word e

unfoldable pub eh_relocs : (word at table : ℕ) → Extent → List Relocation
eh_relocs word at table e = reloc (at + 8) e.symbol 0 4 0 ∷ (lsda_in word (at + 17) table e ++ sum_in (at + 12) 4 e)

unfoldable pub field_relocs : (debug : Bool) (word at cie table : ℕ) → Extent → List Relocation
field_relocs debug word at cie table e = pick debug (debug_relocs word at cie e) (eh_relocs word at table e)

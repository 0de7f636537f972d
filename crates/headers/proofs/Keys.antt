-- The key of a function's record: its kind, and what depends on the rows.
use mathlib.Core.Path.{◌≡◌, ap}
use mathlib.Core.Bool.{Bool, true, false}
use mathlib.Core.List.{List, ◌++◌}
use Prim.Native.Nat.{ℕ, suc, ◌+◌, ◌<◌}
use native.Mathlib.Omega.{arith}
use borrow.Author.Tests.{le-ltb}
use lib.ListN.{length, length-append}
use lib.Dec.{T, eqb}
use Rattle.std.specs.Prelude as code
use Rattle.std.specs.Prelude.{Some, None, IfSome}
use Rattle.format.specs.Prelude.{pick}
use Rattle.format.specs.declared.Machine.{Machine}
use Rattle.format.specs.Rows.{rows_bytes}
use Rattle.format.specs.Headers.{Kind, key_of, leading, pointer_size, padding, padded, entry, augmentation, header_fields, header_bytes, pointer_place, header_relocs}
use Rattle.format.specs.Questions.{is_some, encodings_ok}
use Rattle.format.proofs.Choice.{either}
use Rattle.format.proofs.EntryBack.{entry_length, padded_length}
use Rattle.format.proofs.HeaderBack.{LsdaOk, KindOk, kind_accepted}
use Rattle.lists.specs.declared.Lsda.{Lsda}
use Rattle.lists.specs.declared.Personality.{Personality}
use Rattle.lists.specs.declared.Extent.{Extent}
use Rattle.lists.specs.Extents.{meant}
use Rattle.header_keys.specs.Functions.{body_of, key_in, Sound}
use Rattle.header_keys.specs.Kinds.{lsda_of, kind_meant, by_personality, asked_kind, kind_in}
use Rattle.header_keys.specs.declared.Kind.TheVariants as variants
use Rattle.header_keys.proofs.KindMeans.{kind_means}
use Rattle.headers.specs.Kinds.{head_in, EncodingFits, KindFits}

-- an LSDA's encoding is accepted without the indirect bit
lsda_small : (word l : ℕ) → T (is_some (pointer_size false word l)) → l < 256
unfolding pointer_size pick is_some
lsda_small word l t = either (suc l) 128 (λ h. omega arith) (λ h. absurd (rw (le-ltb l 128 (omega arith)) at t))

by_lsda : (word : ℕ) (o : code.Option Lsda) → LsdaOk word (lsda_of o) → IfSome o (λ l. l.encoding < 256)
unfolding lsda_of
by_lsda word (Some l) k = lsda_small word l.encoding k
by_lsda word None k = tt

by_kind : (word : ℕ) (b : Bool) (o : code.Option Personality) → IfSome o (λ p. p.encoding < 256) → KindOk word (kind_meant (pick b (by_personality o) variants.Personal))
    → KindFits (pick b (by_personality o) variants.Personal)
unfolding kind_meant by_personality pick
by_kind word false o b k = tt
by_kind word true None b k = tt
by_kind word true (Some p) b k = (b, by_lsda word p.lsda k.1)

module _ (m : Machine) (e : Extent) (rows : List ℕ) where
  pub key_is : key_in m e rows ≡ record { kind = kind_in e; signal = e.signal; rows = leading m (body_of e rows) }
  unfolding key_of meant
  key_is = ap (λ (k : Kind). record { kind = k; signal = e.signal; rows = leading m (body_of e rows) }) (kind_means m e rows)

  -- ---- what is written

  pub header_shape : (debug : Bool) (align at : ℕ)
      → header_bytes debug m align at (key_in m e rows) ≡ entry (padded align at (header_fields debug m (head_in e) ++ rows_bytes m.word (leading m (body_of e rows))))
  unfolding header_bytes header_fields augmentation head_in
  header_shape debug align at = rw key_is

  pub header_length : (debug : Bool) (align at : ℕ)
      → let n : ℕ = 4 + length (header_fields debug m (head_in e)) + length (rows_bytes m.word (leading m (body_of e rows))) in
      length (header_bytes debug m align at (key_in m e rows)) ≡ n + padding align (at + n)
  header_length debug align at =
      let fields : List ℕ = header_fields debug m (head_in e) in
      let starts : List ℕ = rows_bytes m.word (leading m (body_of e rows)) in
      let h : at + 4 + length (fields ++ starts) ≡ at + (4 + length fields + length starts) = rw length-append (omega arith) in
      rw (header_shape debug align at, entry_length, padded_length, h, length-append) (omega arith)

  pub relocs_head : (debug : Bool) (at : ℕ) → header_relocs debug m at (key_in m e rows) ≡ header_relocs debug m at (head_in e)
  unfolding header_relocs pointer_place header_fields augmentation head_in
  relocs_head debug at = rw key_is

  -- ---- question 22

  accepted : T (encodings_ok m.word (body_of e rows).landings (body_of e rows).named) → KindOk m.word (kind_in e)
  unfolding key_of
  accepted t = rw (kind_means m e rows) at (kind_accepted m.word (body_of e rows).landings (body_of e rows).named t)

  pub kind_fits : Sound m e rows → EncodingFits e → KindFits (asked_kind e)
  unfolding asked_kind
  kind_fits s b = by_kind m.word (eqb e.landings 0) e.personality b (accepted s.encodings)

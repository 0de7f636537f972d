-- Document 01's starred cases: one table, each with what the definitions give and what the document says, and one proof.
use mathlib.Core.Path.{◌≡◌, refl}
use mathlib.Core.Bool.{false}
use Prim.Native.Nat.{ℕ}
use mathlib.Core.List.{List, [], ◌∷◌, map}
use lib.IntN.{pos, negsuc}
use Rattle.format.specs.Prelude.{pick}
use Rattle.format.specs.Leb.{little, uleb_f, uleb, bits7, sleb_f, sleb}
use Rattle.format.specs.Machine.{x8664}
use Rattle.format.specs.declared.Row.TheVariants.{DefCfa, Offset}
use Rattle.format.specs.Rows.{factor, cfa_bytes, with_register, saved_bytes, row_bytes, step_in, step_form, step_bytes, rows_bytes}
use Rattle.format.specs.Headers.{implied, plain, letters, augmentation, augmentation_data, counted, header_data, header_id, data_factor, header_fields, padding, padded, entry, header_bytes}
use Rattle.format.specs.X64.{node, alloc_bytes}

-- what a definition gives, and what the document says
abbrev Case : Type 0
Case = List ℕ × List ℕ

-- steps, unsigned 128 and signed -65, rows at word 8, the plain x86-64 eh header, and allocations at 4
starred : List Case
starred =
    (step_bytes 63, 0x7f ∷ [])
    ∷ (step_bytes 64, 0x02 ∷ 0x40 ∷ [])
    ∷ (step_bytes 256, 0x03 ∷ 0x00 ∷ 0x01 ∷ [])
    ∷ (step_bytes 65536, 0x04 ∷ 0x00 ∷ 0x00 ∷ 0x01 ∷ 0x00 ∷ [])
    ∷ (uleb 128, 0x80 ∷ 0x01 ∷ [])
    ∷ (sleb (negsuc 64), 0xbf ∷ 0x7f ∷ [])
    ∷ (row_bytes 8 (Offset 63 (negsuc 15)), 0xbf ∷ 0x02 ∷ [])
    ∷ (row_bytes 8 (Offset 64 (negsuc 15)), 0x05 ∷ 0x40 ∷ 0x02 ∷ [])
    ∷ (row_bytes 8 (Offset 6 (pos 8)), 0x11 ∷ 0x06 ∷ 0x7f ∷ [])
    ∷ (row_bytes 8 (DefCfa 7 (negsuc 15)), 0x12 ∷ 0x07 ∷ 0x02 ∷ [])
    ∷ (
      header_bytes false x8664 4 0 (record { kind = plain; signal = false; rows = implied x8664 }),
      0x14 ∷ 0x00 ∷ 0x00 ∷ 0x00 ∷ 0x00 ∷ 0x00 ∷ 0x00 ∷ 0x00 ∷ 0x01 ∷ 0x7a ∷ 0x52 ∷ 0x00 ∷ 0x01 ∷ 0x78 ∷ 0x10 ∷ 0x01 ∷ 0x1b ∷ 0x0c ∷ 0x07 ∷ 0x08 ∷ 0x90 ∷ 0x01 ∷ 0x00 ∷ 0x00 ∷ [],
    )
    ∷ (alloc_bytes 4 128, 0x04 ∷ 0xf2 ∷ [])
    ∷ (alloc_bytes 4 136, 0x04 ∷ 0x01 ∷ 0x11 ∷ 0x00 ∷ [])
    ∷ (alloc_bytes 4 524288, 0x04 ∷ 0x11 ∷ 0x00 ∷ 0x00 ∷ 0x08 ∷ 0x00 ∷ [])
    ∷ []

holds : map (λ c. c.0) starred ≡ map (λ c. c.1) starred
unfolding starred pick little uleb_f uleb bits7 sleb_f sleb factor cfa_bytes with_register saved_bytes row_bytes step_in step_form step_bytes rows_bytes implied letters augmentation augmentation_data counted header_data header_id data_factor header_fields padding padded entry header_bytes node alloc_bytes
holds = refl

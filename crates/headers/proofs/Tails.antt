-- The parts of a header's fields.
use mathlib.Core.Path.{◌≡◌, refl}
use mathlib.Core.Bool.{Bool, true, false}
use mathlib.Core.List.{[], ◌∷◌, ◌++◌, append_assoc, append-nil}
use Prim.Native.Nat.{ℕ, zero, suc, ◌+◌, ◌^◌, ◌≤◌, ◌<◌}
use native.Mathlib.Omega.{arith}
use lib.ListN.{length, length-append, length-replicate}
use lib.IntN.{pos, neg_ℤ, ◌-ℤ◌, +ℤ_idl}
use lib.Signed.{mag}
use mir.Syntax.{w64}
use mir.Val.{SFits, to_z, bool_byte}
use mir.Facts.{to_z_pos}
use Rattle.std.specs.Prelude as code
use Rattle.std.specs.Prelude.{Some, None, is_some}
use Rattle.format.specs.Prelude.{pick}
use Rattle.format.specs.Leb.{little, uleb_f, uleb}
use Rattle.format.specs.declared.Machine.{Machine}
use Rattle.format.specs.Constants.{pcrel_sdata4}
use Rattle.format.specs.Headers.{plain, named, Key, pointer_bytes, letters, augmentation, lsda_letter, augmentation_data, counted, header_data, header_id, data_factor, header_fields}
use Rattle.format.proofs.LebBack.{little-length}
use Rattle.lists.specs.declared.Lsda.{Lsda}
use Rattle.lists.specs.declared.Personality.{Personality}
use Rattle.header_keys.specs.Kinds.{lsda_of, named_by}
use Rattle.headers.specs.Kinds.{ending, middle, named_letters, named_data, tail_of}

-- ---- the data alignment factor as the machine computes it

neg_small : (n : ℕ) → n ≤ 8 → mag (neg_ℤ (pos n)) < 2 ^ 63
neg_small zero h = omega arith
neg_small (suc n) h = omega arith

module _ (word : ℕ) (h : word ≤ 8) where
  factor_value : pos 0 -ℤ to_z w64 word ≡ data_factor word
  unfolding data_factor
  factor_value = rw (to_z_pos w64 {n = word} (omega arith), +ℤ_idl)

  pub factor_fits : SFits w64 (pos 0 -ℤ to_z w64 word)
  unfolding data_factor
  factor_fits = rw factor_value (record { sfits = neg_small word h })

-- ---- the tails of the kinds

pub plain_tail : (word ret : ℕ) (signal : Bool) → tail_of word ret signal plain ≡ (0x7a ∷ 0x52 ∷ []) ++ (middle word ret signal ++ (1 ∷ pcrel_sdata4 ∷ []))
unfolding tail_of letters augmentation_data counted uleb uleb_f pick
plain_tail word ret signal = refl

pub named_letters_lem : (e s : ℕ) (lsda : code.Option Lsda) → letters (named e s (lsda_of lsda)) ≡ named_letters (is_some lsda)
unfolding letters lsda_of named_letters pick
named_letters_lem e s (Some l) = refl
named_letters_lem e s None = refl

-- how many bytes of augmentation data a named personality has
pub named_length : (e size : ℕ) (lsda : code.Option Lsda) → length (named_data e size (lsda_of lsda)) ≡ 2 + size + bool_byte (is_some lsda)
unfolding named_data lsda_letter lsda_of pick
named_length e size (Some l) = simp (length-append, length-replicate {A = ℕ} size 0) (omega arith)
named_length e size None = simp (length-append, length-replicate {A = ℕ} size 0) (omega arith)

pub named_tail : (word ret : ℕ) (signal : Bool) (p : Personality) → tail_of word ret signal (named_by p)
    ≡ named_letters (is_some p.lsda)
    ++ (middle word ret signal
    ++ (uleb (2 + pointer_bytes word p.encoding + bool_byte (is_some p.lsda)) ++ named_data p.encoding (pointer_bytes word p.encoding) (lsda_of p.lsda)))
unfolding tail_of augmentation_data counted named_data
named_tail word ret signal p =
    rw (named_letters_lem p.encoding p.routine p.lsda, named_length p.encoding (pointer_bytes word p.encoding) p.lsda)

-- ---- the fields

pub fields_debug : (m : Machine) (k : Key)
    → header_fields true m k ≡ little 4 (header_id true) ++ ((1 ∷ []) ++ middle m.word m.ret k.signal)
unfolding header_fields augmentation header_data middle ending pick
fields_debug m k = simp append-nil

pub fields_eh : (m : Machine) (k : Key)
    → header_fields false m k ≡ little 4 (header_id false) ++ ((1 ∷ []) ++ tail_of m.word m.ret k.signal k.kind)
unfolding header_fields augmentation header_data tail_of middle ending pick
fields_eh m k = simp append_assoc

-- an id and a version
pub fields_long : (debug : Bool) (m : Machine) (k : Key) → 5 ≤ length (header_fields debug m k)
unfolding header_fields
fields_long debug m k = simp (length-append, little-length) (omega arith)

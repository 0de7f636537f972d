-- How many bytes the parts of a header's fields have.
use mathlib.Core.Path.{◌≡◌, refl}
use mathlib.Core.Bool.{Bool, true, false}
use Prim.Native.Nat.{ℕ, zero, suc, ◌+◌, ◌/◌, ◌≤◌, ◌<◌}
use native.Mathlib.Omega.{arith}
use mir.Val.{bool_byte}
use lib.ListN.{length, length-append}
use Rattle.std.specs.Prelude.{is_some}
use Rattle.format.specs.Prelude.{pick}
use Rattle.format.specs.Leb.{uleb_f, uleb, sleb}
use Rattle.format.specs.declared.Machine.{Machine}
use Rattle.format.specs.Headers.{Key, pointer_bytes, letters, augmentation_data, counted, data_factor, header_fields}
use Rattle.format.proofs.Choice.{if-le, if-gt, either}
use Rattle.format.proofs.LebBack.{little-length}
use Rattle.rows.proofs.ShortSizes.{uleb_one}
use Rattle.lists.specs.declared.Personality.{Personality}
use Rattle.header_keys.specs.Kinds.{named_by}
use Rattle.headers.specs.Kinds.{ending, middle, named_letters, named_data, tail_of}
use Rattle.headers.proofs.Tails.{named_letters_lem, named_length, fields_debug, fields_eh}

-- ten bytes hold a number of 64 bits, and no more are written
uleb_most_f : (f n : ℕ) → length (uleb_f f n) ≤ suc f
unfolding uleb_f
uleb_most_f zero n = omega arith
uleb_most_f (suc f) n =
    either (suc n) 128 (λ l. rw (if-le (suc n) 128) (omega arith)) (λ g. rw (if-gt (suc n) 128) (omega (arith, uleb_most_f f (n / 128))))

pub uleb_most : (n : ℕ) → length (uleb n) ≤ 10
unfolding uleb
uleb_most n = uleb_most_f 9 n

pub bit_low : (b : Bool) → bool_byte b ≤ 1
bit_low true = omega arith
bit_low false = omega arith

-- a number below 128 is one byte
ending-length : (signal : Bool) → length (ending signal) ≡ 1 + bool_byte signal
unfolding ending pick
ending-length true = refl
ending-length false = refl

pub middle_length : (word ret : ℕ) (signal : Bool)
    → length (middle word ret signal) ≡ 2 + bool_byte signal + length (sleb (data_factor word)) + length (uleb ret)
unfolding middle
middle_length word ret signal = simp length-append (omega (arith, ending-length signal, uleb_one 1 (omega arith)))

letters_count : (b : Bool) → length (named_letters b) ≡ 3 + bool_byte b
unfolding named_letters pick
letters_count true = refl
letters_count false = refl

pub letters-length : (p : Personality) → length (letters (named_by p)) ≡ 3 + bool_byte (is_some p.lsda)
letters-length p = rw (named_letters_lem p.encoding p.routine p.lsda) (letters_count (is_some p.lsda))

pub data_length : (word : ℕ) (p : Personality) → length (augmentation_data word (named_by p)) ≡ 2 + pointer_bytes word p.encoding + bool_byte (is_some p.lsda)
unfolding augmentation_data named_data
data_length word p = named_length p.encoding (pointer_bytes word p.encoding) p.lsda

pub debug_length : (m : Machine) (k : Key) → length (header_fields true m k) ≡ 5 + length (middle m.word m.ret k.signal)
debug_length m k = simp (fields_debug m k, length-append, little-length) (omega arith)

-- with fewer than 128 bytes of data
pub eh_length : (m : Machine) (k : Key) → length (augmentation_data m.word k.kind) < 128
    → length (header_fields false m k)
    ≡ 5 + length (middle m.word m.ret k.signal) + length (letters k.kind) + 1 + length (augmentation_data m.word k.kind)
unfolding tail_of counted
eh_length m k h =
    simp (fields_eh m k, length-append, little-length) (omega (arith, uleb_one (length (augmentation_data m.word k.kind)) h))

-- The bytes of a function's header and of its parts.
use Rattle.std.specs.Prelude.{ℕ, List}
use Rattle.format.specs.Rows.{rows_bytes}
use Rattle.format.specs.Headers.{Kind, leading, header_fields, header_bytes}
use Rattle.header_keys.specs.declared.written.Function.{Function}
use Rattle.header_keys.specs.Functions.{body_of, key_in}
use Rattle.headers.specs.Kinds.{head_in, middle, tail_of}

-- between the letters and the augmentation data
abbrev pub middle_of : Function → List ℕ
middle_of f = middle f.machine.now.word f.machine.now.ret f.extent.signal

-- what follows the version in eh_frame, of a header of some kind
abbrev pub tail_by : Function → Kind → List ℕ
tail_by f k = tail_of f.machine.now.word f.machine.now.ret f.extent.signal k

-- the fields in front of the rows, and the leading rows
abbrev pub fields_of : Function → List ℕ
fields_of f = header_fields f.debug f.machine.now (head_in f.extent)

abbrev pub starts_of : Function → List ℕ
starts_of f = rows_bytes f.machine.now.word (leading f.machine.now (body_of f.extent f.rows.now))

-- the header at a place
abbrev pub header_of : Function → (at : ℕ) → List ℕ
header_of f at = header_bytes f.debug f.machine.now f.align at (key_in f.machine.now f.extent f.rows.now)

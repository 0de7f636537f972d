-- `pointer_bytes` leaves the indirect bit out.
use mathlib.Core.Path.{◌≡◌, ◌∙◌}
use Prim.Native.Nat.{◌%◌}
use Rattle.format.specs.Headers.{size_of, pointer_bytes}
use Rattle.format.proofs.FieldsBack.{pointer_small}
use Rattle.numbers.proofs.Pointers.{bytes_of}
use Rattle.numbers.proofs.pointer_bytes.Goals as goal

pub returns : goal.returns
unfolding pointer_bytes
returns c =
    let e : c.unwrap_or.result ≡ pointer_bytes c.args.word c.args.e =
    c.unwrap_or.ensures ∙ rw c.size_of.ensures (bytes_of (size_of c.args.word (c.args.e % 128))) in
    (e, λ h. rw e (pointer_small c.args.word c.args.e h))

-- `machines::fields` meets its contract.
use mathlib.Core.Path.{refl, sym}
use Prim.Native.Nat.{ℕ}
use mathlib.Core.List.{List, [], ◌∷◌}
use Rattle.format.proofs.Copied.{put_front}
use Rattle.machines.proofs.fields.Goals as goal

pub returns : goal.returns
returns c =
    let a = c.args in
    let m = a.m.now in
    let ns : List ℕ = m.word ∷ m.pushed ∷ m.stack ∷ m.ret ∷ m.frame ∷ 0 ∷ [] in
    record { past = refl; stored = rw c.copy_from_slice.ensures.after (sym (put_front a.out.now ns c.requires)) }

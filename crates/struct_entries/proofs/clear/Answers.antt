-- `struct_entries::clear` meets its contract.
use mathlib.Core.Path.{◌≡◌, ap, ◌∙◌}
use Prim.Native.Nat.{ℕ}
use lib.ListN.{replicate}
use lib.Seq.{length-take-le}
use borrow.Author.Rules.{rules}
use Rattle.struct_entries.specs.Entries.{cleared}
use Rattle.struct_entries.proofs.clear.Goals as goal

pub returns : goal.returns
unfolding cleared
returns c =
    let z : c.fill.new.self ≡ replicate c.args.n 0 = c.fill.ensures.after (λ y h. search rules) ∙ ap (λ (k : ℕ). replicate k 0) (length-take-le _ _ c.requires) in
    rw z

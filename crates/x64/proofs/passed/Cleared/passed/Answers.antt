-- `passed::Cleared::passed` meets its contract.
use Rattle.x64.proofs.Spans.{is_there, codes_yes, info_is}
use Rattle.x64.proofs.passed.Cleared.passed.Goals as goal

pub unwrap-requires : goal.unwrap-requires
unwrap-requires c = is_there _ _ _ _ _ c.span_at.ensures (c.args.self.now.agreed _ c.requires)

pub invariant_of-result : goal.invariant_of-result
invariant_of-result c =
    let h = rw c.unwrap.ensures at c.span_at.ensures in
    record { passed = codes_yes h (c.args.self.now.agreed _ c.requires) }

pub returns : goal.returns
returns c = let h = rw c.unwrap.ensures at c.span_at.ensures in info_is h

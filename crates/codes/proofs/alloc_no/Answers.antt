-- `codes::alloc_no` meets its contract.
use Rattle.codes.proofs.Questions.{alloc_none, alloc_odd, alloc_fits, alloc_far}
use Rattle.codes.proofs.alloc_no.Goals as goal
use Rattle.codes.proofs.alloc_no.Goals.{then-n-eq0-via-then-n-eq0, then-n-eq0-via-else-n-eq0+then-n-ne0}

pub returns-then-n-eq0 : goal.returns-then-n-eq0
returns-then-n-eq0 c =
    elim c.then-n-eq0.branch [
      | then-n-eq0-via-then-n-eq0 w ↦ alloc_none c.ranges.z c.size-n.ensures w.if-n-eq0.true
      | then-n-eq0-via-else-n-eq0+then-n-ne0 w ↦ alloc_odd c.ranges.z c.size-n.ensures w.if-n-ne0.true
    ]

pub returns-then-n-lt4294967296 : goal.returns-then-n-lt4294967296
returns-then-n-lt4294967296 c =
    alloc_fits c.ranges.z c.size-n.ensures
    c.if-n-eq0.false c.if-n-ne0.false c.if-n-lt4294967296.true

pub returns : goal.returns
returns c =
    alloc_far c.ranges.z c.size-n.ensures
    c.if-n-eq0.false c.if-n-ne0.false c.if-n-lt4294967296.false

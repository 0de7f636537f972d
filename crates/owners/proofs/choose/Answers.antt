-- `owners::choose` meets its contract.
use mathlib.Core.Path.{ap, ◌≡◌, ◌∙◌, sym}
use mathlib.Core.Bool.{not, false}
use Prim.Native.Nat.{◌<◌}
use native.Mathlib.Omega.{arith}
use lib.ListN.{length}
use Rattle.header_keys.specs.Functions.{RowsReady}
use Rattle.header_keys.specs.Inputs.{inputs_of}
use Rattle.owners.proofs.Finding.{shares}
use Rattle.owners.proofs.Walking.{Walking, left, near, found, lower}
use Rattle.owners.proofs.Walking as walking
use Rattle.owners.proofs.Comparing.{rows_taken, Asked, turn, differ, unlike, by_rows_lem, by_counts}
use Rattle.owners.proofs.Comparing as comparing
use Rattle.owners.proofs.choose.Goals as goal
use Rattle.owners.proofs.choose.Goals.{After-behind-next, After-same_kind_and_signal, After-function-other, After-function-own}

-- the rows of function k, and those of the function that is looked at, are ready
own-ready : (c : After-function-own) → RowsReady c.args.x.now.lists.rows.now c.function-own.result.rows_at c.function-own.result.rows
own-ready c =
    rows_taken c.args.x.now.section c.args.x.now.lists.functions.now c.args.x.now.lists.rows.now c.args.k c.function-own.result c.function-own.ensures (c.requires.0.rows_ready c.args.k (omega arith))

other-ready : (c : After-function-other)
    → RowsReady c.args.x.now.lists.rows.now c.function-other.result.rows_at c.function-other.result.rows
other-ready c =
    rows_taken c.args.x.now.section c.args.x.now.lists.functions.now c.args.x.now.lists.rows.now c.in-Some.j c.function-other.result c.function-other.ensures
    (c.requires.0.rows_ready c.in-Some.j (omega (arith, near c.requires.1 c.functions.invariant c.in-Some.is)))

asked : (c : After-same_kind_and_signal)
    → Asked (inputs_of c.args.x.now) c.in-Some.j c.args.k c.function-other.result c.function-own.result c.same_kind_and_signal.result
asked c = record { first = c.function-other.ensures; second = c.function-own.ensures; answer = c.same_kind_and_signal.ensures }

-- the next turn, where the function has another key
on-next : (c : After-same_kind_and_signal)
    → shares (inputs_of c.args.x.now) c.args.k c.in-Some.j ≡ false
    → Walking (inputs_of c.args.x.now) (length c.args.chains.now.heads.now) c.args.k c.behind-next.result c.args.chains.now.links.now
on-next c e =
    rw c.behind-next.ensures (walking.turn c.requires.1 c.functions.invariant c.in-Some.is e)

-- which is behind the one that is looked at
goes_down : (c : After-behind-next) → left c.behind-next.result < left c.functions.next
goes_down c = rw c.behind-next.ensures (lower c.requires.1 c.functions.invariant c.in-Some.is)

pub leading_count-count-requires : goal.leading_count-count-requires
leading_count-count-requires c = own-ready (goal.at.leading_count-count-requires c).After-function-own

pub functions-init : goal.functions-init
functions-init c = rw c.then_some-next.ensures (walking.start c.requires.1)

pub functions-smaller-then-not-same_kind_and_signal : goal.functions-smaller-then-not-same_kind_and_signal
functions-smaller-then-not-same_kind_and_signal c = goes_down (goal.at.functions-smaller-then-not-same_kind_and_signal c).After-behind-next

pub functions-preserved-then-not-same_kind_and_signal : goal.functions-preserved-then-not-same_kind_and_signal
functions-preserved-then-not-same_kind_and_signal c =
    on-next (goal.at.functions-preserved-then-not-same_kind_and_signal c).After-same_kind_and_signal (unlike (asked (goal.at.functions-preserved-then-not-same_kind_and_signal c).After-same_kind_and_signal) (ap not c.if-not-same_kind_and_signal.true))

pub leading_count-requires : goal.leading_count-requires
leading_count-requires c = other-ready (goal.at.leading_count-requires c).After-function-other

pub functions-smaller-then-leading_count-count : goal.functions-smaller-then-leading_count-count
functions-smaller-then-leading_count-count c = goes_down (goal.at.functions-smaller-then-leading_count-count c).After-behind-next

pub functions-preserved-then-leading_count-count : goal.functions-preserved-then-leading_count-count
functions-preserved-then-leading_count-count c =
    on-next (goal.at.functions-preserved-then-leading_count-count c).After-same_kind_and_signal
    (by_counts (asked (goal.at.functions-preserved-then-leading_count-count c).After-same_kind_and_signal) (ap not c.if-not-same_kind_and_signal.false) c.leading_count.ensures c.leading_count-count.ensures c.if-leading_count-count.true)

pub rows-init : goal.rows-init
rows-init c =
    comparing.start (sym c.if-leading_count-count.false ∙ c.leading_count.ensures) c.leading_count-count.ensures

pub same_leading-requires : goal.same_leading-requires
same_leading-requires c = (
  other-ready (goal.at.same_leading-requires c).After-function-other,
  own-ready (goal.at.same_leading-requires c).After-function-own,
  omega (arith, c.rows-test.true, c.rows.invariant.first_count),
  omega (arith, c.rows-test.true, c.rows.invariant.second_count),
)

pub functions-smaller : goal.functions-smaller
functions-smaller c = goes_down (goal.at.functions-smaller c).After-behind-next

pub functions-preserved : goal.functions-preserved
functions-preserved c =
    on-next (goal.at.functions-preserved c).After-same_kind_and_signal
    (by_rows_lem (asked (goal.at.functions-preserved c).After-same_kind_and_signal) (ap not c.if-not-same_kind_and_signal.false)
    (differ c.rows.invariant c.rows-test.true c.same_leading.ensures (ap not c.if-same_leading.false)))

pub rows-preserved : goal.rows-preserved
rows-preserved c =
    turn c.rows.invariant c.rows-test.true c.same_leading.ensures (ap not c.if-same_leading.true)

pub returns-in-Some : goal.returns-in-Some
returns-in-Some c =
    found c.requires.1 c.functions.invariant c.in-Some.is
    (by_rows_lem (asked (goal.at.returns-in-Some c).After-same_kind_and_signal) (ap not c.if-not-same_kind_and_signal.false) (comparing.ended c.rows.invariant c.rows-test.false))

pub returns : goal.returns
returns c = walking.ended c.requires.1 c.functions.invariant c.in_default.is

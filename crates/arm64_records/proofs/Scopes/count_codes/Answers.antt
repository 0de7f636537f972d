-- `Scopes::count_codes` meets its contract.
use mathlib.Core.Path.{sym, ap, ◌∙◌}
use mathlib.Core.Option.{Option}
use mathlib.Core.List.{List}
use Prim.Native.Nat.{ℕ}
use native.Mathlib.Omega.{arith}
use Rattle.format.proofs.Asked.{option_of}
use Rattle.format.proofs.Asked.{none_is, value_is}
use Rattle.arm64.specs.Records.{count_in}
use Rattle.arm64.specs.Reader.{run_at}
use Rattle.arm64_runs.specs.Runs.{count_of}
use Rattle.arm64_records.specs.Parts.{words_from}
use lib.ListN.{length}
use Rattle.arm64_records.proofs.Whole.{codes_short}
use Rattle.arm64_records.proofs.Epilogues.{total_start, total_turn, total_refused, total_ended, index_is}
use Rattle.arm64_records.proofs.Scopes.count_codes.Goals as goal

counted : List ℕ → ℕ → Option ℕ
counted codes j = count_of (run_at codes j)

pub loop-k-init : goal.loop-k-init
loop-k-init c = total_start (words_from c.args.self.now.«record».header.past c.args.self.now.«record».section.now) c.args.self.now.«record».codes.now c.args.self.now.count

pub returns-in_err-n : goal.returns-in_err-n
unfolding counted
returns-in_err-n c =
    let e = ap (counted c.args.self.now.«record».codes.now) (sym (index_is c.args.self.now.«record».header.past c.loop-k.k c.args.self.now.«record».section.now c.word-w.ensures)) in
    rw c.from_residual.ensures
    (ap option_of (sym (total_refused (words_from c.args.self.now.«record».header.past c.args.self.now.«record».section.now) c.args.self.now.«record».codes.now c.loop-k.invariant c.loop-k-test.true (e ∙ none_is (counted c.args.self.now.«record».codes.now _) (sym c.in_err-n.ensures.0)))), tt)

pub loop-k-preserved : goal.loop-k-preserved
unfolding counted
loop-k-preserved c =
    let e = ap (counted c.args.self.now.«record».codes.now) (sym (index_is c.args.self.now.«record».header.past c.loop-k.k c.args.self.now.«record».section.now c.word-w.ensures)) in
    total_turn (words_from c.args.self.now.«record».header.past c.args.self.now.«record».section.now) c.args.self.now.«record».codes.now c.loop-k.invariant c.loop-k-test.true (e ∙ value_is (counted c.args.self.now.«record».codes.now _) (sym c.in_ok-n.ensures.0)) (omega (arith, c.in_ok-n.ensures.1, ap length c.args.self.now.«record».spelled, codes_short c.args.self.now.«record».section.now c.args.self.now.«record».header c.args.self.now.«record».inside, c.args.self.now.«record».inside.narrow.low_words))

pub returns : goal.returns
returns c =
    (ap option_of (sym (total_ended (words_from c.args.self.now.«record».header.past c.args.self.now.«record».section.now) c.args.self.now.«record».codes.now c.loop-k.invariant (omega arith))), omega (arith, c.loop-k.invariant.small, c.loop-k.auto.k-end, ap count_in c.args.self.now.by_words, c.args.self.now.«record».inside.narrow.low_count))

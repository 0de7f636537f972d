-- `dwarf::dwarf_asks` meets its contract.
use mathlib.Core.Bool.{not}
use mathlib.Core.Path.{ap, refl}
use Rattle.std.proofs.lemmas.Result.{err_from_is_err_and}
use Rattle.format.specs.Coded.{numbered_at}
use Rattle.format.specs.Prelude.{pick}
use Rattle.format.proofs.Asked.{question_of}
use Rattle.format.specs.Questions.{ask, and_then, dwarf_asks}
use Rattle.lists.specs.Extents.{meant}
use Rattle.lists.proofs.Answers.{accepted, refused}
use Rattle.header_keys.specs.Inputs.{inputs_of}
use Rattle.dwarf.proofs.Asking.{lines_no, lines_yes}
use Rattle.dwarf.proofs.dwarf_asks.Goals as goal

pub returns-then-not-size_ok : goal.returns-then-not-size_ok
unfolding dwarf_asks meant ask and_then question_of pick
returns-then-not-size_ok c = rw c.function_refused.ensures (simp (refused c.size_ok.ensures (ap not c.if-not-size_ok.true)))

pub returns-then-not-encodings_ok : goal.returns-then-not-encodings_ok
unfolding dwarf_asks meant ask and_then question_of pick
returns-then-not-encodings_ok c = rw c.function_refused-then-not-encodings_ok.ensures (simp (accepted c.size_ok.ensures (ap not c.if-not-size_ok.false), refused c.encodings_ok.ensures (ap not c.if-not-encodings_ok.true)))

pub returns-in_err-lines_ask : goal.returns-in_err-lines_ask
returns-in_err-lines_ask c =
    let p = err_from_is_err_and c.from_residual.result c.from_residual.ensures.1 in
    rw (p.1, p.2)
    (lines_no (inputs_of c.args.x.now) c.args.k c.args.e.now (accepted c.size_ok.ensures (ap not c.if-not-size_ok.false)) (accepted c.encodings_ok.ensures (ap not c.if-not-encodings_ok.false)) c.lines_ask.ensures (ap numbered_at c.in_err-lines_ask.was))

pub returns-then-not-pairs_ok : goal.returns-then-not-pairs_ok
unfolding ask question_of pick
returns-then-not-pairs_ok c =
    rw (c.function_refused-then-not-pairs_ok.ensures, lines_yes (inputs_of c.args.x.now) c.args.k c.args.e.now (accepted c.size_ok.ensures (ap not c.if-not-size_ok.false)) (accepted c.encodings_ok.ensures (ap not c.if-not-encodings_ok.false)) c.lines_ask.ensures (ap numbered_at c.in_ok-lines_ask.was))
    (simp (refused c.pairs_ok.ensures (ap not c.if-not-pairs_ok.true)) refl)

pub returns : goal.returns
unfolding ask question_of pick
returns c =
    rw (lines_yes (inputs_of c.args.x.now) c.args.k c.args.e.now (accepted c.size_ok.ensures (ap not c.if-not-size_ok.false)) (accepted c.encodings_ok.ensures (ap not c.if-not-encodings_ok.false)) c.lines_ask.ensures (ap numbered_at c.in_ok-lines_ask.was))
    (simp (accepted c.pairs_ok.ensures (ap not c.if-not-pairs_ok.false)) refl)

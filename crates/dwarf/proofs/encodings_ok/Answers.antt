-- `dwarf::encodings_ok` meets its contract.
use Rattle.std.proofs.Common.{sym, ap, not, ◌∙◌}
use Rattle.format.proofs.Asked.{some_is}
use Rattle.dwarf.proofs.Encodings.{landed, unnamed, unknown, no_lsda, both}
use Rattle.dwarf.proofs.encodings_ok.Goals as goal

pub returns-then-is_none : goal.returns-then-is_none
returns-then-is_none c =
    unknown _ _ c.kind_of.ensures _ c.in-Named.is (sym (some_is _) ∙ (rw c.pointer_size.ensures at c.is_none.ensures ∙ ap not c.if-is_none.true))

pub returns-in-Plain : goal.returns-in-Plain
returns-in-Plain c = unnamed _ _ c.kind_of.ensures c.in-Plain.is

pub returns-in-Personal : goal.returns-in-Personal
returns-in-Personal c = landed _ _ c.kind_of.ensures c.in-Personal.is

pub returns-in-None : goal.returns-in-None
returns-in-None c =
    no_lsda _ _ c.kind_of.ensures _ c.in-Named.is (sym (some_is _) ∙ (rw c.pointer_size.ensures at c.is_none.ensures ∙ ap not c.if-is_none.false)) c.in-None.is

pub returns-in-Some : goal.returns-in-Some
returns-in-Some c =
    rw c.pointer_size-in-Some.ensures at c.is_some.ensures
    ∙ (some_is _ ∙ both _ _ c.kind_of.ensures _ c.in-Named.is (sym (some_is _) ∙ (rw c.pointer_size.ensures at c.is_none.ensures ∙ ap not c.if-is_none.false)) _ c.in-Some.is)

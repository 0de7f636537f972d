-- `tail` goes by the personality.
use Rattle.headers.proofs.Personalities.{names, names_none, tail_named}
use Rattle.headers.proofs.tail.Goals as goal

pub named_header-requires : goal.named_header-requires
named_header-requires c =
    let n = names c.args.f.now.extent c.personality.ensures c.in-Some.is in
    (n.fits c.requires.0, rw (tail_named c.args.f.now.machine.now.word c.args.f.now.machine.now.ret c.args.f.now.extent.signal n) at c.requires.1)

pub returns-in-Some : goal.returns-in-Some
returns-in-Some c =
    rw (tail_named c.args.f.now.machine.now.word c.args.f.now.machine.now.ret c.args.f.now.extent.signal (names c.args.f.now.extent c.personality.ensures c.in-Some.is)) c.named_header.ensures

pub plain_header-requires : goal.plain_header-requires
plain_header-requires c = rw (names_none c.args.f.now.extent c.personality.ensures c.in-None.is).0 at c.requires.1

pub returns-in-None : goal.returns-in-None
returns-in-None c = rw (names_none c.args.f.now.extent c.personality.ensures c.in-None.is).0 c.plain_header.ensures

-- `Checked::put_record` meets its contract.
use native.Mathlib.Omega.{arith}
use lib.ListN.{length}
use Rattle.arm64.specs.Records.{count_in}
use Rattle.arm64_header.specs.Header.{header_by}
use Rattle.arm64_function.proofs.Record.{record_is, header_room, words_room, codes_fit, pad_room, short_is, header_wrote}
use Rattle.format.proofs.PutLaws.{◌then◌}
use mathlib.Core.Path.{sym, ap}
use Rattle.arm64_function.proofs.Checked.put_record.Goals as goal

pub put-a-requires : goal.put-a-requires
put-a-requires c =
    let e = c.header-header.ensures in
    (omega (arith, short_is c.args.self.now.whole, ap (λ h. h.length) e), omega (arith, c.shape-s.ensures.few, ap (λ h. count_in h.epilogues) e), omega (arith, c.shape-s.ensures.small, ap (λ h. h.words) e), omega (arith, header_room c.shape-s.ensures c.args.out.now c.args.at c.requires, ap (λ h. length (header_by h)) e))

pub put_words-b-requires : goal.put_words-b-requires
put_words-b-requires c = words_room c.shape-s.ensures c.args.out.now c.args.at c.requires (header_wrote c.header-header.ensures c.put-a.ensures)

pub put_codes-c-requires : goal.put_codes-c-requires
put_codes-c-requires c = codes_fit c.shape-s.ensures c.args.out.now c.args.at c.requires (header_wrote c.header-header.ensures c.put-a.ensures) c.put_words-b.ensures

pub pad-requires : goal.pad-requires
pad-requires c =
    let e = ap (λ h. h.words) c.header-header.ensures in
    (omega (arith, e), omega (arith, e, pad_room c.shape-s.ensures c.args.out.now c.args.at c.requires (header_wrote c.header-header.ensures c.put-a.ensures) c.put_words-b.ensures c.put_codes-c.ensures))

pub returns : goal.returns
returns c =
    rw (sym (record_is c.shape-s.ensures))
    (header_wrote c.header-header.ensures c.put-a.ensures then c.put_words-b.ensures then c.put_codes-c.ensures then rw (ap (λ h. h.words) c.header-header.ensures) at c.pad.ensures)

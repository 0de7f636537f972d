-- `records::site_size` meets its contract.
use native.Mathlib.Omega.{arith}
use Rattle.headers.proofs.Lengths.{uleb_most}
use Rattle.records.proofs.CallSites.{site_length}
use borrow.Author.Rules.{rules}
use Rattle.records.proofs.site_size.Goals as goal

pub overflow_add-result : goal.overflow_add-result
overflow_add-result c = omega (arith, uleb_most c.args.l.start, uleb_most c.args.l.size)

pub overflow_add-result-2 : goal.overflow_add-result-2
overflow_add-result-2 c = omega (arith, uleb_most c.args.l.start, uleb_most c.args.l.size, uleb_most c.args.l.pad)

pub overflow_add-result-3 : goal.overflow_add-result-3
overflow_add-result-3 c = omega (arith, uleb_most c.args.l.start, uleb_most c.args.l.size, uleb_most c.args.l.pad, uleb_most 0)

pub returns : goal.returns
returns c = rw (site_length _) (search rules)

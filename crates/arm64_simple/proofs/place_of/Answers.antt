-- `arm64_simple::place_of` meets its contract.
use mathlib.Core.Path.{sym, ap}
use native.Mathlib.Omega.{arith}
use Rattle.arm64_simple.specs.Saves.{place_in, place_of}
use Rattle.arm64_simple.proofs.place_of.Goals as goal

pub returns-in-Prologue : goal.returns-in-Prologue
unfolding place_of
returns-in-Prologue c = (sym (ap (λ x. place_in x c.args.run c.args.j) c.in-Prologue.is), omega arith)

pub returns-in-Epilogue : goal.returns-in-Epilogue
unfolding place_of
returns-in-Epilogue c = (sym (ap (λ x. place_in x c.args.run c.args.j) c.in-Epilogue.is), omega arith)

-- No refusal of the reader depends on the register: for any two registers it refuses with the same number, or answers both with one CFA rule and one signing state.
use Prim.Native.Nat.{ℕ}
use mathlib.Core.Bool.{Bool}
use mathlib.Core.List.{List}
use Rattle.format.specs.Prelude.{Result, good, bad}
use Rattle.format.specs.declared.CfaRule.{CfaRule}
use Rattle.format.specs.declared.Rule.{Rule}
use Rattle.format.specs.Coded.{Reading}
use Rattle.std.specs.Prelude.{Ok, Err}
use Rattle.format.specs.Rules.{State, rules_for, seen, answer}
use Rattle.format.specs.Reader.{read}

pub data Alike : Reading → Reading → Type 0 where
  refused : (n : ℕ) → Alike (Err n) (Err n)
  answered : (c : CfaRule) (r r' : Rule) (signing : Bool)
      → Alike (Ok (record { cfa = c; rule = r; signing = signing })) (Ok (record { cfa = c; rule = r'; signing = signing }))

answers_alike : (q q' : ℕ) (x : Result State) → Alike (answer q x) (answer q' x)
unfolding answer seen rules_for
answers_alike q q' (good s) = answered s.current.cfa (s.current.rules q) (s.current.rules q') s.current.signing
answers_alike q q' (bad n) = refused n

pub register_free : (section relocations : List ℕ) (kind word k q q' p : ℕ)
    → Alike (read section relocations kind word k q p) (read section relocations kind word k q' p)
unfolding read
register_free section relocations kind word k q q' p = answers_alike q q' _

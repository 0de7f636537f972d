-- `arm64_function::function_asks` meets its contract.
use mathlib.Core.Path.{◌≡◌, refl, sym, ap, ◌∙◌}
use Rattle.format.specs.Lists.{all_in}
use Prim.Native.Nat.{◌-◌}
use Rattle.arm64_function.specs.Own.{length_ok, start_ok_at, parts_ok}
use Rattle.arm64_function.proofs.Asked.{no_length, no_start, no_value, no_question, length-same, starts_are, values_are}
use Rattle.arm64_function.proofs.Given.{f}
use Rattle.arm64_function.proofs.Taken.{given}
use Rattle.arm64_function.proofs.function_asks.Goals as goal

pub returns-then-not-length_ok : goal.returns-then-not-length_ok
returns-then-not-length_ok c = rw c.from.ensures (no_length c.args.k (f c.args.x.now.functions.now c.args.x.now.epilogues.now c.args.x.now.codes.now c.args.k) (length-same c.args.x.now.functions.now c.args.x.now.epilogues.now c.args.x.now.codes.now c.args.k ∙ sym (c.length_ok.ensures ∙ ap length_ok c.of-f.ensures.size) ∙ c.if-not-length_ok.true))

pub returns-then-not-starts_ok : goal.returns-then-not-starts_ok
returns-then-not-starts_ok c = rw c.from-then-not-starts_ok.ensures (no_start c.args.k (f c.args.x.now.functions.now c.args.x.now.epilogues.now c.args.x.now.codes.now c.args.k) (length-same c.args.x.now.functions.now c.args.x.now.epilogues.now c.args.x.now.codes.now c.args.k ∙ sym (c.length_ok.ensures ∙ ap length_ok c.of-f.ensures.size) ∙ c.if-not-length_ok.false) (sym (starts_are c.args.x.now.functions.now c.args.x.now.epilogues.now c.args.x.now.codes.now c.args.k refl (given c.of-f.ensures (λ es cs p n. c.starts_ok.result ≡ all_in (start_ok_at es n) p.first (p.end - p.first)) c.starts_ok.ensures)) ∙ c.if-not-starts_ok.true))

pub returns-then-not-values_ok : goal.returns-then-not-values_ok
returns-then-not-values_ok c = rw c.from-then-not-values_ok.ensures (no_value c.args.k (f c.args.x.now.functions.now c.args.x.now.epilogues.now c.args.x.now.codes.now c.args.k) (length-same c.args.x.now.functions.now c.args.x.now.epilogues.now c.args.x.now.codes.now c.args.k ∙ sym (c.length_ok.ensures ∙ ap length_ok c.of-f.ensures.size) ∙ c.if-not-length_ok.false) (sym (starts_are c.args.x.now.functions.now c.args.x.now.epilogues.now c.args.x.now.codes.now c.args.k refl (given c.of-f.ensures (λ es cs p n. c.starts_ok.result ≡ all_in (start_ok_at es n) p.first (p.end - p.first)) c.starts_ok.ensures)) ∙ c.if-not-starts_ok.false) (sym (values_are c.args.x.now.functions.now c.args.x.now.epilogues.now c.args.x.now.codes.now c.args.k refl (given c.of-f.ensures (λ es cs p n. c.values_ok.result ≡ parts_ok es cs p) c.values_ok.ensures)) ∙ c.if-not-values_ok.true))

pub returns : goal.returns
returns c = no_question c.args.k (f c.args.x.now.functions.now c.args.x.now.epilogues.now c.args.x.now.codes.now c.args.k) (length-same c.args.x.now.functions.now c.args.x.now.epilogues.now c.args.x.now.codes.now c.args.k ∙ sym (c.length_ok.ensures ∙ ap length_ok c.of-f.ensures.size) ∙ c.if-not-length_ok.false) (sym (starts_are c.args.x.now.functions.now c.args.x.now.epilogues.now c.args.x.now.codes.now c.args.k refl (given c.of-f.ensures (λ es cs p n. c.starts_ok.result ≡ all_in (start_ok_at es n) p.first (p.end - p.first)) c.starts_ok.ensures)) ∙ c.if-not-starts_ok.false) (sym (values_are c.args.x.now.functions.now c.args.x.now.epilogues.now c.args.x.now.codes.now c.args.k refl (given c.of-f.ensures (λ es cs p n. c.values_ok.result ≡ parts_ok es cs p) c.values_ok.ensures)) ∙ c.if-not-values_ok.false)

-- One list written as eh_frame and as debug_frame (W-214): what the readings of both owe each other. Nothing here says what a writer writes or how the reader reads.
use Rattle.std.specs.Prelude.{◌≡◌, ℕ, ◌<◌}
use Rattle.std.proofs.Math.Option.{none}
use Rattle.format.specs.declared.Counts.{Counts}
use Rattle.format.specs.Coded.{Outcome}
use Rattle.std.specs.Prelude.{Some, Ok}
use Rattle.format.specs.Coded.{Reading}
use Rattle.format.specs.Lists.{function_stride, count}
use Rattle.format.specs.Questions.{Given, given_function}

-- Where both writers accepted the list, function k of it has no relaxing labels and the offset p is below its length, the two readings are
-- one: the same rules, or the same number.
abbrev pub OneStory : (g : Given) (eh debug : Outcome) (k p : ℕ) (ofEh ofDebug : Reading) → Type 0
OneStory g eh debug k p ofEh ofDebug =
    (c d : Counts) → eh ≡ Ok (Some c) → debug ≡ Ok (Some d)
    → k < count function_stride g.functions → (given_function g k).relaxed ≡ none → p < (given_function g k).size → ofEh ≡ ofDebug

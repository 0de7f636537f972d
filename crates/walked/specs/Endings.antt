-- The number of each ending of a walk (document 02, W-202).
use Rattle.std.specs.Prelude.{ℕ}
use Rattle.walk.specs.Walk.{return_undefined, held_by_none, too_many}
use Rattle.walked.specs.declared.chain.Ending.{Ending}
use Rattle.walked.specs.declared.chain.Ending.TheVariants.{Undefined, Unheld, TooMany}

abbrev pub ending_number : Ending → ℕ
ending_number Undefined = return_undefined
ending_number Unheld = held_by_none
ending_number TooMany = too_many

-- What all questions make sure of, and whose headers the functions have, has one proof at most, so that a struct can hold it.
use Rattle.std.specs.Prelude.{ℕ, List, Option, Some, None, IfSome}
use Rattle.std.specs.Coded.{Unit-prop}
use denote.Struct.Props as logic
use Rattle.lists.specs.declared.Extent.{Extent}
use Rattle.header_keys.specs.Functions.{LabelsReady}
use Rattle.header_keys.specs.Inputs.{Inputs}
use Rattle.header_keys.specs.OneProof.{Sound-prop, RowsReady-prop}
use Rattle.headers.specs.Kinds.{EncodingFits}
use Rattle.owners.specs.Chains.{Owned}
use Rattle.dwarf.specs.Writable.{Writable, Cleared}

IfSome-prop : {A : Type 0} (o : Option A) (P : A → Type 0) → ((a : A) → IsProp (P a)) → IsProp (IfSome o P)
IfSome-prop None P h = Unit-prop
IfSome-prop (Some a) P h = h a

Encoding-prop : (e : Extent) → IsProp (EncodingFits e)
Encoding-prop e = IfSome-prop e.personality _ (λ p. Prim.hlevel logic.props)

Labels-prop : (e : Extent) (pairs : List ℕ) → IsProp (LabelsReady e pairs)
Labels-prop e pairs = IfSome-prop e.relaxed _ (λ l. Prim.hlevel logic.props)

Writable-prop : (x : Inputs) (k : ℕ) → IsProp (Writable x k)
Writable-prop x k = Prim.hlevel (Sound-prop, Encoding-prop, Labels-prop, RowsReady-prop, logic.props)

pub Cleared-prop : (x : Inputs) → IsProp (Cleared x)
Cleared-prop x = Prim.hlevel (Writable-prop, RowsReady-prop, logic.props)

pub Owned-prop : (x : Inputs) (n : ℕ) (owners : List ℕ) → IsProp (Owned x n owners)
Owned-prop x n owners = Prim.hlevel logic.props

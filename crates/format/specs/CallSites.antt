-- Call sites (Itanium C++ ABI, exception handling tables, "LSDA"; gcc's layout for C): one table for each function with landings.
use Rattle.std.specs.Prelude.{ℕ, List, [], ◌∷◌, ◌++◌, length, replicate}
use Rattle.format.specs.Constants.{DW_EH_PE_omit, DW_EH_PE_uleb128}
use Rattle.format.specs.Leb.{uleb}
use Rattle.format.specs.Lists.{Landing}
use Rattle.format.specs.Headers.{padding}

-- one entry: start, length and pad from the function's start, and the action 0, a cleanup
unfoldable pub site_bytes : Landing → List ℕ
site_bytes l = uleb l.start ++ (uleb l.size ++ (uleb l.pad ++ uleb 0))

-- in the caller's order
unfoldable pub sites_bytes : List Landing → List ℕ
sites_bytes [] = []
sites_bytes (l ∷ ls) = site_bytes l ++ sites_bytes ls

-- no landing pad base and no type table; call site numbers are ULEB; the length of the entries
unfoldable pub site_table : List Landing → List ℕ
site_table ls = DW_EH_PE_omit ∷ DW_EH_PE_omit ∷ DW_EH_PE_uleb128 ∷ (uleb (length (sites_bytes ls)) ++ sites_bytes ls)

-- zeros in front of a table, up to a multiple of 4 (document 01, "Call sites")
unfoldable pub site_pad : ℕ → ℕ
site_pad at = padding 4 at

-- what a function adds to the exception bytes, of which there are `at`: nothing without landings
unfoldable pub site_added : ℕ → List Landing → List ℕ
site_added at [] = []
site_added at (l ∷ ls) = replicate (site_pad at) 0 ++ site_table (l ∷ ls)

-- The number of each question (document 01, "Questions, in order, and the number for a no", and the change requests).
use Rattle.std.specs.Prelude.{ℕ}
use Rattle.format.specs.declared.question.Question.{Question}
use Rattle.format.specs.declared.question.Question.TheVariants.{Interface, X64Word, Lists, Length, Encodings, Order, Multiples, Pairs, FrameFirst, Scratch, Group, Registers, CodeOffset, Allocation, AllocationSize, SaveBelow, SaveSize, Slots, FrameOffset, PlacesRoom, BytesRoom, RelocationsRoom, OtherRoom, Tiling, Record, Header, Fields, Offset, Operations, States, StatesRoom, FrameRule, CallSiteTable, CallSites, Recorded, Stack, Reached, X64Header, X64Codes, MachO, Relocations, Distance, Arm64Length, Arm64Epilogues, Arm64Values, EveryOffset}

abbrev pub number_of : Question → ℕ
number_of Interface = 11
number_of X64Word = 12
number_of Lists = 13
number_of Length = 21
number_of Encodings = 22
number_of Order = 23
number_of Multiples = 24
number_of Pairs = 25
number_of FrameFirst = 31
number_of Scratch = 32
number_of Group = 33
number_of Registers = 34
number_of CodeOffset = 35
number_of Allocation = 36
number_of AllocationSize = 37
number_of SaveBelow = 38
number_of SaveSize = 39
number_of Slots = 40
number_of FrameOffset = 41
number_of PlacesRoom = 51
number_of BytesRoom = 52
number_of RelocationsRoom = 53
number_of OtherRoom = 54
number_of Tiling = 61
number_of Record = 62
number_of Header = 63
number_of Fields = 64
number_of Offset = 65
number_of Operations = 66
number_of States = 67
number_of StatesRoom = 68
number_of FrameRule = 69
number_of CallSiteTable = 71
number_of CallSites = 72
number_of Recorded = 73
number_of Stack = 74
number_of Reached = 75
number_of X64Header = 76
number_of X64Codes = 77
number_of MachO = 78
number_of Relocations = 79
number_of Distance = 80
number_of Arm64Length = 81
number_of Arm64Epilogues = 82
number_of Arm64Values = 83
number_of EveryOffset = 84

-- A fault of the code as the definitions' record.
use Rattle.walk.specs.Walk as walk
use Rattle.walk.specs.Standing.{memory_of}
use Rattle.walked.specs.declared.fault.Fault.{Fault}
use Rattle.walked.specs.Standing.{fault_of}

abbrev pub fault_by : Fault → walk.Fault
fault_by x = fault_of x.machine (memory_of x.memory) x.functions.now

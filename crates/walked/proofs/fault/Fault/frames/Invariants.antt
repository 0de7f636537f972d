use Rattle.std.proofs.Common.{◌≡◌, length, take}
use Rattle.walk.proofs.Chains.{Going}
use Rattle.walk.proofs.Finding.{Finding}
use Rattle.walk.specs.Standing.{caller_as}
use Rattle.walked.specs.Standing.{section_of}
use Rattle.walked.specs.Faults.{fault_by}
use Rattle.walked.proofs.fault.Fault.frames.Given as goal

abbrev pub invariant-loop-count : goal.invariant-loop-count
invariant-loop-count l = record {
  full : length l.frames ≡ 64;
  going : Going (section_of l.self.section) (fault_by l.self) (caller_as l.fn.start) (take l.count l.frames) (caller_as l.caller);
  finding : Finding (section_of l.self.section) (fault_by l.self) (caller_as l.fn.start) (take l.count l.frames) (caller_as l.caller);
}

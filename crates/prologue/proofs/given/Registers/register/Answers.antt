-- `given::Registers::register` meets its contract.
use Rattle.prologue.proofs.Registers.{past_map, low_integer, high_integer, low_vector, high_vector}
use Rattle.prologue.proofs.given.Registers.register.Goals as goal

pub returns-then-reg-ge64 : goal.returns-then-reg-ge64
returns-then-reg-ge64 c = past_map c.args.self.now.machine.now c.args.reg c.args.self.now.registers c.if-reg-ge64.true

pub returns-then-n-lt16 : goal.returns-then-n-lt16
returns-then-n-lt16 c = low_integer c.args.self.now.machine.now c.args.reg c.args.self.now.registers c.if-reg-ge64.false c.from-n.ensures c.if-n-lt16.true

pub returns-then-n-lt128 : goal.returns-then-n-lt128
returns-then-n-lt128 c = high_integer c.args.self.now.machine.now c.args.reg c.args.self.now.registers c.if-reg-ge64.false c.from-n.ensures c.if-n-lt16.false c.if-n-lt128.true

pub returns-then-n-lt144 : goal.returns-then-n-lt144
returns-then-n-lt144 c = low_vector c.args.self.now.machine.now c.args.reg c.args.self.now.registers c.if-reg-ge64.false c.from-n.ensures c.if-n-lt128.false c.if-n-lt144.true

pub returns : goal.returns
returns c = high_vector c.args.self.now.machine.now c.args.reg c.args.self.now.registers c.if-reg-ge64.false c.from-n.ensures c.if-n-lt144.false

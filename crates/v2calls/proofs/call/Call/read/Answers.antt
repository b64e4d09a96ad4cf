-- `read`: each number is that of its call, and no call has another.
use native.Mathlib.Omega.{arith}
use Rattle.v2calls.specs.Calls.{call_number}
use Rattle.v2calls.proofs.CallLaws.{within}
use Rattle.v2calls.proofs.call.Call.read.Goals as goal

pub returns-in-1 : goal.returns-in-1
unfolding call_number
returns-in-1 c = omega arith

pub returns-in-2 : goal.returns-in-2
unfolding call_number
returns-in-2 c = omega arith

pub returns-in-3 : goal.returns-in-3
unfolding call_number
returns-in-3 c = omega arith

pub returns-in-4 : goal.returns-in-4
unfolding call_number
returns-in-4 c = omega arith

pub returns-in-5 : goal.returns-in-5
unfolding call_number
returns-in-5 c = omega arith

pub returns-in-6 : goal.returns-in-6
unfolding call_number
returns-in-6 c = omega arith

pub returns-in-7 : goal.returns-in-7
unfolding call_number
returns-in-7 c = omega arith

pub returns-in-8 : goal.returns-in-8
unfolding call_number
returns-in-8 c = omega arith

pub returns-in-9 : goal.returns-in-9
unfolding call_number
returns-in-9 c = omega arith

pub returns-in-10 : goal.returns-in-10
unfolding call_number
returns-in-10 c = omega arith

pub returns-in-11 : goal.returns-in-11
unfolding call_number
returns-in-11 c = omega arith

pub returns-in_default : goal.returns-in_default
returns-in_default c call e = omega (arith, within call)

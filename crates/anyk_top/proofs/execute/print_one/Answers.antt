use Rattle.anyk_top.proofs.execute.print_one.Goals as goal

pub print_plan-requires-clause-plan : goal.print_plan-requires-clause-plan
print_plan-requires-clause-plan g c = rw c.in-Packed.is at c.requires.plan

pub print_plan-requires-clause-alone : goal.print_plan-requires-clause-alone
print_plan-requires-clause-alone g c = c.requires.alone

pub print_plan-requires-clause-planned : goal.print_plan-requires-clause-planned
print_plan-requires-clause-planned g c = c.requires.planned

pub returns-in-Packed : goal.returns-in-Packed
returns-in-Packed g c = rw c.in-Packed.is c.print_plan.ensures

pub print_plan-requires-in-WidePacked-clause-plan : goal.print_plan-requires-in-WidePacked-clause-plan
print_plan-requires-in-WidePacked-clause-plan g c = rw c.in-WidePacked.is at c.requires.plan

pub print_plan-requires-in-WidePacked-clause-alone : goal.print_plan-requires-in-WidePacked-clause-alone
print_plan-requires-in-WidePacked-clause-alone g c = c.requires.alone

pub print_plan-requires-in-WidePacked-clause-planned : goal.print_plan-requires-in-WidePacked-clause-planned
print_plan-requires-in-WidePacked-clause-planned g c = c.requires.planned

pub returns-in-WidePacked : goal.returns-in-WidePacked
returns-in-WidePacked g c = rw c.in-WidePacked.is c.print_plan-in-WidePacked.ensures

pub print_plan-requires-in-MiddleSum-clause-plan : goal.print_plan-requires-in-MiddleSum-clause-plan
print_plan-requires-in-MiddleSum-clause-plan g c = rw c.in-MiddleSum.is at c.requires.plan

pub print_plan-requires-in-MiddleSum-clause-alone : goal.print_plan-requires-in-MiddleSum-clause-alone
print_plan-requires-in-MiddleSum-clause-alone g c = c.requires.alone

pub print_plan-requires-in-MiddleSum-clause-planned : goal.print_plan-requires-in-MiddleSum-clause-planned
print_plan-requires-in-MiddleSum-clause-planned g c = c.requires.planned

pub returns-in-MiddleSum : goal.returns-in-MiddleSum
returns-in-MiddleSum g c = rw c.in-MiddleSum.is c.print_plan-in-MiddleSum.ensures

pub print_plan-requires-in-Sum-clause-plan : goal.print_plan-requires-in-Sum-clause-plan
print_plan-requires-in-Sum-clause-plan g c = rw c.in-Sum.is at c.requires.plan

pub print_plan-requires-in-Sum-clause-alone : goal.print_plan-requires-in-Sum-clause-alone
print_plan-requires-in-Sum-clause-alone g c = c.requires.alone

pub print_plan-requires-in-Sum-clause-planned : goal.print_plan-requires-in-Sum-clause-planned
print_plan-requires-in-Sum-clause-planned g c = c.requires.planned

pub returns-in-Sum : goal.returns-in-Sum
returns-in-Sum g c = rw c.in-Sum.is c.print_plan-in-Sum.ensures

pub print_plan-requires-in-SmallLex-clause-plan : goal.print_plan-requires-in-SmallLex-clause-plan
print_plan-requires-in-SmallLex-clause-plan g c = rw c.in-SmallLex.is at c.requires.plan

pub print_plan-requires-in-SmallLex-clause-alone : goal.print_plan-requires-in-SmallLex-clause-alone
print_plan-requires-in-SmallLex-clause-alone g c = c.requires.alone

pub print_plan-requires-in-SmallLex-clause-planned : goal.print_plan-requires-in-SmallLex-clause-planned
print_plan-requires-in-SmallLex-clause-planned g c = c.requires.planned

pub returns-in-SmallLex : goal.returns-in-SmallLex
returns-in-SmallLex g c = rw c.in-SmallLex.is c.print_plan-in-SmallLex.ensures

pub print_plan-requires-in-Lex-clause-plan : goal.print_plan-requires-in-Lex-clause-plan
print_plan-requires-in-Lex-clause-plan g c = rw c.in-Lex.is at c.requires.plan

pub print_plan-requires-in-Lex-clause-alone : goal.print_plan-requires-in-Lex-clause-alone
print_plan-requires-in-Lex-clause-alone g c = c.requires.alone

pub print_plan-requires-in-Lex-clause-planned : goal.print_plan-requires-in-Lex-clause-planned
print_plan-requires-in-Lex-clause-planned g c = c.requires.planned

pub returns-in-Lex : goal.returns-in-Lex
returns-in-Lex g c = rw c.in-Lex.is c.print_plan-in-Lex.ensures

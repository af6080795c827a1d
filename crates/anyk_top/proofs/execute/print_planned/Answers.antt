use Rattle.anyk_top.proofs.execute.print_planned.Goals as goal

pub print_one-requires-clause-plan : goal.print_one-requires-clause-plan
print_one-requires-clause-plan g c = rw c.in-One.is at c.requires.plans

pub print_one-requires-clause-alone : goal.print_one-requires-clause-alone
print_one-requires-clause-alone g c = c.requires.alone

pub print_one-requires-clause-planned : goal.print_one-requires-clause-planned
print_one-requires-clause-planned g c = c.requires.planned

pub returns-in-One : goal.returns-in-One
returns-in-One g c = rw c.in-One.is c.print_one.ensures

pub print_branches-requires-clause-several : goal.print_branches-requires-clause-several
print_branches-requires-clause-several g c =
    let plans = rw c.in-PackedSums.is at c.requires.plans in
    plans.0

pub print_branches-requires-clause-alone : goal.print_branches-requires-clause-alone
print_branches-requires-clause-alone g c = c.requires.alone

pub print_branches-requires-clause-plans : goal.print_branches-requires-clause-plans
print_branches-requires-clause-plans g c =
    let plans = rw c.in-PackedSums.is at c.requires.plans in
    rw c.as_slice.ensures.value plans.1

pub returns-in-PackedSums : goal.returns-in-PackedSums
returns-in-PackedSums g c = rw c.in-PackedSums.is (rw c.as_slice.ensures.value at c.print_branches.ensures)

pub print_branches-requires-in-WidePackedSums-clause-several : goal.print_branches-requires-in-WidePackedSums-clause-several
print_branches-requires-in-WidePackedSums-clause-several g c =
    let plans = rw c.in-WidePackedSums.is at c.requires.plans in
    plans.0

pub print_branches-requires-in-WidePackedSums-clause-alone : goal.print_branches-requires-in-WidePackedSums-clause-alone
print_branches-requires-in-WidePackedSums-clause-alone g c = c.requires.alone

pub print_branches-requires-in-WidePackedSums-clause-plans : goal.print_branches-requires-in-WidePackedSums-clause-plans
print_branches-requires-in-WidePackedSums-clause-plans g c =
    let plans = rw c.in-WidePackedSums.is at c.requires.plans in
    rw c.as_slice-in-WidePackedSums.ensures.value plans.1

pub returns-in-WidePackedSums : goal.returns-in-WidePackedSums
returns-in-WidePackedSums g c = rw c.in-WidePackedSums.is (rw c.as_slice-in-WidePackedSums.ensures.value at c.print_branches-in-WidePackedSums.ensures)

pub print_branches-requires-in-MiddleSums-clause-several : goal.print_branches-requires-in-MiddleSums-clause-several
print_branches-requires-in-MiddleSums-clause-several g c =
    let plans = rw c.in-MiddleSums.is at c.requires.plans in
    plans.0

pub print_branches-requires-in-MiddleSums-clause-alone : goal.print_branches-requires-in-MiddleSums-clause-alone
print_branches-requires-in-MiddleSums-clause-alone g c = c.requires.alone

pub print_branches-requires-in-MiddleSums-clause-plans : goal.print_branches-requires-in-MiddleSums-clause-plans
print_branches-requires-in-MiddleSums-clause-plans g c =
    let plans = rw c.in-MiddleSums.is at c.requires.plans in
    rw c.as_slice-in-MiddleSums.ensures.value plans.1

pub returns-in-MiddleSums : goal.returns-in-MiddleSums
returns-in-MiddleSums g c = rw c.in-MiddleSums.is (rw c.as_slice-in-MiddleSums.ensures.value at c.print_branches-in-MiddleSums.ensures)

pub print_branches-requires-in-Sums-clause-several : goal.print_branches-requires-in-Sums-clause-several
print_branches-requires-in-Sums-clause-several g c =
    let plans = rw c.in-Sums.is at c.requires.plans in
    plans.0

pub print_branches-requires-in-Sums-clause-alone : goal.print_branches-requires-in-Sums-clause-alone
print_branches-requires-in-Sums-clause-alone g c = c.requires.alone

pub print_branches-requires-in-Sums-clause-plans : goal.print_branches-requires-in-Sums-clause-plans
print_branches-requires-in-Sums-clause-plans g c =
    let plans = rw c.in-Sums.is at c.requires.plans in
    rw c.as_slice-in-Sums.ensures.value plans.1

pub returns-in-Sums : goal.returns-in-Sums
returns-in-Sums g c = rw c.in-Sums.is (rw c.as_slice-in-Sums.ensures.value at c.print_branches-in-Sums.ensures)

pub print_branches-requires-in-Lexes-clause-several : goal.print_branches-requires-in-Lexes-clause-several
print_branches-requires-in-Lexes-clause-several g c =
    let plans = rw c.in-Lexes.is at c.requires.plans in
    plans.0

pub print_branches-requires-in-Lexes-clause-alone : goal.print_branches-requires-in-Lexes-clause-alone
print_branches-requires-in-Lexes-clause-alone g c = c.requires.alone

pub print_branches-requires-in-Lexes-clause-plans : goal.print_branches-requires-in-Lexes-clause-plans
print_branches-requires-in-Lexes-clause-plans g c =
    let plans = rw c.in-Lexes.is at c.requires.plans in
    rw c.as_slice-in-Lexes.ensures.value plans.1

pub returns-in-Lexes : goal.returns-in-Lexes
returns-in-Lexes g c = rw c.in-Lexes.is (rw c.as_slice-in-Lexes.ensures.value at c.print_branches-in-Lexes.ensures)

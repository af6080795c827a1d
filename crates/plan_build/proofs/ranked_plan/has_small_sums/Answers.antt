use Rattle.std.proofs.Common.{◌≡◌, ◌<◌, ◌≤◌, ◌+◌, ◌^◌, ℕ, true, nat_lt, length, refl, ap, ◌∙◌, arith}
use Rattle.std.proofs.lemmas.Bool.{lt-ltb}
use Rattle.bound_query.specs.KeyParts.{sum_of_all}
use Rattle.std.proofs.lemmas.List.{take_all}
use Rattle.plan_build.proofs.SmallSums.{caps_count, caps_decide, caps_more, first_fit, first_caps, none_below}
use Rattle.plan_build.proofs.ranked_plan.has_small_sums.Goals as goal

below_limit : (sum : ℕ) → nat_lt sum (2 ^ 43) ≡ true → sum < 2 ^ 43
below_limit sum test = grind (arith, test)

pub returns-then-keys-eq0 : goal.returns-then-keys-eq0
returns-then-keys-eq0 c tables fits = (
  (λ test. none_below c.args.query.now tables (2 ^ 43) (omega arith) (omega arith)),
  (λ below. refl),
)

pub overflow_add-sum : goal.overflow_add-sum
overflow_add-sum c =
    let query = c.args.query.now in
    let tables = c.requires.fits.0 in
    let fits = c.requires.fits.1 in
    let there : 0 < length query.query.order = omega arith in
    let inside : c.loop-item.item < length query.query.items = omega arith in
    let before = c.loop-item.invariant tables fits in
    let cap = c.cap-sum.ensures tables fits in
    let more = caps_more query tables c.loop-item.item inside in
    let fit = first_fit query tables fits there (c.loop-item.item + 1) in
    omega (arith, before, cap, more, fit)

pub loop-item-preserved : goal.loop-item-preserved
loop-item-preserved c tables fits =
    let query = c.args.query.now in
    let inside : c.loop-item.item < length query.query.items = omega arith in
    let before = c.loop-item.invariant tables fits in
    let cap = c.cap-sum.ensures tables fits in
    let more = caps_more query tables c.loop-item.item inside in
    omega (arith, before, cap, more)

pub returns : goal.returns
returns c tables fits =
    let query = c.args.query.now in
    let there : 0 < length query.query.order = omega arith in
    let all : length (first_caps query tables) ≤ c.loop-item.item = (let count = caps_count query tables in omega (arith, count)) in
    let total = c.loop-item.invariant tables fits ∙ ap sum_of_all (take_all c.loop-item.item (first_caps query tables) all) in
    let decided = caps_decide query tables (2 ^ 43) (omega arith) there c.requires.keys in (
      (λ test. decided.0 (let below : c.loop-item.sum < 2 ^ 43 = below_limit c.loop-item.sum test in omega (arith, total, below))),
      (λ below. lt-ltb c.loop-item.sum (2 ^ 43) (let small = decided.1 below in omega (arith, total, small))),
    )

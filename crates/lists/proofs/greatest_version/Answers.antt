use Prim.Native.Nat.{max}
use Rattle.std.proofs.lemmas.Grind.{common_steps}
use mathlib.Core.Path.{◌≡◌, refl}
use native.Mathlib.Numerals.{add-one}
use native.Mathlib.Omega.{arith}
use borrow.Author.Rules.{rules}
use Rattle.paper.specs.First.{greatest}
use Rattle.paper.specs.SignalList.{greatest_since}
use Rattle.lists.proofs.greatest_version.Goals as goal

pub loop-k-init : goal.loop-k-init
unfolding greatest_since greatest
loop-k-init c = (search rules, refl)

pub loop-k-preserved : goal.loop-k-preserved
unfolding greatest_since greatest
loop-k-preserved c =
    let e : c.max-version.result ≡ max c.loop-k.version c.since.result = grind (arith, common_steps) in
    (search rules, rw (add-one, ← c.loop-k.invariant.1, ← c.since.ensures.is) e)

pub returns : goal.returns
returns c =
    let e : c.loop-k.k ≡ c.args.signals.now.count = omega arith in
    rw (← e) c.loop-k.invariant.1

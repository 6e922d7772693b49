-- `composing::write_telegram` meets its contract. Assumes nothing.
use native.Mathlib.Omega.{arith}
use Rattle.composing.proofs.Laws.{version_small}
use Rattle.composing.proofs.write_telegram.Goals as goal

pub write_head-requires : goal.write_head-requires
write_head-requires c = (c.requires.2, omega (arith, version_small c.args.list.now))
